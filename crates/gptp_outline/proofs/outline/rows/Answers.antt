-- The rows so far and those of the rest are the rows of the document.
use Rattle.std.proofs.Common.{◌≡◌, ◌==◌, ◌-◌, ◌∙◌, ◌++◌, ◌∷◌, [], Some, false, ap, ap₂, append-nil, arith, length, map, option_map, refl, rules, suc, sym}
use Rattle.std.proofs.lemmas.Grind.{common_steps}
use Rattle.std.proofs.lemmas.List.{map-append}
use Rattle.toml_parser.specs.Lexical.{skip_blank}
use Rattle.toml.specs.Parse.{expression, lines, skip_bom}
use Rattle.toml.specs.Tables.{no_nodes}
use Rattle.gptp_outline.specs.Rows.{IsDocument, RowState, row_of, rows_from, shown}
use Rattle.gptp_outline.specs.declared.row.Row.{Row}
use Rattle.gptp_outline.proofs.OutlineLemmas.{document_lines, joined, lines_step, nothing_before, refuses_all, rows_are, rows_end, rows_more, table_is}
use Rattle.gptp_outline.proofs.RowLemmas.{line_expression}
use Rattle.gptp_outline.proofs.outline.rows.Goals as goal

pub lines-init : goal.lines-init
lines-init c = (
  search rules,
  c.skip_bom-rest.ensures.within,
  search rules,
  λ doc.
      let text = c.args.text.now in
      let (all, is) = document_lines text doc.0 doc.1 in (
        suc (length text),
        (no_nodes, []),
        all,
        omega (arith, c.skip_bom-rest.ensures.within),
        rw c.skip_bom-rest.ensures.rest is,
        rw (c.skip_bom-rest.ensures.rest, c.new-rows.ensures.items)
            (nothing_before (rows_from text (suc (length text)) (skip_bom text))),
      ),
)

pub returns-then-is_empty-clause-are : goal.returns-then-is_empty-clause-are
returns-then-is_empty-clause-are c doc =
    let l = c.lines in let start_is = c.skip_blank-start.ensures.rest in
    let (m, d, all, room, read, same) = l.invariant.3 doc in
    let none : length (skip_blank l.rest.now) ≡ 0 = grind (arith, common_steps) in
    let found = same
    ∙ ap (option_map (λ more. map shown l.rows.items ++ more))
    (rows_end c.args.text.now m l.rest.now (omega arith) none)
    ∙ ap Some (append-nil (map shown l.rows.items)) in
    sym (rows_are c.args.text.now doc.0 (map shown l.rows.items)
    (table_is c.args.text.now doc.0 c.utf8.text doc.1) found)

pub lines-preserved : goal.lines-preserved
lines-preserved c =
    let l = c.lines in let start_is = c.skip_blank-start.ensures.rest in
    let shorter = c.in_ok-key.ensures.shorter in
    let before = c.skip_blank-start.ensures.within in (
      search rules,
      omega (arith, l.invariant.1),
      c.mark_of-here.ensures.counted,
      λ doc.
          let text = c.args.text.now in
          let (m, d, all, room, read, same) = l.invariant.3 doc in
          let start = skip_blank l.rest.now in
          let other : (length start == 0) ≡ false = grind (arith, common_steps) in
          let (e, after, next, is_line, more) = lines_step m d l.rest.now all (omega arith) other read in
          let whole = line_expression start e after is_line in
          let facts = c.in_ok-key.ensures.value e after (ap expression start_is ∙ whole) in
          let row : Row = record {
            key = c.in_ok-key.key;
            kind = c.in_ok-key.kind;
            start = c.skip_blank-start.result;
            line = c.mark_of-here.result.line;
          } in
          let y : RowState = row_of text e start in
          let row_is : shown row ≡ y = rw (facts.1, facts.2, c.mark_of-here.ensures.line, start_is) refl in
          let items = c.in_ok-push.ensures.items in (
            m - 1,
            next,
            all,
            omega arith,
            ap (lines (m - 1) next) facts.0 ∙ more,
            same ∙ ap (option_map (λ more. map shown l.rows.items ++ more))
                (rows_more text m l.rest.now e after (omega arith) other is_line)
                ∙ joined (map shown l.rows.items) y (rows_from text (m - 1) after)
                ∙ ap₂ (λ xs left. option_map (λ more. xs ++ more) (rows_from text (m - 1) left))
                (sym (ap (map shown) items ∙ map-append shown l.rows.items (row ∷ [])
                ∙ ap (λ r. map shown l.rows.items ++ r ∷ []) row_is)) (sym facts.0),
          ),
    )

pub returns-in_err-key-clause-refused : goal.returns-in_err-key-clause-refused
returns-in_err-key-clause-refused c =
    let l = c.lines in let start_is = c.skip_blank-start.ensures.rest in
    let begun : (length (skip_blank l.rest.now) == 0) ≡ false = grind (arith, common_steps) in
    refuses_all (IsDocument c.args.text.now) c.from_residual.result c.in_err-key.field-0.0 _ c.from_residual.ensures.1
    (λ y p. p)
    (λ other doc.
    let (m, d, all, room, read, same) = l.invariant.3 doc in
    let (e, after, next, is_line, more) = lines_step m d l.rest.now all (omega arith) begun read in
    c.in_err-key.ensures.refused other e after
    (ap expression start_is ∙ line_expression (skip_blank l.rest.now) e after is_line))
