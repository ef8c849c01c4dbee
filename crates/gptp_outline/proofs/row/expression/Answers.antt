use Rattle.std.proofs.Common.{◌≡◌, ◌==◌, ◌∙◌, false, true, slice_index, Some, ap, arith, drop, rules, sym}
use Rattle.std.proofs.lemmas.Grind.{common_steps}
use Rattle.std.proofs.lemmas.Option.{same_Some}
use Rattle.toml_parser.specs.Lexical.{first}
use Rattle.toml_parser.specs.Reading.{key_view}
use Rattle.toml_parser.specs.Strings.{Key}
use Rattle.toml.specs.Parse.{expression, header_key}
use Rattle.toml.specs.Tables.{Expression, array_table, std_table}
use Rattle.gptp_outline.specs.Rows.{kind_of}
use Rattle.gptp_outline.proofs.RowLemmas.{expression_pair, no_member, no_pair, no_table, open_member}
use Rattle.gptp_outline.proofs.ValueLemmas.{not_read, refuses_err}
use Rattle.gptp_outline.proofs.row.expression.Goals as goal

pub returns-else-first-ne93-clause-value : goal.returns-else-first-ne93-clause-value
unfolding expression
returns-else-first-ne93-clause-value c e left is =
    let whole : expression c.args.s.now
    ≡ Some ((key_view c.in_ok-key.key, array_table), drop 1 c.in_ok-key.rest.now) = search rules in
    let same = same_Some _ _ (sym whole ∙ is) in
    (c.skip-then-byte_at-eq91.ensures.rest ∙ ap (λ p. p.1) same, ap (λ p. p.0.0) same, ap (λ p. kind_of p.0.1) same)

pub returns-in_ok-key-2-clause-value : goal.returns-in_ok-key-2-clause-value
unfolding expression
returns-in_ok-key-2-clause-value c e left is =
    let whole : expression c.args.s.now
    ≡ Some ((key_view c.in_ok-key-2.key, std_table), c.in_ok-key-2.rest.now) = search rules in
    let same = same_Some _ _ (sym whole ∙ is) in
    (ap (λ p. p.1) same, ap (λ p. p.0.0) same, ap (λ p. kind_of p.0.1) same)

pub returns-in_ok-rest-clause-value : goal.returns-in_ok-rest-clause-value
returns-in_ok-rest-clause-value c e left is =
    let s = c.args.s.now in
    let other : (first s == 91) ≡ false = grind (arith, common_steps) in
    let key : Key = key_view c.in_ok-key-3.key in
    let pair = expression_pair s c.in_ok-key-3.at_value.now key e left other c.in_ok-key-3.ensures.value is in (
      c.in_ok-rest.ensures.value pair.0 left pair.1,
      ap (λ (x : Expression). x.0) (sym pair.2),
      ap (λ (x : Expression). kind_of x.1) (sym pair.2),
    )

pub returns-in_err-key-clause-refused : goal.returns-in_err-key-clause-refused
returns-in_err-key-clause-refused c =
    let s = c.args.s.now in
    let a : (first s == 91) ≡ true = grind (arith, common_steps) in
    let b : (slice_index s 1 == 91) ≡ true = grind (arith, common_steps) in
    refuses_err c.from_residual.result _ c.in_err-key.field-0.0 _ c.from_residual.ensures.1 (λ y p. p)
    (λ other x left is.
    let none = ap header_key (sym c.skip.ensures.rest) ∙ c.in_err-key.ensures.value other in
    not_read _ (x, left) (no_member s a b none) is)

pub returns-then-first-ne93-clause-refused : goal.returns-then-first-ne93-clause-refused
returns-then-first-ne93-clause-refused c other x left is =
    let s = c.args.s.now in
    let a : (first s == 91) ≡ true = grind (arith, common_steps) in
    let b : (slice_index s 1 == 91) ≡ true = grind (arith, common_steps) in
    let unclosed : (first c.in_ok-key.rest.now == 93) ≡ false = grind (arith, common_steps) in
    let some = ap header_key (sym c.skip.ensures.rest) ∙ c.in_ok-key.ensures.value in
    not_read _ (x, left) (open_member s _ c.in_ok-key.rest.now a b some unclosed) is

pub returns-in_err-key-2-clause-refused : goal.returns-in_err-key-2-clause-refused
returns-in_err-key-2-clause-refused c =
    let s = c.args.s.now in
    let a : (first s == 91) ≡ true = grind (arith, common_steps) in
    let b : (slice_index s 1 == 91) ≡ false = grind (arith, common_steps) in
    refuses_err c.from_residual-in_err-key-2.result _ c.in_err-key-2.field-0.0 _
    c.from_residual-in_err-key-2.ensures.1 (λ y p. p)
    (λ other x left is.
    let none = ap header_key (sym c.skip-then-first-eq91-2.ensures.rest) ∙ c.in_err-key-2.ensures.value other in
    not_read _ (x, left) (no_table s a b none) is)

pub returns-in_err-key-3-clause-refused : goal.returns-in_err-key-3-clause-refused
returns-in_err-key-3-clause-refused c =
    let s = c.args.s.now in
    let a : (first s == 91) ≡ false = grind (arith, common_steps) in
    refuses_err c.from_residual-in_err-key-3.result _ c.in_err-key-3.field-0.0 _
    c.from_residual-in_err-key-3.ensures.1 (λ y p. p)
    (λ other x left is. not_read _ (x, left) (no_pair s a (c.in_err-key-3.ensures.value other)) is)

pub returns-in_err-rest-clause-refused : goal.returns-in_err-rest-clause-refused
returns-in_err-rest-clause-refused c =
    let s = c.args.s.now in
    let a : (first s == 91) ≡ false = grind (arith, common_steps) in
    refuses_err c.from_residual-in_err-rest.result _ c.in_err-rest.field-0.0 _ c.from_residual-in_err-rest.ensures.1
    (λ y p. p)
    (λ other e left is.
    let pair = expression_pair s c.in_ok-key-3.at_value.now (key_view c.in_ok-key-3.key) e left a
    c.in_ok-key-3.ensures.value is in
    c.in_err-rest.ensures.refused other pair.0 left pair.1)
