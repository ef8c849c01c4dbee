-- The rows are those of the text, and each pair has a value; a text that stops the walk is no TOML.
use Rattle.std.proofs.Common.{◌≡◌, ◌∙◌, map, subst, sym}
use Rattle.std.specs.List.{AllByRecursion}
use Rattle.std.proofs.lemmas.Result.{IfOk-weaker}
use Rattle.gptp_outline.specs.Inline.{HasValue}
use Rattle.gptp_outline.specs.Rows.{rows, shown}
use Rattle.gptp_outline.proofs.OutlineLemmas.{each_has_value, is_table}
use Rattle.gptp_lint.proofs.OutlineLemmas.{outline_is}
use Rattle.gptp_lint.proofs.outline.outline_of_str.Goals as goal

pub returns-in-Ok : goal.returns-in-Ok
returns-in-Ok c =
    let text = c.args.text.now in
    let found = map shown c.in-Ok.rows.items in
    IfOk-weaker c.outline_of_rows.result _ _
    (λ outline of_rows t is.
    let rows_are : found ≡ rows text = c.in-Ok.ensures.are (t, is_table text t is) in
    of_rows (subst (AllByRecursion HasValue) (sym rows_are) (each_has_value text)) ∙ outline_is text found rows_are)
    (rw c.deref.ensures.value at c.outline_of_rows.ensures)

pub returns-in-At : goal.returns-in-At
returns-in-At c t is =
    absurd (c.in-Err.ensures.refused (λ same. absurd cc) (t, is_table c.args.text.now t is))
