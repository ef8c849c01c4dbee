-- One row more.
use Rattle.std.proofs.Common.{◌≡◌, ◌∙◌, Some, ap, slice_get, sym}
use Rattle.std.proofs.lemmas.Option.{slice_get-get_or}
use Rattle.gptp_outline.specs.Rows.{shown}
use Rattle.gptp_lint.specs.Outline.{after}
use Rattle.gptp_lint.proofs.OutlineLemmas.{row_more, value_at}
use Rattle.gptp_lint.proofs.outline.outline_of_rows.Goals as goal

pub loop-row-preserved : goal.loop-row-preserved
loop-row-preserved c all =
    let xs = c.args.rows.now in
    let i = c.loop-row.row-index in
    let row = c.row-item.result in
    let there : slice_get xs i ≡ Some row =
    slice_get-get_or xs i row c.loop-row-test.true ∙ ap Some (sym c.row-item.is) in
    c.in_ok-note_row.ensures (value_at xs i row all there)
    ∙ ap (λ o. after o (shown row)) (c.loop-row.invariant all) ∙ sym (row_more xs i row there)
