-- The line of the header there, and the key that was meant.
use Rattle.std.proofs.Common.{◌∙◌, ap₂}
use Rattle.toml.specs.View.{table_view}
use Rattle.gptp_lint.specs.Outline.{line_in}
use Rattle.gptp_lint.specs.Refusal.{meant_at, refusal_words}
use Rattle.gptp_lint.proofs.refusal.tell_refusal.Goals as goal

pub returns : goal.returns
returns c =
    let t = table_view c.args.document.now in
    let refusal = c.args.refusal.now in
    let outline = c.in_ok-outline.ensures t c.requires in
    c.in_ok-tail.ensures
    ∙ ap₂ (refusal_words refusal) (c.line.ensures ∙ ap₂ line_in outline c.of-place.ensures)
    (c.in_ok-near.ensures ∙ ap₂ (λ o place. meant_at t o place refusal.why) outline c.of-place.ensures)
