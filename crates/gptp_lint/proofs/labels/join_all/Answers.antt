-- In the end no link is left.
use Rattle.std.proofs.Common.{sym, ap, ◌∙◌, arith}
use Rattle.gptp_lint.specs.Labels.{joined_all}
use Rattle.gptp_lint.proofs.GraphLemmas.{none_left}
use Rattle.gptp_lint.proofs.labels.join_all.Goals as goal

pub loop-place-preserved : goal.loop-place-preserved
loop-place-preserved c = c.join_at.ensures ∙ c.loop-place.invariant

pub returns : goal.returns
returns c =
    let past = c.loop-place-test.false in
    ap (λ es. joined_all es c.loop-place.labels)
    (sym (none_left c.args.ends.now c.args.standings.now c.loop-place.place (omega (arith, past))))
    ∙ c.loop-place.invariant
