-- It is done to one more.
use Rattle.std.proofs.Common.{get_or, slice_set, ap, ◌∙◌}
use Rattle.gptp_lint.specs.Labels.{relabelled}
use Rattle.gptp_topology.proofs.SystemSpecLemmas.{mapped_set}
use Rattle.gptp_lint.proofs.labels.relabel_all.Goals as goal

pub loop-label-preserved : goal.loop-label-preserved
loop-label-preserved c =
    let i = c.loop-label.label-index in
    let d = c.label-item.result in
    let f = relabelled c.args.old c.args.new in
    ap (slice_set c.loop-label.labels i) c.relabel.ensures
    ∙ ap (λ xs. slice_set xs i (f (get_or xs i d))) c.loop-label.invariant
    ∙ mapped_set f c.args.labels.now i d c.loop-label-test.true
