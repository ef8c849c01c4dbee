-- Those so far, and those of the systems that are left, are all.
use Rattle.std.proofs.Common.{◌≡◌, ◌++◌, drop}
use Rattle.gptp_lint.specs.Labels.{bests_in}
use Rattle.gptp_lint.proofs.labels.all_bests.Given as goal

abbrev pub invariant-loop-label : goal.invariant-loop-label
invariant-loop-label l =
    l.bests.items ++ bests_in (drop l.label-index l.labels) ≡ bests_in l.labels
