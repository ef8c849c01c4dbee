-- It is done at the first systems.
use Rattle.std.proofs.Common.{◌≡◌, ◌++◌, drop, map, take}
use Rattle.gptp_lint.specs.Labels.{relabelled}
use Rattle.gptp_lint.proofs.labels.relabel_all.Given as goal

abbrev pub invariant-loop-label : goal.invariant-loop-label
invariant-loop-label l =
    l.labels ≡ map (relabelled l.old l.new) (take l.label-index l.fn.labels) ++ drop l.label-index l.fn.labels
