-- With those that are left it is that of all.
use Rattle.std.proofs.Common.{◌≡◌, drop, None}
use Rattle.gptp_lint.specs.Labels.{second_in}
use Rattle.gptp_lint.proofs.labels.second_of.Given as goal

abbrev pub invariant-loop-label : goal.invariant-loop-label
invariant-loop-label l =
    second_in l.best l.second (drop l.label-index l.labels) ≡ second_in l.best None l.labels
