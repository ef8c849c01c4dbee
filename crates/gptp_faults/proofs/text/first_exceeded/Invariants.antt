-- The first of those that are left is the first of all.
use Rattle.std.proofs.Common.{◌≡◌, drop}
use Rattle.gptp_timeline.specs.Limits.{first_exceeded}
use Rattle.gptp_faults.specs.FaultsText.{worst_exceeds}
use Rattle.gptp_faults.proofs.text.first_exceeded.Given as goal

abbrev pub invariant-loop-limit : goal.invariant-loop-limit
invariant-loop-limit l =
    first_exceeded (worst_exceeds l.limits l.worst) (drop l.limit-index l.among)
    ≡ first_exceeded (worst_exceeds l.limits l.worst) l.among
