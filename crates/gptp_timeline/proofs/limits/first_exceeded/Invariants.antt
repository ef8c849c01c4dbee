-- The first of those that are left is the first of all.
use Rattle.std.proofs.Common.{◌≡◌, drop}
use Rattle.gptp_timeline.specs.Limits.{exceeds_in, first_exceeded}
use Rattle.gptp_timeline.proofs.limits.first_exceeded.Given as goal

abbrev pub invariant-loop-limit : goal.invariant-loop-limit
invariant-loop-limit l =
    first_exceeded (exceeds_in l.limits l.stretch) (drop l.limit-index l.among)
    ≡ first_exceeded (exceeds_in l.limits l.stretch) l.among
