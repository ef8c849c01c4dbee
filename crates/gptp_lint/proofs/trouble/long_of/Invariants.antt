-- The first of those that are left is the first of all.
use Rattle.std.proofs.Common.{◌≡◌, drop}
use Rattle.gptp_lint.specs.Trouble.{long_of}
use Rattle.gptp_lint.proofs.trouble.long_of.Given as goal

abbrev pub invariant-loop-standing : goal.invariant-loop-standing
invariant-loop-standing l = long_of l.params (drop l.standing-index l.course) ≡ long_of l.params l.course
