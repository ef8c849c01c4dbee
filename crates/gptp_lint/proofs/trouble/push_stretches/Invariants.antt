-- The stretches so far, the one that has begun, and those after it are all.
use Rattle.std.proofs.Common.{◌≡◌, ◌++◌, drop}
use Rattle.gptp_lint.specs.Trouble.{stretches}
use Rattle.gptp_lint.proofs.TroubleLemmas.{left}
use Rattle.gptp_lint.proofs.trouble.push_stretches.Given as goal

abbrev pub invariant-loop-standing : goal.invariant-loop-standing
invariant-loop-standing l =
    l.lossy.items ++ left l.link l.loss l.from (drop l.standing-index l.course)
    ≡ l.initial.lossy.items ++ stretches l.link 0 l.course
