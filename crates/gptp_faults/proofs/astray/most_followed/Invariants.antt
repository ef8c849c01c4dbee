-- The greatest so far, with those that are left, is the greatest of all.
use Rattle.std.proofs.Common.{◌≡◌, drop, max}
use Rattle.gptp_faults.specs.Astray.{most_systems}
use Rattle.gptp_faults.proofs.astray.most_followed.Given as goal

abbrev pub invariant-loop-follow : goal.invariant-loop-follow
invariant-loop-follow l = max l.most (most_systems (drop l.follow-index l.follows)) ≡ most_systems l.follows
