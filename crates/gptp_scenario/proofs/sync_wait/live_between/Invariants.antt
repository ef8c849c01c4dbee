-- Those counted and those left to count are all, and no more are counted than were looked at.
use Rattle.std.proofs.Common.{◌≡◌, ◌≤◌, ◌+◌, drop}
use Rattle.std.specs.List.{count_by}
use Rattle.gptp_scenario.specs.InUse.{lives_between}
use Rattle.gptp_scenario.proofs.sync_wait.live_between.Given as goal

abbrev pub invariant-loop-member : goal.invariant-loop-member
invariant-loop-member l =
    (l.count + count_by (lives_between l.systems l.links l.events) (drop l.member-index l.systems)
    ≡ count_by (lives_between l.systems l.links l.events) l.systems)
    × (l.count ≤ l.member-index)
