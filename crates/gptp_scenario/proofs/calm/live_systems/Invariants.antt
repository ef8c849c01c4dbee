-- Those counted and those left to count are all, and no more are counted than were looked at.
use Rattle.std.proofs.Common.{◌≡◌, ◌≤◌, ◌+◌, drop}
use Rattle.gptp_scenario.specs.InUse.{count_live}
use Rattle.gptp_scenario.proofs.calm.live_systems.Given as goal

abbrev pub invariant-loop-member : goal.invariant-loop-member
invariant-loop-member l =
    (l.count + count_live (drop l.member-index l.systems) l.events ≡ count_live l.systems l.events)
    × (l.count ≤ l.member-index)
