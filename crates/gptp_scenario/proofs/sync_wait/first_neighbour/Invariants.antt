-- The links that were looked at join the system to no other.
use Rattle.std.proofs.Common.{◌≡◌, drop}
use Rattle.gptp_scenario.specs.InUse.{neighbours}
use Rattle.gptp_scenario.proofs.sync_wait.first_neighbour.Given as goal

abbrev pub invariant-loop-wire : goal.invariant-loop-wire
invariant-loop-wire l =
    neighbours l.systems (drop l.wire-index l.links) l.events l.clock
    ≡ neighbours l.systems l.links l.events l.clock
