-- What the events that are left make of the system as it is, all make of it as it was.
use Rattle.std.proofs.Common.{◌≡◌, drop}
use Rattle.gptp_scenario.specs.Change.{system_stands}
use Rattle.gptp_scenario.proofs.calm.system_after.Given as goal

abbrev pub invariant-loop-event : goal.invariant-loop-event
invariant-loop-event l =
    system_stands (drop l.event-index l.events) l.own l.system ≡ system_stands l.events l.own l.initial.system
