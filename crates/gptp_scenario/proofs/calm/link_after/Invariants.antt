-- What the events that are left make of the link as it is, all make of it as it was.
use Rattle.std.proofs.Common.{◌≡◌, drop}
use Rattle.gptp_scenario.specs.Change.{link_after}
use Rattle.gptp_scenario.proofs.calm.link_after.Given as goal

abbrev pub invariant-loop-event : goal.invariant-loop-event
invariant-loop-event l = link_after (drop l.event-index l.events) l.after ≡ link_after l.events l.initial.after
