-- Those that the first events name, so far.
use Rattle.std.proofs.Common.{◌≡◌, take}
use Rattle.gptp_topology.specs.Course.{names_of}
use Rattle.gptp_topology.proofs.course.names_of.Given as goal

abbrev pub invariant-loop-event : goal.invariant-loop-event
invariant-loop-event l = l.names.items ≡ names_of (take l.event-index l.events)
