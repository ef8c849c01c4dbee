-- Those of the first links, so far.
use Rattle.std.proofs.Common.{◌≡◌, map, take}
use Rattle.gptp_topology.specs.Course.{cable_is_used}
use Rattle.gptp_how_soon.proofs.links.mark_used.Given as goal

abbrev pub invariant-loop-standing : goal.invariant-loop-standing
invariant-loop-standing l = l.used.items ≡ map cable_is_used (take l.standing-index l.standings)
