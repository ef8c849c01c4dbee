-- The first links, so far.
use Rattle.std.proofs.Common.{◌≡◌, map, take}
use Rattle.gptp_topology.specs.Tables.{mark_of}
use Rattle.gptp_topology.proofs.tables.marks_of.Given as goal

abbrev pub invariant-loop-standing : goal.invariant-loop-standing
invariant-loop-standing l = l.marks.items ≡ map (mark_of l.params) (take l.standing-index l.standings)
