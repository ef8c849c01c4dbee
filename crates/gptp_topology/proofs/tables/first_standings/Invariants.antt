-- The first links, so far.
use Rattle.std.proofs.Common.{◌≡◌, map, take}
use Rattle.gptp_topology.specs.Course.{first, cable_wire}
use Rattle.gptp_topology.proofs.tables.first_standings.Given as goal

abbrev pub invariant-loop-cable : goal.invariant-loop-cable
invariant-loop-cable l = l.standings.items ≡ map (λ c. first (cable_wire c)) (take l.cable-index l.cables)
