-- The first links, so far.
use Rattle.std.proofs.Common.{◌≡◌, map, take}
use Rattle.gptp_lint.specs.Graph.{clocks_in, ends_of}
use Rattle.gptp_lint.proofs.graph.all_ends.Given as goal

abbrev pub invariant-loop-cable : goal.invariant-loop-cable
invariant-loop-cable l = l.ends.items ≡ map (ends_of (clocks_in l.nodes)) (take l.cable-index l.cables)
