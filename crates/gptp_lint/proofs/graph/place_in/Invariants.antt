-- It is after those that were passed.
use Rattle.std.proofs.Common.{◌≡◌, ◌+◌, drop}
use Rattle.gptp_lint.specs.Graph.{clocks_in, place_in}
use Rattle.gptp_lint.proofs.graph.place_in.Given as goal

abbrev pub invariant-loop-place : goal.invariant-loop-place
invariant-loop-place l =
    place_in l.clock (clocks_in l.nodes) ≡ l.place + place_in l.clock (clocks_in (drop l.place l.nodes))
