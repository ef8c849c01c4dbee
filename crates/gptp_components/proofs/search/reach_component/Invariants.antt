-- All systems up to the distance so far are found.
use Rattle.std.proofs.Common.{◌≡◌}
use Rattle.gptp_components.specs.Search.{IsFoundTo}
use Rattle.gptp_components.proofs.search.reach_component.Given as goal

abbrev pub invariant-loop-turn : goal.invariant-loop-turn
invariant-loop-turn l = record {
  root : l.distance.root ≡ l.fn.root;
  steps : l.distance.steps ≡ l._turn;
  found : IsFoundTo l.snapshot l.distance l.fn.found.items l.found.items l.edge.items;
}
