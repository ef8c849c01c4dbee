-- The first systems at the edge are looked at.
use Rattle.std.proofs.Common.{◌≡◌, length, take}
use Rattle.gptp_components.specs.Search.{IsSpread}
use Rattle.gptp_components.proofs.search.reach_next.Given as goal

abbrev pub invariant-loop-clock : goal.invariant-loop-clock
invariant-loop-clock l = record {
  as_many : length l.found.items ≡ length l.snapshot.systems;
  spread : IsSpread l.snapshot l.distance (take l.clock-index l.edge) 0 0 l.initial.found.items l.found.items
      l.waiting.items;
}
