-- The first ports are looked at.
use Rattle.std.proofs.Common.{◌≡◌, ℕ, List, Option, length}
use Rattle.gptp_components.specs.Search.{IsSpread}
use Rattle.gptp_components.specs.declared.distance.Distance.{Distance}
use Rattle.gptp_components.proofs.search.put_neighbours.Given as goal

abbrev pub invariant-loop-index : goal.invariant-loop-index
invariant-loop-index l = record {
  as_many : length l.found.items ≡ length l.snapshot.systems;
  spread : (us : List ℕ) (before : List (Option Distance))
      → IsSpread l.snapshot l.distance us 0 0 before l.initial.found.items l.initial.waiting.items
      → IsSpread l.snapshot l.distance us l.clock l.index before l.found.items l.waiting.items;
}
