-- The components of the best so many are found.
use Rattle.gptp_components.specs.Search.{ComponentsAreFound}
use Rattle.gptp_components.proofs.search.distances.Given as goal

abbrev pub invariant-loop-rank : goal.invariant-loop-rank
invariant-loop-rank l = ComponentsAreFound l.snapshot l.ranked.items l.rank l.found.items
