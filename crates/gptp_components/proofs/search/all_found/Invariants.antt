-- Those of the first places.
use Rattle.gptp_components.specs.Distances.{AreFirstDistances}
use Rattle.gptp_components.proofs.search.all_found.Given as goal

abbrev pub invariant-loop-place : goal.invariant-loop-place
invariant-loop-place l = AreFirstDistances l.snapshot l.place l.distances.items
