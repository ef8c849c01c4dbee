-- Those over the first links so far, then those over the links that are left.
use Rattle.std.proofs.Common.{◌≡◌, ◌++◌, drop}
use Rattle.gptp_how_soon.specs.Turned.{neighbour_places}
use Rattle.gptp_how_soon.proofs.turned.neighbour_places.Given as goal

abbrev pub invariant-loop-ends : goal.invariant-loop-ends
invariant-loop-ends l =
    l.places.items ++ neighbour_places (drop l.ends-index l.links) l.place ≡ neighbour_places l.links l.place
