-- Laws on paths and distances.
use Rattle.std.specs.Prelude.{◌+◌, ◌<◌, ◌≤◌, ℕ, List, length}
use Rattle.gptp_lists.specs.Members.{In, Different}
use Rattle.gptp_graph.specs.Snapshot.{System, Snapshot, clocks, Adjacent, IsWellFormed}
use Rattle.gptp_graph.specs.Path.{Route, IsPath}
use Rattle.gptp_graph.specs.Best.{IsBest}
use Rattle.gptp_graph.specs.Distance.{IsDistanceFrom, IsDistance}

-- a list of different systems has no more members than the snapshot has systems
abbrev pub DifferentAreBounded : Type 0
DifferentAreBounded = (g : Snapshot) (vs : List ℕ)
    → Different vs → ((v : ℕ) → In v vs → In v (clocks g))
    → length vs ≤ length g.systems

-- a path is shorter than there are systems
abbrev pub PathsAreBounded : Type 0
PathsAreBounded = (g : Snapshot) (v w : ℕ) (us : List ℕ)
    → IsWellFormed g → IsPath g v w us
    → length us < length g.systems

-- a distance is below the number of systems
abbrev pub DistancesAreBounded : Type 0
DistancesAreBounded = (g : Snapshot) (v d : ℕ)
    → IsWellFormed g → IsDistance g v d
    → d < length g.systems

-- the distances of neighbours differ by one at most
abbrev pub NeighboursDifferByOne : Type 0
NeighboursDifferByOne = (g : Snapshot) (v w d e : ℕ)
    → IsWellFormed g → Adjacent g v w → IsDistance g v d → IsDistance g w e
    → (d ≤ e + 1) × (e ≤ d + 1)

-- a system of distance d + 1 has a neighbour of distance d
abbrev pub NearerNeighbourExists : Type 0
NearerNeighbourExists = (g : Snapshot) (v d : ℕ)
    → IsWellFormed g → IsDistance g v (d + 1)
    → (w : ℕ) × Adjacent g v w × IsDistance g w d

-- no route from b to v, in which systems may come again, is shorter than the least path from b to v, whatever
-- system b is
abbrev pub RoutesAreNoShorter : Type 0
RoutesAreNoShorter = (g : Snapshot) (b v d : ℕ) (us : List ℕ)
    → IsDistanceFrom g b v d → Route g b v us
    → d ≤ length us

-- no route from the best to v, in which systems may come again, is shorter than the distance of v
abbrev pub RoutesFromBestAreNoShorter : Type 0
RoutesFromBestAreNoShorter = (g : Snapshot) (v d : ℕ) (best : System) (us : List ℕ)
    → IsWellFormed g → IsBest g v best → IsDistance g v d → Route g best.clock v us
    → d ≤ length us
