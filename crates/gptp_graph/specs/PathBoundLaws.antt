-- Laws on how many systems a path has at most.
use Rattle.std.specs.Prelude.{◌≡◌, ◌↔◌, ◌<◌, ◌≤◌, ℕ, true, length}
use Rattle.gptp_graph.specs.Snapshot.{Snapshot, Adjacent, IsWellFormed}
use Rattle.gptp_graph.specs.Distance.{IsDistance}
use Rattle.gptp_graph.specs.PathBound.{BoundsPaths, HasTwoNeighbours, are_joined, has_two_neighbours, path_bound}

-- no path has more systems than there are
abbrev pub SystemsBoundPaths : Type 0
SystemsBoundPaths = (g : Snapshot) → IsWellFormed g → BoundsPaths g (length g.systems)

-- nor more than have two neighbours and two
abbrev pub NeighboursBoundPaths : Type 0
NeighboursBoundPaths = (g : Snapshot) → IsWellFormed g → BoundsPaths g (path_bound g)

-- that bound is the sharper one
abbrev pub NeighboursBoundIsLeast : Type 0
NeighboursBoundIsLeast = (g : Snapshot) → path_bound g ≤ length g.systems

-- a distance is the length of a path, and so below what bounds how many systems a path has
abbrev pub BoundsDistances : Type 0
BoundsDistances = (g : Snapshot) (m v d : ℕ) → BoundsPaths g m → IsDistance g v d → d < m

-- two systems are joined where a link is between them
abbrev pub JoinedAreAdjacent : Type 0
JoinedAreAdjacent = (g : Snapshot) (v w : ℕ) → (are_joined g v w ≡ true) ↔ Adjacent g v w

-- a system has two neighbours where links join it to two different systems
abbrev pub TwoNeighboursDiffer : Type 0
TwoNeighboursDiffer = (g : Snapshot) (v : ℕ) → IsWellFormed g
    → (has_two_neighbours g v ≡ true) ↔ HasTwoNeighbours g v
