-- How many systems a path has at most, told by how many systems have two neighbours.
use Rattle.std.specs.Prelude.{◌≢◌, ◌<◌, ◌+◌, ◌==◌, ◌&&◌, ◌||◌, ℕ, not, min, Bool, List, length}
use Rattle.std.specs.List.{list_any, count_by}
use Rattle.gptp_graph.specs.Snapshot.{Link, Snapshot, clocks, Adjacent}
use Rattle.gptp_graph.specs.Path.{IsPath}

-- no path has more than m systems: after the one at which it begins stand fewer
abbrev pub BoundsPaths : Snapshot → ℕ → Type 0
BoundsPaths g m = (v w : ℕ) (us : List ℕ) → IsPath g v w us → length us < m

-- links join the system to two different systems
abbrev pub HasTwoNeighbours : Snapshot → ℕ → Type 0
HasTwoNeighbours g v = (x y : ℕ) × Adjacent g v x × Adjacent g v y × (x ≢ y)

-- whether a link joins the one system to the other, whichever of them it names first
abbrev pub are_joined : Snapshot → ℕ → ℕ → Bool
are_joined g v w =
    list_any (λ (l : Link). (l.a.clock == v && l.b.clock == w) || (l.a.clock == w && l.b.clock == v)) g.links

-- whether the system is joined to two different systems
abbrev pub has_two_neighbours : Snapshot → ℕ → Bool
has_two_neighbours g v =
    list_any (λ x. list_any (λ y. not (x == y) && (are_joined g v x && are_joined g v y)) (clocks g)) (clocks g)

-- how many systems are so
abbrev pub with_two_neighbours : Snapshot → ℕ
with_two_neighbours g = count_by (has_two_neighbours g) (clocks g)

-- All systems of a path but its first and its last are so; and it has no more systems than there are.
abbrev pub path_bound : Snapshot → ℕ
path_bound g = min (with_two_neighbours g + 2) (length g.systems)
