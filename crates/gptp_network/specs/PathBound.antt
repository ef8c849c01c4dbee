-- What is known of the neighbours of a system, as its ports are gone through (profile).
use Rattle.std.specs.Prelude.{◌≡◌, ◌<◌, ◌==◌, ℕ, Bool, true, false, if◌then◌else◌}
use Rattle.gptp_graph.specs.PathBound.{HasTwoNeighbours}
use Rattle.gptp_graph.specs.Snapshot.{Adjacent, IsLinked, Joins, PortIdentity, Snapshot, port_of}
use Rattle.gptp_network.specs.declared.path_bound.Neighbours.{Neighbours}
use Rattle.gptp_network.specs.declared.path_bound.Neighbours.TheVariants.{Nobody, One, Several}

-- one neighbour more
abbrev pub with_neighbour : Neighbours → ℕ → Neighbours
with_neighbour Nobody clock = One clock
with_neighbour (One first) clock = if first == clock then One first else Several
with_neighbour Several clock = Several

-- whether two differ
abbrev pub are_several : Neighbours → Bool
are_several Nobody = false
are_several (One first) = false
are_several Several = true

-- No port below n leads anywhere; or each that leads anywhere leads to this system; or the system has two neighbours.
abbrev pub NeighboursAreKnown : Snapshot → ℕ → ℕ → Neighbours → Type 0
NeighboursAreKnown g v n Nobody = (m : ℕ) → m < n → IsLinked g (port_of v m) → ⊥
NeighboursAreKnown g v n (One w) = Adjacent g v w
    × ((m : ℕ) (q : PortIdentity) → m < n → Joins g (port_of v m) q → q.clock ≡ w)
NeighboursAreKnown g v n Several = HasTwoNeighbours g v
