-- Of each live system of a snapshot: the best of its component, and how many links it is from that.
use Rattle.std.specs.Prelude.{◌≡◌, ◌↔◌, ℕ, List, length, Some, slice_get}
use Rattle.gptp_graph.specs.Distance.{IsDistance}
use Rattle.gptp_graph.specs.Path.{Reaches}
use Rattle.gptp_graph.specs.SettledChoice.{IsBestIdentity}
use Rattle.gptp_graph.specs.Snapshot.{System, Snapshot, IsWellFormed}
use Rattle.gptp_components.specs.declared.distance.Distance.{Distance}

-- the identity of the best of v's component, and v's distance from it
pub record IsDistanceOf (g : Snapshot) (v : ℕ) (d : Distance) : Type 0 where
  pub root : IsBestIdentity g v d.root
  pub steps : IsDistance g v d.steps

-- the distances of the systems at the first places, so many
pub record AreFirstDistances (g : Snapshot) (count : ℕ) (ds : List Distance) : Type 0 where
  pub as_many : length ds ≡ count
  pub each : (place : ℕ) (s : System) (d : Distance) → slice_get g.systems place ≡ Some s → slice_get ds place ≡ Some d
      → IsDistanceOf g s.clock d

-- the distances of all systems, by their places
abbrev pub AreDistances : Snapshot → List Distance → Type 0
AreDistances g = AreFirstDistances g (length g.systems)

-- two systems are of one component exactly where the bests of their components are one
abbrev pub BestsTellComponents : Type 0
BestsTellComponents = (g : Snapshot) (v w : ℕ) (d e : Distance) → IsWellFormed g → IsDistanceOf g v d
    → IsDistanceOf g w e → Reaches g v w ↔ (d.root ≡ e.root)
