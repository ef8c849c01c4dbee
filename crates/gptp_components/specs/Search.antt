-- What the search keeps: what is found so far of each system, by its place, and the systems at the edge of it, from
-- which the next are found.
use Rattle.std.specs.Prelude.{◌≡◌, ◌⊎◌, ◌≤◌, ℕ, suc, List, length, take, Option, Some, slice_get}
use Rattle.std.specs.List.Sorted.{IsNonDecreasingBy}
use Rattle.gptp_lists.specs.Members.{In}
use Rattle.gptp_graph.specs.Best.{IsBest}
use Rattle.gptp_graph.specs.Distance.{IsDistance}
use Rattle.gptp_graph.specs.Path.{Reaches}
use Rattle.gptp_graph.specs.SettledChoice.{IsBestIdentity}
use Rattle.gptp_graph.specs.Snapshot.{System, PortIdentity, Snapshot, Adjacent, Joins}
use Rattle.gptp_network.specs.SnapshotTables.{HasClock}
use Rattle.gptp_components.specs.Distances.{IsDistanceOf}
use Rattle.gptp_components.specs.declared.distance.Distance.{Distance}

-- the distance is found of the system with clock v
pub record IsFound (g : Snapshot) (found : List (Option Distance)) (v : ℕ) (d : Distance) : Type 0 where
  pub place : ℕ
  pub has : HasClock g.systems v place
  pub there : slice_get found place ≡ Some (Some d)

-- nothing is found
abbrev pub NothingFound : List (Option Distance) → Type 0
NothingFound found = (d : Distance) → In (Some d) found → ⊥

-- the system with clock v is put among those that wait, where nothing was found of it before
pub record IsPut (g : Snapshot) (next : Distance) (v : ℕ) (before : List (Option Distance)) (waiting : List ℕ)
    (after : List (Option Distance)) (longer : List ℕ) : Type 0 where
  pub as_many : length after ≡ length before
  pub kept : (w : ℕ) (d : Distance) → IsFound g before w d → IsFound g after w d
  pub only : (w : ℕ) (d : Distance) → IsFound g after w d → IsFound g before w d ⊎ ((d ≡ next) × In w longer)
  pub still : (w : ℕ) → In w waiting → In w longer
  pub new : (w : ℕ) → In w longer
      → In w waiting ⊎ ((w ≡ v) × ((d : Distance) → IsFound g before v d → ⊥) × IsFound g after v next)
  pub done : (d : Distance) × IsFound g after v d

-- the system is at the edge: one step nearer its root than the next
pub record AtEdge (g : Snapshot) (next : Distance) (u : ℕ) : Type 0 where
  pub root : IsBestIdentity g u next.root
  pub steps : ℕ
  pub is : IsDistance g u steps
  pub nearer : suc steps ≡ next.steps

-- the port was looked at: it is one of these systems', or one of v's first k
abbrev pub IsLookedAt : List ℕ → ℕ → ℕ → PortIdentity → Type 0
IsLookedAt us v k p = In p.clock us ⊎ ((p.clock ≡ v) × (p.port ≤ k))

-- the system waits: it was found as a neighbour of one at the edge
pub record IsWaiting (g : Snapshot) (next : Distance) (before after : List (Option Distance)) (w : ℕ) : Type 0 where
  pub unfound : (d : Distance) → IsFound g before w d → ⊥
  pub found : IsFound g after w next
  pub from : ℕ
  pub edge : AtEdge g next from
  pub adjacent : Adjacent g from w

-- the systems at the other ends of the ports that were looked at are found, those that wait as the next
pub record IsSpread (g : Snapshot) (next : Distance) (us : List ℕ) (v k : ℕ) (before after : List (Option Distance))
    (waiting : List ℕ) : Type 0 where
  pub as_many : length after ≡ length before
  pub kept : (w : ℕ) (d : Distance) → IsFound g before w d → IsFound g after w d
  pub only : (w : ℕ) (d : Distance) → IsFound g after w d → IsFound g before w d ⊎ ((d ≡ next) × In w waiting)
  pub waits : (w : ℕ) → In w waiting → IsWaiting g next before after w
  pub done : (p q : PortIdentity) → IsLookedAt us v k p → Joins g p q → (d : Distance) × IsFound g after q.clock d

-- the identity is that of the best of a component of which nothing is found
pub record IsNewRoot (g : Snapshot) (root : ℕ) (found : List (Option Distance)) : Type 0 where
  pub best : System
  pub is : IsBest g best.clock best
  pub identity : root ≡ best.identity
  pub unfound : (w : ℕ) (d : Distance) → IsBestIdentity g w root → IsFound g found w d → ⊥

-- of the component of a root all systems are found up to this distance, and at the edge are those that have it
pub record IsFoundTo (g : Snapshot) (far : Distance) (before after : List (Option Distance)) (edge : List ℕ) : Type 0
  where
    pub as_many : length after ≡ length before
    pub kept : (w : ℕ) (d : Distance) → IsFound g before w d → IsFound g after w d
    pub only : (w : ℕ) (d : Distance) → IsFound g after w d
        → IsFound g before w d ⊎ (IsDistanceOf g w d × (d.root ≡ far.root) × (d.steps ≤ far.steps))
    pub near : (w : ℕ) (d : Distance) → IsDistanceOf g w d → d.root ≡ far.root → d.steps ≤ far.steps
        → IsFound g after w d
    pub at_edge : (w : ℕ) → In w edge → IsDistanceOf g w far
    pub all : (w : ℕ) → IsDistanceOf g w far → In w edge

-- the component of a root is found, whole
pub record IsComponentFound (g : Snapshot) (root : ℕ) (before after : List (Option Distance)) : Type 0 where
  pub as_many : length after ≡ length before
  pub kept : (w : ℕ) (d : Distance) → IsFound g before w d → IsFound g after w d
  pub only : (w : ℕ) (d : Distance) → IsFound g after w d
      → IsFound g before w d ⊎ (IsDistanceOf g w d × (d.root ≡ root))
  pub all : (w : ℕ) → IsBestIdentity g w root → (d : Distance) × IsFound g after w d

-- the identities of all systems, the best first
pub record AreByRank (g : Snapshot) (ids : List ℕ) : Type 0 where
  pub sorted : IsNonDecreasingBy (λ (id : ℕ). id) ids
  pub all : (s : System) → In s g.systems → In s.identity ids
  pub only : (id : ℕ) → In id ids → (s : System) × In s g.systems × (s.identity ≡ id)

-- the components of the first of these, so many, are found, and no others
pub record ComponentsAreFound (g : Snapshot) (ids : List ℕ) (count : ℕ) (found : List (Option Distance)) : Type 0 where
  pub as_many : length found ≡ length g.systems
  pub right : (v : ℕ) (d : Distance) → IsFound g found v d → IsDistanceOf g v d
  pub whole : (v w : ℕ) (d : Distance) → Reaches g v w → IsFound g found v d → (e : Distance) × IsFound g found w e
  pub first : (s : System) → In s g.systems → In s.identity (take count ids)
      → (d : Distance) × IsFound g found s.clock d

-- at the place of each system its distance is found
abbrev pub AreAllFound : Snapshot → List (Option Distance) → Type 0
AreAllFound g found = (place : ℕ) (s : System) → slice_get g.systems place ≡ Some s
    → (d : Distance) × (slice_get found place ≡ Some (Some d)) × IsDistanceOf g s.clock d
