-- Path traces of which the last members are a path of the snapshot.
use Rattle.std.specs.Prelude.{◌≡◌, ◌⊎◌, ◌<◌, ◌≤◌, ℕ, suc, List, ◌∷◌, ◌++◌, length, reverse}
use Rattle.gptp_lists.specs.Members.{In}
use Rattle.gptp_graph.specs.Snapshot.{System, Snapshot, PortIdentity, port_of, Joins, IsLinked}
use Rattle.gptp_graph.specs.Distance.{IsDistance}
use Rattle.gptp_graph.specs.Path.{IsPath}
use Rattle.gptp_graph.specs.Best.{IsBest}
use Rattle.gptp_bmca_machine.specs.Frame.{Announce}
use Rattle.gptp_bmca_machine.specs.Station.{Reception}

-- The trace ends at u, and its last m members at least are different live systems, each joined to the next: read
-- backwards it is u and the others, a path of the snapshot, and older members, of which nothing is known.
pub record Clean (g : Snapshot) (m u : ℕ) (trace : List ℕ) : Type 0 where
  pub others : List ℕ
  pub older : List ℕ
  pub end : ℕ
  pub is : reverse trace ≡ u ∷ (others ++ older)
  pub way : IsPath g u end others
  pub long : m ≤ suc (length others)

-- The trace of the Announce is a path of the snapshot from the announced root to u, the root is that system's present
-- identity, and the steps are the length of the path.
pub record Whole (g : Snapshot) (u : ℕ) (a : Announce) : Type 0 where
  pub others : List ℕ
  pub first : System
  pub is : reverse a.path ≡ u ∷ others
  pub way : IsPath g u first.clock others
  pub known : In first g.systems
  pub root : a.root ≡ first.identity
  pub steps : length others ≡ a.steps

-- the Announce comes from this port, and its trace is clean by m members or wholly
pub record Good (g : Snapshot) (m : ℕ) (from : PortIdentity) (a : Announce) : Type 0 where
  pub source : a.source ≡ from
  pub clean : Clean g m from.clock a.path ⊎ Whole g from.clock a

-- what port n of the system with clock c received came over its link, and is clean by m members or wholly
pub record Came (g : Snapshot) (m c n : ℕ) (r : Reception) : Type 0 where
  pub from : PortIdentity
  pub joins : Joins g from (port_of c n)
  pub good : Good g m from r.said

-- What a system holds fits: its root is no better than the system's best. Where it is the best, its steps are no fewer
-- than the system's distance less one, nor than the distance of any system of its trace, which has one member more.
pub record HeldFits (g : Snapshot) (c : ℕ) (a : Announce) : Type 0 where
  pub root : (best : System) → IsBest g c best → best.identity ≤ a.root
  pub here : (best : System) (far : ℕ) → IsBest g c best → a.root ≡ best.identity → IsDistance g c far
      → far ≤ suc a.steps
  pub members : (best : System) (x far : ℕ) → IsBest g c best → a.root ≡ best.identity → In x a.path
      → IsBest g x best → IsDistance g x far → far ≤ a.steps
  pub long : (best : System) → IsBest g c best → a.root ≡ best.identity → length a.path ≡ suc a.steps

-- it came over the link of the port, and its steps are no fewer than the sender's distance
pub record CameOverLink (g : Snapshot) (c n : ℕ) (a : Announce) : Type 0 where
  pub from : PortIdentity
  pub joins : Joins g from (port_of c n)
  pub source : a.source ≡ from
  pub sender : (best : System) (far : ℕ) → IsBest g c best → a.root ≡ best.identity → IsDistance g from.clock far
      → far ≤ a.steps

-- it fits, and came over the link of the port where there is one
pub record CameFits (g : Snapshot) (c n : ℕ) (r : Reception) : Type 0 where
  pub over : IsLinked g (port_of c n) → CameOverLink g c n r.said
  pub fits : HeldFits g c r.said

-- its root is worse than the best of the system u
abbrev pub IsWorse : Snapshot → ℕ → Announce → Type 0
IsWorse g u a = (best : System) → IsBest g u best → best.identity < a.root

-- It came over its link and is sound: its root is worse than the best of the system that sent it, or it is wholly
-- clean.
pub record CameSound (g : Snapshot) (c n : ℕ) (r : Reception) : Type 0 where
  pub from : PortIdentity
  pub joins : Joins g from (port_of c n)
  pub source : r.said.source ≡ from
  pub sound : IsWorse g from.clock r.said ⊎ Whole g from.clock r.said

-- it came over its link, and is wholly clean
pub record CameWhole (g : Snapshot) (c n : ℕ) (r : Reception) : Type 0 where
  pub from : PortIdentity
  pub joins : Joins g from (port_of c n)
  pub source : r.said.source ≡ from
  pub whole : Whole g from.clock r.said
