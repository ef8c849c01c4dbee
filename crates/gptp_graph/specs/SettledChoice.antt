-- The choice that a network settles at: the spanning tree of each component, as the best master clock algorithm
-- builds it (IEEE 802.1AS-2020, 10.3).
use Rattle.std.specs.Prelude.{◌≡◌, ◌<◌, ◌≤◌, ℕ, true, false, List, Option, Some, None}
use Rattle.gptp_lists.specs.Members.{In}
use Rattle.gptp_graph.specs.Snapshot.{System, Snapshot, port_of}
use Rattle.gptp_graph.specs.Best.{IsBest}
use Rattle.gptp_graph.specs.Distance.{IsDistance}
use Rattle.gptp_graph.specs.Parent.{ParentLink, IsParent}
use Rattle.gptp_graph.specs.SettledRole.{IsSettledRole}
use Rattle.gptp_graph.specs.Labelling.{PortLine, SystemLine, HasItsSystems}

-- the parent of v, or none where it has none
abbrev pub IsParentIfAny : Snapshot → ℕ → Option ParentLink → Type 0
IsParentIfAny g v (Some l) = IsParent g v l
IsParentIfAny g v None = (l : ParentLink) → IsParent g v l → ⊥

-- the identity of the best of v's component
abbrev pub IsBestIdentity : Snapshot → ℕ → ℕ → Type 0
IsBestIdentity g v root = (best : System) × IsBest g v best × (root ≡ best.identity)

-- the line states of its system the best's identity and its distance, and is far where that is 255 or more; where it
-- is less, it states the parent and the role of each port (a system with 255 steps announces nothing that is
-- qualified: IEEE 802.1AS-2020, 10.3.11.2.1)
pub record IsSettledLine (g : Snapshot) (line : SystemLine) : Type 0 where
  pub root : IsBestIdentity g line.clock line.root
  pub steps : IsDistance g line.clock line.steps
  pub near : line.far ≡ false → line.steps < 255
  pub far : line.far ≡ true → 255 ≤ line.steps
  pub parent : line.far ≡ false → IsParentIfAny g line.clock line.parent
  pub roles : (port : PortLine) → In port line.ports
      → IsSettledRole g (port_of line.clock port.number) port.role

-- the lines are the settled choice of the snapshot
pub record IsSettledChoice (g : Snapshot) (lines : List SystemLine) : Type 0 where
  pub systems : HasItsSystems g lines
  pub settled : (line : SystemLine) → In line lines → IsSettledLine g line
