-- Laws on the tree that slave ports form.
use Rattle.std.specs.Prelude.{◌≡◌, ◌≢◌, ℕ}
use Rattle.gptp_graph.specs.Once.{ExistsOnce}
use Rattle.gptp_graph.specs.Snapshot.{System, Snapshot, port_of, IsWellFormed}
use Rattle.gptp_graph.specs.Best.{IsBest}
use Rattle.gptp_graph.specs.Distance.{IsDistance}
use Rattle.gptp_graph.specs.Parent.{ParentLink, IsParent, Climbs}
use Rattle.gptp_graph.specs.SettledRole.{Slave, Master, IsSettledRole}

-- following parents leads to the best in as many steps as the distance says
abbrev pub ParentsLeadToBest : Type 0
ParentsLeadToBest = (g : Snapshot) (v d : ℕ) (best : System)
    → IsWellFormed g → IsBest g v best → IsDistance g v d
    → Climbs g v best.clock d

-- a system that isn't the best of its component has one slave port
abbrev pub SlavePortExistsOnce : Type 0
SlavePortExistsOnce = (g : Snapshot) (v : ℕ) (best : System)
    → IsWellFormed g → IsBest g v best → best.clock ≢ v
    → ExistsOnce (λ (n : ℕ). IsSettledRole g (port_of v n) Slave)

-- the best of a component has none
abbrev pub BestHasNoSlavePort : Type 0
BestHasNoSlavePort = (g : Snapshot) (v n : ℕ) (best : System)
    → IsWellFormed g → IsBest g v best → best.clock ≡ v
    → IsSettledRole g (port_of v n) Slave → ⊥

-- the own port of a system's parent is its slave port, and the port at the other end is a master port
abbrev pub ParentIsMaster : Type 0
ParentIsMaster = (g : Snapshot) (v : ℕ) (l : ParentLink)
    → IsWellFormed g → IsParent g v l
    → IsSettledRole g (port_of v l.own_port) Slave × IsSettledRole g (port_of l.clock l.port) Master
