-- The role that a port settles at (IEEE 802.1AS-2020, 10.3.6 and 10.3.13).
use Rattle.std.specs.Prelude.{◌≡◌, ◌⊎◌, ◌<◌, ℕ}
use Rattle.gptp_graph.specs.Snapshot.{Snapshot, PortIdentity, Joins, IsLinked}
use Rattle.gptp_graph.specs.Distance.{IsDistance}
use Rattle.gptp_graph.specs.Parent.{ParentLink, IsParent}

-- DisabledPort, MasterPort, SlavePort, PassivePort
pub data Role : Type 0 where
  Disabled Master Slave Passive : Role

-- the first that holds: disabled where nothing is linked, slave, master, and otherwise passive
abbrev pub RoleBy : Type 0 → Type 0 → Type 0 → Role → Type 0
RoleBy linked slave master Disabled = linked → ⊥
RoleBy linked slave master Slave = linked × slave
RoleBy linked slave master Master = linked × (slave → ⊥) × master
RoleBy linked slave master Passive = linked × (slave → ⊥) × (master → ⊥)

-- the port is the own port of its system's parent
abbrev pub IsSlavePort : Snapshot → PortIdentity → Type 0
IsSlavePort g p = (l : ParentLink) × IsParent g p.clock l × (l.own_port ≡ p.port)

-- over its link the port's system is nearer than the other end's, or as near with the lower clock
pub record IsMasterPort (g : Snapshot) (p : PortIdentity) : Type 0 where
  pub other : PortIdentity
  pub joins : Joins g p other
  pub here : ℕ
  pub there : ℕ
  pub is_here : IsDistance g p.clock here
  pub is_there : IsDistance g other.clock there
  pub nearer : (here < there) ⊎ ((here ≡ there) × (p.clock < other.clock))

-- the settled role of a port
abbrev pub IsSettledRole : Snapshot → PortIdentity → Role → Type 0
IsSettledRole g p = RoleBy (IsLinked g p) (IsSlavePort g p) (IsMasterPort g p)
