-- A system that has settled, in the words of the snapshot's graph.
use Rattle.std.specs.Prelude.{◌≡◌, ◌≢◌, ℕ, suc, Option, Some, None, slice_get}
use Rattle.gptp_graph.specs.Snapshot.{IsLinked, Snapshot, port_of}
use Rattle.gptp_graph.specs.Distance.{IsDistance}
use Rattle.gptp_graph.specs.Parent.{ParentLink, IsParent}
use Rattle.gptp_graph.specs.SettledRole.{Role, Master, Slave, Passive, IsSettledRole}
use Rattle.gptp_graph.specs.SettledRole as role
use Rattle.gptp_graph.specs.SettledChoice.{IsBestIdentity}
use Rattle.gptp_bmca_machine.specs.Station.{Reception, Held, Disabled, Mine, Received, Port, Station}

-- The role of port n by the slave port and by what it holds. An aged port has none: it isn't at rest.
abbrev pub PlaysRole : Option ℕ → ℕ → Held → Role → Type 0
PlaysRole slave n held role.Disabled = held ≡ Disabled
PlaysRole slave n held Master = (root steps : ℕ) × (held ≡ Mine root steps)
PlaysRole slave n held Slave = (slave ≡ Some n) × ((r : Reception) × (held ≡ Received r))
PlaysRole slave n held Passive = (slave ≢ Some n) × ((r : Reception) × (held ≡ Received r))

-- the slave port is the own port of the system's parent, and none where it has none
abbrev pub IsSlaveOf : Snapshot → ℕ → Option ℕ → Type 0
IsSlaveOf g v (Some n) = (l : ParentLink) × IsParent g v l × (l.own_port ≡ n)
IsSlaveOf g v None = (l : ParentLink) → IsParent g v l → ⊥

-- its root is the best of its component, and its steps are its distance
pub record HasBest (g : Snapshot) (s : Station) : Type 0 where
  pub root : IsBestIdentity g s.clock s.root
  pub steps : IsDistance g s.clock s.steps

-- the system's root is the best of its component, its steps are its distance, and its slave port leads to its parent
pub record FollowsBest (g : Snapshot) (s : Station) : Type 0 where
  pub root : IsBestIdentity g s.clock s.root
  pub steps : IsDistance g s.clock s.steps
  pub slave : IsSlaveOf g s.clock s.slave

-- every port has its settled role
abbrev pub HasSettledRoles : Snapshot → Station → Type 0
HasSettledRoles g s = (i : ℕ) (q : Port) → slice_get s.ports i ≡ Some q
    → (r : Role) × PlaysRole s.slave (suc i) q.held r × IsSettledRole g (port_of s.clock (suc i)) r

-- every port on a link has its settled role
abbrev pub HasLinkedRoles : Snapshot → Station → Type 0
HasLinkedRoles g s = (i : ℕ) (q : Port) → slice_get s.ports i ≡ Some q → IsLinked g (port_of s.clock (suc i))
    → (r : Role) × PlaysRole s.slave (suc i) q.held r × IsSettledRole g (port_of s.clock (suc i)) r
