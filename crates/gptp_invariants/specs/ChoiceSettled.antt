-- A world that has settled, or whose choice stands, in the words of the graph of its snapshot.
use Rattle.std.specs.Prelude.{◌≡◌, ℕ, true, Some, slice_get}
use Rattle.std.specs.Option.{option_map}
use Rattle.gptp_graph.specs.Distance.{IsDistance, IsNear}
use Rattle.gptp_graph.specs.Parent.{ParentLink}
use Rattle.gptp_graph.specs.SettledChoice.{IsBestIdentity, IsParentIfAny}
use Rattle.gptp_graph.specs.SettledRole.{IsSettledRole}
use Rattle.gptp_graph.specs.SettledRole as settled
use Rattle.gptp_graph.specs.Snapshot.{IsLinked, Snapshot, port_of}
use Rattle.gptp_vector.specs.declared.port.PortId.{PortId}
use Rattle.gptp_roles.specs.declared.role.Role.{Role}
use Rattle.gptp_roles.specs.declared.role.Role.TheVariants.{Disabled, Master, Slave, Passive}
use Rattle.gptp_system.specs.Start.{role_at}
use Rattle.gptp_system.specs.State.{SystemState, clock, parent}
use Rattle.gptp_system.specs.Steps.{HasPortNumber}
use Rattle.gptp_model.specs.declared.station.Station.{Station}
use Rattle.gptp_model.specs.World.{WorldState}
use Rattle.gptp_bmca_machine.specs.Settled.{IsSlaveOf}
use Rattle.gptp_invariants.specs.WorldStanding.{snapshot_of}

-- a role as the graph has it
abbrev pub graph_role : Role → settled.Role
graph_role Disabled = settled.Disabled
graph_role Master = settled.Master
graph_role Slave = settled.Slave
graph_role Passive = settled.Passive

-- the slave port, and the port that it follows, as the graph has them
abbrev pub followed_link : ℕ × PortId → ParentLink
followed_link (own_port, there) = record { own_port = own_port; clock = there.clock; port = there.port }

-- Its root is the identity of its component's best, and its steps are its distance. Its slave port is the own port of
-- its parent, and the port that it follows there is the parent's; the best has neither. Each of its ports has its
-- settled role.
pub record IsSettledSystem (g : Snapshot) (s : SystemState) : Type 0 where
  pub root : IsBestIdentity g (clock s) s.root
  pub steps : IsDistance g (clock s) s.steps
  pub slave : IsSlaveOf g (clock s) s.slave
  pub parent : IsParentIfAny g (clock s) (option_map followed_link (parent s))
  pub roles : (n : ℕ) → HasPortNumber s n → IsSettledRole g (port_of (clock s) n) (graph_role (role_at s n))

-- each near live system of a world is settled: its root, steps, slave port, parent and roles are those that the
-- snapshot gives it
abbrev pub Settled : WorldState → Type 0
Settled w = (place : ℕ) (station : Station) → slice_get w.stations place ≡ Some station → station.live ≡ true
    → IsNear (snapshot_of w) (clock station.system)
    → IsSettledSystem (snapshot_of w) station.system

-- Where roles may change still, since ports beside a system that fails stay capable for a time, that is so but for the
-- roles of its ports without a link.
pub record HasSettledChoice (g : Snapshot) (s : SystemState) : Type 0 where
  pub root : IsBestIdentity g (clock s) s.root
  pub steps : IsDistance g (clock s) s.steps
  pub slave : IsSlaveOf g (clock s) s.slave
  pub parent : IsParentIfAny g (clock s) (option_map followed_link (parent s))
  pub roles : (n : ℕ) → HasPortNumber s n → IsLinked g (port_of (clock s) n)
      → IsSettledRole g (port_of (clock s) n) (graph_role (role_at s n))

-- so it is of each near live system of a world
abbrev pub ChoiceStands : WorldState → Type 0
ChoiceStands w = (place : ℕ) (station : Station) → slice_get w.stations place ≡ Some station → station.live ≡ true
    → IsNear (snapshot_of w) (clock station.system)
    → HasSettledChoice (snapshot_of w) station.system
