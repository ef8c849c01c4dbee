-- The tree that a settled world forms.
use Rattle.std.specs.Prelude.{◌≡◌, ◌≢◌, ◌≤◌, ◌/◌, ◌^◌, ℕ, suc, true, None, Some, slice_get}
use Rattle.gptp_graph.specs.Best.{IsBest}
use Rattle.gptp_graph.specs.Distance.{IsNear}
use Rattle.gptp_graph.specs.Snapshot.{Joins, System, port_of}
use Rattle.gptp_roles.specs.declared.role.Role.TheVariants.{Master, Slave}
use Rattle.gptp_system.specs.Start.{role_at}
use Rattle.gptp_system.specs.State.{SystemState, clock}
use Rattle.gptp_system.specs.Steps.{HasPortNumber}
use Rattle.gptp_model.specs.declared.station.Station.{Station}
use Rattle.gptp_model.specs.World.{WorldState}
use Rattle.gptp_invariants.specs.ChoiceSettled.{Settled}
use Rattle.gptp_invariants.specs.WorldStanding.{snapshot_of}

-- a live system of the world
pub record IsLiveStation (w : WorldState) (s : SystemState) : Type 0 where
  pub place : ℕ
  pub station : Station
  pub here : slice_get w.stations place ≡ Some station
  pub live : station.live ≡ true
  pub is : s ≡ station.system

-- It has one Slave port and no other. The other end of its link is a Master port of a live system, one step nearer.
pub record HangsOnParent (w : WorldState) (s : SystemState) : Type 0 where
  pub port : ℕ
  pub own : HasPortNumber s port
  pub slave : role_at s port ≡ Slave
  pub only : (n : ℕ) → HasPortNumber s n → role_at s n ≡ Slave → n ≡ port
  pub parent : SystemState
  pub lives : IsLiveStation w parent
  pub there : ℕ
  pub joins : Joins (snapshot_of w) (port_of (clock s) port) (port_of (clock parent) there)
  pub master : role_at parent there ≡ Master
  pub nearer : s.steps ≡ suc parent.steps

-- it has no Slave port, and follows itself
pub record IsRoot (s : SystemState) : Type 0 where
  pub root : s.root ≡ s.identity
  pub steps : s.steps ≡ 0
  pub slave : s.slave ≡ None
  pub none : (n : ℕ) → HasPortNumber s n → role_at s n ≢ Slave

-- priority1 of an identity, its most significant octet (IEEE 802.1AS-2020, 8.6.2.1)
abbrev pub priority1 : ℕ → ℕ
priority1 identity = identity / 2 ^ 104

-- All near live systems have the settled choice, and so they form a tree: the best of each component is its root, and
-- every other hangs on its parent. Where the best's priority1 is 255 no root that is followed has a lower one, so that
-- nobody is followed as a grandmaster.
pub record IsTree (w : WorldState) : Type 0 where
  pub settled : Settled w
  pub others : (s : SystemState) (best : System)
      → IsLiveStation w s → IsNear (snapshot_of w) (clock s) → IsBest (snapshot_of w) (clock s) best
      → best.clock ≢ clock s
      → HangsOnParent w s
  pub best : (s : SystemState) (best : System)
      → IsLiveStation w s → IsBest (snapshot_of w) (clock s) best → best.clock ≡ clock s
      → IsRoot s
  pub no_grandmaster : (s : SystemState) (best : System)
      → IsLiveStation w s → IsNear (snapshot_of w) (clock s) → IsBest (snapshot_of w) (clock s) best
      → 255 ≤ priority1 best.identity
      → 255 ≤ priority1 s.root
