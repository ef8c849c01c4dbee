-- The state of a simulated world (profile).
use Rattle.std.specs.Prelude.{ℕ, Bool, List, [], ◌∷◌, ◌+◌, Option, None, if◌then◌else◌}
use Rattle.gptp_vector.specs.declared.port.PortId.{PortId}
use Rattle.gptp_links.specs.declared.bounds.Bounds.{Bounds}
use Rattle.gptp_links.specs.declared.link.Direction.{Direction}
use Rattle.gptp_links.specs.declared.link.Direction.TheVariants.{FromA, FromB}
use Rattle.gptp_links.specs.Queue.{Frame}
use Rattle.gptp_system.specs.declared.port.Port.{Port}
use Rattle.gptp_setup.specs.declared.timer.Timer.{Timer}
use Rattle.gptp_setup.specs.declared.timer.Timer.TheVariants as timers
use Rattle.gptp_system.specs.State.{due}
use Rattle.gptp_model.specs.declared.station.Station.{Station}
use Rattle.gptp_model.specs.Pending.{Entry}

-- A link: the ports that it joins, its bounds, whether it is up, and what is in flight from each end, oldest first.
pub record Channel : Type 0 where
  pub a : PortId
  pub b : PortId
  pub bounds : Bounds
  pub up : Bool
  pub from_a : List Frame
  pub from_b : List Frame

-- what is between the systems: the links, and what is pending
pub record Net : Type 0 where
  pub channels : List Channel
  pub pending : List Entry

-- The world: its time and that of the last change, in ns; the systems and links in the order in which the network
-- took them.
pub record WorldState : Type 0 where
  pub time : ℕ
  pub last_change : ℕ
  pub stations : List Station
  pub net : Net

-- ---- the two directions of a link

abbrev pub port_id : ℕ → ℕ → PortId
port_id clock port = record { clock = clock; port = port }

abbrev pub sender : Direction → Channel → PortId
sender FromA channel = channel.a
sender FromB channel = channel.b

abbrev pub receiver : Direction → Channel → PortId
receiver FromA channel = channel.b
receiver FromB channel = channel.a

abbrev pub world_queue : Direction → Channel → List Frame
world_queue FromA channel = channel.from_a
world_queue FromB channel = channel.from_b

abbrev pub with_queue : Direction → List Frame → Channel → Channel
with_queue FromA frames channel = record channel { from_a = frames }
with_queue FromB frames channel = record channel { from_b = frames }

-- ---- the timers of a system

-- the timers of ports, the first of which has this number, and those of the system: in the order in which they are put
abbrev pub timers_from : ℕ → List Port → List Timer
timers_from p [] = timers.Sync ∷ timers.Relay ∷ timers.Lapse ∷ []
timers_from p (q ∷ qs) =
    timers.Pdelay p ∷ timers.Respond p ∷ timers.Announce p ∷ timers.Age p ∷ timers_from (p + 1) qs

-- when a timer of a station runs out; none runs where it has failed
abbrev pub station_due : Timer → Station → Option ℕ
station_due timer station = if station.live then due timer station.system else None
