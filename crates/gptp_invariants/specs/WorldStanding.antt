-- What stands in a world: its live systems, and the links that are up between two of them.
use Rattle.std.specs.Prelude.{◌≡◌, ◌≢◌, ℕ, ◌==◌, ◌&&◌, ◌||◌, Bool, false, if◌then◌else◌, List, [], ◌∷◌, length, Some, slice_get}
use Rattle.gptp_graph.specs.Snapshot.{Link, Snapshot, System}
use Rattle.gptp_vector.specs.declared.port.PortId.{PortId}
use Rattle.gptp_system.specs.State.{clock}
use Rattle.gptp_system.specs.Steps.{HasPortNumber}
use Rattle.gptp_model.specs.declared.station.Station.{Station}
use Rattle.gptp_model.specs.World.{Channel, WorldState}
use Rattle.gptp_invariants.specs.ChoiceView.{port_identity_number}

-- ---- systems

-- a system as a snapshot has it
abbrev pub standing_system : Station → System
standing_system station = record {
  clock = clock station.system;
  identity = station.system.identity;
  ports = length station.system.ports;
}

-- the live systems, in their order
abbrev pub live_stations : List Station → List System
live_stations [] = []
live_stations (station ∷ stations) =
    if station.live then standing_system station ∷ live_stations stations else live_stations stations

-- one of the systems has this clock
abbrev pub stations_have_clock : List System → ℕ → Bool
stations_have_clock [] number = false
stations_have_clock (s ∷ systems) number = (s.clock == number) || stations_have_clock systems number

-- ---- links

-- a link as a snapshot has it
abbrev pub standing_link : Channel → Link
standing_link channel = record { a = port_identity_number channel.a; b = port_identity_number channel.b }

-- a link is up between two of the systems
abbrev pub channel_is_used : List System → Channel → Bool
channel_is_used systems channel = channel.up &&
    (stations_have_clock systems channel.a.clock && stations_have_clock systems channel.b.clock)

-- those that are, in their order
abbrev pub used_channels : List System → List Channel → List Link
used_channels systems [] = []
used_channels systems (channel ∷ channels) =
    if channel_is_used systems channel then standing_link channel ∷ used_channels systems channels else used_channels
    systems channels

-- ---- the whole world

-- the live systems, and the links that are up between two of them
abbrev pub snapshot_of : WorldState → Snapshot
snapshot_of w = record {
  systems = live_stations w.stations;
  links = used_channels (live_stations w.stations) w.net.channels;
}

-- ---- links between systems

-- one of the systems has this port
pub record StationsHavePort (stations : List Station) (port : PortId) : Type 0 where
  pub place : ℕ
  pub station : Station
  pub here : slice_get stations place ≡ Some station
  pub named : clock station.system ≡ port.clock
  pub is : HasPortNumber station.system port.port

-- a link joins ports of two of them
pub record JoinsTwoOf (stations : List Station) (channel : Channel) : Type 0 where
  pub a : StationsHavePort stations channel.a
  pub b : StationsHavePort stations channel.b
  pub apart : channel.a.clock ≢ channel.b.clock

-- each link of a world joins ports of two of its systems
abbrev pub AreBetween : WorldState → Type 0
AreBetween w = (link : ℕ) (channel : Channel) → slice_get w.net.channels link ≡ Some channel
    → JoinsTwoOf w.stations channel
