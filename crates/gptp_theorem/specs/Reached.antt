-- How a world stands that a network and its events lead to.
use Rattle.std.specs.Prelude.{◌≡◌, ℕ, Bool, if◌then◌else◌, List, map}
use Rattle.gptp_setup.specs.declared.setup.Setup.{Setup}
use Rattle.gptp_scenario.specs.declared.change.Timed.{Timed}
use Rattle.gptp_scenario.specs.declared.network.SystemSpec.{SystemSpec}
use Rattle.gptp_scenario.specs.declared.network.LinkSpec.{LinkSpec}
use Rattle.gptp_model.specs.declared.station.Station.{Station}
use Rattle.gptp_scenario.specs.Calm.{last_change}
use Rattle.gptp_scenario.specs.Change.{link_after, system_after}
use Rattle.gptp_model.specs.Initial.{setup_of}
use Rattle.gptp_scenario.specs.Network.{NetworkState}
use Rattle.gptp_model.specs.World.{Channel, WorldState}

-- ---- systems

-- What stands of a system: what it starts with, whether it lives, and the identity that it has, or will start with.
pub record Shape : Type 0 where
  pub setup : Setup
  pub live : Bool
  pub identity : ℕ

-- of a system in a world
abbrev pub shape : Station → Shape
shape station = record {
  setup = station.setup;
  live = station.live;
  identity = if station.live then station.system.identity else station.setup.identity;
}

-- of a system of a network after events
abbrev pub shape_after : NetworkState → List Timed → SystemSpec → Shape
shape_after n events m = record {
  setup = record (setup_of n m) { identity = (system_after events m).identity };
  live = (system_after events m).live;
  identity = (system_after events m).identity;
}

-- ---- links

-- a link without what is in flight on it
abbrev pub channel_wire : Channel → LinkSpec
channel_wire channel = record { a = channel.a; b = channel.b; bounds = channel.bounds; up = channel.up }

-- ---- the whole world

-- The world has the systems and links of the network after these events, and the last of them was the last change.
pub record StandsAsPlanned (n : NetworkState) (events : List Timed) (w : WorldState) : Type 0 where
  pub systems : map shape w.stations ≡ map (shape_after n events) n.systems
  pub links : map channel_wire w.net.channels ≡ map (link_after events) n.links
  pub last : w.last_change ≡ last_change events
