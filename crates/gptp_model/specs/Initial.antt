-- The world that a network makes, before its systems start (profile).
use Rattle.std.specs.Prelude.{false, List, [], map}
use Rattle.gptp_setup.specs.declared.setup.Setup.{Setup}
use Rattle.gptp_system.specs.Start.{started}
use Rattle.gptp_scenario.specs.declared.network.SystemSpec.{SystemSpec}
use Rattle.gptp_scenario.specs.declared.network.LinkSpec.{LinkSpec}
use Rattle.gptp_model.specs.declared.station.Station.{Station}
use Rattle.gptp_scenario.specs.Network.{NetworkState, largest_of}
use Rattle.gptp_model.specs.World.{Channel, Net, WorldState}

-- what a system of a network starts with: its ports announce at their own intervals, none above the largest, and its
-- noise is drawn from the seed of the network
abbrev pub setup_of : NetworkState → SystemSpec → Setup
setup_of n member = record {
  identity = member.identity;
  ports = member.ports;
  phase = member.phase;
  drift = member.drift;
  continues = member.continues;
  intervals = member.intervals;
  largest = largest_of n;
  seed = n.seed;
  params = n.params;
}

-- it isn't live yet
abbrev pub station_of : NetworkState → SystemSpec → Station
station_of n member = record {
  setup = setup_of n member;
  system = started (setup_of n member) 0;
  live = false;
}

-- a link, with nothing in flight
abbrev pub channel_from : LinkSpec → Channel
channel_from wire = record {
  a = wire.a;
  b = wire.b;
  bounds = wire.bounds;
  up = wire.up;
  from_a = [];
  from_b = [];
}

abbrev pub stations_of : NetworkState → List Station
stations_of n = map (station_of n) n.systems

abbrev pub channels_of : NetworkState → List Channel
channels_of n = map channel_from n.links

-- nothing is in flight or pending
abbrev pub idle : NetworkState → Net
idle n = record { channels = channels_of n; pending = [] }

-- the world at time 0, with no system live
abbrev pub initial : NetworkState → WorldState
initial n = record {
  time = 0;
  last_change = 0;
  stations = stations_of n;
  net = idle n;
}
