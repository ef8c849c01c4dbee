-- The section `[network]`, or why it is refused and where (profile).
use Rattle.std.specs.Prelude.{Result, Ok}
use Rattle.toml.specs.Data.{Members}
use Rattle.gptp_setup.specs.declared.setup.Params.{Params}
use Rattle.gptp_scenario.specs.Network.{NetworkState, without_members}
use Rattle.gptp_scenario.specs.Params.{params_fault}
use Rattle.gptp_scenario.specs.declared.fault.NetworkFault.{NetworkFault}
use Rattle.gptp_scenario.specs.declared.fault.NetworkFault.TheVariants as networks
use Rattle.gptp_network.specs.Faults.{◌>>=◌}
use Rattle.gptp_network.specs.Reading.{natural_at, table_in, whole_at}
use Rattle.gptp_network.specs.Why.{at_place, told}
use Rattle.gptp_network.specs.declared.keys.Name.TheVariants as names
use Rattle.gptp_network.specs.declared.keys.TheConstants.{ANNOUNCE, GRANULARITY, LOST, NOISE, PDELAY, RESIDENCE, SYNC, SYNC_TIMEOUT, THRESHOLD, TIMEOUT, TURNAROUND, WINDOW}
use Rattle.gptp_network.specs.declared.place.Place.TheVariants as places
use Rattle.gptp_network.specs.declared.why.Refusal.{Refusal}
use Rattle.gptp_network.specs.declared.why.Why.{Why}
use Rattle.gptp_network.specs.declared.why.Why.TheVariants as whys

-- its keys, in their order
unfoldable pub read_params : Members → Result Params Why
read_params t = do
  announce ← whole_at ANNOUNCE t
  sync ← whole_at SYNC t
  pdelay ← whole_at PDELAY t
  timeout ← natural_at TIMEOUT t
  lost ← natural_at LOST t
  threshold ← natural_at THRESHOLD t
  turnaround ← natural_at TURNAROUND t
  residence ← natural_at RESIDENCE t
  sync_timeout ← natural_at SYNC_TIMEOUT t
  granularity ← natural_at GRANULARITY t
  noise ← natural_at NOISE t
  window ← natural_at WINDOW t
  Ok (record {
    announce = announce;
    sync = sync;
    pdelay = pdelay;
    timeout = timeout;
    lost = lost;
    threshold = threshold;
    turnaround = turnaround;
    residence = residence;
    sync_timeout = sync_timeout;
    granularity = granularity;
    noise = noise;
    window = window;
  })

-- why a network can't have these values
abbrev pub params_why : Params → NetworkFault → Why
params_why params networks.Timing = whys.Timing params params.announce
params_why params fault = whys.Other fault

-- the network that it describes, with no member yet
unfoldable pub read_section : Members → Result NetworkState Why
read_section t = do
  params ← read_params t
  told (params_why params) (params_fault params) (without_members params)

abbrev pub read_network_in : Members → Result NetworkState Refusal
read_network_in t = at_place places.Network (read_section t)

unfoldable pub read_network : Members → Result NetworkState Refusal
read_network t = do
  section ← at_place places.Top (table_in names.Network t)
  read_network_in section
