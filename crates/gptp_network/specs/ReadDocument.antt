-- What a table means as a document, or why it is refused and where (profile).
use Rattle.std.specs.Prelude.{ℕ, Result, Ok}
use Rattle.toml.specs.Data.{Members}
use Rattle.gptp_scenario.specs.Network.{NetworkState}
use Rattle.gptp_network.specs.Document.{DocumentState}
use Rattle.gptp_network.specs.Faults.{◌>>=◌}
use Rattle.gptp_network.specs.ReadEvents.{read_events}
use Rattle.gptp_network.specs.ReadLinks.{read_with_links}
use Rattle.gptp_network.specs.ReadParams.{read_network}
use Rattle.gptp_network.specs.ReadSystems.{read_with_systems}
use Rattle.gptp_network.specs.Reading.{natural_at}
use Rattle.gptp_network.specs.Why.{at_place}
use Rattle.gptp_network.specs.declared.keys.TheConstants.{VERSION}
use Rattle.gptp_network.specs.declared.place.Place.TheVariants as places
use Rattle.gptp_network.specs.declared.why.Refusal.{Refusal}

abbrev pub read_version : Members → Result ℕ Refusal
read_version t = at_place places.Top (natural_at VERSION t)

-- the network of a document of this version
unfoldable pub read_whole_network : ℕ → Members → Result NetworkState Refusal
read_whole_network version t = do
  values ← read_network t
  systems ← read_with_systems version t values
  read_with_links t systems

-- the sections of a document, in the order in which they are tested
unfoldable pub read_document : Members → Result DocumentState Refusal
read_document t = do
  version ← read_version t
  network ← read_whole_network version t
  events ← read_events t network
  Ok (record { network = network; events = events })
