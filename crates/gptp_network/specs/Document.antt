-- What a document means (profile).
use Rattle.std.specs.Prelude.{◌≡◌, ◌⊎◌, ℕ, codes, List, Some, None, Result, Ok, Err, IsUtf8}
use Rattle.toml.specs.Data.{Members}
use Rattle.toml.specs.Parse.{parse_document}
use Rattle.gptp_scenario.specs.Network.{NetworkState, seeded}
use Rattle.gptp_scenario.specs.declared.change.Timed.{Timed}
use Rattle.gptp_network.specs.Events.{events_of}
use Rattle.gptp_network.specs.Faults.{◌>>=◌}
use Rattle.gptp_network.specs.Links.{with_links}
use Rattle.gptp_network.specs.Params.{network_of}
use Rattle.gptp_network.specs.Systems.{with_systems}
use Rattle.gptp_network.specs.Values.{natural}
use Rattle.gptp_network.specs.declared.fault.DocumentFault.{DocumentFault}
use Rattle.gptp_network.specs.declared.fault.DocumentFault.TheVariants.{NotToml}

-- a network, and what is changed in it when
pub record DocumentState : Type 0 where
  pub network : NetworkState
  pub events : List Timed

-- its systems draw noise from this seed
abbrev pub seeded_document : ℕ → DocumentState → DocumentState
seeded_document seed d = record d { network = seeded seed d.network }

-- the network of a document of this version
unfoldable pub whole_network_of : ℕ → Members → Result NetworkState DocumentFault
whole_network_of version t = do
  values ← network_of t
  systems ← with_systems version t values
  with_links t systems

-- the sections of a document, in the order in which they are tested
unfoldable pub document_of : Members → Result DocumentState DocumentFault
document_of t = do
  version ← natural (codes "version") 1 2 None t
  network ← whole_network_of version t
  events ← events_of t network
  Ok (record { network = network; events = events })

-- the text is TOML for this table
pub record Parses (text : List ℕ) (t : Members) : Type 0 where
  pub utf8 : IsUtf8 text
  pub table : parse_document text ≡ Some t

-- the text means this document
pub record Means (text : List ℕ) (d : DocumentState) : Type 0 where
  pub table : Members
  pub parses : Parses text table
  pub is : document_of table ≡ Ok d

-- the text is no TOML
abbrev pub IsNoToml : List ℕ → Type 0
IsNoToml text = (t : Members) → Parses text t → ⊥

-- This is the first test that the text fails.
abbrev pub Fails : List ℕ → DocumentFault → Type 0
Fails text e = ((e ≡ NotToml) × IsNoToml text) ⊎ ((t : Members) × Parses text t × (document_of t ≡ Err e))
