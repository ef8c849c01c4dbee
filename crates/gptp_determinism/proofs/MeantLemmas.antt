-- In the network of a document that a text means, names mean one thing.
use Rattle.std.specs.Prelude.{ℕ, List}
use Rattle.gptp_scenario.specs.Network.{IsNetwork, NetworkState, seeded}
use Rattle.gptp_scenario.proofs.NetworkLemmas.{seeded_network}
use Rattle.gptp_network.specs.Document.{DocumentState, Means}
use Rattle.gptp_network.proofs.MeantLemmas.{meant_document}
use Rattle.gptp_model.specs.Initial.{initial}
use Rattle.gptp_determinism.specs.Named.{IsNamed}
use Rattle.gptp_determinism.proofs.NameLemmas.{names_one-initial, NamesOne}

network_names : (n : NetworkState) → IsNetwork n → NamesOne n
network_names n is = record {
  announce = is.params.ranges.params.announce;
  systems = is.systems;
  clocks = is.clocks;
  apart = λ i w there. (is.links i w there).apart;
  one_link = is.one_link;
}

pub meant_names : (text : List ℕ) (d : DocumentState) → Means text d → NamesOne d.network
meant_names text d means = network_names d.network (meant_document text d means).0

pub meant_named : (text : List ℕ) (d : DocumentState) → Means text d → IsNamed (initial d.network)
meant_named text d means = names_one-initial d.network (meant_names text d means)

-- and so they do whatever seed noise is drawn from
pub seeded_names : (text : List ℕ) (d : DocumentState) (seed : ℕ) → Means text d → NamesOne (seeded seed d.network)
seeded_names text d seed means =
    network_names (seeded seed d.network) (seeded_network d.network seed (meant_document text d means).0)

pub seeded_named : (text : List ℕ) (d : DocumentState) (seed : ℕ) → Means text d
    → IsNamed (initial (seeded seed d.network))
seeded_named text d seed means = names_one-initial (seeded seed d.network) (seeded_names text d seed means)
