-- What a text means sets no priority1 that is no octet, and injects octets alone.
use Rattle.std.proofs.Common.{List, ℕ}
use Rattle.gptp_scenario.specs.declared.change.Act.{Act}
use Rattle.gptp_scenario.specs.declared.change.Act.TheVariants.{Deliver, Expire, Change as Changing}
use Rattle.gptp_scenario.specs.declared.change.Change.TheVariants.{LinkDown, LinkUp, LinkSet, Fail, Recover, Priority1, Inject}
use Rattle.gptp_scenario.specs.declared.change.Timed.{Timed}
use Rattle.gptp_scenario.specs.Network.{IsNetwork}
use Rattle.gptp_scenario.proofs.NetworkLemmas.{seeded_network}
use Rattle.gptp_network.specs.Document.{DocumentState, Means, seeded_document}
use Rattle.gptp_network.specs.Events.{AreEvents}
use Rattle.gptp_network.proofs.EventLemmas.{events_seeded}
use Rattle.gptp_network.proofs.MeantLemmas.{SetsOctets, meant_octets}
use Rattle.gptp_invariants.specs.WorldEncodableLaws.{SetsAnOctet}
use Rattle.gptp_theorem.specs.PlayedLaws.{IsPlayable}
use Rattle.gptp_theorem.proofs.SettlingInvariantLemmas.{each_there}

sets_octet : (act : Act) → SetsOctets act → SetsAnOctet act
sets_octet (Deliver link direction) is = tt
sets_octet (Expire name timer) is = tt
sets_octet (Changing (LinkDown name port)) is = tt
sets_octet (Changing (LinkUp name port)) is = tt
sets_octet (Changing (LinkSet name port least greatest loss)) is = tt
sets_octet (Changing (Fail name)) is = tt
sets_octet (Changing (Recover name)) is = tt
sets_octet (Changing (Priority1 name value)) is = is
sets_octet (Changing (Inject name port frame)) is = is.0

pub documents_playable : (octets : List ℕ) (d : DocumentState) → Means octets d → IsNetwork d.network
    → AreEvents d.network d.events → IsPlayable d
documents_playable octets d means network events = record {
  network = network;
  events = events;
  octets = λ place t there.
      sets_octet t.act
      (each_there (λ (u : Timed). SetsOctets u.act) d.events (meant_octets octets d means) place t there);
}

-- and so it is whatever seed noise is drawn from
pub seeded_playable : (d : DocumentState) (seed : ℕ) → IsPlayable d → IsPlayable (seeded_document seed d)
seeded_playable d seed is = record {
  network = seeded_network d.network seed is.network;
  events = events_seeded d.network seed d.events is.events;
  octets = is.octets;
}
