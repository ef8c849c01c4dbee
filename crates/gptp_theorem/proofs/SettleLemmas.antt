-- What is stated of the live systems of a document's world is the settled choice of the document's snapshot.
use Rattle.std.proofs.Common.{ℕ, List, Option}
use Rattle.gptp_graph.specs.Labelling.{SystemLine}
use Rattle.gptp_graph.specs.SettledChoice.{IsSettledChoice}
use Rattle.gptp_graph.specs.Snapshot.{Snapshot}
use Rattle.gptp_links.specs.declared.bounds.Bounds.{Bounds}
use Rattle.gptp_model.specs.Advancing.{Told}
use Rattle.gptp_model.specs.World.{WorldState}
use Rattle.gptp_scenario.specs.Network.{IsNetwork}
use Rattle.gptp_network.specs.Document.{DocumentState}
use Rattle.gptp_network.specs.Snapshot.{IsSnapshot, events_by}
use Rattle.gptp_report.specs.Run.{PlaysRun}
use Rattle.gptp_invariants.specs.WorldSettlingInvariant.{SettlingInvariant}
use Rattle.gptp_invariants.specs.WorldStanding.{snapshot_of}
use Rattle.gptp_certificate.specs.Stated.{States}
use Rattle.gptp_certificate.proofs.SettledLemmas.{right_in_time}
use Rattle.gptp_theorem.specs.AlikeLaws.{AreAlike}
use Rattle.gptp_theorem.specs.PlayedLaws.{DocumentIsAtRest, IsPlayable, IsReached}
use Rattle.gptp_theorem.proofs.AlikeLemmas.{same_choice}
use Rattle.gptp_theorem.proofs.CalmLemmas.{document_calm}
use Rattle.gptp_theorem.proofs.SettlingInvariantLemmas.{events_made, played_claimed}
use Rattle.gptp_theorem.proofs.PlayedLemmas.{played_stands}
use Rattle.gptp_theorem.proofs.SnapshotLemmas.{snapshots_stand}

pub documents_settle : (d : DocumentState) (until : ℕ) (w : WorldState) (lines : List SystemLine) (g : Snapshot)
    → IsNetwork d.network → IsReached d until w → SettlingInvariant w → DocumentIsAtRest d until → States w lines
    → IsSnapshot d until g
    → IsSettledChoice g lines
documents_settle d until w lines g is reached claimed rest states stands =
    let (systems, links) =
    snapshots_stand d.network (events_by until d.events) w g reached.stands reached.sound stands in
    let alike : AreAlike (snapshot_of w) g = record { systems = systems; links = links } in
    let calm = document_calm d until w is reached claimed rest in
    same_choice (snapshot_of w) g lines alike (right_in_time w lines claimed states calm)

pub played_settle : {F : Type 0} (answers : Bounds → ℕ → F → Option ℕ → F → Type 0) (d : DocumentState) (until : ℕ)
    (fate : F) (told : List Told) (w : WorldState) (lines : List SystemLine) (g : Snapshot) → IsPlayable d
    → PlaysRun answers d until fate told w → DocumentIsAtRest d until → States w lines → IsSnapshot d until g
    → IsSettledChoice g lines
played_settle answers d until fate told w lines g is k =
    documents_settle d until w lines g is.network
    (played_stands answers d until fate told w is.network (events_made d until is.network is.events) k)
    (played_claimed answers d until fate told w is k)
