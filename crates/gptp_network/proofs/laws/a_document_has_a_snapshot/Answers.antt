use Rattle.gptp_network.proofs.ExistenceLemmas.{snapshot_exists}
use Rattle.gptp_network.proofs.MeantLemmas.{meant_document, meant_well}
use Rattle.gptp_network.proofs.laws.a_document_has_a_snapshot.Goals as goal

pub returns : goal.returns
returns c = record {
  meant = λ text d time means.
      let (g, stands) = snapshot_exists d time (meant_document text d means).0 in
      (g, stands, meant_well text d time g means stands);
  network = snapshot_exists;
}
