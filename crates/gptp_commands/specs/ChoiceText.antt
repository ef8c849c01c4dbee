-- What `choice` writes for a document, and its status (profile).
use Rattle.std.specs.Prelude.{◌≡◌, ℕ, List, Option}
use Rattle.gptp_graph.specs.Labelling.{SystemLine}
use Rattle.gptp_graph.specs.SettledChoice.{IsSettledChoice}
use Rattle.gptp_graph.specs.Snapshot.{IsWellFormed, Snapshot}
use Rattle.gptp_network.specs.Document.{DocumentState}
use Rattle.gptp_network.specs.Snapshot.{IsSnapshot}
use Rattle.gptp_certificate_text.specs.Certificate.{IsCertificate}
use Rattle.gptp_certificate_text.specs.CertificateText.{certificate_lines}
use Rattle.gptp_commands.specs.declared.failure.Status.{Status}
use Rattle.gptp_commands.specs.declared.failure.Status.TheVariants.{Done}
use Rattle.gptp_commands.specs.CheckText.{moment_of}

-- the certificate of the settled choice, in version 2, its lines by rising clock
pub record ShowsChoice (g : Snapshot) (output : List (List ℕ)) (status : Status) : Type 0 where
  pub lines : List SystemLine
  pub is : IsCertificate 2 lines
  pub choice : IsSettledChoice g lines
  pub shown : output ≡ certificate_lines 2 lines
  pub status_is : status ≡ Done

-- the choice of the network as it is at the time, which is well-formed as every document's is
abbrev pub ChoosesAt : DocumentState → Option ℕ → List (List ℕ) → Status → Type 0
ChoosesAt d until output status =
    (g : Snapshot) × IsSnapshot d (moment_of until d) g × IsWellFormed g × ShowsChoice g output status
