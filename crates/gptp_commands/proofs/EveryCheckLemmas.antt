-- Each document and certificate have a text of `check`.
use Rattle.std.proofs.Common.{◌⊎◌, ℕ, Bool, true, false, nat_le, List, [], ◌∷◌, ◌++◌, length, Option, codes, refl, inl, inr}
use Rattle.std.specs.Bool.{MatchBool}
use Rattle.gptp_graph.specs.Snapshot.{Snapshot}
use Rattle.gptp_network.specs.Document.{DocumentState, Means}
use Rattle.gptp_network.specs.declared.fault.DocumentFault.TheVariants.{TooMany}
use Rattle.gptp_network.proofs.ExistenceLemmas.{snapshot_exists}
use Rattle.gptp_network.proofs.LawLemmas.{MeansOrFails, means_or_fails}
use Rattle.gptp_network.proofs.MeantLemmas.{meant_document, meant_well}
use Rattle.gptp_certificate_text.specs.declared.certificate.TheConstants.{CERTIFICATE_LIMIT}
use Rattle.gptp_certificate_text.specs.Certificate.{CertificateContent}
use Rattle.gptp_certificate_text.specs.Faults as certificates
use Rattle.gptp_certificate_text.specs.declared.fault.CertificateFault.{CertificateFault}
use Rattle.gptp_certificate_text.specs.declared.fault.CertificateFault.TheVariants.{Line}
use Rattle.gptp_certificate_text.proofs.EveryLemmas.{IsCertificates, IsFaulty, read_or_faulty}
use Rattle.gptp_checker.specs.declared.fault.Fault.{Fault}
use Rattle.gptp_checker.specs.Faults.{IsAccepted, IsFirstFault, check_fault_text}
use Rattle.gptp_checker.proofs.EveryLemmas.{accepted_or_faulty}
use Rattle.gptp_commands.specs.declared.failure.Status.TheVariants.{Done, Refused}
use Rattle.gptp_commands.specs.CheckText.{AnswersBoth, AnswersCertificate, CheckText, Judges, JudgesAt, RefusesCertificate, moment_of}
use Rattle.gptp_commands.specs.Documents.{RefusesFault, document_limit}
use Rattle.gptp_commands.specs.Every.{HasText, HaveText}
use Rattle.gptp_commands.proofs.EveryQuestionLemmas.{refused_so}

-- ---- a certificate

judged : (g : Snapshot) (c : CertificateContent)
    → IsAccepted c.version g c.lines ⊎ ((fault : Fault) × IsFirstFault c.version g c.lines fault)
    → HaveText (Judges g c)
judged g c (inl is) = (codes "accepted" ∷ [], Done, inl (is, record { shown = refl; status_is = refl }))
judged g c (inr (fault, first)) = (
  (codes "not accepted " ++ check_fault_text fault) ∷ [],
  Refused,
  inr (fault, first, record { shown = refl; status_is = refl }),
)

refused_certificate : (fault : CertificateFault) → HaveText (RefusesCertificate fault)
refused_certificate fault = (
  (codes "certificate refused " ++ certificates.certificate_fault_text fault) ∷ [],
  Refused,
  record { shown = refl; status_is = refl },
)

module _ (document : List ℕ) (d : DocumentState) (means : Means document d) (until : Option ℕ) where
  judged_at : (c : CertificateContent) → HaveText (JudgesAt d until c)
  judged_at c =
      let time = moment_of until d in
      let (g, stands) = snapshot_exists d time (meant_document document d means).0 in
      let well = meant_well document d time g means stands in
      let (output, status, judges) = judged g c (accepted_or_faulty c.version g c.lines well) in
      (output, status, (g, stands, well, judges))

  certificate_answered : (input : List ℕ) → IsCertificates input ⊎ IsFaulty input
      → HaveText (AnswersCertificate d until input)
  certificate_answered input (inl (version, lines, is, readable, of)) =
      let c : CertificateContent = record { version = version; lines = lines } in
      let (output, status, judges) = judged_at c in (output, status, inl (c, is, readable, of, judges))
  certificate_answered input (inr (fault, fails)) =
      let (output, status, refuses) = refused_certificate fault in (output, status, inr (fault, fails, refuses))

  certificate_by_size : (input : List ℕ) (fits : Bool)
      → HaveText (λ output status. MatchBool fits (AnswersCertificate d until input output status)
      (RefusesCertificate Line output status))
  certificate_by_size input true = certificate_answered input (read_or_faulty input)
  certificate_by_size input false = refused_certificate Line

-- ---- both inputs

module _ (until : Option ℕ) (certificate document : List ℕ) where
  both_answered : MeansOrFails document → HaveText (AnswersBoth until certificate document)
  both_answered (inl (d, means)) =
      let (output, status, answers) =
      certificate_by_size document d means until certificate (nat_le (length certificate) CERTIFICATE_LIMIT) in
      (output, status, inl (d, means, answers))
  both_answered (inr (fault, fails)) =
      let (output, status, refuses) = refused_so fault in (output, status, inr (fault, fails, refuses))

  both_by_size : (fits : Bool)
      → HaveText (λ output status. MatchBool fits (AnswersBoth until certificate document output status)
      (RefusesFault TooMany output status))
  both_by_size true = both_answered (means_or_fails document)
  both_by_size false = refused_so TooMany

  pub each_has_check : HasText (CheckText until certificate) document
  each_has_check = both_by_size (nat_le (length document) document_limit)
