-- What `check` writes for a document and a certificate, and its status (profile).
use Rattle.std.specs.Prelude.{◌≡◌, ◌⊎◌, ℕ, List, [], ◌∷◌, ◌++◌, Option, codes, unwrap_or}
use Rattle.gptp_graph.specs.Snapshot.{IsWellFormed, Snapshot}
use Rattle.gptp_network.specs.declared.fault.DocumentFault.{DocumentFault}
use Rattle.gptp_network.specs.declared.fault.DocumentFault.TheVariants.{TooMany}
use Rattle.gptp_network.specs.Document.{DocumentState, Fails as FailsDocument, Means}
use Rattle.gptp_network.specs.Snapshot.{IsSnapshot}
use Rattle.gptp_scenario.specs.Calm.{last_change}
use Rattle.gptp_certificate_text.specs.declared.certificate.TheConstants.{CERTIFICATE_LIMIT}
use Rattle.gptp_certificate_text.specs.declared.fault.CertificateFault.{CertificateFault}
use Rattle.gptp_certificate_text.specs.declared.fault.CertificateFault.TheVariants.{Line}
use Rattle.gptp_certificate_text.specs.Certificate.{CertificateContent, IsCertificate}
use Rattle.gptp_certificate_text.specs.Faults as certificates
use Rattle.gptp_certificate_text.specs.CertificateText.{certificate_text}
use Rattle.gptp_certificate_text.specs.Entries.{IsReadable}
use Rattle.gptp_certificate_text.specs.Parsing.{FailsToParse}
use Rattle.gptp_checker.specs.declared.fault.Fault.{Fault}
use Rattle.gptp_checker.specs.Faults.{IsAccepted, IsFirstFault, check_fault_text}
use Rattle.gptp_commands.specs.declared.failure.Status.{Status}
use Rattle.gptp_commands.specs.declared.failure.Status.TheVariants.{Done, Refused}
use Rattle.gptp_commands.specs.Limited.{Limited}
use Rattle.gptp_commands.specs.Documents.{document_limit, RefusesFault}

-- the time of the network that is meant: after all events, where none is asked for
abbrev pub moment_of : Option ℕ → DocumentState → ℕ
moment_of until d = unwrap_or until (last_change d.events)

-- the output is one line
pub record Says (line : List ℕ) (is : Status) (output : List (List ℕ)) (status : Status) : Type 0 where
  pub shown : output ≡ line ∷ []
  pub status_is : status ≡ is

-- the verdict on a certificate for a network
abbrev pub Judges : Snapshot → CertificateContent → List (List ℕ) → Status → Type 0
Judges g c output status =
    (IsAccepted c.version g c.lines × Says (codes "accepted") Done output status)
    ⊎ ((fault : Fault) × IsFirstFault c.version g c.lines fault
    × Says (codes "not accepted " ++ check_fault_text fault) Refused output status)

-- it is judged for the network as it stands at that time, which is well-formed as every document's is
abbrev pub JudgesAt : DocumentState → Option ℕ → CertificateContent → List (List ℕ) → Status → Type 0
JudgesAt d until c output status =
    (g : Snapshot) × IsSnapshot d (moment_of until d) g × IsWellFormed g × Judges g c output status

-- a certificate that is refused
abbrev pub RefusesCertificate : CertificateFault → List (List ℕ) → Status → Type 0
RefusesCertificate fault = Says (codes "certificate refused " ++ certificates.certificate_fault_text fault) Refused

-- a text is a certificate, which is judged, or fails a test
abbrev pub AnswersCertificate : DocumentState → Option ℕ → List ℕ → List (List ℕ) → Status → Type 0
AnswersCertificate d until input output status =
    ((c : CertificateContent) × (input ≡ certificate_text c.version c.lines) × IsReadable c.version c.lines
    × IsCertificate c.version c.lines × JudgesAt d until c output status)
    ⊎ ((fault : CertificateFault) × FailsToParse input fault × RefusesCertificate fault output status)

-- what is answered to a certificate within its size, for a text that is a document
abbrev pub AnswersBoth : Option ℕ → List ℕ → List ℕ → List (List ℕ) → Status → Type 0
AnswersBoth until certificate document output status =
    ((d : DocumentState) × Means document d
    × Limited CERTIFICATE_LIMIT (AnswersCertificate d until) (RefusesCertificate Line) certificate output status)
    ⊎ ((fault : DocumentFault) × FailsDocument document fault × RefusesFault fault output status)

abbrev pub CheckText : Option ℕ → List ℕ → List ℕ → List (List ℕ) → Status → Type 0
CheckText until certificate = Limited document_limit (AnswersBoth until certificate) (RefusesFault TooMany)
