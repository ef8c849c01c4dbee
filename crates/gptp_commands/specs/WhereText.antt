-- What `check --where` writes after what `check` writes: where a certificate that isn't accepted first fails
-- (profile).
use Rattle.std.specs.Prelude.{◌≡◌, ◌⊎◌, ◌+◌, ◌==◌, ℕ, List, [], ◌∷◌, ◌++◌, Option, codes, count_by, length, nat_le, take}
use Rattle.std.specs.Bool.{MatchBool}
use Rattle.std.specs.Fmt.{decimal}
use Rattle.gptp_graph.specs.Snapshot.{Snapshot}
use Rattle.gptp_network.specs.declared.fault.DocumentFault.{DocumentFault}
use Rattle.gptp_network.specs.Document.{DocumentState, Fails as FailsDocument, Means}
use Rattle.gptp_network.specs.Snapshot.{IsSnapshot}
use Rattle.gptp_vector.specs.declared.port.PortId.{PortId}
use Rattle.gptp_words.specs.Digits.{clock_text}
use Rattle.gptp_certificate_text.specs.declared.certificate.TheConstants.{CERTIFICATE_LIMIT}
use Rattle.gptp_certificate_text.specs.declared.fault.CertificateFault.{CertificateFault}
use Rattle.gptp_certificate_text.specs.Certificate.{CertificateContent, IsCertificate}
use Rattle.gptp_certificate_text.specs.CertificateText.{certificate_text}
use Rattle.gptp_certificate_text.specs.Entries.{IsReadable}
use Rattle.gptp_certificate_text.specs.Parsing.{FailsFrom}
use Rattle.gptp_checker.specs.declared.fault.Fault.{Fault}
use Rattle.gptp_checker.specs.declared.location.Location.{Location}
use Rattle.gptp_checker.specs.declared.location.Location.TheVariants.{System, Link, Port}
use Rattle.gptp_checker.specs.Faults.{IsAccepted, IsFirstFault}
use Rattle.gptp_checker.specs.Located.{IsLocation}
use Rattle.gptp_commands.specs.declared.failure.Status.{Status}
use Rattle.gptp_commands.specs.CheckText.{moment_of, CheckText}
use Rattle.gptp_commands.specs.Documents.{document_limit}

-- ---- the place of a fault

abbrev pub where_port_text : PortId → List ℕ
where_port_text p = clock_text p.clock ++ codes " " ++ decimal p.port

abbrev pub place_text : Location → List ℕ
place_text (System clock) = codes "system " ++ clock_text clock
place_text (Link own other) = codes "link " ++ where_port_text own ++ codes " " ++ where_port_text other
place_text (Port port) = codes "port " ++ where_port_text port

abbrev pub IsAt : List ℕ → List (List ℕ) → Type 0
IsAt place lines = lines ≡ (codes "at " ++ place) ∷ []

-- the first place at which the certificate fails the test of its fault, if it isn't accepted
abbrev pub LocatesFault : Snapshot → CertificateContent → List (List ℕ) → Type 0
LocatesFault g c lines =
    (IsAccepted c.version g c.lines × (lines ≡ []))
    ⊎ ((fault : Fault) × (place : Location) × IsFirstFault c.version g c.lines fault
    × IsLocation fault g c.lines place × IsAt (place_text place) lines)

-- ---- the line of a text

-- the line in which what comes after these octets begins, from 1
abbrev pub line_behind : List ℕ → ℕ
line_behind front = count_by (λ octet. octet == 10) front + 1

abbrev pub PlaceIsLine : ℕ → List (List ℕ) → Type 0
PlaceIsLine n lines = IsAt (codes "line " ++ decimal n) lines

-- this part, which the text ends with, begins in that line
abbrev pub BeginsInLine : List ℕ → List ℕ → ℕ → Type 0
BeginsInLine text part n = (front : List ℕ) × (text ≡ front ++ part) × (n ≡ line_behind front)

-- the line that fails, of a text that is no certificate
abbrev pub LocatesLine : List ℕ → List (List ℕ) → Type 0
LocatesLine input lines = (fault : CertificateFault) × (part : List ℕ) × (n : ℕ) × FailsFrom input fault part
    × BeginsInLine input part n × PlaceIsLine n lines

-- past the size it is the line of the first octet past it
abbrev pub LocatesEnd : List ℕ → List (List ℕ) → Type 0
LocatesEnd input lines = PlaceIsLine (line_behind (take CERTIFICATE_LIMIT input)) lines

-- ---- both inputs

abbrev pub LocatesAt : DocumentState → Option ℕ → CertificateContent → List (List ℕ) → Type 0
LocatesAt d until c lines = (g : Snapshot) × IsSnapshot d (moment_of until d) g × LocatesFault g c lines

abbrev pub LocatesCertificate : DocumentState → Option ℕ → List ℕ → List (List ℕ) → Type 0
LocatesCertificate d until input lines =
    ((c : CertificateContent) × (input ≡ certificate_text c.version c.lines) × IsReadable c.version c.lines
    × IsCertificate c.version c.lines × LocatesAt d until c lines)
    ⊎ LocatesLine input lines

-- within its size, and past it
abbrev pub LocatesLimited : DocumentState → Option ℕ → List ℕ → List (List ℕ) → Type 0
LocatesLimited d until input lines =
    MatchBool (nat_le (length input) CERTIFICATE_LIMIT) (LocatesCertificate d until input lines)
    (LocatesEnd input lines)

-- nothing is located where the document is refused
abbrev pub LocatesDocument : Option ℕ → List ℕ → List ℕ → List (List ℕ) → Type 0
LocatesDocument until certificate document lines =
    ((d : DocumentState) × Means document d × LocatesLimited d until certificate lines)
    ⊎ ((fault : DocumentFault) × FailsDocument document fault × (lines ≡ []))

abbrev pub LocatesBoth : Option ℕ → List ℕ → List ℕ → List (List ℕ) → Type 0
LocatesBoth until certificate document lines =
    MatchBool (nat_le (length document) document_limit) (LocatesDocument until certificate document lines) (lines ≡ [])

-- the lines of `check`, and after them the place
abbrev pub WhereText : Option ℕ → List ℕ → List ℕ → List (List ℕ) → Status → Type 0
WhereText until certificate document output status =
    (said places : List (List ℕ)) × CheckText until certificate document said status
    × LocatesBoth until certificate document places × (output ≡ said ++ places)
