-- Each document and certificate have a text of `check` with the place at which the certificate fails.
use Rattle.std.proofs.Common.{◌≡◌, ◌⊎◌, ℕ, Bool, true, false, nat_le, List, [], ◌∷◌, ◌++◌, length, take, Option, codes, refl, inl, inr}
use Rattle.std.specs.Bool.{MatchBool}
use Rattle.std.specs.Fmt.{decimal}
use Rattle.gptp_graph.specs.Snapshot.{IsWellFormed, Snapshot}
use Rattle.gptp_network.specs.Document.{DocumentState, Means}
use Rattle.gptp_network.specs.Snapshot.{IsSnapshot}
use Rattle.gptp_network.proofs.ExistenceLemmas.{snapshot_exists}
use Rattle.gptp_network.proofs.LawLemmas.{MeansOrFails, means_or_fails}
use Rattle.gptp_network.proofs.MeantLemmas.{meant_document, meant_well}
use Rattle.gptp_certificate_text.specs.declared.certificate.TheConstants.{CERTIFICATE_LIMIT}
use Rattle.gptp_certificate_text.specs.Certificate.{CertificateContent, IsCertificate}
use Rattle.gptp_certificate_text.specs.declared.fault.CertificateFault.{CertificateFault}
use Rattle.gptp_certificate_text.specs.Parsing.{FailsToParse}
use Rattle.gptp_certificate_text.proofs.EveryLemmas.{IsCertificates, IsFaulty, part_exists, read_or_faulty}
use Rattle.gptp_certificate_text.proofs.ReadingLemmas.{ends_with_part}
use Rattle.gptp_checker.specs.declared.fault.Fault.{Fault}
use Rattle.gptp_checker.specs.Faults.{IsAccepted, IsFirstFault}
use Rattle.gptp_checker.proofs.EveryLemmas.{accepted_or_faulty}
use Rattle.gptp_checker.proofs.PlacedLemmas.{place_exists}
use Rattle.gptp_commands.specs.CheckText.{moment_of}
use Rattle.gptp_commands.specs.Documents.{document_limit}
use Rattle.gptp_commands.specs.Every.{HasText}
use Rattle.gptp_commands.specs.WhereText.{LocatesAt, LocatesCertificate, LocatesDocument, LocatesEnd, LocatesFault, LocatesLine, WhereText, line_behind, place_text}
use Rattle.gptp_commands.proofs.EveryCheckLemmas.{each_has_check}

-- some lines are so
abbrev HaveLines : (List (List ℕ) → Type 0) → Type 0
HaveLines Are = (lines : List (List ℕ)) × Are lines

-- ---- the place of a fault

located : (g : Snapshot) (c : CertificateContent) → IsWellFormed g → IsCertificate c.version c.lines
    → (d : DocumentState) (at : ℕ) → IsSnapshot d at g
    → IsAccepted c.version g c.lines ⊎ ((fault : Fault) × IsFirstFault c.version g c.lines fault)
    → HaveLines (LocatesFault g c)
located g c well of d at stands (inl is) = ([], inl (is, refl))
located g c well of d at stands (inr (fault, first)) =
    let (place, is) = place_exists c.version g c.lines well stands.rising of fault first in
    ((codes "at " ++ place_text place) ∷ [], inr (fault, place, first, is, refl))

module _ (document : List ℕ) (d : DocumentState) (means : Means document d) (until : Option ℕ) where
  located_at : (c : CertificateContent) → IsCertificate c.version c.lines → HaveLines (LocatesAt d until c)
  located_at c of =
      let time = moment_of until d in
      let (g, stands) = snapshot_exists d time (meant_document document d means).0 in
      let well = meant_well document d time g means stands in
      let (lines, are) =
      located g c well of d time stands (accepted_or_faulty c.version g c.lines well) in
      (lines, (g, stands, are))

  -- ---- the line of a text

  line_located : (input : List ℕ) (fault : CertificateFault) → FailsToParse input fault → HaveLines (LocatesLine input)
  line_located input fault fails =
      let (part, from) = part_exists input fault fails in
      let (front, split) = ends_with_part input part fault from in (
        (codes "at " ++ (codes "line " ++ decimal (line_behind front))) ∷ [],
        (fault, part, line_behind front, from, (front, split, refl), refl),
      )

  certificate_located : (input : List ℕ) → IsCertificates input ⊎ IsFaulty input
      → HaveLines (LocatesCertificate d until input)
  certificate_located input (inl (version, lines, is, readable, of)) =
      let c : CertificateContent = record { version = version; lines = lines } in
      let (places, are) = located_at c of in (places, inl (c, is, readable, of, are))
  certificate_located input (inr (fault, fails)) =
      let (lines, are) = line_located input fault fails in (lines, inr are)

  limited_located : (input : List ℕ) (fits : Bool)
      → HaveLines (λ lines. MatchBool fits (LocatesCertificate d until input lines) (LocatesEnd input lines))
  limited_located input true = certificate_located input (read_or_faulty input)
  limited_located input false =
      ((codes "at " ++ (codes "line " ++ decimal (line_behind (take CERTIFICATE_LIMIT input)))) ∷ [], refl)

-- ---- both inputs

module _ (until : Option ℕ) (certificate document : List ℕ) where
  document_located : MeansOrFails document → HaveLines (LocatesDocument until certificate document)
  document_located (inl (d, means)) =
      let (lines, are) =
      limited_located document d means until certificate (nat_le (length certificate) CERTIFICATE_LIMIT) in
      (lines, inl (d, means, are))
  document_located (inr (fault, fails)) = ([], inr (fault, fails, refl))

  both_located : (fits : Bool)
      → HaveLines (λ lines. MatchBool fits (LocatesDocument until certificate document lines) (lines ≡ []))
  both_located true = document_located (means_or_fails document)
  both_located false = ([], refl)

  pub each_has_place : HasText (WhereText until certificate) document
  each_has_place =
      let (said, status, shows) = each_has_check until certificate document in
      let (places, are) = both_located (nat_le (length document) document_limit) in
      (said ++ places, status, (said, places, shows, are, refl))
