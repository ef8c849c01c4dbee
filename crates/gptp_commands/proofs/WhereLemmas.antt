-- What `check --where` writes for both inputs as they were read is written for all there is of them.
use Rattle.std.proofs.Common.{◌≡◌, ◌<◌, ℕ, Bool, true, false, List, [], ◌++◌, length, take, Option, Some, None, inl, inr, refl, sym, ap, ap₂, subst, ◌∙◌, arith}
use Rattle.std.proofs.lemmas.Bool.{lt-leb}
use Rattle.std.proofs.lemmas.List.{take-append-le}
use Rattle.std.specs.Prelude.{nat_le}
use Rattle.std.specs.Bool.{MatchBool}
use Rattle.gptp_network.specs.Document.{DocumentState}
use Rattle.gptp_world.proofs.FollowLemmas.{text_append}
use Rattle.gptp_words.specs.Lines.{text_of}
use Rattle.gptp_certificate_text.specs.declared.certificate.TheConstants.{CERTIFICATE_LIMIT}
use Rattle.gptp_commands.specs.declared.failure.Status.{Status}
use Rattle.gptp_commands.specs.CheckText.{CheckText}
use Rattle.gptp_commands.specs.Documents.{document_limit}
use Rattle.gptp_commands.specs.Source.{ReadsWhole}
use Rattle.gptp_commands.specs.WhereText.{PlaceIsLine, LocatesBoth, LocatesCertificate, LocatesDocument, LocatesEnd, LocatesLimited, WhereText, line_behind}
use Rattle.gptp_commands.proofs.CheckLemmas.{same_check}
use Rattle.gptp_commands.proofs.LimitedLemmas.{same_size}

-- the octet past the size is in the line in which it is in the front
same_end : (all octets rest : List ℕ) (lines : List (List ℕ)) → all ≡ octets ++ rest
    → CERTIFICATE_LIMIT < length octets → LocatesEnd octets lines → LocatesEnd all lines
same_end all octets rest lines split long at =
    let front : take CERTIFICATE_LIMIT octets ≡ take CERTIFICATE_LIMIT all =
    sym (take-append-le CERTIFICATE_LIMIT octets rest (omega arith)) ∙ ap (take CERTIFICATE_LIMIT) (sym split) in
    subst (λ xs. PlaceIsLine (line_behind xs) lines) front at

-- with the certificate as it was read
same_certificate : (d : DocumentState) (until : Option ℕ) (all : List ℕ) (known : Option (List ℕ)) (octets : List ℕ)
    (lines : List (List ℕ)) → ReadsWhole CERTIFICATE_LIMIT (Some all) known octets
    → LocatesLimited d until octets lines → LocatesLimited d until all lines
same_certificate d until all None octets lines reads located = absurd reads.taken
same_certificate d until all (Some rest) octets lines reads located =
    same_size CERTIFICATE_LIMIT (λ xs. LocatesCertificate d until xs lines) (λ xs. LocatesEnd xs lines) all octets rest
    reads.taken reads.whole (same_end all octets rest lines reads.taken) located

same_document : (until : Option ℕ) (all : List ℕ) (known : Option (List ℕ)) (octets document : List ℕ)
    (lines : List (List ℕ)) → ReadsWhole CERTIFICATE_LIMIT (Some all) known octets
    → LocatesDocument until octets document lines → LocatesDocument until all document lines
same_document until all known octets document lines reads (inl (d, means, located)) =
    inl (d, means, same_certificate d until all known octets lines reads located)
same_document until all known octets document lines reads (inr refused) = inr refused

-- and with the document
same_places : (until : Option ℕ) (all input : List ℕ) (known rest : Option (List ℕ)) (octets document : List ℕ)
    (lines : List (List ℕ)) → ReadsWhole CERTIFICATE_LIMIT (Some all) known octets
    → ReadsWhole document_limit (Some input) rest document → LocatesBoth until octets document lines
    → LocatesBoth until all input lines
same_places until all input known None octets document lines reads_certificate reads_document located =
    absurd reads_document.taken
same_places until all input known (Some rest) octets document lines reads_certificate reads_document located =
    same_size document_limit (λ xs. LocatesDocument until all xs lines) (λ xs. lines ≡ []) input document rest
    reads_document.taken reads_document.whole (λ long none. none)
    (weaker (nat_le (length document) document_limit) located)
  where
    weaker : (fits : Bool) → MatchBool fits (LocatesDocument until octets document lines) (lines ≡ [])
        → MatchBool fits (LocatesDocument until all document lines) (lines ≡ [])
    weaker true within = same_document until all known octets document lines reads_certificate within
    weaker false none = none

-- so is the text
pub same_where : (until : Option ℕ) (all input : List ℕ) (known rest : Option (List ℕ)) (octets document : List ℕ)
    (output : List (List ℕ)) (status : Status) → ReadsWhole CERTIFICATE_LIMIT (Some all) known octets
    → ReadsWhole document_limit (Some input) rest document → WhereText until octets document output status
    → WhereText until all input output status
same_where until all input known rest octets document output status reads_certificate reads_document
    (said, places, shows, located, both) = (
      said,
      places,
      same_check until all input known rest octets document said status reads_certificate reads_document shows,
      same_places until all input known rest octets document places reads_certificate reads_document located,
      both,
    )

-- the text with the place after it
pub with_place : (until : Option ℕ) (certificate document old place new : List ℕ) (status : Status)
    → (said : List (List ℕ)) × CheckText until certificate document said status × (old ≡ text_of said)
    → (places : List (List ℕ)) × LocatesBoth until certificate document places × (place ≡ text_of places)
    → new ≡ old ++ place
    → (output : List (List ℕ)) × WhereText until certificate document output status × (new ≡ text_of output)
with_place until certificate document old place new status (said, shows, is_old) (places, located, is_place) is_new = (
  said ++ places,
  (said, places, shows, located, refl),
  is_new ∙ ap₂ ◌++◌ is_old is_place ∙ sym (text_append said places),
)

-- past the size the place is the line of the end
pub located_end : (d : DocumentState) (until : Option ℕ) (input : List ℕ) (lines : List (List ℕ))
    → CERTIFICATE_LIMIT < length input → LocatesEnd input lines → LocatesLimited d until input lines
located_end d until input lines long at =
    subst (λ fits. MatchBool fits (LocatesCertificate d until input lines) (LocatesEnd input lines))
    (sym (lt-leb (length input) CERTIFICATE_LIMIT long)) at

-- what is written for the same octets
pub of_same : (until : Option ℕ) (status : Status) (text certificate document : List ℕ) (octets input : List ℕ)
    → octets ≡ certificate → input ≡ document
    → (output : List (List ℕ)) × WhereText until octets input output status × (text ≡ text_of output)
    → (output : List (List ℕ)) × WhereText until certificate document output status × (text ≡ text_of output)
of_same until status text certificate document octets input e f h =
    subst (λ (xs : List ℕ).
    (output : List (List ℕ)) × WhereText until certificate xs output status × (text ≡ text_of output)) f
    (subst (λ (xs : List ℕ).
    (output : List (List ℕ)) × WhereText until xs input output status × (text ≡ text_of output)) e h)
