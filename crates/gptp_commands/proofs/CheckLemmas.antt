-- What is written for a document and a certificate as they were read is written for all there is of both.
use Rattle.std.proofs.Common.{◌≡◌, ℕ, List, Option, Some, None, subst, inl, inr}
use Rattle.std.specs.Prelude.{IfSome}
use Rattle.gptp_certificate_text.specs.declared.certificate.TheConstants.{CERTIFICATE_LIMIT}
use Rattle.gptp_certificate_text.specs.declared.fault.CertificateFault.TheVariants.{Line}
use Rattle.gptp_network.specs.declared.fault.DocumentFault.TheVariants.{TooMany}
use Rattle.gptp_words.specs.Lines.{text_of}
use Rattle.gptp_commands.specs.declared.failure.Status.{Status}
use Rattle.gptp_commands.specs.CheckText.{AnswersBoth, AnswersCertificate, CheckText, RefusesCertificate}
use Rattle.gptp_commands.specs.Documents.{document_limit, RefusesFault}
use Rattle.gptp_commands.specs.Source.{ReadsWhole}
use Rattle.gptp_commands.proofs.LimitedLemmas.{limited_weaker, same_text}

-- the answer to a document, with the certificate as it was read, is that with all there is of it
same_answer : (until : Option ℕ) (all : List ℕ) (known : Option (List ℕ)) (octets document : List ℕ)
    (output : List (List ℕ)) (status : Status) → ReadsWhole CERTIFICATE_LIMIT (Some all) known octets
    → AnswersBoth until octets document output status → AnswersBoth until all document output status
same_answer until all known octets document output status reads (inl (d, means, limited)) =
    inl (
      d,
      means,
      same_text CERTIFICATE_LIMIT (AnswersCertificate d until) (RefusesCertificate Line) (Some all) known
          octets reads output status limited,
    )
same_answer until all known octets document output status reads (inr refused) = inr refused

-- so is the text for both inputs
pub same_check : (until : Option ℕ) (all input : List ℕ) (known rest : Option (List ℕ)) (octets document : List ℕ)
    (output : List (List ℕ)) (status : Status) → ReadsWhole CERTIFICATE_LIMIT (Some all) known octets
    → ReadsWhole document_limit (Some input) rest document → CheckText until octets document output status
    → CheckText until all input output status
same_check until all input known rest octets document output status reads_certificate reads_document text =
    same_text document_limit (AnswersBoth until all) (RefusesFault TooMany) (Some input) rest document reads_document
    output status
    (limited_weaker document_limit (AnswersBoth until octets) (AnswersBoth until all) (RefusesFault TooMany) document
    output status (same_answer until all known octets document output status reads_certificate) text)

-- a text for what was read that is one for all there is: what holds of the one holds of the other
pub both_hold : (Text : List ℕ → List ℕ → List (List ℕ) → Status → Type 0)
    → ((all input : List ℕ) (known rest : Option (List ℕ)) (octets document : List ℕ) (output : List (List ℕ))
    (status : Status) → ReadsWhole CERTIFICATE_LIMIT (Some all) known octets
    → ReadsWhole document_limit (Some input) rest document → Text octets document output status
    → Text all input output status)
    → (left rest behind after : Option (List ℕ)) (document certificate text : List ℕ) (status : Status)
    (Q : List ℕ → Type 0) → ReadsWhole document_limit left rest document
    → ReadsWhole CERTIFICATE_LIMIT behind after certificate
    → (output : List (List ℕ)) × Text certificate document output status × (text ≡ text_of output) → Q text
    → IfSome behind (λ octets. IfSome left (λ input.
    (output : List (List ℕ)) × Text octets input output status × Q (text_of output)))
both_hold Text same left rest None after document certificate text status Q reads_document reads_certificate shown
    holds = tt
both_hold Text same None rest (Some all) after document certificate text status Q reads_document reads_certificate shown
    holds = tt
both_hold Text same (Some input) rest (Some all) after document certificate text status Q reads_document
    reads_certificate (output, shows, is) holds = (
      output,
      same all input after rest certificate document output status reads_certificate reads_document shows,
      subst Q is holds,
    )
