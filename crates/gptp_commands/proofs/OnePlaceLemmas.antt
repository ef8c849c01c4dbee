-- A document and a certificate have one place and one status of a check, with where it fails.
use Rattle.std.proofs.Common.{◌≡◌, ℕ, Bool, true, false, nat_le, List, [], ◌∷◌, ◌++◌, length, Option, codes, sym, ap, subst, ◌∙◌, inl, inr}
use Rattle.std.specs.Bool.{MatchBool}
use Rattle.std.specs.Fmt.{decimal}
use Rattle.std.proofs.lemmas.List.{append_cancel_right}
use Rattle.gptp_graph.specs.Labelling.{line_clocks}
use Rattle.gptp_graph.specs.Order.{IsRising}
use Rattle.gptp_graph.specs.Snapshot.{IsWellFormed, Snapshot}
use Rattle.gptp_network.specs.Document.{DocumentState, Fails as FailsDocument, Means}
use Rattle.gptp_network.specs.declared.fault.DocumentFault.{DocumentFault}
use Rattle.gptp_network.specs.declared.fault.DocumentFault.TheVariants.{TooMany}
use Rattle.gptp_network.proofs.LawLemmas as network_laws
use Rattle.gptp_certificate_text.specs.declared.certificate.TheConstants.{CERTIFICATE_LIMIT}
use Rattle.gptp_certificate_text.specs.Certificate.{CertificateContent, IsCertificate}
use Rattle.gptp_certificate_text.specs.CertificateText.{certificate_text}
use Rattle.gptp_certificate_text.specs.Entries.{IsReadable}
use Rattle.gptp_certificate_text.specs.Parsing.{FailsToParse}
use Rattle.gptp_certificate_text.specs.declared.fault.CertificateFault.{CertificateFault}
use Rattle.gptp_certificate_text.specs.declared.fault.CertificateFault.TheVariants.{Line}
use Rattle.gptp_certificate_text.proofs.LawLemmas as certificate_laws
use Rattle.gptp_checker.specs.Located.{IsLocation}
use Rattle.gptp_checker.specs.declared.fault.Fault.{Fault}
use Rattle.gptp_checker.specs.declared.location.Location.{Location}
use Rattle.gptp_checker.proofs.LawLemmas as checker_laws
use Rattle.gptp_checker.proofs.OneLocationLemmas.{one_location}
use Rattle.gptp_commands.specs.declared.failure.Status.{Status}
use Rattle.gptp_commands.specs.CheckText.{AnswersBoth, AnswersCertificate, JudgesAt, RefusesCertificate, moment_of}
use Rattle.gptp_commands.specs.Documents.{document_limit, RefusesFault}
use Rattle.gptp_commands.specs.WhereText.{LocatesAt, LocatesCertificate, LocatesDocument, LocatesEnd, LocatesFault, LocatesLimited, LocatesLine, WhereText, line_behind, place_text}
use Rattle.gptp_commands.proofs.VerdictLemmas.{AreSame, one_check, same_content}

-- ---- the place of a fault

-- a certificate has one place for a network
one_fault_place : (g : Snapshot) (c : CertificateContent) (xs ys : List (List ℕ)) → IsWellFormed g
    → IsRising (line_clocks c.lines) → LocatesFault g c xs → LocatesFault g c ys → xs ≡ ys
one_fault_place g c xs ys wf rising (inl (_, e)) (inl (_, f)) = e ∙ sym f
one_fault_place g c xs ys wf rising (inl (is, _)) (inr (fault, place, first, _, _)) =
    absurd (checker_laws.settled_has_none c.version g c.lines fault wf is first)
one_fault_place g c xs ys wf rising (inr (fault, place, first, _, _)) (inl (is, _)) =
    absurd (checker_laws.settled_has_none c.version g c.lines fault wf is first)
one_fault_place g c xs ys wf rising (inr (fault, place, first, at, e)) (inr (other, there, also, in_it, f)) =
    let faults : other ≡ fault = checker_laws.one_fault c.version g c.lines other fault also first in
    let places : place ≡ there = one_location fault g c.lines place there wf rising at
    (subst (λ (x : Fault). IsLocation x g c.lines there) faults in_it) in
    e ∙ ap (λ (x : Location). (codes "at " ++ place_text x) ∷ []) places ∙ sym f

-- and for a document, whose network at the time is well-formed where the certificate is judged
one_moment_place : (d : DocumentState) (until : Option ℕ) (c : CertificateContent) (said xs ys : List (List ℕ))
    (s : Status) → IsRising (line_clocks c.lines) → JudgesAt d until c said s → LocatesAt d until c xs
    → LocatesAt d until c ys → xs ≡ ys
one_moment_place d until c said xs ys s rising (g, g-is, wf, _) (h, h-is, x) (k, k-is, y) =
    let So : List (List ℕ) → Snapshot → Type 0 = λ lines snapshot. LocatesFault snapshot c lines in
    one_fault_place g c xs ys wf rising
    (subst (So xs) (network_laws.one_snapshot d (moment_of until d) h g h-is g-is) x)
    (subst (So ys) (network_laws.one_snapshot d (moment_of until d) k g k-is g-is) y)

-- ---- the line of a text

one_line_place : (input : List ℕ) (xs ys : List (List ℕ)) → LocatesLine input xs → LocatesLine input ys → xs ≡ ys
one_line_place input xs ys (f, p, m, fails, (front, split, m-is), x) (g, q, n, also, (other, cut, n-is), y) =
    let parts : q ≡ p = certificate_laws.one_part input g f q p also fails in
    let fronts : front ≡ other =
    append_cancel_right front other p (sym split ∙ cut ∙ ap (λ (part : List ℕ). other ++ part) parts) in
    let numbers : m ≡ n = m-is ∙ ap line_behind fronts ∙ sym n-is in
    x ∙ ap (λ (number : ℕ). (codes "at " ++ (codes "line " ++ decimal number)) ∷ []) numbers ∙ sym y

-- ---- both inputs

-- what is located of the text of a certificate is so at its content
at_content : (d : DocumentState) (until : Option ℕ) (input : List ℕ) (c : CertificateContent) (lines : List (List ℕ))
    → input ≡ certificate_text c.version c.lines → IsReadable c.version c.lines → IsCertificate c.version c.lines
    → LocatesCertificate d until input lines → LocatesAt d until c lines
at_content d until input c lines c-is c-read c-of (inl (e, e-is, e-read, e-of, x)) =
    let same = same_content e c (certificate_laws.one_certificate e.version c.version e.lines c.lines e-of.is_version
    c-of.is_version e-read c-read (sym e-is ∙ c-is)) in
    subst (λ (k : CertificateContent). LocatesAt d until k lines) same x
at_content d until input c lines c-is c-read c-of (inr (fault, part, n, fails, _, _)) =
    absurd (certificate_laws.no_certificate input fault c.version c.lines
    (certificate_laws.fails_somewhere input fault part fails) c-of c-read c-is)

-- and of one that fails at its line
at_line : (d : DocumentState) (until : Option ℕ) (input : List ℕ) (fault : CertificateFault) (lines : List (List ℕ))
    → FailsToParse input fault → LocatesCertificate d until input lines → LocatesLine input lines
at_line d until input fault lines fails (inl (c, c-is, c-read, c-of, _)) =
    absurd (certificate_laws.no_certificate input fault c.version c.lines fails c-of c-read c-is)
at_line d until input fault lines fails (inr located) = located

one_certificate_place : (d : DocumentState) (until : Option ℕ) (input : List ℕ) (said xs ys : List (List ℕ))
    (s : Status) → AnswersCertificate d until input said s → LocatesCertificate d until input xs
    → LocatesCertificate d until input ys → xs ≡ ys
one_certificate_place d until input said xs ys s (inl (c, is, readable, of, judged)) x y =
    one_moment_place d until c said xs ys s of.order.clocks judged (at_content d until input c xs is readable of x)
    (at_content d until input c ys is readable of y)
one_certificate_place d until input said xs ys s (inr (fault, fails, _)) x y =
    one_line_place input xs ys (at_line d until input fault xs fails x) (at_line d until input fault ys fails y)

-- within its size, and past it
certificate_by_size : (d : DocumentState) (until : Option ℕ) (input : List ℕ) (said xs ys : List (List ℕ)) (s : Status)
    (fits : Bool) → MatchBool fits (AnswersCertificate d until input said s) (RefusesCertificate Line said s)
    → MatchBool fits (LocatesCertificate d until input xs) (LocatesEnd input xs)
    → MatchBool fits (LocatesCertificate d until input ys) (LocatesEnd input ys) → xs ≡ ys
certificate_by_size d until input said xs ys s true k x y = one_certificate_place d until input said xs ys s k x y
certificate_by_size d until input said xs ys s false k x y = x ∙ sym y

-- what is located is so for the document of the text
of_document : (until : Option ℕ) (certificate document : List ℕ) (d : DocumentState) (lines : List (List ℕ))
    → Means document d → LocatesDocument until certificate document lines → LocatesLimited d until certificate lines
of_document until certificate document d lines means (inl (e, e-means, x)) =
    subst (λ (k : DocumentState). LocatesLimited k until certificate lines)
    (network_laws.one_meaning document e d e-means means) x
of_document until certificate document d lines means (inr (fault, fails, _)) =
    absurd (network_laws.never_both document d fault means fails)

-- and nothing where that is refused
of_refused : (until : Option ℕ) (certificate document : List ℕ) (fault : DocumentFault) (lines : List (List ℕ))
    → FailsDocument document fault → LocatesDocument until certificate document lines → lines ≡ []
of_refused until certificate document fault lines fails (inl (d, means, _)) =
    absurd (network_laws.never_both document d fault means fails)
of_refused until certificate document fault lines fails (inr (_, _, none)) = none

one_document_place : (until : Option ℕ) (certificate document : List ℕ) (said xs ys : List (List ℕ)) (s : Status)
    → AnswersBoth until certificate document said s → LocatesDocument until certificate document xs
    → LocatesDocument until certificate document ys → xs ≡ ys
one_document_place until certificate document said xs ys s (inl (d, means, k)) x y =
    certificate_by_size d until certificate said xs ys s (nat_le (length certificate) CERTIFICATE_LIMIT) k
    (of_document until certificate document d xs means x) (of_document until certificate document d ys means y)
one_document_place until certificate document said xs ys s (inr (fault, fails, _)) x y =
    of_refused until certificate document fault xs fails x
    ∙ sym (of_refused until certificate document fault ys fails y)

by_size : (until : Option ℕ) (certificate document : List ℕ) (said xs ys : List (List ℕ)) (s : Status) (fits : Bool)
    → MatchBool fits (AnswersBoth until certificate document said s) (RefusesFault TooMany said s)
    → MatchBool fits (LocatesDocument until certificate document xs) (xs ≡ [])
    → MatchBool fits (LocatesDocument until certificate document ys) (ys ≡ []) → xs ≡ ys
by_size until certificate document said xs ys s true k x y =
    one_document_place until certificate document said xs ys s k x y
by_size until certificate document said xs ys s false k x y = x ∙ sym y

-- both inputs have one text with the place, and one status
pub one_place : (until : Option ℕ) (certificate document : List ℕ) (a b : List (List ℕ)) (s t : Status)
    → WhereText until certificate document a s → WhereText until certificate document b t → AreSame a s b t
one_place until certificate document a b s t (said, xs, shows, x, e) (also, ys, tells, y, f) =
    let (same, status) = one_check until certificate document said also s t shows tells in
    let places : xs ≡ ys =
    by_size until certificate document said xs ys s (nat_le (length document) document_limit) shows x y in (
      e ∙ ap (λ (lines : List (List ℕ)). lines ++ xs) same ∙ ap (λ (lines : List (List ℕ)). also ++ lines) places
          ∙ sym f,
      status,
    )
