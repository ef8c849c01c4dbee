-- A document and a certificate have one text and one status.
use Rattle.std.proofs.Common.{◌≡◌, ℕ, Bool, true, false, nat_le, List, [], ◌∷◌, ◌++◌, length, Option, codes, refl, sym, ap, subst, ◌∙◌, inl, inr}
use Rattle.std.specs.Bool.{MatchBool}
use Rattle.gptp_graph.specs.Labelling.{SystemLine}
use Rattle.gptp_graph.specs.Snapshot.{IsWellFormed, Snapshot}
use Rattle.gptp_network.specs.Document.{DocumentState}
use Rattle.gptp_network.specs.Faults as documents
use Rattle.gptp_network.specs.declared.fault.DocumentFault.{DocumentFault}
use Rattle.gptp_network.specs.declared.fault.DocumentFault.TheVariants.{TooMany}
use Rattle.gptp_network.proofs.LawLemmas as network_laws
use Rattle.gptp_certificate_text.specs.declared.certificate.TheConstants.{CERTIFICATE_LIMIT}
use Rattle.gptp_certificate_text.specs.Certificate.{CertificateContent}
use Rattle.gptp_certificate_text.specs.Faults as certificates
use Rattle.gptp_certificate_text.specs.declared.fault.CertificateFault.TheVariants.{Line}
use Rattle.gptp_certificate_text.proofs.LawLemmas as certificate_laws
use Rattle.gptp_checker.specs.Faults.{check_fault_text}
use Rattle.gptp_checker.proofs.LawLemmas as checker_laws
use Rattle.gptp_commands.specs.declared.failure.Status.{Status}
use Rattle.gptp_commands.specs.CheckText.{moment_of, AnswersBoth, AnswersCertificate, CheckText, Judges, JudgesAt, RefusesCertificate, Says}
use Rattle.gptp_commands.specs.Limited.{Limited}
use Rattle.gptp_commands.specs.Documents.{document_limit, RefusesFault}

-- one text and one status
abbrev pub AreSame : List (List ℕ) → Status → List (List ℕ) → Status → Type 0
AreSame a s b t = (a ≡ b) × (s ≡ t)

-- two outputs of one line are the same where the lines are
same_line : (line other : List ℕ) (is : Status) (a b : List (List ℕ)) (s t : Status) → line ≡ other
    → Says line is a s → Says other is b t → AreSame a s b t
same_line line other is a b s t e x y =
    (x.shown ∙ ap (λ said. said ∷ []) e ∙ sym y.shown, x.status_is ∙ sym y.status_is)

pub same_refusal : (f g : DocumentFault) (a b : List (List ℕ)) (s t : Status) → f ≡ g → RefusesFault f a s
    → RefusesFault g b t → AreSame a s b t
same_refusal f g a b s t e x y = (
  x.shown ∙ ap (λ fault. (codes "refused " ++ documents.fault_text fault) ∷ []) e ∙ sym y.shown,
  x.status_is ∙ sym y.status_is,
)

-- a certificate has one verdict for a network
one_verdict : (g : Snapshot) (c : CertificateContent) (a b : List (List ℕ)) (s t : Status) → IsWellFormed g
    → Judges g c a s → Judges g c b t → AreSame a s b t
one_verdict g c a b s t wf (inl (_, x)) (inl (_, y)) = same_line _ _ _ a b s t refl x y
one_verdict g c a b s t wf (inl (is, _)) (inr (fault, first, _)) =
    absurd (checker_laws.settled_has_none c.version g c.lines fault wf is first)
one_verdict g c a b s t wf (inr (fault, first, _)) (inl (is, _)) =
    absurd (checker_laws.settled_has_none c.version g c.lines fault wf is first)
one_verdict g c a b s t wf (inr (f, f-is, x)) (inr (h, h-is, y)) =
    same_line _ _ _ a b s t
    (ap (λ fault. codes "not accepted " ++ check_fault_text fault)
    (checker_laws.one_fault c.version g c.lines f h f-is h-is)) x y

-- and for a document, which has one network at the time
one_moment : (d : DocumentState) (until : Option ℕ) (c : CertificateContent) (a b : List (List ℕ)) (s t : Status)
    → JudgesAt d until c a s → JudgesAt d until c b t → AreSame a s b t
one_moment d until c a b s t (g, g-is, wf, x) (h, h-is, _, y) =
    let same = network_laws.one_snapshot d (moment_of until d) h g h-is g-is in
    one_verdict g c a b s t wf x (subst (λ k. Judges k c b t) same y)

abbrev content : ℕ → List SystemLine → CertificateContent
content version lines = record { version = version; lines = lines }

-- two certificates of one text are one
pub same_content : (c e : CertificateContent) → (c.version ≡ e.version) × (c.lines ≡ e.lines) → c ≡ e
same_content c e (version, lines) =
    ap (λ (v : ℕ). content v c.lines) version ∙ ap (λ (ls : List SystemLine). content e.version ls) lines

-- a text is one certificate, or has one fault
one_certificate : (d : DocumentState) (until : Option ℕ) (input : List ℕ) (a b : List (List ℕ)) (s t : Status)
    → AnswersCertificate d until input a s → AnswersCertificate d until input b t → AreSame a s b t
one_certificate d until input a b s t (inl (c, c-is, c-read, c-of, x)) (inl (e, e-is, e-read, e-of, y)) =
    let same = same_content e c (certificate_laws.one_certificate e.version c.version e.lines c.lines e-of.is_version
    c-of.is_version e-read c-read (sym e-is ∙ c-is)) in
    one_moment d until c a b s t x (subst (λ k. JudgesAt d until k b t) same y)
one_certificate d until input a b s t (inl (c, c-is, c-read, c-of, _)) (inr (fault, fails, _)) =
    absurd (certificate_laws.no_certificate input fault c.version c.lines fails c-of c-read c-is)
one_certificate d until input a b s t (inr (fault, fails, _)) (inl (e, e-is, e-read, e-of, _)) =
    absurd (certificate_laws.no_certificate input fault e.version e.lines fails e-of e-read e-is)
one_certificate d until input a b s t (inr (f, f-fails, x)) (inr (g, g-fails, y)) =
    same_line _ _ _ a b s t
    (ap (λ fault. codes "certificate refused " ++ certificates.certificate_fault_text fault)
    (certificate_laws.one_fault input f g f-fails g-fails)) x y

-- within its size, and past it
certificate_by_size : (d : DocumentState) (until : Option ℕ) (input : List ℕ) (a b : List (List ℕ)) (s t : Status)
    (fits : Bool) → MatchBool fits (AnswersCertificate d until input a s) (RefusesCertificate Line a s)
    → MatchBool fits (AnswersCertificate d until input b t) (RefusesCertificate Line b t) → AreSame a s b t
certificate_by_size d until input a b s t true x y = one_certificate d until input a b s t x y
certificate_by_size d until input a b s t false x y = same_line _ _ _ a b s t refl x y

-- a text means one document, or has one fault
one_document : (until : Option ℕ) (certificate document : List ℕ) (a b : List (List ℕ)) (s t : Status)
    → AnswersBoth until certificate document a s → AnswersBoth until certificate document b t → AreSame a s b t
one_document until certificate document a b s t (inl (d, d-means, x)) (inl (e, e-means, y)) =
    let same = network_laws.one_meaning document e d e-means d-means in
    let So : DocumentState → Type 0 =
    λ k. Limited CERTIFICATE_LIMIT (AnswersCertificate k until) (RefusesCertificate Line) certificate b t in
    certificate_by_size d until certificate a b s t (nat_le (length certificate) CERTIFICATE_LIMIT) x
    (subst So same y)
one_document until certificate document a b s t (inl (d, means, _)) (inr (fault, fails, _)) =
    absurd (network_laws.never_both document d fault means fails)
one_document until certificate document a b s t (inr (fault, fails, _)) (inl (d, means, _)) =
    absurd (network_laws.never_both document d fault means fails)
one_document until certificate document a b s t (inr (f, f-fails, x)) (inr (g, g-fails, y)) =
    same_refusal f g a b s t (network_laws.one_fault document f g f-fails g-fails) x y

by_size : (until : Option ℕ) (certificate document : List ℕ) (a b : List (List ℕ)) (s t : Status) (fits : Bool)
    → MatchBool fits (AnswersBoth until certificate document a s) (RefusesFault TooMany a s)
    → MatchBool fits (AnswersBoth until certificate document b t) (RefusesFault TooMany b t) → AreSame a s b t
by_size until certificate document a b s t true x y = one_document until certificate document a b s t x y
by_size until certificate document a b s t false x y = same_refusal TooMany TooMany a b s t refl x y

-- both inputs have one text and one status
pub one_check : (until : Option ℕ) (certificate document : List ℕ) (a b : List (List ℕ)) (s t : Status)
    → CheckText until certificate document a s → CheckText until certificate document b t → AreSame a s b t
one_check until certificate document a b s t x y =
    by_size until certificate document a b s t (nat_le (length document) document_limit) x y
