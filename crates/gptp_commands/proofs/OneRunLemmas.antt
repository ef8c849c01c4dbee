-- An input has one text of its run, and one status, and what a run that stopped has of it is a front.
use Rattle.std.proofs.Common.{◌≡◌, ℕ, Bool, true, false, nat_le, List, [], ◌++◌, length, Option, sym, ap, subst, ◌∙◌, inl, inr, append_assoc, append-nil}
use Rattle.std.proofs.lemmas.Bool.{le-leb}
use Rattle.rand_pcg.specs.Lcg.{Lcg}
use Rattle.gptp_model.specs.Initial.{initial}
use Rattle.gptp_model.specs.World.{WorldState}
use Rattle.gptp_network.specs.Document.{DocumentState}
use Rattle.gptp_network.proofs.LawLemmas as network_laws
use Rattle.gptp_report.specs.Report.{Reports}
use Rattle.gptp_certificate_text.specs.CertificateText.{certificate_lines}
use Rattle.gptp_determinism.specs.Named.{AnswersOnce, IsNamed}
use Rattle.gptp_report.specs.Run.{LeadsSoFar}
use Rattle.gptp_determinism.proofs.LineLemmas.{reports_once, states_once}
use Rattle.gptp_determinism.proofs.MeantLemmas.{seeded_named}
use Rattle.gptp_determinism.proofs.RunLemmas.{leads_once, played_named}
use Rattle.gptp_determinism.proofs.SoFarLemmas.{leads_begin_so}
use Rattle.gptp_commands.specs.declared.failure.Status.{Status}
use Rattle.gptp_commands.specs.declared.run.RunOptions.{RunOptions}
use Rattle.gptp_commands.specs.Documents.{document_limit, AnswersSoFar}
use Rattle.gptp_commands.specs.RunText.{document_run, draws, generator, until_of, AnswersDocument, BeginsRun, CertifiesIf, LeadsDocument, PlaysDocument, ReportsRun, RunText, RunsDocument}
use Rattle.gptp_commands.proofs.OneAnswerLemmas.{one_answer}
use Rattle.gptp_commands.proofs.VerdictLemmas.{AreSame}

-- a generator gives one number
pub draws_once : AnswersOnce draws
draws_once bounds sent fate f g answer said k l =
    let e = k ∙ sym l in (ap (λ (x : Option ℕ × Lcg). x.0) e, ap (λ (x : Option ℕ × Lcg). x.1) e)

-- a document and options lead to one world, and one report with the lines of the frames before it
reports_run_once : (d : DocumentState) (options : RunOptions) (w v : WorldState) (xs ys : List (List ℕ))
    → IsNamed (initial d.network) → ReportsRun d options w xs → ReportsRun d options v ys → (w ≡ v) × (xs ≡ ys)
reports_run_once d options w v xs ys is k l =
    let until = until_of options d in
    let fate = generator options.seed in
    let (worlds, frames) = leads_once draws draws_once d until options.frames fate w v k.frames l.frames is k.leads
    l.leads in
    let named = played_named draws d until fate l.leads.told v is l.leads.plays in
    let reports = reports_once d until v k.report l.report named
    (subst (λ (x : WorldState). Reports d until x k.report) worlds k.reports) l.reports in (
      worlds,
      k.are ∙ ap (λ (lines : List (List ℕ)). lines ++ k.report) frames
          ∙ ap (λ (lines : List (List ℕ)). l.frames ++ lines) reports ∙ sym l.are,
    )

certifies_once : (asked : Bool) (w : WorldState) (xs ys : List (List ℕ)) → CertifiesIf asked w xs
    → CertifiesIf asked w ys → xs ≡ ys
certifies_once true w xs ys (stated, states, k) (others, says, l) =
    k ∙ ap (certificate_lines 2) (states_once w stated others states says) ∙ sym l
certifies_once false w xs ys k l = k ∙ sym l

plays_document_once : (d : DocumentState) (options : RunOptions) (a b : List (List ℕ)) (s t : Status)
    → IsNamed (initial d.network) → PlaysDocument d options a s → PlaysDocument d options b t → AreSame a s b t
plays_document_once d options a b s t is k l =
    let (worlds, reports) = reports_run_once d options k.world l.world k.report l.report is k.reports l.reports in
    let certificates = certifies_once options.certificate l.world k.certificate l.certificate
    (subst (λ (w : WorldState). CertifiesIf options.certificate w k.certificate) worlds k.certifies) l.certifies in (
      k.lines ∙ ap (λ (lines : List (List ℕ)). lines ++ k.certificate) reports
          ∙ ap (λ (lines : List (List ℕ)). l.report ++ lines) certificates ∙ sym l.lines,
      k.status_is ∙ sym l.status_is,
    )

pub one_run : (options : RunOptions) (input : List ℕ) (a b : List (List ℕ)) (s t : Status)
    → RunText options input a s → RunText options input b t → AreSame a s b t
one_run options input a b s t k l =
    one_answer (RunsDocument options) input (λ d x y u v means one other.
    plays_document_once (document_run options d) options x y u v (seeded_named input d options.seed means) one.0
    other.0) a b s t k l

-- ---- what a text begins with

-- the lines of the frames so far are the first of the text of the document
document_begins_so : (d : DocumentState) (options : RunOptions) (begun output : List (List ℕ)) (status : Status)
    → IsNamed (initial d.network)
    → LeadsSoFar draws d (until_of options d) options.frames (generator options.seed) begun
    → PlaysDocument d options output status → (rest : List (List ℕ)) × (output ≡ begun ++ rest)
document_begins_so d options begun output status is so k =
    let run = k.reports in
    let (rest, same) = leads_begin_so draws draws_once d (until_of options d) options.frames (generator options.seed)
    k.world begun run.frames is so run.leads in (
      (rest ++ run.report) ++ k.certificate,
      k.lines ∙ ap (λ (report : List (List ℕ)). report ++ k.certificate) run.are
          ∙ ap (λ (frames : List (List ℕ)). (frames ++ run.report) ++ k.certificate) same
          ∙ ap (λ (report : List (List ℕ)). report ++ k.certificate) (append_assoc begun rest run.report)
          ∙ append_assoc begun (rest ++ run.report) k.certificate,
    )

answer_begins_so : (options : RunOptions) (input : List ℕ) (begun output : List (List ℕ)) (status : Status)
    → AnswersSoFar (LeadsDocument options) input begun → AnswersDocument options input output status
    → (rest : List (List ℕ)) × (output ≡ begun ++ rest)
answer_begins_so options input begun output status (d, d-means, so) (inl (e, e-means, (k, _))) =
    let same = network_laws.one_meaning input e d e-means d-means in
    document_begins_so (document_run options d) options begun output status (seeded_named input d options.seed d-means)
    so (subst (λ (x : DocumentState). PlaysDocument (document_run options x) options output status) same k)
answer_begins_so options input begun output status (d, means, so) (inr (fault, fails, _)) =
    absurd (network_laws.never_both input d fault means fails)

-- whatever text an input has begins with what may have been begun
pub run_begins_so : (options : RunOptions) (input : List ℕ) (begun output : List (List ℕ)) (status : Status)
    → BeginsRun options input begun → RunText options input output status
    → (rest : List (List ℕ)) × (output ≡ begun ++ rest)
run_begins_so options input begun output status (inl none) text =
    (output, ap (λ (front : List (List ℕ)). front ++ output) (sym none))
run_begins_so options input begun output status (inr (inl (within, so))) text =
    let fits : nat_le (length input) document_limit ≡ true = le-leb (length input) document_limit within in
    answer_begins_so options input begun output status so (rw fits at text)
run_begins_so options input begun output status (inr (inr (s, whole))) text =
    ([], (one_run options input output begun status s text whole).0 ∙ sym (append-nil begun))
