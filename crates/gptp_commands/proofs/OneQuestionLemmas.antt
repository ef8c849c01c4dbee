-- An input has one text of its choice, of its accuracy and of what is explained of it, and one status.
use Rattle.std.proofs.Common.{ℕ, List, Option, refl, sym, ap, subst, ◌∙◌, inl, inr}
use Rattle.gptp_graph.specs.SettledChoice.{IsSettledChoice}
use Rattle.gptp_network.specs.Document.{DocumentState, Means}
use Rattle.gptp_network.specs.declared.fault.DocumentFault.TheVariants.{NoSuchPort}
use Rattle.gptp_network.proofs.LawLemmas as network_laws
use Rattle.gptp_network.proofs.MeantLemmas.{meant_document}
use Rattle.gptp_certificate_text.specs.CertificateText.{certificate_lines}
use Rattle.gptp_checker.proofs.LawLemmas.{one_accepted}
use Rattle.gptp_explain.proofs.OneLemmas as explanations
use Rattle.gptp_accuracy.specs.declared.options.AccuracyOptions.{AccuracyOptions}
use Rattle.gptp_accuracy.proofs.OneLemmas as errors
use Rattle.gptp_commands.specs.declared.failure.Status.{Status}
use Rattle.gptp_commands.specs.declared.question.Question.TheVariants.{Accuracy, Choice, Explain}
use Rattle.gptp_commands.specs.AccuracyText.{TellsAccuracy}
use Rattle.gptp_commands.specs.CheckText.{moment_of}
use Rattle.gptp_commands.specs.ChoiceText.{ChoosesAt}
use Rattle.gptp_commands.specs.ExplainText.{ExplainsAt}
use Rattle.gptp_commands.specs.Failure.{status_by}
use Rattle.gptp_commands.specs.QuestionText.{QuestionText}
use Rattle.gptp_commands.proofs.OneAnswerLemmas.{one_answer}
use Rattle.gptp_commands.proofs.VerdictLemmas.{same_refusal, AreSame}

-- ---- a choice

-- a network has one settled choice, and that one text
chooses_once : (until : Option ℕ) (d : DocumentState) (a b : List (List ℕ)) (s t : Status) → ChoosesAt d until a s
    → ChoosesAt d until b t → AreSame a s b t
chooses_once until d a b s t (g, g-stands, g-well, k) (h, h-stands, h-well, l) =
    let same = network_laws.one_snapshot d (moment_of until d) g h g-stands h-stands in
    let choice = subst (λ x. IsSettledChoice x k.lines) same k.choice in
    let lines = one_accepted 2 2 h k.lines l.lines h-well k.is.order.clocks l.is.order.clocks
    (record { choice = choice; near = λ first. absurd cc }) (record { choice = l.choice; near = λ first. absurd cc }) in
    (k.shown ∙ ap (certificate_lines 2) lines ∙ sym l.shown, k.status_is ∙ sym l.status_is)

pub one_choice : (until : Option ℕ) (input : List ℕ) (a b : List (List ℕ)) (s t : Status)
    → QuestionText (Choice until) input a s → QuestionText (Choice until) input b t → AreSame a s b t
one_choice until input a b s t k l =
    one_answer (λ d. ChoosesAt d until) input (λ d x y u v means. chooses_once until d x y u v) a b s t k l

-- ---- an accuracy

pub one_accuracy : (until : Option ℕ) (options : AccuracyOptions) (input : List ℕ) (a b : List (List ℕ)) (s t : Status)
    → QuestionText (Accuracy until options) input a s → QuestionText (Accuracy until options) input b t
    → AreSame a s b t
one_accuracy until options input a b s t k l =
    one_answer (λ d. TellsAccuracy d until options) input tells_once a b s t k l
  where
    tells_once : (d : DocumentState) (x y : List (List ℕ)) (u v : Status) → Means input d
        → TellsAccuracy d until options x u → TellsAccuracy d until options y v → AreSame x u y v
    tells_once d x y u v means one other =
        let (lines, exceeded) = errors.one_accuracy d (moment_of until d) options x y one.exceeded other.exceeded
        (meant_document input d means).0 one.text other.text in
        (lines, one.status_is ∙ ap status_by exceeded ∙ sym other.status_is)

-- ---- an explanation

pub one_explanation : (clock : ℕ) (until : Option ℕ) (input : List ℕ) (a b : List (List ℕ)) (s t : Status)
    → QuestionText (Explain clock until) input a s → QuestionText (Explain clock until) input b t → AreSame a s b t
one_explanation clock until input a b s t k l =
    one_answer (λ d. ExplainsAt d until clock) input explains_once a b s t k l
  where
    explains_once : (d : DocumentState) (x y : List (List ℕ)) (u v : Status) → Means input d
        → ExplainsAt d until clock x u → ExplainsAt d until clock y v → AreSame x u y v
    explains_once d x y u v means (inl (one, u-is)) (inl (other, v-is)) =
        (explanations.one_explanation input d (moment_of until d) clock x y means one other, u-is ∙ sym v-is)
    explains_once d x y u v means (inl (one, _)) (inr (absent, _)) =
        absurd (explanations.never_both d (moment_of until d) clock x one absent)
    explains_once d x y u v means (inr (absent, _)) (inl (other, _)) =
        absurd (explanations.never_both d (moment_of until d) clock y other absent)
    explains_once d x y u v means (inr (_, one)) (inr (_, other)) =
        same_refusal NoSuchPort NoSuchPort x y u v refl one other
