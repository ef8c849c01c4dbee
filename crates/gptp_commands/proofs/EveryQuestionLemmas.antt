-- Each input has a text of its choice, of its accuracy, and of what is explained of it.
use Rattle.std.proofs.Common.{◌≡◌, ◌⊎◌, ℕ, Bool, true, false, nat_le, List, [], ◌∷◌, ◌++◌, length, map, Option, codes, refl, sym, subst, inl, inr}
use Rattle.std.specs.Bool.{MatchBool}
use Rattle.gptp_graph.specs.Labelling.{PortLine, SystemLine, line_clocks, port_numbers}
use Rattle.gptp_graph.specs.Order.{IsRising}
use Rattle.gptp_graph.specs.SettledChoice.{IsSettledChoice}
use Rattle.gptp_graph.specs.Snapshot.{Snapshot}
use Rattle.gptp_graph.proofs.ChoiceLemmas.{choice_exists}
use Rattle.gptp_network.specs.Document.{DocumentState, Means}
use Rattle.gptp_network.specs.Faults as documents
use Rattle.gptp_network.specs.declared.fault.DocumentFault.{DocumentFault}
use Rattle.gptp_network.specs.declared.fault.DocumentFault.TheVariants.{NoSuchPort, TooMany}
use Rattle.gptp_network.proofs.ExistenceLemmas.{snapshot_exists}
use Rattle.gptp_network.proofs.LawLemmas.{MeansOrFails, means_or_fails}
use Rattle.gptp_network.proofs.MeantLemmas.{meant_document, meant_well}
use Rattle.gptp_certificate_text.specs.Certificate.{IsCertificate}
use Rattle.gptp_certificate_text.specs.CertificateText.{certificate_lines}
use Rattle.gptp_choice.proofs.RoleLemmas.{range_rises}
use Rattle.gptp_explain.specs.Explained.{Explains, IsAbsent}
use Rattle.gptp_explain.proofs.EveryLemmas.{each_is_explained}
use Rattle.gptp_accuracy.specs.declared.options.AccuracyOptions.{AccuracyOptions}
use Rattle.gptp_accuracy.proofs.EveryLemmas.{each_is_exact}
use Rattle.gptp_commands.specs.declared.failure.Status.{Status}
use Rattle.gptp_commands.specs.declared.failure.Status.TheVariants.{Done, Refused}
use Rattle.gptp_commands.specs.declared.question.Question.TheVariants.{Accuracy, Choice, Explain}
use Rattle.gptp_commands.specs.AccuracyText.{TellsAccuracy}
use Rattle.gptp_commands.specs.CheckText.{moment_of}
use Rattle.gptp_commands.specs.ChoiceText.{ChoosesAt}
use Rattle.gptp_commands.specs.Documents.{Answers, AnswersInput, RefusesFault, document_limit}
use Rattle.gptp_commands.specs.Every.{HasText, HaveText}
use Rattle.gptp_commands.specs.ExplainText.{ExplainsAt}
use Rattle.gptp_commands.specs.Failure.{status_by}
use Rattle.gptp_commands.specs.QuestionText.{QuestionText}

-- a fault has a line
pub refused_so : (fault : DocumentFault) → HaveText (RefusesFault fault)
refused_so fault =
    ((codes "refused " ++ documents.fault_text fault) ∷ [], Refused, record { shown = refl; status_is = refl })

-- ---- what is told of each document

module _ (Tells : DocumentState → List (List ℕ) → Status → Type 0) (input : List ℕ)
    (told : (d : DocumentState) → Means input d → HaveText (Tells d)) where
  of_input : MeansOrFails input → HasText (Answers Tells) input
  of_input (inl (d, means)) =
      let (output, status, tells) = told d means in (output, status, inl (d, means, tells))
  of_input (inr (fault, fails)) =
      let (output, status, refuses) = refused_so fault in (output, status, inr (fault, fails, refuses))

  by_size : (fits : Bool)
      → HaveText (λ output status. MatchBool fits (Answers Tells input output status)
      (RefusesFault TooMany output status))
  by_size true = of_input (means_or_fails input)
  by_size false = refused_so TooMany

  pub each_has_text : HasText (AnswersInput Tells) input
  each_has_text = by_size (nat_le (length input) document_limit)

-- ---- a choice

-- a settled choice by rising clock is a certificate of version 2
module _ (g : Snapshot) (lines : List SystemLine) (choice : IsSettledChoice g lines)
    (rising : IsRising (line_clocks lines)) where
  ports_rise : (line : SystemLine) (far : Bool) → line.far ≡ far → (line.far ≡ true → line.ports ≡ [])
      → (line.far ≡ false → IsRising (port_numbers line)) → IsRising (port_numbers line)
  ports_rise line true is bare near =
      subst (λ (ports : List PortLine). IsRising (map (λ (port : PortLine). port.number) ports)) (sym (bare is)) tt
  ports_rise line false is bare near = near is

  settled_certificate : IsCertificate 2 lines
  settled_certificate = record {
    is_version = inr refl;
    order = record {
      clocks = rising;
      ports = λ line stated.
          ports_rise line line.far refl (λ far. (choice.systems.bare line stated far).ports) (λ near.
          let (s, of) = choice.systems.no_other line stated in
          subst IsRising (sym (choice.systems.ports s line of near)) (range_rises 1 s.ports));
    };
    bare = choice.systems.bare;
    second = λ line stated far. refl;
  }

chosen : (until : Option ℕ) (input : List ℕ) (d : DocumentState) → Means input d → HaveText (ChoosesAt d until)
chosen until input d means =
    let time = moment_of until d in
    let (g, stands) = snapshot_exists d time (meant_document input d means).0 in
    let well = meant_well input d time g means stands in
    let (lines, choice, rising) = choice_exists g well in (
      certificate_lines 2 lines,
      Done,
      (
        g,
        stands,
        well,
        record {
          lines = lines;
          is = settled_certificate g lines choice rising;
          choice = choice;
          shown = refl;
          status_is = refl;
        },
      ),
    )

pub each_has_choice : (until : Option ℕ) (input : List ℕ) → HasText (QuestionText (Choice until)) input
each_has_choice until input = each_has_text (λ d. ChoosesAt d until) input (chosen until input)

-- ---- an accuracy

exact : (until : Option ℕ) (options : AccuracyOptions) (input : List ℕ) (d : DocumentState) → Means input d
    → HaveText (TellsAccuracy d until options)
exact until options input d means =
    let (lines, exceeded, text) = each_is_exact input d (moment_of until d) options means in
    (lines, status_by exceeded, record { exceeded = exceeded; text = text; status_is = refl })

pub each_has_accuracy : (until : Option ℕ) (options : AccuracyOptions) (input : List ℕ)
    → HasText (QuestionText (Accuracy until options)) input
each_has_accuracy until options input =
    each_has_text (λ d. TellsAccuracy d until options) input (exact until options input)

-- ---- an explanation

explained_at : (until : Option ℕ) (clock : ℕ) (d : DocumentState)
    → ((lines : List (List ℕ)) × Explains d (moment_of until d) clock lines) ⊎ IsAbsent d (moment_of until d) clock
    → HaveText (ExplainsAt d until clock)
explained_at until clock d (inl (lines, explains)) = (lines, Done, inl (explains, refl))
explained_at until clock d (inr absent) =
    let (output, status, refuses) = refused_so NoSuchPort in (output, status, inr (absent, refuses))

pub each_has_explanation : (clock : ℕ) (until : Option ℕ) (input : List ℕ)
    → HasText (QuestionText (Explain clock until)) input
each_has_explanation clock until input =
    each_has_text (λ d. ExplainsAt d until clock) input
    (λ d means. explained_at until clock d (each_is_explained input d (moment_of until d) clock means))
