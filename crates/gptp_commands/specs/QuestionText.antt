-- What is written for a question about a document, which is answered without a run, and the status (profile).
use Rattle.std.specs.Prelude.{◌⊎◌, ℕ, List}
use Rattle.gptp_network.specs.declared.fault.DocumentFault.{DocumentFault}
use Rattle.gptp_network.specs.declared.fault.DocumentFault.TheVariants.{TooMany}
use Rattle.gptp_network.specs.Document.{DocumentState, Fails, Means}
use Rattle.gptp_commands.specs.declared.failure.Status.{Status}
use Rattle.gptp_commands.specs.declared.question.Question.{Question}
use Rattle.gptp_commands.specs.declared.question.Question.TheVariants.{Accuracy, Choice, Explain, Lint}
use Rattle.gptp_commands.specs.AccuracyText.{TellsAccuracy}
use Rattle.gptp_commands.specs.ChoiceText.{ChoosesAt}
use Rattle.gptp_commands.specs.ExplainText.{ExplainsAt}
use Rattle.gptp_commands.specs.Limited.{Limited}
use Rattle.gptp_commands.specs.LintText.{RefusesAtPlace, TellsFindings}
use Rattle.gptp_commands.specs.Documents.{document_limit, RefusesFault}

-- the answer for a document, which the input spells, by what is asked
abbrev pub AnswersQuestion : Question → List ℕ → DocumentState → List (List ℕ) → Status → Type 0
AnswersQuestion (Choice until) input d output status = ChoosesAt d until output status
AnswersQuestion (Accuracy until options) input d output status = TellsAccuracy d until options output status
AnswersQuestion (Explain clock until) input d output status = ExplainsAt d until clock output status
AnswersQuestion (Lint strict) input d output status = TellsFindings input d strict output status

-- the line of an input that is refused by this fault: `lint` also tells its place
abbrev pub RefusesInput : Question → List ℕ → DocumentFault → List (List ℕ) → Status → Type 0
RefusesInput (Lint strict) input fault output status = RefusesAtPlace input fault output status
RefusesInput question input fault output status = RefusesFault fault output status

-- an input is a document, of which the question is answered, or fails a test
abbrev pub AnswersQuestionInput : Question → List ℕ → List (List ℕ) → Status → Type 0
AnswersQuestionInput question input output status =
    ((d : DocumentState) × Means input d × AnswersQuestion question input d output status)
    ⊎ ((fault : DocumentFault) × Fails input fault × RefusesInput question input fault output status)

abbrev pub QuestionText : Question → List ℕ → List (List ℕ) → Status → Type 0
QuestionText question = Limited document_limit (AnswersQuestionInput question) (RefusesFault TooMany)
