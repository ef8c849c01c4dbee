-- What `compare` writes for an input, line by line, and its status (profile).
use Rattle.std.specs.Prelude.{◌≡◌, ℕ, List, [], ◌∷◌, ◌++◌, map, codes}
use Rattle.std.specs.List.{list_any}
use Rattle.std.specs.Str.Lines.{lines}
use Rattle.gptp_commands.specs.declared.answer.Answer.{Answer}
use Rattle.gptp_commands.specs.declared.failure.Status.{Status}
use Rattle.gptp_commands.specs.declared.failure.Status.TheVariants.{Refused}
use Rattle.gptp_commands.specs.Answer.{AnswersLine, answer_text, is_refusal}
use Rattle.gptp_commands.specs.Failure.{status_by}
use Rattle.gptp_commands.specs.Limited.{Begins, Limited}

-- how many octets an input may have
abbrev pub size_limit : ℕ
size_limit = 1048576

-- every line has its answer, in order
abbrev pub AreAnswers : List (List ℕ) → List Answer → Type 0
AreAnswers [] answers = answers ≡ []
AreAnswers (line ∷ lines) [] = ⊥
AreAnswers (line ∷ lines) (answer ∷ answers) = AnswersLine line answer × AreAnswers lines answers

-- the output is the answers to the lines of the input, and one that refuses its line refuses the input
pub record AnswersLines (input : List ℕ) (output : List (List ℕ)) (status : Status) : Type 0 where
  pub answers : List Answer
  pub are : AreAnswers (lines input) answers
  pub shown : output ≡ map answer_text answers
  pub status_is : status ≡ status_by (list_any is_refusal answers)

-- an input past its size isn't read as lines
pub record RefusesSize (output : List (List ℕ)) (status : Status) : Type 0 where
  pub shown : output ≡ codes "refused size" ∷ []
  pub status_is : status ≡ Refused

abbrev pub CompareText : List ℕ → List (List ℕ) → Status → Type 0
CompareText = Limited size_limit AnswersLines RefusesSize

-- the output is the answers to the first lines of the input
pub record AnswersSome (input : List ℕ) (output : List (List ℕ)) : Type 0 where
  pub answered : List (List ℕ)
  pub left : List (List ℕ)
  pub split : lines input ≡ answered ++ left
  pub answers : List Answer
  pub are : AreAnswers answered answers
  pub shown : output ≡ map answer_text answers

-- the text as far as it has got
abbrev pub BeginsCompare : List ℕ → List (List ℕ) → Type 0
BeginsCompare = Begins size_limit AnswersSome CompareText
