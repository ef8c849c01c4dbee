-- What is answered to a line, and how it is shown.
use Rattle.std.specs.Prelude.{◌≡◌, ℕ, Bool, true, false, List, [], ◌∷◌, ◌++◌, codes, Result, Ok, Err}
use Rattle.std.specs.declared.cmp.Ordering.{Ordering}
use Rattle.std.specs.declared.cmp.Ordering.TheVariants as orderings
use Rattle.gptp_words.specs.Digits.{identity_text}
use Rattle.gptp_vector.specs.declared.vector.Vector.{Vector}
use Rattle.gptp_vector.specs.Vector.{order}
use Rattle.gptp_commands.specs.declared.announced.WordFault.{WordFault}
use Rattle.gptp_commands.specs.declared.answer.Answer.{Answer}
use Rattle.gptp_commands.specs.declared.answer.Answer.TheVariants.{First, Second, Equal, NoTwoWords, RefusedFirst, RefusedSecond}
use Rattle.gptp_commands.specs.Words.{words}
use Rattle.gptp_commands.specs.Announced.{SaysVector, word_fault_text}

-- by the order of vectors (IEEE 802.1AS-2020, 10.3.4): the better one's side and root
abbrev pub better_by : Ordering → Vector → Vector → Answer
better_by orderings.Less a b = First a.root
better_by orderings.Greater a b = Second b.root
better_by orderings.Equal a b = Equal a.root

abbrev pub better_of : Vector → Vector → Answer
better_of a b = better_by (order a b) a b

-- a fault of the first word goes before one of the second
abbrev pub answer_of : Result Vector WordFault → Result Vector WordFault → Answer
answer_of (Err fault) second = RefusedFirst fault
answer_of (Ok a) (Err fault) = RefusedSecond fault
answer_of (Ok a) (Ok b) = better_of a b

-- what two words are answered by what they announce, and any other number of words
abbrev pub AnswersWords : List (List ℕ) → Answer → Type 0
AnswersWords (first ∷ second ∷ []) answer =
    (a : Result Vector WordFault) × (b : Result Vector WordFault) × SaysVector first a × SaysVector second b
    × (answer ≡ answer_of a b)
AnswersWords other answer = answer ≡ NoTwoWords

-- a line is answered by its words
abbrev pub AnswersLine : List ℕ → Answer → Type 0
AnswersLine line answer = AnswersWords (words line) answer

-- how an answer is shown
abbrev pub answer_text : Answer → List ℕ
answer_text (First root) = codes "first " ++ identity_text root
answer_text (Second root) = codes "second " ++ identity_text root
answer_text (Equal root) = codes "equal " ++ identity_text root
answer_text NoTwoWords = codes "refused words"
answer_text (RefusedFirst fault) = codes "refused first " ++ word_fault_text fault
answer_text (RefusedSecond fault) = codes "refused second " ++ word_fault_text fault

-- whether it refuses the line
abbrev pub is_refusal : Answer → Bool
is_refusal (First root) = false
is_refusal (Second root) = false
is_refusal (Equal root) = false
is_refusal NoTwoWords = true
is_refusal (RefusedFirst fault) = true
is_refusal (RefusedSecond fault) = true
