-- The text of `compare`, one line after the other.
use Rattle.std.proofs.Common.{◌≡◌, ℕ, Bool, true, false, ◌||◌, List, [], ◌∷◌, ◌++◌, map, Option, refl, sym, ap, subst, ◌∙◌, append_assoc, append-nil}
use Rattle.std.specs.List.{list_any}
use Rattle.std.specs.Io.KnownBytes.{Appends}
use Rattle.std.specs.Str.Lines.{lines}
use Rattle.std.proofs.lemmas.List.{map_push}
use Rattle.std.proofs.lemmas.List.Concat.{flat_map-append}
use Rattle.std.proofs.lemmas.List.Folds.{list_any-append}
use Rattle.gptp_sink.specs.Sink.{AppendsSome}
use Rattle.gptp_sink.proofs.SinkLemmas.{all_of, appends_both, appends_none, some_behind}
use Rattle.gptp_commands.specs.declared.answer.Answer.{Answer}
use Rattle.gptp_commands.specs.Answer.{AnswersLine, answer_text, is_refusal}
use Rattle.gptp_commands.specs.Failure.{status_by}
use Rattle.gptp_words.specs.Lines.{text_of}
use Rattle.gptp_commands.specs.CompareText.{AreAnswers, AnswersLines, AnswersSome}

-- the first lines are answered, and their answers are written
pub record Answered (input rest : List ℕ) (old now : Option (List ℕ)) (refused : Bool) : Type 0 where
  pub answered : List (List ℕ)
  pub split : lines input ≡ answered ++ lines rest
  pub answers : List Answer
  pub are : AreAnswers answered answers
  pub written : Appends old now (text_of (map answer_text answers))
  pub refused_is : refused ≡ list_any is_refusal answers

pub answered_none : (input : List ℕ) (known : Option (List ℕ)) → Answered input input known known false
answered_none input known = record {
  answered = [];
  split = refl;
  answers = [];
  are = refl;
  written = appends_none known;
  refused_is = refl;
}

-- ---- one line more

are_more : (answered : List (List ℕ)) (answers : List Answer) (line : List ℕ) (answer : Answer)
    → AreAnswers answered answers → AnswersLine line answer
    → AreAnswers (answered ++ line ∷ []) (answers ++ answer ∷ [])
are_more [] answers line answer none one =
    subst (λ xs. AreAnswers (line ∷ []) (xs ++ answer ∷ [])) (sym none) (one, refl)
are_more (x ∷ xs) [] line answer are one = absurd are
are_more (x ∷ xs) (y ∷ ys) line answer (here, are) one = (here, are_more xs ys line answer are one)

split_more : (input rest line after : List ℕ) (answered : List (List ℕ)) → lines input ≡ answered ++ lines rest
    → lines rest ≡ line ∷ lines after → lines input ≡ (answered ++ line ∷ []) ++ lines after
split_more input rest line after answered split next =
    split ∙ ap (λ others. answered ++ others) next ∙ sym (append_assoc answered (line ∷ []) (lines after))

text_more : (answers : List Answer) (answer : Answer) → text_of (map answer_text (answers ++ answer ∷ []))
    ≡ text_of (map answer_text answers) ++ text_of (answer_text answer ∷ [])
text_more answers answer =
    rw map_push (flat_map-append (λ line. line ++ 10 ∷ []) (map answer_text answers) (answer_text answer ∷ []))

or-false : (test : Bool) → test || false ≡ test
or-false true = refl
or-false false = refl

-- one answer more refuses or doesn't
refusal_more : (answers : List Answer) (answer : Answer)
    → list_any is_refusal (answers ++ answer ∷ []) ≡ list_any is_refusal answers || is_refusal answer
refusal_more answers answer =
    list_any-append is_refusal answers (answer ∷ [])
    ∙ ap (λ refusal. list_any is_refusal answers || refusal) (or-false (is_refusal answer))

-- one line more is answered, and its answer written
pub answered_more : (input rest line after : List ℕ) (old between new : Option (List ℕ)) (refused refusal : Bool)
    (answer : Answer) → Answered input rest old between refused → lines rest ≡ line ∷ lines after
    → AnswersLine line answer → Appends between new (text_of (answer_text answer ∷ [])) → refusal ≡ is_refusal answer
    → Answered input after old new (refused || refusal)
answered_more input rest line after old between new refused refusal answer so_far next one shown refusal-is = record {
  answered = so_far.answered ++ line ∷ [];
  split = split_more input rest line after so_far.answered so_far.split next;
  answers = so_far.answers ++ answer ∷ [];
  are = are_more so_far.answered so_far.answers line answer so_far.are one;
  written = rw text_more (appends_both old between new (text_of (map answer_text so_far.answers))
      (text_of (answer_text answer ∷ [])) so_far.written shown);
  refused_is = rw (refusal_more, ← so_far.refused_is, refusal-is) refl;
}

-- ---- where it ends

-- where no line is left, the answers are the answers to all lines
pub answered_all : (input rest : List ℕ) (old now : Option (List ℕ)) (refused : Bool)
    → Answered input rest old now refused → rest ≡ []
    → (output : List (List ℕ)) × AnswersLines input output (status_by refused) × Appends old now (text_of output)
answered_all input rest old now refused all none =
    let whole : lines input ≡ all.answered =
    all.split ∙ ap (λ octets. all.answered ++ lines octets) none ∙ append-nil all.answered in (
      map answer_text all.answers,
      record {
        answers = all.answers;
        are = subst (λ xs. AreAnswers xs all.answers) (sym whole) all.are;
        shown = refl;
        status_is = ap status_by all.refused_is;
      },
      all.written,
    )

-- the answers so far
pub answered_some : (input rest : List ℕ) (old now : Option (List ℕ)) (refused : Bool)
    → Answered input rest old now refused
    → (output : List (List ℕ)) × AnswersSome input output × AppendsSome old now (text_of output)
answered_some input rest old now refused so_far = (
  map answer_text so_far.answers,
  record {
    answered = so_far.answered;
    left = lines rest;
    split = so_far.split;
    answers = so_far.answers;
    are = so_far.are;
    shown = refl;
  },
  all_of old now (text_of (map answer_text so_far.answers)) so_far.written,
)

-- and some of the next
pub answered_part : (input rest line after : List ℕ) (old between new : Option (List ℕ)) (refused : Bool)
    (answer : Answer) → Answered input rest old between refused → lines rest ≡ line ∷ lines after
    → AnswersLine line answer → AppendsSome between new (text_of (answer_text answer ∷ []))
    → (output : List (List ℕ)) × AnswersSome input output × AppendsSome old new (text_of output)
answered_part input rest line after old between new refused answer so_far next one shown = (
  map answer_text (so_far.answers ++ answer ∷ []),
  record {
    answered = so_far.answered ++ line ∷ [];
    left = lines after;
    split = split_more input rest line after so_far.answered so_far.split next;
    answers = so_far.answers ++ answer ∷ [];
    are = are_more so_far.answered so_far.answers line answer so_far.are one;
    shown = refl;
  },
  rw text_more (some_behind old between new (text_of (map answer_text so_far.answers))
      (text_of (answer_text answer ∷ [])) so_far.written shown),
)
