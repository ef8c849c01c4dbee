-- Each input has a text of `compare`.
use Rattle.std.proofs.Common.{◌≡◌, ◌⊎◌, ◌<◌, ℕ, suc, Bool, true, false, nat_le, List, [], ◌∷◌, length, map, slice_index, Result, Ok, Err, IsErr, codes, refl, sym, subst, inl, inr}
use Rattle.std.specs.Bool.{MatchBool}
use Rattle.std.specs.List.{list_any}
use Rattle.std.specs.Str.Lines.{lines}
use Rattle.hex.specs.Hex.{decode_of}
use Rattle.hex.specs.declared.error.FromHexError.{FromHexError}
use Rattle.hex.proofs.HexLemmas.{decode_of-ok}
use Rattle.gptp_vector.specs.declared.vector.Vector.{Vector}
use Rattle.gptp_messages.specs.declared.announce.AnnounceView.{AnnounceView}
use Rattle.gptp_messages.specs.declared.message.Message.{Message}
use Rattle.gptp_messages.specs.declared.message.Message.TheVariants as messages
use Rattle.gptp_messages.specs.declared.refused.Refused.{Refused}
use Rattle.gptp_messages.specs.declared.refused.Refused.TheVariants.{UnknownType}
use Rattle.gptp_messages.specs.Grammar.{Reads, RefusesFrame}
use Rattle.gptp_determinism.specs.GoingOn.{AllAreOctets}
use Rattle.gptp_determinism.proofs.ReadLemmas.{frames_are_judged}
use Rattle.gptp_commands.specs.declared.announced.WordFault.{WordFault}
use Rattle.gptp_commands.specs.declared.announced.WordFault.TheVariants as faults
use Rattle.gptp_commands.specs.declared.answer.Answer.{Answer}
use Rattle.gptp_commands.specs.declared.answer.Answer.TheVariants.{NoTwoWords}
use Rattle.gptp_commands.specs.declared.failure.Status.TheVariants as statuses
use Rattle.gptp_commands.specs.Announced.{SaysVector, vector_of}
use Rattle.gptp_commands.specs.Answer.{AnswersWords, answer_of, answer_text, is_refusal}
use Rattle.gptp_commands.specs.CompareText.{AnswersLines, AreAnswers, CompareText, RefusesSize, size_limit}
use Rattle.gptp_commands.specs.Every.{HasText, HaveText}
use Rattle.gptp_commands.specs.Failure.{status_by}
use Rattle.gptp_commands.specs.Words.{words}

-- ---- what a word spells

octets_by_place : (frame : List ℕ) → ((place : ℕ) → slice_index frame place < 256) → AllAreOctets frame
octets_by_place [] below = tt
octets_by_place (x ∷ xs) below = (below 0, octets_by_place xs (λ place. below (suc place)))

-- octets are spelled
spelled_octets : (word frame : List ℕ) → decode_of word ≡ Ok frame → AllAreOctets frame
spelled_octets word frame is = octets_by_place frame (decode_of-ok word frame is).3

-- ---- what a word says

abbrev HasSaying : List ℕ → Type 0
HasSaying word = (said : Result Vector WordFault) × SaysVector word said

module _ (word frame : List ℕ) (spells : decode_of word ≡ Ok frame) where
  -- of another type than Announce
  other_said : (m : Message) → Reads frame m → ((a : AnnounceView) → m ≡ messages.Announce a → ⊥) → HasSaying word
  other_said m reads other = (Err (faults.Message UnknownType), (frame, spells, inr ((m, reads, other), refl)))

  message_said : (m : Message) → Reads frame m → HasSaying word
  message_said (messages.Announce a) reads = (Ok (vector_of a), (frame, spells, (a, reads, refl)))
  message_said (messages.Sync head) reads = other_said (messages.Sync head) reads (λ a same. absurd cc)
  message_said (messages.PdelayReq head) reads = other_said (messages.PdelayReq head) reads (λ a same. absurd cc)
  message_said (messages.PdelayResp m) reads = other_said (messages.PdelayResp m) reads (λ a same. absurd cc)
  message_said (messages.FollowUp m) reads = other_said (messages.FollowUp m) reads (λ a same. absurd cc)
  message_said (messages.PdelayRespFollowUp m) reads =
      other_said (messages.PdelayRespFollowUp m) reads (λ a same. absurd cc)

  frame_said : ((m : Message) × Reads frame m) ⊎ ((refused : Refused) × RefusesFrame frame refused) → HasSaying word
  frame_said (inl (m, reads)) = message_said m reads
  frame_said (inr (refused, refuses)) = (Err (faults.Message refused), (frame, spells, inl refuses))

decoded_said : (word : List ℕ) (decoded : Result (List ℕ) FromHexError) → decode_of word ≡ decoded → HasSaying word
decoded_said word (Ok frame) is =
    frame_said word frame is (frames_are_judged frame (spelled_octets word frame is))
decoded_said word (Err e) is =
    (Err faults.Hex, subst (λ (r : Result (List ℕ) FromHexError). IsErr r) (sym is) refl)

-- each word announces a vector, or has a fault
word_said : (word : List ℕ) → HasSaying word
word_said word = decoded_said word (decode_of word) refl

-- ---- answers

answer_exists : (parts : List (List ℕ)) → (answer : Answer) × AnswersWords parts answer
answer_exists [] = (NoTwoWords, refl)
answer_exists (first ∷ []) = (NoTwoWords, refl)
answer_exists (first ∷ second ∷ []) =
    let a = word_said first in
    let b = word_said second in
    (answer_of a.0 b.0, (a.0, b.0, a.1, b.1, refl))
answer_exists (first ∷ second ∷ third ∷ others) = (NoTwoWords, refl)

answers_exist : (text : List (List ℕ)) → (answers : List Answer) × AreAnswers text answers
answers_exist [] = ([], refl)
answers_exist (line ∷ others) =
    let one = answer_exists (words line) in
    let rest = answers_exist others in
    (one.0 ∷ rest.0, (one.1, rest.1))

lines_answered : (input : List ℕ) → HaveText (AnswersLines input)
lines_answered input =
    let all = answers_exist (lines input) in (
      map answer_text all.0,
      status_by (list_any is_refusal all.0),
      record { answers = all.0; are = all.1; shown = refl; status_is = refl },
    )

answered_by_size : (input : List ℕ) (fits : Bool)
    → HaveText (λ output status. MatchBool fits (AnswersLines input output status) (RefusesSize output status))
answered_by_size input true = lines_answered input
answered_by_size input false =
    (codes "refused size" ∷ [], statuses.Refused, record { shown = refl; status_is = refl })

pub each_has_comparison : (input : List ℕ) → HasText CompareText input
each_has_comparison input = answered_by_size input (nat_le (length input) size_limit)
