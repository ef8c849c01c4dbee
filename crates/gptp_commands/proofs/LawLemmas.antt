-- A word says one thing, a line has one answer, and an input one text.
use Rattle.std.proofs.Common.{◌≡◌, ℕ, Bool, true, false, nat_le, List, [], ◌∷◌, ◌++◌, length, map, Result, Ok, Err, refl, sym, ap, subst, append-nil, ◌∙◌, inl, inr}
use Rattle.std.specs.Bool.{MatchBool}
use Rattle.std.specs.List.{list_any}
use Rattle.std.specs.Str.Lines.{lines}
use Rattle.std.proofs.lemmas.Bool.{le-leb}
use Rattle.std.proofs.lemmas.List.{map-append}
use Rattle.gptp_vector.specs.declared.vector.Vector.{Vector}
use Rattle.gptp_messages.specs.declared.message.Message.TheVariants.{Announce}
use Rattle.gptp_messages.specs.declared.announce.AnnounceView.{AnnounceView}
use Rattle.gptp_messages.specs.declared.refused.Refused.{Refused}
use Rattle.gptp_messages.specs.Grammar.{Reads}
use Rattle.gptp_messages.proofs.GrammarLemmas.{one_reading, never_both, one_refusal}
use Rattle.gptp_commands.specs.declared.announced.WordFault.{WordFault}
use Rattle.gptp_commands.specs.declared.announced.WordFault.TheVariants as faults
use Rattle.gptp_commands.specs.declared.answer.Answer.{Answer}
use Rattle.gptp_commands.specs.declared.failure.Status.{Status}
use Rattle.gptp_commands.specs.Announced.{AnnouncesNothing, SaysVector, vector_of}
use Rattle.gptp_commands.specs.Answer.{AnswersWords, answer_of, answer_text, is_refusal}
use Rattle.gptp_commands.specs.Failure.{status_by}
use Rattle.gptp_commands.specs.CompareText.{size_limit, AreAnswers, AnswersLines, AnswersSome, BeginsCompare, RefusesSize, CompareText}

-- what reads as an Announce doesn't announce nothing
not_nothing : (f : List ℕ) (a : AnnounceView) (e : Refused) → Reads f (Announce a) → AnnouncesNothing f e → ⊥
not_nothing f a e reads (inl refuses) = never_both f (Announce a) e reads refuses
not_nothing f a e reads (inr ((m, other, is-other), _)) = is-other a (one_reading f m (Announce a) other reads)

-- octets announce nothing in one way
one_nothing : (f : List ℕ) (d e : Refused) → AnnouncesNothing f d → AnnouncesNothing f e → d ≡ e
one_nothing f d e (inl d-refuses) (inl e-refuses) = one_refusal f d e d-refuses e-refuses
one_nothing f d e (inl d-refuses) (inr ((m, reads, _), _)) = absurd (never_both f m d reads d-refuses)
one_nothing f d e (inr ((m, reads, _), _)) (inl e-refuses) = absurd (never_both f m e reads e-refuses)
one_nothing f d e (inr (_, d-is)) (inr (_, e-is)) = d-is ∙ sym e-is

-- a word says one thing
one_saying : (word : List ℕ) (a b : Result Vector WordFault) → SaysVector word a → SaysVector word b → a ≡ b
one_saying word (Ok v) (Ok w) (f, f-is, (a, a-reads, v-is)) (g, g-is, (b, b-reads, w-is)) =
    let same : g ≡ f = let e = sym g-is ∙ f-is in cc in
    let views : a ≡ b = let e = one_reading f (Announce a) (Announce b) a-reads (rw same at b-reads) in cc in
    ap Ok (v-is ∙ ap vector_of views ∙ sym w-is)
one_saying word (Ok v) (Err faults.Hex) (f, f-is, (a, reads, v-is)) none = absurd (let no = rw f-is at none in cc)
one_saying word (Ok v) (Err (faults.Message e)) (f, f-is, (a, reads, v-is)) (g, g-is, refuses) =
    let same : g ≡ f = let e = sym g-is ∙ f-is in cc in
    absurd (not_nothing f a e reads (rw same at refuses))
one_saying word (Err faults.Hex) (Ok w) none (g, g-is, (b, reads, w-is)) = absurd (let no = rw g-is at none in cc)
one_saying word (Err faults.Hex) (Err faults.Hex) none also = refl
one_saying word (Err faults.Hex) (Err (faults.Message e)) none (g, g-is, refuses) =
    absurd (let no = rw g-is at none in cc)
one_saying word (Err (faults.Message d)) (Ok w) (f, f-is, refuses) (g, g-is, (b, reads, w-is)) =
    let same : g ≡ f = let e = sym g-is ∙ f-is in cc in
    absurd (not_nothing f b d (rw same at reads) refuses)
one_saying word (Err (faults.Message d)) (Err faults.Hex) (f, f-is, refuses) none =
    absurd (let no = rw f-is at none in cc)
one_saying word (Err (faults.Message d)) (Err (faults.Message e)) (f, f-is, d-refuses) (g, g-is, e-refuses) =
    let same : g ≡ f = let e = sym g-is ∙ f-is in cc in
    ap (λ refused. Err (faults.Message refused)) (one_nothing f d e d-refuses (rw same at e-refuses))

-- words have one answer
one_answer : (words : List (List ℕ)) (a b : Answer) → AnswersWords words a → AnswersWords words b → a ≡ b
one_answer (first ∷ second ∷ []) a b (x, y, x-says, y-says, a-is) (z, w, z-says, w-says, b-is) =
    a-is ∙ ap (λ said. answer_of said y) (one_saying first x z x-says z-says)
    ∙ ap (λ said. answer_of z said) (one_saying second y w y-says w-says) ∙ sym b-is
one_answer [] a b a-is b-is = a-is ∙ sym b-is
one_answer (first ∷ []) a b a-is b-is = a-is ∙ sym b-is
one_answer (first ∷ second ∷ third ∷ others) a b a-is b-is = a-is ∙ sym b-is

-- lines have one list of answers
one_list : (text : List (List ℕ)) (a b : List Answer) → AreAnswers text a → AreAnswers text b → a ≡ b
one_list [] a b a-are b-are = a-are ∙ sym b-are
one_list (line ∷ others) [] b a-are b-are = absurd a-are
one_list (line ∷ others) (x ∷ xs) [] a-are b-are = absurd b-are
one_list (line ∷ others) (x ∷ xs) (y ∷ ys) (x-is, xs-are) (y-is, ys-are) =
    ap (λ answer. answer ∷ xs) (one_answer _ x y x-is y-is)
    ∙ ap (λ answers. y ∷ answers) (one_list others xs ys xs-are ys-are)

-- within the size, and past it
one_by_size : (input : List ℕ) (a b : List (List ℕ)) (s t : Status) (fits : Bool)
    → MatchBool fits (AnswersLines input a s) (RefusesSize a s)
    → MatchBool fits (AnswersLines input b t) (RefusesSize b t) → (a ≡ b) × (s ≡ t)
one_by_size input a b s t true x y =
    let same = one_list (lines input) x.answers y.answers x.are y.are in (
      x.shown ∙ ap (λ answers. map answer_text answers) same ∙ sym y.shown,
      x.status_is ∙ ap (λ answers. status_by (list_any is_refusal answers)) same ∙ sym y.status_is,
    )
one_by_size input a b s t false x y = (x.shown ∙ sym y.shown, x.status_is ∙ sym y.status_is)

-- an input has one text and one status
pub one_text : (input : List ℕ) (a b : List (List ℕ)) (s t : Status) → CompareText input a s → CompareText input b t
    → (a ≡ b) × (s ≡ t)
one_text input a b s t x y = one_by_size input a b s t (nat_le (length input) size_limit) x y

-- ---- what a text begins with

-- the answers to the first lines are the first answers
first_answers : (answered left : List (List ℕ)) (some all : List Answer) → AreAnswers answered some
    → AreAnswers (answered ++ left) all → (rest : List Answer) × (all ≡ some ++ rest)
first_answers [] left some all none are = (all, ap (λ xs. xs ++ all) (sym none))
first_answers (line ∷ others) left [] all some-are are = absurd some-are
first_answers (line ∷ others) left (x ∷ xs) [] some-are are = absurd are
first_answers (line ∷ others) left (x ∷ xs) (y ∷ ys) (x-is, xs-are) (y-is, ys-are) =
    let behind = first_answers others left xs ys xs-are ys-are in
    (behind.0, ap (λ z. z ∷ ys) (sym (one_answer _ x y x-is y-is)) ∙ ap (λ zs. x ∷ zs) behind.1)

first_lines : (input : List ℕ) (begun output : List (List ℕ)) (status : Status) → AnswersSome input begun
    → AnswersLines input output status → (rest : List (List ℕ)) × (output ≡ begun ++ rest)
first_lines input begun output status some all =
    let behind = first_answers some.answered some.left some.answers all.answers some.are
    (subst (λ xs. AreAnswers xs all.answers) some.split all.are) in (
      map answer_text behind.0,
      all.shown ∙ ap (map answer_text) behind.1 ∙ map-append answer_text some.answers behind.0
          ∙ ap (λ xs. xs ++ map answer_text behind.0) (sym some.shown),
    )

-- whatever text an input has begins with what may have been begun
pub begins_so : (input : List ℕ) (begun output : List (List ℕ)) (status : Status) → BeginsCompare input begun
    → CompareText input output status → (rest : List (List ℕ)) × (output ≡ begun ++ rest)
begins_so input begun output status (inl none) text = (output, ap (λ xs. xs ++ output) (sym none))
begins_so input begun output status (inr (inl (within, some))) text =
    let fits : nat_le (length input) size_limit ≡ true = le-leb (length input) size_limit within in
    first_lines input begun output status some (rw fits at text)
begins_so input begun output status (inr (inr (s, whole))) text =
    ([], (one_text input output begun status s text whole).0 ∙ sym (append-nil begun))
