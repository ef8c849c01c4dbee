-- The words of a line, the first one first.
use Rattle.std.proofs.Common.{◌≡◌, ℕ, suc, ◌+◌, ◌<◌, Bool, true, false, List, [], ◌∷◌, length, take, drop, filter, refl, sym, ap, ◌∙◌, arith}
use Rattle.std.specs.List.{prefix_len, position_or_len, slice_split}
use Rattle.std.proofs.lemmas.List.Splits.{slice_split-cons_yes}
use Rattle.std.proofs.lemmas.Grind.{common_steps}
use Rattle.gptp_commands.specs.Words.{is_space_or_tab, is_word, words}
use Rattle.gptp_commands.proofs.SplitLemmas.{splits_at}

-- a blank in front changes no word
words-blank : (x : ℕ) (xs : List ℕ) → is_space_or_tab x ≡ true → words (x ∷ xs) ≡ words xs
words-blank x xs blank = ap (λ parts. filter is_word parts) (slice_split-cons_yes is_space_or_tab x xs blank)

blanks_step : (x : ℕ) (xs : List ℕ) (test : Bool) → is_space_or_tab x ≡ test
    → words xs ≡ words (drop (prefix_len is_space_or_tab xs) xs)
    → words (x ∷ xs) ≡ words (drop (prefix_len is_space_or_tab (x ∷ xs)) (x ∷ xs))
blanks_step x xs true blank rest =
    let e : prefix_len is_space_or_tab (x ∷ xs) ≡ suc (prefix_len is_space_or_tab xs) = rw blank (omega arith) in
    rw e (words-blank x xs blank ∙ rest)
blanks_step x xs false other rest =
    let e : prefix_len is_space_or_tab (x ∷ xs) ≡ 0 = rw other refl in
    rw e refl

-- nor do all the blanks in front
words_behind_blanks : (text : List ℕ) → words text ≡ words (drop (prefix_len is_space_or_tab text) text)
words_behind_blanks [] = refl
words_behind_blanks (x ∷ xs) = blanks_step x xs (is_space_or_tab x) refl (words_behind_blanks xs)

-- what comes after them begins with a word, if there is anything
word_step : (x : ℕ) (xs : List ℕ) (test : Bool) → is_space_or_tab x ≡ test
    → (0 < length (drop (prefix_len is_space_or_tab xs) xs)
    → 0 < position_or_len is_space_or_tab (drop (prefix_len is_space_or_tab xs) xs))
    → 0 < length (drop (prefix_len is_space_or_tab (x ∷ xs)) (x ∷ xs))
    → 0 < position_or_len is_space_or_tab (drop (prefix_len is_space_or_tab (x ∷ xs)) (x ∷ xs))
word_step x xs true blank rest some =
    let e : prefix_len is_space_or_tab (x ∷ xs) ≡ suc (prefix_len is_space_or_tab xs) = rw blank (omega arith) in
    rw e (rest (rw e at some))
word_step x xs false other rest some =
    let none : prefix_len is_space_or_tab (x ∷ xs) ≡ 0 = rw other refl in
    let e : position_or_len is_space_or_tab (x ∷ xs) ≡ 1 + position_or_len is_space_or_tab xs = rw other refl in
    rw (none, e) (omega arith)

word_behind_blanks : (text : List ℕ) → 0 < length (drop (prefix_len is_space_or_tab text) text)
    → 0 < position_or_len is_space_or_tab (drop (prefix_len is_space_or_tab text) text)
word_behind_blanks [] some = absurd (omega arith)
word_behind_blanks (x ∷ xs) some = word_step x xs (is_space_or_tab x) refl (word_behind_blanks xs) some

-- parts that follow an empty part, and one that isn't empty
words_of_parts : (first : List ℕ) (text rest : List ℕ) (parts : List (List ℕ)) → 0 < length first
    → slice_split is_space_or_tab text ≡ first ∷ parts → slice_split is_space_or_tab rest ≡ [] ∷ parts
    → words text ≡ first ∷ words rest
words_of_parts [] text rest parts some front back = absurd (omega arith)
words_of_parts (x ∷ xs) text rest parts some front back =
    let others : words rest ≡ filter is_word parts = ap (λ parts. filter is_word parts) back in
    ap (λ parts. filter is_word parts) front ∙ sym (ap (λ words. (x ∷ xs) ∷ words) others)

-- a text that doesn't begin with a blank begins with the word before its first blank
words_front : (text : List ℕ) → 0 < length text → 0 < position_or_len is_space_or_tab text
    → words text ≡ take (position_or_len is_space_or_tab text) text ∷ words
    (drop (position_or_len is_space_or_tab text) text)
words_front text some long =
    let split = splits_at is_space_or_tab text in
    words_of_parts (take (position_or_len is_space_or_tab text) text) text
    (drop (position_or_len is_space_or_tab text) text)
    split.parts
    (grind (arith, common_steps)) split.front split.back

-- after the blanks stands the first word, if there is anything
pub words_found : (text behind word rest : List ℕ) → behind ≡ drop (prefix_len is_space_or_tab text) text
    → 0 < length behind
    → word ≡ take (position_or_len is_space_or_tab behind) behind
    → rest ≡ drop (position_or_len is_space_or_tab behind) behind
    → words text ≡ word ∷ words rest
words_found text behind word rest behind-is some word-is rest-is =
    let long : 0 < position_or_len is_space_or_tab behind = rw behind-is
    (word_behind_blanks text (rw behind-is at some)) in
    words_behind_blanks text ∙ rw (← behind-is, word-is, rest-is) (words_front behind some long)

pub words_absent : (text : List ℕ) → drop (prefix_len is_space_or_tab text) text ≡ [] → words text ≡ []
words_absent text none = words_behind_blanks text ∙ ap words none
