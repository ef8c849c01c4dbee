-- Texts that grow by lines.
use Rattle.std.proofs.Common.{◌≡◌, ℕ, ◌+◌, ◌-◌, ◌≤◌, List, [], ◌∷◌, ◌++◌, map, refl, sym, ap, ◌∙◌, arith}
use Rattle.std.proofs.Common.{append_assoc, append-nil}
use Rattle.std.specs.List.{range_with_len}
use Rattle.std.proofs.lemmas.Grind.{flat_map-append}
use Rattle.std.proofs.lemmas.List.FromFn.{map-range_with_len_more}
use Rattle.gptp_words.specs.Lines.{text_of}
use Rattle.gptp_world.proofs.FollowLemmas.{text_append}

-- a line after a text is the last of its lines
one_line : (lines : List (List ℕ)) (line : List ℕ) → text_of lines ++ (line ++ 10 ∷ []) ≡ text_of (lines ++ line ∷ [])
one_line lines line = rw (flat_map-append, append-nil) refl

-- what is written after what was written
pub written_more : (xs ys : List (List ℕ)) (before middle after : List ℕ) → middle ≡ before ++ text_of xs
    → after ≡ middle ++ text_of ys → after ≡ before ++ text_of (xs ++ ys)
written_more xs ys before middle after first second =
    second ∙ ap (λ t. t ++ text_of ys) first ∙ append_assoc before (text_of xs) (text_of ys)
    ∙ ap (λ t. before ++ t) (sym (text_append xs ys))

-- a line after nothing is a text
pub line_alone : (line before text : List ℕ) → before ≡ [] → text ≡ before ++ (line ++ 10 ∷ [])
    → text ≡ text_of (line ∷ [])
line_alone line before text none is =
    is ∙ ap (λ t. t ++ (line ++ 10 ∷ [])) none ∙ sym (append-nil (line ++ 10 ∷ []))

-- the lines of the numbers below the next, and then its own
pub next_line : (line : ℕ → List ℕ) (before text after : List ℕ) (next : ℕ) → 1 ≤ next
    → text ≡ before ++ text_of (map line (range_with_len 1 (next - 1)))
    → after ≡ text ++ (line next ++ 10 ∷ [])
    → after ≡ before ++ text_of (map line (range_with_len 1 next))
next_line line before text after next first so_far new =
    let lines = map line (range_with_len 1 (next - 1)) in
    let count : next - 1 + 1 ≡ next = omega arith in
    let all = rw count at (map-range_with_len_more line 1 (next - 1) next (omega arith)) in
    new ∙ ap (λ t. t ++ (line next ++ 10 ∷ [])) so_far ∙ append_assoc before (text_of lines) (line next ++ 10 ∷ [])
    ∙ ap (λ t. before ++ t) (one_line lines (line next) ∙ ap text_of (sym all))
