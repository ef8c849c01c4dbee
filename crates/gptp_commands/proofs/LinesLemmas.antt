-- The lines of a text, the first one first.
use Rattle.std.proofs.Common.{◌≡◌, ℕ, ◌+◌, ◌<◌, ◌==◌, false, List, [], ◌∷◌, length, take, drop, refl, ap, append-nil, ◌∙◌, arith, length-drop}
use Rattle.std.specs.List.{position_or_len, slice_split, after_first}
use Rattle.std.specs.Str.Lines.{lines, lines_of_parts, strip_carriage_return}
use Rattle.std.proofs.lemmas.List.Splits.{slice_split_first, length-slice_split}
use Rattle.std.proofs.lemmas.List.{take-append-drop, drop-drop}
use Rattle.std.proofs.lemmas.Bool.Decides.{nat_tests}
use Rattle.gptp_commands.proofs.SplitLemmas.{splits_at}

-- how many octets stand before the first line feed
abbrev before_feed : List ℕ → ℕ
before_feed text = position_or_len (λ octet. octet == 10) text

-- a part that others follow is a line, less its carriage return
lines_of_parts-more : (part : List ℕ) (parts : List (List ℕ)) → 0 < length parts
    → lines_of_parts (part ∷ parts) ≡ strip_carriage_return part ∷ lines_of_parts parts
lines_of_parts-more part [] some = absurd (omega arith)
lines_of_parts-more part (next ∷ parts) some = refl

-- a last part that isn't empty is a line
lines_of_parts-last : (part : List ℕ) → 0 < length part → lines_of_parts (part ∷ []) ≡ part ∷ []
lines_of_parts-last [] some = absurd (omega arith)
lines_of_parts-last (x ∷ xs) some =
    let e : (length (x ∷ xs) == 0) ≡ false = grind (arith, nat_tests) in rw e refl

-- a text with a line feed begins with the line before it, and the other lines come after it
pub lines_fed : (text line fed rest : List ℕ) → line ≡ strip_carriage_return (take (before_feed text) text)
    → fed ≡ drop (before_feed text) text
    → 0 < length fed → rest ≡ drop 1 fed → lines text ≡ line ∷ lines rest
lines_fed text line fed rest line-is fed-is some rest-is =
    let parts = slice_split (λ octet. octet == 10) (after_first (λ octet. octet == 10) text) in
    let within : before_feed text < length text = let e = rw fed-is at some in
    omega (arith, length-drop (before_feed text) text) in
    let behind : rest ≡ drop (before_feed text + 1) text = rest-is ∙ rw fed-is (drop-drop 1 (before_feed text) text) in
    rw (line-is, behind) (ap lines_of_parts (slice_split_first (λ octet. octet == 10) text 0 within)
    ∙ lines_of_parts-more (take (before_feed text) text) parts
    (omega (arith, length-slice_split (λ octet. octet == 10) (after_first (λ octet. octet == 10) text))))

-- a text with no line feed is one line
pub lines_unfed : (text line rest : List ℕ) → 0 < length text → line ≡ take (before_feed text) text
    → rest ≡ drop (before_feed text) text → rest ≡ []
    → lines text ≡ line ∷ lines rest
lines_unfed text line rest some line-is rest-is none =
    let split = splits_at (λ octet. octet == 10) text in
    let unfed : drop (before_feed text) text ≡ [] = cc in
    let alone : split.parts ≡ [] = let back = rw unfed at split.back in cc in
    let whole : take (before_feed text) text
    ≡ text = rw (unfed, append-nil) at (take-append-drop (before_feed text) text) in
    rw (line-is, none) (ap lines_of_parts (split.front ∙ ap (λ parts. take (before_feed text) text ∷ parts) alone)
    ∙ lines_of_parts-last (take (before_feed text) text) (rw whole some))
