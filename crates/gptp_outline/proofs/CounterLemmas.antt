-- Lines are counted piece by piece.
use Rattle.std.proofs.Common.{◌≡◌, ◌==◌, ◌+◌, ◌-◌, ◌≤◌, ℕ, suc, cond, List, count_by, drop, length, take, arith}
use Rattle.std.proofs.lemmas.List.{drop-take, length-take, take-take}
use Rattle.std.proofs.lemmas.List.Sums.{count_by-le-length, sum_by-take-drop}
use Rattle.gptp_outline.specs.Lines.{line_at}

-- from one place to a later one
pub counted_more : (text : List ℕ) (from to : ℕ) → from ≤ to
    → line_at text from + count_by (λ octet. octet == 10) (take (to - from) (drop from text)) ≡ line_at text to
counted_more text from to below =
    let end : from + (to - from) ≡ to = omega arith in
    let rest : drop from (take to text) ≡ take (to - from) (drop from text) =
    rw end at (drop-take from (to - from) text) in
    let parts = sum_by-take-drop (λ octet. cond (octet == 10) 1 0) (take to text) from in
    let whole : count_by (λ octet. octet == 10) (take from text)
    + count_by (λ octet. octet == 10) (take (to - from) (drop from text))
    ≡ count_by (λ octet. octet == 10) (take to text) = rw (take-take from to text below, rest) at parts in
    omega arith

-- a line's number is at most one above the length
pub line_small : (text : List ℕ) (place : ℕ) → line_at text place ≤ suc (length text)
line_small text place =
    omega (arith, count_by-le-length (λ octet. octet == 10) (take place text), length-take place text)
