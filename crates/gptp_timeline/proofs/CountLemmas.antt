-- The roots of systems, and how many of them there are.
use Rattle.std.proofs.Common.{◌≡◌, ◌<◌, ◌≤◌, ℕ, ◌+◌, ◌==◌, ◌&&◌, Bool, true, false, cond, drop, nat_lt, arith, List, [], ◌∷◌, ◌++◌, length, take, get_or, Option, Some, None, option_map, refl, sym, ap, ◌∙◌, append-nil}
use Rattle.std.specs.List.{count_by}
use mir.Val.{bool_byte}
use Rattle.std.proofs.lemmas.Bool.Decides.{nat_tests}
use Rattle.std.proofs.lemmas.List.{drop_all, drop_more, take_more}
use Rattle.std.proofs.lemmas.List.Elements.{filter_map-append}
use Rattle.std.proofs.lemmas.List.Sums.{sum_by-cons}
use Rattle.gptp_timeline.specs.Stretch.{distinct, last_of_several, roots_of, shown_of_all, times, with_root}
use Rattle.gptp_timeline.specs.declared.shown.Shown.{Shown}
use Rattle.gptp_timeline.specs.declared.watched.Watched.{Watched}

shown_behind : (xs : List Watched) (x : Watched) → shown_of_all (xs ++ x ∷ []) ≡ shown_of_all xs ++ x.shown ∷ []
shown_behind [] x = refl
shown_behind (y ∷ ys) x = ap (λ rest. y.shown ∷ rest) (shown_behind ys x)

with_root_is : (s : Option Shown) (ys : List (Option Shown)) → with_root s (roots_of ys) ≡ roots_of (ys ++ s ∷ [])
with_root_is None ys =
    sym (filter_map-append (option_map (λ (s : Shown). s.root)) ys (None ∷ []) ∙ append-nil (roots_of ys))
with_root_is (Some s) ys = sym (filter_map-append (option_map (λ (s : Shown). s.root)) ys (Some s ∷ []))

-- the root of one system more
pub roots_more : (xs : List Watched) (i : ℕ) (x : Watched) (roots after : List ℕ) → i < length xs
    → x ≡ get_or xs i x → roots ≡ roots_of (shown_of_all (take i xs)) → after ≡ with_root x.shown roots
    → after ≡ roots_of (shown_of_all (take (i + 1) xs))
roots_more xs i x roots after below is so_far new =
    let more : take (i + 1) xs ≡ take i xs ++ x ∷ [] =
    take_more xs i x below ∙ ap (λ y. take i xs ++ y ∷ []) (sym is) in
    new ∙ ap (with_root x.shown) so_far ∙ with_root_is x.shown (shown_of_all (take i xs))
    ∙ ap roots_of (sym (ap shown_of_all more ∙ shown_behind (take i xs) x))

-- ---- roots that are there twice or more

-- the root at a place is counted where it stands for the last time
count_first : (test : ℕ → Bool) (y : ℕ) (ys : List ℕ)
    → cond ((times ys y == 0) && test y) 1 0 + count_by test (distinct ys) ≡ count_by test (distinct (y ∷ ys))
count_first test y ys = first_by test y ys (nat_lt 0 (times ys y)) refl
  where
    first_by : (test : ℕ → Bool) (y : ℕ) (ys : List ℕ) (t : Bool) → nat_lt 0 (times ys y) ≡ t
        → cond ((times ys y == 0) && test y) 1 0 + count_by test (distinct ys) ≡ count_by test (distinct (y ∷ ys))
    first_by test y ys true again =
        let more : times ys y == 0 ≡ false = grind (arith, nat_tests) in rw (again, more) (omega arith)
    first_by test y ys false again =
        let last : times ys y == 0 ≡ true = grind (arith, nat_tests) in
        rw (again, last) (sym (sum_by-cons (λ x. cond (test x) 1 0) y (distinct ys)))

-- one place more is looked at, and then none is left
pub several_more : (roots : List ℕ) (place count : ℕ) (last : Bool) → place < length roots
    → last ≡ last_of_several roots place
    → count + count_by (λ root. nat_lt 1 (times roots root)) (distinct (drop place roots))
    ≡ count_by (λ root. nat_lt 1 (times roots root)) (distinct roots)
    → count + cond last 1 0 + count_by (λ root. nat_lt 1 (times roots root)) (distinct (drop (place + 1) roots))
    ≡ count_by (λ root. nat_lt 1 (times roots root)) (distinct roots)
several_more roots place count last below is so_far =
    let test : ℕ → Bool = λ root. nat_lt 1 (times roots root) in
    let rest = drop (place + 1) roots in
    let here = drop_more roots place 0 below in
    let first = count_first test (get_or roots place 0) rest in
    let step : cond last 1 0 + count_by test (distinct rest) ≡ count_by test (distinct (drop place roots)) =
    ap (λ b. cond b 1 0 + count_by test (distinct rest)) is ∙ first
    ∙ ap (λ l. count_by test (distinct l)) (sym here) in
    omega (arith, step, so_far)

pub several_all : (roots : List ℕ) (place count : ℕ) → length roots ≤ place
    → count + count_by (λ root. nat_lt 1 (times roots root)) (distinct (drop place roots))
    ≡ count_by (λ root. nat_lt 1 (times roots root)) (distinct roots)
    → count ≡ count_by (λ root. nat_lt 1 (times roots root)) (distinct roots)
several_all roots place count past so_far =
    let none = ap (λ l. count_by (λ root. nat_lt 1 (times roots root)) (distinct l)) (drop_all place roots past) in
    let zero_left : count_by (λ root. nat_lt 1 (times roots root)) (distinct []) ≡ 0 = refl in
    omega (arith, none, zero_left, so_far)

-- a test as a number
pub byte_is : (b : Bool) → bool_byte b ≡ cond b 1 0
byte_is true = refl
byte_is false = refl

pub one_at_most : (b : Bool) → cond b 1 0 ≤ 1
one_at_most true = omega arith
one_at_most false = omega arith
