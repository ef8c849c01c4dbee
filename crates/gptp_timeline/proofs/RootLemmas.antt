-- How many roots there are in whatever order, and by their neighbours where they don't fall.
use Rattle.std.proofs.Common.{◌≡◌, ◌<◌, ◌≤◌, ℕ, zero, suc, ◌+◌, ◌-◌, ◌==◌, ◌&&◌, Bool, true, false, not, cond, drop, nat_lt, arith, List, [], ◌∷◌, length, take, get_or, refl, sym, ap, ap₂, subst, ◌∙◌}
use Rattle.std.specs.List.{count_by}
use Rattle.std.specs.List.Sorted.{IsNonDecreasing, IsPermutation}
use Rattle.std.proofs.lemmas.Bool.{eq-eqb, eqb-true, eqb-false, ne_eqb}
use Rattle.std.proofs.lemmas.Bool.Decides.{nat_tests}
use Rattle.std.proofs.lemmas.List.{drop_all, drop_more}
use Rattle.std.proofs.lemmas.List.Sorted.{sum_by-IsPermutation}
use Rattle.std.proofs.lemmas.List.Sums.{sum_by-cons}
use Rattle.gptp_timeline.specs.Roots.{another_next, same_before}
use Rattle.gptp_timeline.specs.Stretch.{counted_roots, distinct, last_of_several, times}

-- one more is counted, or not
count_cons : (p : ℕ → Bool) (x : ℕ) (xs : List ℕ) → count_by p (x ∷ xs) ≡ cond (p x) 1 0 + count_by p xs
count_cons p x xs = sum_by-cons (λ y. cond (p y) 1 0) x xs

times_cons : (x : ℕ) (xs : List ℕ) (r : ℕ) → times (x ∷ xs) r ≡ cond (x == r) 1 0 + times xs r
times_cons x xs r = count_cons (λ y. y == r) x xs

-- ---- each root once

-- a root that is there at all is there once among them
distinct_times : (xs : List ℕ) (r : ℕ) → times (distinct xs) r ≡ cond (nat_lt 0 (times xs r)) 1 0
distinct_times [] r = refl
distinct_times (x ∷ xs) r = by (nat_lt 0 (times xs x)) refl (x == r) refl (distinct_times xs r)
  where
    by : (again : Bool) → nat_lt 0 (times xs x) ≡ again → (same : Bool) → (x == r) ≡ same
        → times (distinct xs) r ≡ cond (nat_lt 0 (times xs r)) 1 0
        → times (cond again (distinct xs) (x ∷ distinct xs)) r ≡ cond (nat_lt 0 (times (x ∷ xs) r)) 1 0
    by true there true is rest =
        let one : x ≡ r = eqb-true x r is in
        let some : nat_lt 0 (times xs r) ≡ true = ap (λ y. nat_lt 0 (times xs y)) (sym one) ∙ there in
        let more : nat_lt 0 (cond true 1 0 + times xs r) ≡ true = grind (arith, nat_tests) in
        rest ∙ ap (λ t. cond t 1 0) (some ∙ sym more)
        ∙ ap (λ n. cond (nat_lt 0 n) 1 0) (sym (times_cons x xs r ∙ ap (λ t. cond t 1 0 + times xs r) is))
    by true there false is rest =
        let less : cond false 1 0 + times xs r ≡ times xs r = omega arith in
        rest ∙ ap (λ n. cond (nat_lt 0 n) 1 0)
        (sym (times_cons x xs r ∙ ap (λ t. cond t 1 0 + times xs r) is ∙ less))
    by false there true is rest =
        let one : x ≡ r = eqb-true x r is in
        let none : nat_lt 0 (times xs r) ≡ false = ap (λ y. nat_lt 0 (times xs y)) (sym one) ∙ there in
        let more : nat_lt 0 (cond true 1 0 + times xs r) ≡ true = grind (arith, nat_tests) in
        let here : times (x ∷ distinct xs) r ≡ 1 =
        times_cons x (distinct xs) r ∙ ap₂ (λ t n. cond t 1 0 + n) is (rest ∙ ap (λ t. cond t 1 0) none) in
        here ∙ ap (λ t. cond t 1 0) (sym more)
        ∙ ap (λ n. cond (nat_lt 0 n) 1 0) (sym (times_cons x xs r ∙ ap (λ t. cond t 1 0 + times xs r) is))
    by false there false is rest =
        let less : (n : ℕ) → cond false 1 0 + n ≡ n = λ n. omega arith in
        times_cons x (distinct xs) r ∙ ap (λ t. cond t 1 0 + times (distinct xs) r) is ∙ less (times (distinct xs) r)
        ∙ rest ∙ ap (λ n. cond (nat_lt 0 n) 1 0)
        (sym (times_cons x xs r ∙ ap (λ t. cond t 1 0 + times xs r) is ∙ less (times xs r)))

-- ---- how many pass a test, where each is there once

-- a test but for one root
abbrev but_for : ℕ → (ℕ → Bool) → ℕ → Bool
but_for u q v = q v && not (v == u)

count_but_for : (u : ℕ) (q : ℕ → Bool) (xs : List ℕ) → q u ≡ true
    → count_by q xs ≡ count_by (but_for u q) xs + times xs u
count_but_for u q [] passes = refl
count_but_for u q (x ∷ xs) passes = by (x == u) refl (q x) refl (count_but_for u q xs passes)
  where
    split : (same test : Bool) → (x == u) ≡ same → q x ≡ test
        → cond test 1 0 ≡ cond (test && not same) 1 0 + cond same 1 0
        → count_by q xs ≡ count_by (but_for u q) xs + times xs u
        → count_by q (x ∷ xs) ≡ count_by (but_for u q) (x ∷ xs) + times (x ∷ xs) u
    split same test is passed one rest =
        let a = count_cons q x xs ∙ ap (λ t. cond t 1 0 + count_by q xs) passed in
        let b = count_cons (but_for u q) x xs
        ∙ ap₂ (λ t s. cond (t && not s) 1 0 + count_by (but_for u q) xs) passed is in
        let c = times_cons x xs u ∙ ap (λ t. cond t 1 0 + times xs u) is in
        omega (arith, a, b, c, one, rest)

    by : (same : Bool) → (x == u) ≡ same → (test : Bool) → q x ≡ test
        → count_by q xs ≡ count_by (but_for u q) xs + times xs u
        → count_by q (x ∷ xs) ≡ count_by (but_for u q) (x ∷ xs) + times (x ∷ xs) u
    by true is true passed rest = split true true is passed refl rest
    by true is false passed rest =
        let no : true ≡ false = sym passes ∙ ap q (sym (eqb-true x u is)) ∙ passed in absurd cc
    by false is true passed rest = split false true is passed refl rest
    by false is false passed rest = split false false is passed refl rest

none_pass : (q : ℕ → Bool) (xs : List ℕ) → ((v : ℕ) → q v ≡ false) → count_by q xs ≡ 0
none_pass q [] none = refl
none_pass q (x ∷ xs) none =
    let here = count_cons q x xs ∙ ap (λ t. cond t 1 0 + count_by q xs) (none x) in
    let rest = none_pass q xs none in
    omega (arith, here, rest)

passed_parts : (a b : Bool) → (a && not b) ≡ true → (a ≡ true) × (b ≡ false)
passed_parts true true is = absurd cc
passed_parts true false is = (refl, refl)
passed_parts false b is = absurd cc

-- Each root of a list is there once.
abbrev AreOnce : List ℕ → Type 0
AreOnce xs = (v : ℕ) → times xs v ≤ 1

-- it holds all that pass a test
abbrev HoldsAll : (ℕ → Bool) → List ℕ → Type 0
HoldsAll q xs = (v : ℕ) → q v ≡ true → 0 < times xs v

-- two lists of which each holds all that pass
same_count : (q : ℕ → Bool) (us vs : List ℕ) → AreOnce us → AreOnce vs → HoldsAll q us → HoldsAll q vs
    → count_by q us ≡ count_by q vs
same_count q [] vs once_us once_vs all_us all_vs =
    sym (none_pass q vs (λ v. fails v (q v) refl))
  where
    fails : (v : ℕ) (test : Bool) → q v ≡ test → q v ≡ false
    fails v true is = let no : 0 < 0 = all_us v is in absurd (omega (arith, no))
    fails v false is = is
same_count q (u ∷ us) vs once_us once_vs all_us all_vs = by (λ p. same_count p us vs) (q u) refl
  where
    fewer : AreOnce us
    fewer v = let all = once_us v in let more = times_cons u us v in omega (arith, all, more)

    -- one that is another than the first is among the rest
    behind : (p : ℕ → Bool) → HoldsAll p (u ∷ us) → ((v : ℕ) → p v ≡ true → (u == v) ≡ false) → HoldsAll p us
    behind p all other v passes =
        let some = all v passes in
        let more = times_cons u us v ∙ ap (λ t. cond t 1 0 + times us v) (other v passes) in
        omega (arith, some, more)

    apart : (v : ℕ) → (v == u) ≡ false → (u == v) ≡ false
    apart v is = ne_eqb u v (λ same. eqb-false v u is (sym same))

    by : ((p : ℕ → Bool) → AreOnce us → AreOnce vs → HoldsAll p us → HoldsAll p vs → count_by p us ≡ count_by p vs)
        → (test : Bool) → q u ≡ test → count_by q (u ∷ us) ≡ count_by q vs
    by same false fails =
        let rest : count_by q us ≡ count_by q vs =
        same q fewer once_vs (behind q all_us (λ v passes. ne_eqb u v (λ is.
        let no : true ≡ false = sym passes ∙ ap q (sym is) ∙ fails in absurd cc))) all_vs in
        let here = count_cons q u us ∙ ap (λ t. cond t 1 0 + count_by q us) fails in
        omega (arith, here, rest)
    by same true passes =
        let p : ℕ → Bool = but_for u q in
        let both : (v : ℕ) → p v ≡ true → (q v ≡ true) × ((v == u) ≡ false) =
        λ v passed. passed_parts (q v) (v == u) passed in
        let rest : count_by p us ≡ count_by p vs =
        same p fewer once_vs
        (behind p (λ v passed. all_us v (both v passed).0) (λ v passed. apart v (both v passed).1))
        (λ v passed. all_vs v (both v passed).0) in
        let here = count_cons q u us ∙ ap (λ t. cond t 1 0 + count_by q us) passes in
        let left = count_but_for u q us passes in
        let right = count_but_for u q vs passes in
        let first = times_cons u us u ∙ ap (λ t. cond t 1 0 + times us u) (eq-eqb u u refl) in
        let most = once_us u in
        let some = all_vs u passes in
        let few = once_vs u in
        omega (arith, rest, here, left, right, first, most, some, few)

-- ---- whatever their order

same_times : (xs ys : List ℕ) → IsPermutation xs ys → (r : ℕ) → times ys r ≡ times xs r
same_times xs ys moved r = sum_by-IsPermutation (λ y. cond (y == r) 1 0) xs ys moved

once : (xs : List ℕ) → AreOnce (distinct xs)
once xs v = subst (λ n. n ≤ 1) (sym (distinct_times xs v)) (few (nat_lt 0 (times xs v)))
  where
    few : (b : Bool) → cond b 1 0 ≤ 1
    few true = omega arith
    few false = omega arith

abbrev are_several : List ℕ → ℕ → Bool
are_several xs r = nat_lt 1 (times xs r)

abbrev is_one : List ℕ → ℕ → Bool
is_one xs r = times xs r == 1

holds_several : (xs ys : List ℕ) → ((r : ℕ) → times ys r ≡ times xs r) → HoldsAll (are_several xs) (distinct ys)
holds_several xs ys same v several =
    let n = same v in
    let some : nat_lt 0 (times ys v) ≡ true = grind (arith, nat_tests) in
    let one = distinct_times ys v ∙ ap (λ t. cond t 1 0) some in
    omega (arith, one)

pub several_same : (xs ys : List ℕ) → IsPermutation xs ys
    → count_by (λ root. nat_lt 1 (times ys root)) (distinct ys)
    ≡ count_by (λ root. nat_lt 1 (times xs root)) (distinct xs)
several_same xs ys moved =
    let same = same_times xs ys moved in
    let tests : are_several ys ≡ are_several xs = λ i r. nat_lt 1 (same r i) in
    ap (λ p. count_by p (distinct ys)) tests
    ∙ same_count (are_several xs) (distinct ys) (distinct xs) (once ys) (once xs) (holds_several xs ys same)
    (holds_several xs xs (λ r. refl))

pub alone_same : (xs ys : List ℕ) → IsPermutation xs ys
    → count_by (λ root. times ys root == 1) ys ≡ count_by (λ root. times xs root == 1) xs
alone_same xs ys moved =
    let same = same_times xs ys moved in
    let tests : is_one ys ≡ is_one xs = λ i r. same r i == 1 in
    ap (λ p. count_by p ys) tests ∙ sum_by-IsPermutation (λ y. cond (is_one xs y) 1 0) xs ys moved

-- ---- where they don't fall

tail : (x : ℕ) (xs : List ℕ) → IsNonDecreasing (x ∷ xs) → IsNonDecreasing xs
tail x xs rises i j d le below = rises (suc i) (suc j) d (omega (arith, le)) (omega (arith, below))

-- none is there that is below all
none_below : (r : ℕ) (xs : List ℕ) → ((j d : ℕ) → j < length xs → r < get_or xs j d) → times xs r ≡ 0
none_below r [] low = refl
none_below r (x ∷ xs) low =
    let first = low 0 0 (omega arith) in
    let other : (x == r) ≡ false = ne_eqb x r (λ same. absurd (omega (arith, first, same))) in
    let here = times_cons x xs r ∙ ap (λ t. cond t 1 0 + times xs r) other in
    let rest = none_below r xs (λ j d below. low (suc j) d (omega (arith, below))) in
    omega (arith, here, rest)

-- a root is there no more after a place exactly where another follows
pub last_is : (xs : List ℕ) (place : ℕ) → IsNonDecreasing xs → place < length xs
    → (times (drop (place + 1) xs) (get_or xs place 0) == 0) ≡ another_next xs place
last_is [] place rises below = absurd (omega (arith, below))
last_is (x ∷ []) zero rises below = refl
last_is (x ∷ (y ∷ ys)) zero rises below = by (y == x) refl
  where
    by : (same : Bool) → (y == x) ≡ same → (times (y ∷ ys) x == 0) ≡ not (y == x)
    by true is =
        let n = times_cons y ys x ∙ ap (λ t. cond t 1 0 + times ys x) is in
        let some : (times (y ∷ ys) x == 0) ≡ false = grind (arith, nat_tests) in
        some ∙ ap not (sym is)
    by false is =
        let first = rises 0 1 0 (omega arith) (omega arith) in
        let apart = eqb-false y x is in
        let n : times (y ∷ ys) x ≡ 0 = none_below x (y ∷ ys) (λ j d within.
        let low = rises 1 (suc j) d (omega arith) (omega (arith, within)) in
        let above : x < y = omega (arith, first, apart) in
        omega (arith, low, above)) in
        ap (λ k. k == 0) n ∙ ap not (sym is)
last_is (x ∷ xs) (suc place) rises below =
    let next : suc place + 1 ≡ suc (place + 1) = omega arith in
    rw next (last_is xs place (tail x xs rises) (omega (arith, below)))

behind_first : (xs : List ℕ) (place : ℕ)
    → same_before xs (suc place) ≡ (get_or xs place 0 == get_or xs (suc place) 0)
behind_first xs place =
    let one : suc place - 1 ≡ place = omega arith in
    let some : nat_lt 0 (suc place) ≡ true = grind (arith, nat_tests) in
    ap₂ (λ t k. t && (get_or xs k 0 == get_or xs (suc place) 0)) some one

-- it was there before exactly where the one before it is the same
pub before_is : (xs : List ℕ) (place : ℕ) → IsNonDecreasing xs → place < length xs
    → nat_lt 0 (times (take place xs) (get_or xs place 0)) ≡ same_before xs place
before_is xs zero rises below = refl
before_is [] (suc place) rises below = absurd (omega (arith, below))
before_is (x ∷ xs) (suc zero) rises below =
    ap (nat_lt 0) (times_cons x [] (get_or xs 0 0)) ∙ by (x == get_or xs 0 0) ∙ sym (behind_first (x ∷ xs) 0)
  where
    by : (same : Bool) → nat_lt 0 (cond same 1 0 + 0) ≡ same
    by true = refl
    by false = refl
before_is (x ∷ xs) (suc (suc place)) rises below =
    by (get_or xs place 0 == get_or xs (suc place) 0) refl
    (before_is xs (suc place) (tail x xs rises) (omega (arith, below)) ∙ behind_first xs place)
    ∙ sym (behind_first (x ∷ xs) (suc place))
  where
    r : ℕ
    r = get_or xs (suc place) 0

    by : (same : Bool) → (get_or xs place 0 == r) ≡ same
        → nat_lt 0 (times (take (suc place) xs) r) ≡ (get_or xs place 0 == r)
        → nat_lt 0 (times (x ∷ take (suc place) xs) r) ≡ (get_or xs place 0 == r)
    by true is rest =
        let some : nat_lt 0 (times (take (suc place) xs) r) ≡ true = rest ∙ is in
        let n = times_cons x (take (suc place) xs) r in
        let more : nat_lt 0 (times (x ∷ take (suc place) xs) r) ≡ true = grind (arith, nat_tests) in
        more ∙ sym is
    by false is rest =
        let low = rises 0 (suc place) 0 (omega arith) (omega (arith, below)) in
        let up = rises (suc place) (suc (suc place)) 0 (omega arith) below in
        let apart = eqb-false (get_or xs place 0) r is in
        let other : (x == r) ≡ false = ne_eqb x r (λ same. absurd (omega (arith, low, up, apart, same))) in
        let less : cond false 1 0 + times (take (suc place) xs) r ≡ times (take (suc place) xs) r = omega arith in
        ap (nat_lt 0) (times_cons x (take (suc place) xs) r
        ∙ ap (λ t. cond t 1 0 + times (take (suc place) xs) r) other ∙ less) ∙ rest

-- before a place, at it, and after it
around : (xs : List ℕ) (place : ℕ) → place < length xs
    → times xs (get_or xs place 0)
    ≡ times (take place xs) (get_or xs place 0) + 1 + times (drop (place + 1) xs) (get_or xs place 0)
around [] place below = absurd (omega (arith, below))
around (x ∷ xs) zero below =
    times_cons x xs x ∙ ap (λ t. cond t 1 0 + times xs x) (eq-eqb x x refl)
around (x ∷ xs) (suc place) below =
    let r : ℕ = get_or xs place 0 in
    let next : suc place + 1 ≡ suc (place + 1) = omega arith in
    let rest = around xs place (omega (arith, below)) in
    let all = times_cons x xs r in
    let front = times_cons x (take place xs) r in
    let whole : times (x ∷ xs) r ≡ times (x ∷ take place xs) r + 1 + times (drop (place + 1) xs) r =
    omega (arith, rest, all, front) in
    rw next whole

one_less : (n : ℕ) → nat_lt 1 (n + 1 + 0) ≡ nat_lt 0 n
one_less n = grind (arith, nat_tests)

pub last_of_several_is : (xs : List ℕ) (place : ℕ) → IsNonDecreasing xs → place < length xs
    → (another_next xs place && same_before xs place) ≡ last_of_several xs place
last_of_several_is xs place rises below =
    by (times (drop (place + 1) xs) r == 0) refl (last_is xs place rises below) (before_is xs place rises below)
  where
    r : ℕ
    r = get_or xs place 0

    by : (last : Bool) → (times (drop (place + 1) xs) r == 0) ≡ last
        → (times (drop (place + 1) xs) r == 0) ≡ another_next xs place
        → nat_lt 0 (times (take place xs) r) ≡ same_before xs place
        → (another_next xs place && same_before xs place)
        ≡ ((times (drop (place + 1) xs) r == 0) && nat_lt 1 (times xs r))
    by true is next before =
        let all = around xs place below in
        let none : times (drop (place + 1) xs) r ≡ 0 = eqb-true (times (drop (place + 1) xs) r) 0 is in
        let more : nat_lt 1 (times xs r) ≡ nat_lt 0 (times (take place xs) r) =
        ap (nat_lt 1) (all ∙ ap (λ n. times (take place xs) r + 1 + n) none)
        ∙ one_less (times (take place xs) r) in
        ap₂ (λ a b. a && b) (sym next) (sym before ∙ sym more)
    by false is next before =
        ap (λ t. t && same_before xs place) (sym next ∙ is)
        ∙ ap (λ t. t && nat_lt 1 (times xs r)) (sym is)

pub alone_is : (xs : List ℕ) (place : ℕ) → IsNonDecreasing xs → place < length xs
    → (another_next xs place && not (same_before xs place)) ≡ (times xs (get_or xs place 0) == 1)
alone_is xs place rises below =
    let all = around xs place below in
    let last = last_is xs place rises below in
    let before = before_is xs place rises below in
    ap₂ (λ a b. a && not b) (sym last) (sym before)
    ∙ one (times (take place xs) (get_or xs place 0)) (times (drop (place + 1) xs) (get_or xs place 0))
    ∙ ap (λ n. n == 1) (sym all)
  where
    by : (n m : ℕ) (last before : Bool) → (m == 0) ≡ last → nat_lt 0 n ≡ before
        → (last && not before) ≡ (n + 1 + m == 1)
    by n m true true is was =
        let several : (n + 1 + m == 1) ≡ false = grind (arith, nat_tests) in sym several
    by n m true false is was =
        let alone : (n + 1 + m == 1) ≡ true = grind (arith, nat_tests) in sym alone
    by n m false before is was =
        let several : (n + 1 + m == 1) ≡ false = grind (arith, nat_tests) in sym several

    one : (n m : ℕ) → ((m == 0) && not (nat_lt 0 n)) ≡ (n + 1 + m == 1)
    one n m = by n m (m == 0) (nat_lt 0 n) refl refl

-- one place more is looked at, and then none is left
pub alone_more : (roots : List ℕ) (place count : ℕ) (one : Bool) → place < length roots
    → one ≡ (times roots (get_or roots place 0) == 1)
    → count + count_by (λ root. times roots root == 1) (drop place roots)
    ≡ count_by (λ root. times roots root == 1) roots
    → count + cond one 1 0 + count_by (λ root. times roots root == 1) (drop (place + 1) roots)
    ≡ count_by (λ root. times roots root == 1) roots
alone_more roots place count one below is so_far =
    let test : ℕ → Bool = λ root. times roots root == 1 in
    let rest = drop (place + 1) roots in
    let here = ap (count_by test) (drop_more roots place 0 below) ∙ count_cons test (get_or roots place 0) rest in
    let byte : Bool → ℕ = λ b. cond b 1 0 in
    let step : cond one 1 0 ≡ cond (times roots (get_or roots place 0) == 1) 1 0 = ap byte is in
    omega (arith, here, step, so_far)

pub alone_all : (roots : List ℕ) (place count : ℕ) → length roots ≤ place
    → count + count_by (λ root. times roots root == 1) (drop place roots)
    ≡ count_by (λ root. times roots root == 1) roots
    → count ≡ count_by (λ root. times roots root == 1) roots
alone_all roots place count past so_far =
    let none = ap (count_by (λ root. times roots root == 1)) (drop_all place roots past) in
    let zero_left : count_by (λ root. times roots root == 1) [] ≡ 0 = refl in
    omega (arith, none, zero_left, so_far)

-- what is counted of roots in another order
pub counted_same : (without : ℕ) (xs ys : List ℕ) → IsPermutation xs ys
    → counted_roots without ys ≡ counted_roots without xs
counted_same without xs ys moved =
    ap₂ (λ r a. record { without = without; roots = r; alone = a }) (several_same xs ys moved) (alone_same xs ys moved)
