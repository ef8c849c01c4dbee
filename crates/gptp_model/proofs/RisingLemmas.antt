-- Numbers in rising order: each is there, they don't fall, and no other list of them is so. So it is with the clocks
-- of a world, and each of them is that of a system.
use Rattle.std.proofs.Common.{◌≡◌, ℕ, suc, nat_le, ◌+◌, ◌≤◌, Bool, true, false, if◌then◌else◌, List, [], ◌∷◌, length, map, Some, slice_get, refl, sym, ap, subst, ◌∙◌, arith}
use Rattle.std.specs.Bool.{⊤}
use Rattle.std.specs.List.{AllByRecursion, sum_by}
use Rattle.std.specs.List.Sorted.{IsNonDecreasing, IsPermutation}
use Rattle.std.proofs.lemmas.Bool.Decides.{nat_tests}
use Rattle.std.proofs.lemmas.List.{length-map}
use Rattle.std.proofs.lemmas.List.Elements.{recursion_from_All}
use Rattle.std.proofs.lemmas.List.Sorted.{length_permutation, Contains-permutation, IsPermutation-cons, IsPermutation-middle, IsPermutation-refl, IsPermutation-sym, IsPermutation-trans, sum_by-IsPermutation}
use Rattle.std.proofs.lemmas.List.Sums.{sum_by-cons}
use Rattle.gptp_system.specs.State.{clock}
use Rattle.gptp_model.specs.declared.station.Station.{Station}
use Rattle.gptp_model.specs.Acts.{AnySystem, AtSystem}
use Rattle.gptp_model.specs.Views.{put_rising, rising, rising_clocks}
use Rattle.gptp_model.specs.World.{WorldState}
use Rattle.gptp_lists.proofs.MappedLemmas.{contains_there, mapped, there_contains}

-- ---- each number is there

put_one : (n x : ℕ) (xs : List ℕ) (t : Bool) → nat_le n x ≡ t → IsPermutation (n ∷ xs) (put_rising n xs)
    → IsPermutation (n ∷ x ∷ xs) (put_rising n (x ∷ xs))
put_one n x xs true e so = rw e (IsPermutation-refl (n ∷ x ∷ xs))
put_one n x xs false e so =
    rw e (IsPermutation-trans (n ∷ x ∷ xs) (x ∷ n ∷ xs) (x ∷ put_rising n xs) (IsPermutation-middle (n ∷ []) x xs)
    (IsPermutation-cons x (n ∷ xs) (put_rising n xs) so))

put_all : (n : ℕ) (ns : List ℕ) → IsPermutation (n ∷ ns) (put_rising n ns)
put_all n [] = IsPermutation-refl (n ∷ [])
put_all n (x ∷ xs) = put_one n x xs (nat_le n x) refl (put_all n xs)

pub rising-all : (ns : List ℕ) → IsPermutation ns (rising ns)
rising-all [] = IsPermutation-refl []
rising-all (n ∷ ns) =
    IsPermutation-trans (n ∷ ns) (n ∷ rising ns) (put_rising n (rising ns))
    (IsPermutation-cons n ns (rising ns) (rising-all ns)) (put_all n (rising ns))

-- ---- they don't fall

abbrev AtLeast : ℕ → List ℕ → Type 0
AtLeast n = AllByRecursion (λ m. n ≤ m)

-- each is at most all that follow
abbrev Rises : List ℕ → Type 0
Rises [] = ⊤
Rises (n ∷ ns) = AtLeast n ns × Rises ns

lower : (n m : ℕ) (ns : List ℕ) → n ≤ m → AtLeast m ns → AtLeast n ns
lower n m [] le all = tt
lower n m (x ∷ xs) le all = let first = all.0 in (omega arith, lower n m xs le all.1)

put_least : (least n x : ℕ) (xs : List ℕ) (t : Bool) → nat_le n x ≡ t → least ≤ n → AtLeast least (x ∷ xs)
    → AtLeast least (put_rising n xs) → AtLeast least (put_rising n (x ∷ xs))
put_least least n x xs true e le all so = rw e (le, all)
put_least least n x xs false e le all so = rw e (all.0, so)

put_at_least : (least n : ℕ) (ns : List ℕ) → least ≤ n → AtLeast least ns → AtLeast least (put_rising n ns)
put_at_least least n [] le all = (le, tt)
put_at_least least n (x ∷ xs) le all =
    put_least least n x xs (nat_le n x) refl le all (put_at_least least n xs le all.1)

put_one_rises : (n x : ℕ) (xs : List ℕ) (t : Bool) → nat_le n x ≡ t → Rises (x ∷ xs) → Rises (put_rising n xs)
    → Rises (put_rising n (x ∷ xs))
put_one_rises n x xs true e up so =
    let le : n ≤ x = grind (arith, nat_tests) in rw e ((le, lower n x xs le up.0), up)
put_one_rises n x xs false e up so =
    let le : x ≤ n = grind (arith, nat_tests) in rw e (put_at_least x n xs le up.0, so)

put_rises : (n : ℕ) (ns : List ℕ) → Rises ns → Rises (put_rising n ns)
put_rises n [] up = (tt, tt)
put_rises n (x ∷ xs) up = put_one_rises n x xs (nat_le n x) refl up (put_rises n xs up.1)

rises : (ns : List ℕ) → Rises (rising ns)
rises [] = tt
rises (n ∷ ns) = put_rises n (rising ns) (rises ns)

rises_from : (ns : List ℕ) → IsNonDecreasing ns → Rises ns
rises_from [] up = tt
rises_from (n ∷ ns) up = (
  recursion_from_All (λ m. n ≤ m) ns (λ k d less. up 0 (suc k) d (omega arith) (omega arith)),
  rises_from ns (λ i j d le less. up (suc i) (suc j) d (omega arith) (omega arith)),
)

-- ---- no other list of them is so

-- both have the same total of every measure
abbrev AreAlike : List ℕ → List ℕ → Type 0
AreAlike xs ys = (f : ℕ → ℕ) → sum_by f xs ≡ sum_by f ys

-- counts what is at most a number
at_most : ℕ → ℕ → ℕ
at_most n m = if nat_le m n then 1 else 0

none_at_most : (n : ℕ) (ns : List ℕ) → AtLeast (n + 1) ns → sum_by (at_most n) ns ≡ 0
unfolding at_most
none_at_most n [] all = refl
none_at_most n (x ∷ xs) all =
    let first = all.0 in
    let above : nat_le x n ≡ false = grind (arith, nat_tests) in
    let one : sum_by (at_most n) (x ∷ xs) ≡ 0 + sum_by (at_most n) xs =
    sum_by-cons (at_most n) x xs ∙ ap (λ t. (if t then 1 else 0) + sum_by (at_most n) xs) above in
    let rest = none_at_most n xs all.1 in omega arith

-- the first of one is no more than the first of the other
first_least : (x y : ℕ) (xs ys : List ℕ) (t : Bool) → nat_le y x ≡ t → Rises (y ∷ ys) → AreAlike (x ∷ xs) (y ∷ ys)
    → y ≤ x
unfolding at_most
first_least x y xs ys true e up alike = grind (arith, nat_tests)
first_least x y xs ys false e up alike =
    let above : x + 1 ≤ y = grind (arith, nat_tests) in
    let none : sum_by (at_most x) (y ∷ ys) ≡ 0 = none_at_most x (y ∷ ys) (above, lower (x + 1) y ys above up.0) in
    let self : nat_le x x ≡ true = grind (arith, nat_tests) in
    let one : sum_by (at_most x) (x ∷ xs) ≡ 1 + sum_by (at_most x) xs =
    sum_by-cons (at_most x) x xs ∙ ap (λ t. (if t then 1 else 0) + sum_by (at_most x) xs) self in
    let same = alike (at_most x) in absurd (omega arith)

alike_behind : (x : ℕ) (xs ys : List ℕ) → AreAlike (x ∷ xs) (x ∷ ys) → AreAlike xs ys
alike_behind x xs ys alike = λ f.
    let same : f x + sum_by f xs ≡ f x + sum_by f ys =
    sym (sum_by-cons f x xs) ∙ (alike f ∙ sum_by-cons f x ys) in omega arith

same_order : (xs ys : List ℕ) → Rises xs → Rises ys → AreAlike xs ys → xs ≡ ys
same_order [] [] up_x up_y alike = refl
same_order [] (y ∷ ys) up_x up_y alike =
    let one = alike (λ n. 1) in let more = sum_by-cons (λ n. 1) y ys in absurd (omega arith)
same_order (x ∷ xs) [] up_x up_y alike =
    let one = alike (λ n. 1) in let more = sum_by-cons (λ n. 1) x xs in absurd (omega arith)
same_order (x ∷ xs) (y ∷ ys) up_x up_y alike =
    let below = first_least x y xs ys (nat_le y x) refl up_y alike in
    let above = first_least y x ys xs (nat_le x y) refl up_x (λ f. sym (alike f)) in
    let same : y ≡ x = omega arith in
    let behind : AreAlike xs ys = alike_behind x xs ys (subst (λ n. AreAlike (x ∷ xs) (n ∷ ys)) same alike) in
    ap (λ n. n ∷ xs) (sym same) ∙ ap (λ ns. y ∷ ns) (same_order xs ys up_x.1 up_y.1 behind)

pub rising-is : (ns others : List ℕ) → IsPermutation ns others → IsNonDecreasing others → others ≡ rising ns
rising-is ns others all order =
    same_order others (rising ns) (rises_from others order) (rises ns)
    (λ f. sum_by-IsPermutation f ns others all ∙ sym (sum_by-IsPermutation f ns (rising ns) (rising-all ns)))

-- ---- the clocks of a world

abbrev clock_of_station : Station → ℕ
clock_of_station s = clock s.system

pub rising_clocks-count : (w : WorldState) → length (rising_clocks w) ≡ length w.stations
rising_clocks-count w =
    length_permutation (map clock_of_station w.stations) (rising_clocks w)
    (rising-all (map clock_of_station w.stations))
    ∙ length-map w.stations clock_of_station

-- each is that of a system
pub rising_clocks-at : (w : WorldState) (place c : ℕ) → slice_get (rising_clocks w) place ≡ Some c
    → AtSystem c w AnySystem
rising_clocks-at w place c there =
    let clocks : List ℕ = map clock_of_station w.stations in
    let of : IsPermutation (rising clocks) clocks = IsPermutation-sym clocks (rising clocks) (rising-all clocks) in
    let found = there_contains clocks c
    (Contains-permutation (rising clocks) clocks c of (contains_there (rising clocks) place c there)) in
    let one = mapped clock_of_station w.stations found.0 c found.1 in
    record { place = found.0; station = one.0; is = record { here = one.1; named = one.2 }; so = tt }
