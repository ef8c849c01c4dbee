-- The smallest and the largest of the intervals that the ports of a network announce at.
use Rattle.std.proofs.Common.{◌≡◌, ◌≤◌, inl, inr, ◌⊎◌, ℕ, zero, suc, ℤ, ◌≤ℤ◌, List, [], ◌∷◌, ◌++◌, Option, Some, None, slice_get, false, rules, refl, sym, ap, subst, ◌∙◌, append-nil, arith}
use Rattle.std.specs.Int.{int_max, int_min}
use Rattle.std.specs.List.{All, AllByRecursion, Contains, cons_option, flat_map, fold, list_any, reduce}
use Rattle.std.specs.Option.{unwrap_or}
use Rattle.std.proofs.lemmas.Bool.Decides.{nat_tests}
use Rattle.std.proofs.lemmas.Grind.{flat_map-append}
use Rattle.std.proofs.lemmas.Int.{fold-int_max_bounds, fold-int_max_reached, fold-int_min_bounds, fold-int_min_reached}
use Rattle.std.proofs.lemmas.List.Sums.{fold-append}
use Rattle.std.proofs.lemmas.Option.{slice_get_within}
use Rattle.gptp_lists.specs.Members.{In}
use Rattle.gptp_lists.proofs.MappedLemmas.{there_contains}
use Rattle.gptp_lists.proofs.SystemSpecLemmas.{In-left, In-parts, In-right, In-slice_get, slice_get-In}
use Rattle.gptp_lists.proofs.PlaceLemmas.{read}
use Rattle.gptp_setup.specs.Intervals.{interval_of, IsLog, IsLogUpTo}
use Rattle.gptp_setup.proofs.IntervalLemmas.{interval_rises}
use Rattle.gptp_scenario.specs.Network.{NetworkState, ArePrompt, IsKeptNetwork, IsNetwork, is_any_slower, largest_of, logs_of, pace_of, smallest_of, with_system}
use Rattle.gptp_scenario.specs.Params.{KeepPace}
use Rattle.gptp_scenario.specs.declared.network.SystemSpec.{SystemSpec}
use Rattle.gptp_scenario.specs.declared.network.LinkSpec.{LinkSpec}

-- ---- members

-- what holds of each element holds of a member
pub of_member : {X : Type 0} (P : X → Type 0) (xs : List X) (x : X) → All P xs → In x xs → P x
of_member P xs x each member =
    let (place, there) = slice_get-In x xs member in
    subst P (read xs place x x there) (each place x (slice_get_within xs place x there))

-- what holds of each member holds by recursion
by_members : {X : Type 0} (P : X → Type 0) (xs : List X) → ((x : X) → In x xs → P x) → AllByRecursion P xs
by_members P [] each = tt
by_members P (x ∷ xs) each = (each x (inl refl), by_members P xs (λ y member. each y (inr member)))

-- a member of what a list's elements give is one of what some element gives
pub from_flat_map : {X Y : Type 0} (f : X → List Y) (y : Y) (xs : List X) → In y (flat_map f xs)
    → (i : ℕ) × (x : X) × (slice_get xs i ≡ Some x) × In y (f x)
from_flat_map f y [] member = absurd member
from_flat_map f y (x ∷ xs) member =
    elim (In-parts y (f x) (flat_map f xs) member) [
      | inl now ↦ (zero, x, refl, now)
      | inr later ↦ let (i, z, there, at) = from_flat_map f y xs later in (suc i, z, there, at)
    ]

pub In-flat_map : {X Y : Type 0} (f : X → List Y) (y : Y) (xs : List X) (i : ℕ) (x : X) → slice_get xs i ≡ Some x
    → In y (f x) → In y (flat_map f xs)
In-flat_map f y [] i x there member = absurd cc
In-flat_map f y (z ∷ xs) zero x there member =
    let same : z ≡ x = cc in In-left y (f z) (flat_map f xs) (subst (λ v. In y (f v)) (sym same) member)
In-flat_map f y (z ∷ xs) (suc i) x there member =
    In-right y (f z) (flat_map f xs) (In-flat_map f y xs i x there member)

-- ---- one list after another

-- what f makes of a list after another, it makes of it after what it made of that
pub reduce-append : {X : Type 0} (f : X → X → X) (xs ys : List X)
    → reduce f (xs ++ ys) ≡ reduce f (cons_option (reduce f xs) ys)
reduce-append f [] ys = refl
reduce-append f (x ∷ xs) ys = ap Some (fold-append f x xs ys)

pub reduce_alone : {X : Type 0} (f : X → X → X) (found : Option X) → reduce f (cons_option found []) ≡ found
reduce_alone f None = refl
reduce_alone f (Some x) = refl

-- the intervals with one system more
pub logs_added : (n : NetworkState) (m : SystemSpec) → logs_of (with_system m n) ≡ logs_of n ++ m.intervals.items
logs_added n m =
    let f : SystemSpec → List ℤ = λ k. k.intervals.items in
    flat_map-append f n.systems (m ∷ [])
    ∙ ap (λ logs. logs_of n ++ logs) (append-nil m.intervals.items)

pub reduce_added : (f : ℤ → ℤ → ℤ) (n : NetworkState) (m : SystemSpec) (found : Option ℤ) → found ≡ reduce f (logs_of n)
    → reduce f (cons_option found m.intervals.items) ≡ reduce f (logs_of (with_system m n))
reduce_added f n m found is =
    ap (λ o. reduce f (cons_option o m.intervals.items)) is ∙ sym (reduce-append f (logs_of n) m.intervals.items)
    ∙ sym (ap (reduce f) (logs_added n m))

-- ---- the smallest and the largest

-- What f makes of numbers, where there are any, is one of them, and stands in a relation to each.
record IsChosen (R : ℤ → ℤ → Type 0) (default : ℤ) (logs : List ℤ) (chosen : ℤ) : Type 0 where
  one : In chosen logs ⊎ (chosen ≡ default)
  each : (log : ℤ) → In log logs → R chosen log

module _ (f : ℤ → ℤ → ℤ) (R : ℤ → ℤ → Type 0)
    (reached : (a : ℤ) (xs : List ℤ) (r : ℤ) → r ≡ fold f a xs → (r ≡ a) ⊎ Contains xs r)
    (bounds : (a : ℤ) (xs : List ℤ) (r : ℤ) → r ≡ fold f a xs → R r a × All (R r) xs) where
  is_chosen : (default : ℤ) (logs : List ℤ) → IsChosen R default logs (unwrap_or (reduce f logs) default)
  is_chosen default [] = record { one = inr refl; each = λ log member. absurd member }
  is_chosen default (first ∷ logs) = record {
    one = elim (reached first logs _ refl) [
      | inl same ↦ inl (inl same)
      | inr among ↦ let (place, there) = there_contains logs _ among in inl (inr (In-slice_get _ logs place there))
    ];
    each = λ log member. let of = bounds first logs _ refl in elim member [
      | inl same ↦ subst (R (fold f first logs)) (sym same) of.0
      | inr later ↦ of_member (R (fold f first logs)) logs log of.1 later
    ];
  }

smallest_chosen : (n : NetworkState) → IsChosen (λ r x. r ≤ℤ x) n.params.announce (logs_of n) (smallest_of n)
unfolding smallest_of
smallest_chosen n =
    is_chosen int_min (λ r x. r ≤ℤ x) fold-int_min_reached fold-int_min_bounds n.params.announce (logs_of n)

largest_chosen : (n : NetworkState) → IsChosen (λ r x. x ≤ℤ r) n.params.announce (logs_of n) (largest_of n)
unfolding largest_of
largest_chosen n =
    is_chosen int_max (λ r x. x ≤ℤ r) fold-int_max_reached fold-int_max_bounds n.params.announce (logs_of n)

-- what is kept of a network
pub kept_smallest : (n : NetworkState) (least greatest : Option ℤ) → IsKeptNetwork n least greatest
    → unwrap_or least n.params.announce ≡ smallest_of n
unfolding smallest_of
kept_smallest n least greatest h = ap (λ found. unwrap_or found n.params.announce) h.smallest

pub kept_largest : (n : NetworkState) (least greatest : Option ℤ) → IsKeptNetwork n least greatest
    → unwrap_or greatest n.params.announce ≡ largest_of n
unfolding largest_of
kept_largest n least greatest h = ap (λ found. unwrap_or found n.params.announce) h.largest

pub smallest_least : (n : NetworkState) (log : ℤ) → In log (logs_of n) → smallest_of n ≤ℤ log
smallest_least n = (smallest_chosen n).each

pub largest_greatest : (n : NetworkState) (log : ℤ) → In log (logs_of n) → log ≤ℤ largest_of n
largest_greatest n = (largest_chosen n).each

-- no interval is below the smallest
pub interval_least : (n : NetworkState) (log : ℤ) → In log (logs_of n) → interval_of (smallest_of n) ≤ interval_of log
interval_least n log member = interval_rises (smallest_of n) log (smallest_least n log member)

-- ---- the intervals of a network

-- what holds of each system's intervals holds of each of the network
pub logs_so : (P : ℤ → Type 0) (n : NetworkState)
    → ((i : ℕ) (m : SystemSpec) → slice_get n.systems i ≡ Some m → All P m.intervals.items)
    → (log : ℤ) → In log (logs_of n) → P log
logs_so P n each log member =
    let (i, m, there, at) = from_flat_map _ log n.systems member in
    of_member P m.intervals.items log (each i m there) at

-- what holds of each, and of the interval of the parameters, holds of the smallest and of the largest
chosen_so : (P : ℤ → Type 0) (n : NetworkState) (R : ℤ → ℤ → Type 0) (chosen : ℤ)
    → IsChosen R n.params.announce (logs_of n) chosen → ((log : ℤ) → In log (logs_of n) → P log) → P n.params.announce
    → P chosen
chosen_so P n R chosen is each default = elim is.one [
  | inl member ↦ each chosen member
  | inr same ↦ subst P (sym same) default
]

pub smallest_so : (P : ℤ → Type 0) (n : NetworkState) → ((log : ℤ) → In log (logs_of n) → P log)
    → P n.params.announce → P (smallest_of n)
smallest_so P n = chosen_so P n _ (smallest_of n) (smallest_chosen n)

pub largest_so : (P : ℤ → Type 0) (n : NetworkState) → ((log : ℤ) → In log (logs_of n) → P log)
    → P n.params.announce → P (largest_of n)
largest_so P n = chosen_so P n _ (largest_of n) (largest_chosen n)

-- where the intervals of each system are within the limits, they are so up to the largest
pub logs_up_to : (n : NetworkState)
    → ((i : ℕ) (m : SystemSpec) → slice_get n.systems i ≡ Some m → All IsLog m.intervals.items)
    → (i : ℕ) (m : SystemSpec) → slice_get n.systems i ≡ Some m
    → AllByRecursion (IsLogUpTo (largest_of n)) m.intervals.items
logs_up_to n each i m there = by_members (IsLogUpTo (largest_of n)) m.intervals.items (λ log member.
    let among = In-flat_map _ log n.systems i m there member in
    record { within = logs_so IsLog n each log among; most = largest_greatest n log among })

-- each is within the limits, and no shorter than that of requests
pub logs_within : (n : NetworkState) → IsNetwork n → (log : ℤ) → In log (logs_of n) → IsLog log
logs_within n h = logs_so IsLog n (λ i m there. (h.systems i m there).logs)

pub logs_timed : (n : NetworkState) → IsNetwork n → (log : ℤ) → In log (logs_of n)
    → interval_of n.params.pdelay ≤ interval_of log
logs_timed n h log member =
    interval_rises n.params.pdelay log (logs_so (λ v. n.params.pdelay ≤ℤ v) n h.timed log member)

-- so are the smallest and the largest
pub smallest_log : (n : NetworkState) → IsNetwork n → IsLog (smallest_of n)
smallest_log n h = smallest_so IsLog n (logs_within n h) h.params.ranges.params.announce

pub largest_log : (n : NetworkState) → IsNetwork n → IsLog (largest_of n)
largest_log n h = largest_so IsLog n (logs_within n h) h.params.ranges.params.announce

pub keeps_pace : (n : NetworkState) → IsNetwork n → KeepPace (pace_of n)
keeps_pace n h = record {
  params = h.params;
  largest = largest_log n h;
  requests = largest_so (λ v. interval_of n.params.pdelay ≤ interval_of v) n (logs_timed n h) h.params.requests;
}

-- ---- delays

-- where no link is slower than an interval, each frame arrives within it
prompt_within : (links : List LinkSpec) (log : ℤ) → is_any_slower links log ≡ false → ArePrompt links log
prompt_within [] log none i w there = absurd cc
prompt_within (v ∷ links) log none zero w there =
    let same : v ≡ w = cc in
    subst (λ (u : LinkSpec). u.bounds.max ≤ interval_of log) same (grind (arith, nat_tests))
prompt_within (v ∷ links) log none (suc i) w there = prompt_within links log (search rules) i w there

pub all_prompt : (links : List LinkSpec) (logs : List ℤ) → list_any (is_any_slower links) logs ≡ false
    → All (ArePrompt links) logs
all_prompt links [] none k d within = absurd (omega arith)
all_prompt links (log ∷ logs) none zero d within = prompt_within links log (search rules)
all_prompt links (log ∷ logs) none (suc k) d within = all_prompt links logs (search rules) k d (omega arith)
