-- Members have one order that is sorted and keeps equals as they stand.
use Rattle.std.proofs.Common.{◌≡◌, ◌+◌, ◌<◌, ◌&&◌, ℕ, suc, Bool, true, false, cond, not, List, [], ◌∷◌, filter, get_or, length, refl, sym, ap, ap₂, subst, ◌∙◌, arith}
use Rattle.std.specs.Bool.{⊤}
use Rattle.std.specs.Cmp.{IsStrictWeakOrder}
use Rattle.std.specs.List.Sorted.{IsSortedBy, ties}
use Rattle.std.proofs.lemmas.Cmp.{nat_list_cmp_total}
use Rattle.std.proofs.lemmas.List.Sorted.{IsStrictWeakOrder-flip, ranks_by, sorted_far}
use Rattle.gptp_faults.specs.Outcomes.{OutcomeState}
use Rattle.gptp_faults.specs.Ranking.{OutcomesAreRanked, is_worse, weight, worst_of}

module _ {X : Type 0} (lt : X → X → Bool) (o : IsStrictWeakOrder lt) where
  -- none of these is before x
  abbrev NoneBefore : X → List X → Type 0
  NoneBefore x [] = ⊤
  NoneBefore x (y ∷ ys) = (lt y x ≡ false) × NoneBefore x ys

  by_place : (x : X) (ys : List X) → ((k : ℕ) → k < length ys → lt (get_or ys k x) x ≡ false) → NoneBefore x ys
  by_place x [] at = tt
  by_place x (y ∷ ys) at = (at 0 (omega arith), by_place x ys (λ k below. at (suc k) (omega (arith, below))))

  -- of a sorted list the first is before all
  none_before : (x : X) (xs : List X) → IsSortedBy lt (x ∷ xs) → NoneBefore x xs
  none_before x xs up =
      by_place x xs (λ k below. sorted_far lt o (x ∷ xs) up 0 (suc k) x (omega arith) (omega (arith, below)))

  sorted_behind : (x : X) (xs : List X) → IsSortedBy lt (x ∷ xs) → IsSortedBy lt xs
  sorted_behind x xs up = λ k d low below.
      sorted_far lt o (x ∷ xs) up (suc k) (suc (k + 1)) d (omega arith) (omega (arith, below))

  not_before_itself : (x : X) (test : Bool) → lt x x ≡ test → lt x x ≡ false
  not_before_itself x true is = o.one_way x x is
  not_before_itself x false is = is

  itself : (x : X) → lt x x ≡ false
  itself x = not_before_itself x (lt x x) refl

  tie : (x y : X) → lt x y ≡ false → lt y x ≡ false → ties lt x y ≡ true
  tie x y here there = ap₂ (λ (s t : Bool). not s && not t) here there

  -- one that passes a test is kept in front of the others
  kept : (p : X → Bool) (x : X) (xs : List X) → p x ≡ true → filter p (x ∷ xs) ≡ x ∷ filter p xs
  kept p x xs is = ap (λ (b : Bool). cond b (x ∷ filter p xs) (filter p xs)) is

  -- what is kept first isn't before x where none is
  kept_step : (x y z : X) (kept rest : List X) (test : Bool) → cond test (z ∷ kept) kept ≡ y ∷ rest → lt z x ≡ false
      → (kept ≡ y ∷ rest → lt y x ≡ false) → lt y x ≡ false
  kept_step x y z kept rest true is low later =
      let same : z ≡ y = cc in subst (λ (w : X). lt w x ≡ false) same low
  kept_step x y z kept rest false is low later = later is

  kept_first : (p : X → Bool) (x y : X) (xs rest : List X) → filter p xs ≡ y ∷ rest → NoneBefore x xs → lt y x ≡ false
  kept_first p x y [] rest is none = absurd cc
  kept_first p x y (z ∷ zs) rest is none =
      kept_step x y z (filter p zs) rest (p z) is none.0 (λ more. kept_first p x y zs rest more none.1)

  -- two sorted lists of which the ties are the same are one
  tails_step : (z : X) (us vs : List X) (test : Bool) → cond test (z ∷ us) us ≡ cond test (z ∷ vs) vs → us ≡ vs
  tails_step z us vs true is = cc
  tails_step z us vs false is = is

  same_order : (xs ys : List X) → IsSortedBy lt xs → IsSortedBy lt ys
      → ((z : X) → filter (ties lt z) xs ≡ filter (ties lt z) ys) → xs ≡ ys
  same_order [] [] a b e = refl
  same_order [] (y ∷ ys) a b e =
      absurd (let clash : ◌≡◌ {A = List X} [] (y ∷ filter (ties lt y) ys) =
      e y ∙ kept (ties lt y) y ys (tie y y (itself y) (itself y)) in cc)
  same_order (x ∷ xs) [] a b e =
      absurd (let clash : ◌≡◌ {A = List X} [] (x ∷ filter (ties lt x) xs) =
      sym (e x) ∙ kept (ties lt x) x xs (tie x x (itself x) (itself x)) in cc)
  same_order (x ∷ xs) (y ∷ ys) a b e =
      let own_x = kept (ties lt x) x xs (tie x x (itself x) (itself x)) in
      let own_y = kept (ties lt y) y ys (tie y y (itself y) (itself y)) in
      let there : lt y x ≡ false =
      kept_first (ties lt y) x y (x ∷ xs) (filter (ties lt y) ys) (e y ∙ own_y) (itself x, none_before x xs a) in
      let here : lt x y ≡ false =
      kept_first (ties lt x) y x (y ∷ ys) (filter (ties lt x) xs) (sym (e x) ∙ own_x) (itself y, none_before y ys b) in
      let fronts : ◌≡◌ {A = List X} (x ∷ filter (ties lt x) xs) (y ∷ filter (ties lt x) ys) =
      sym own_x ∙ e x ∙ kept (ties lt x) y ys (tie x y here there) in
      let heads : x ≡ y = cc in
      let tails : (z : X) → filter (ties lt z) xs ≡ filter (ties lt z) ys = λ z.
      tails_step x (filter (ties lt z) xs) (filter (ties lt z) ys) (ties lt z x)
      (subst (λ (w : X). filter (ties lt z) (x ∷ xs) ≡ filter (ties lt z) (w ∷ ys)) (sym heads) (e z)) in
      ap₂ (λ (w : X) (ws : List X). w ∷ ws) heads
      (same_order xs ys (sorted_behind x xs a) (sorted_behind y ys b) tails)

pub worse_orders : IsStrictWeakOrder is_worse
worse_orders = IsStrictWeakOrder-flip _ (ranks_by nat_list_cmp_total (λ (o : OutcomeState). weight (worst_of o)))

-- so outcomes are ranked in one order
pub ranked_once : (outcomes a b : List OutcomeState) → OutcomesAreRanked outcomes a
    → OutcomesAreRanked outcomes b → a ≡ b
ranked_once outcomes a b x y =
    same_order is_worse worse_orders a b x.worst_first y.worst_first (λ z. x.equals z ∙ sym (y.equals z))
