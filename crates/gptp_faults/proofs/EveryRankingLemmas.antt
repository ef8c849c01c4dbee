-- Outcomes have an order in which they are told, and each root that is followed has its number of systems.
use Rattle.std.proofs.Common.{◌≡◌, ◌+◌, ◌<◌, ℕ, zero, suc, Bool, true, false, cond, not, List, [], ◌∷◌, filter, map, refl, sym, ap, subst, ◌∙◌, inl, inr, arith}
use Rattle.std.specs.Bool.{⊤}
use Rattle.std.specs.Cmp.{IsStrictWeakOrder}
use Rattle.std.specs.List.Sorted.{IsPermutation, IsSortedBy, ties}
use Rattle.std.proofs.lemmas.Bool.{and_parts, not-true}
use Rattle.std.proofs.lemmas.List.Sorted.{IsPermutation-cons, IsPermutation-middle, IsPermutation-refl, IsPermutation-trans}
use native.Mathlib.Decide.{dec_lt}
use Rattle.gptp_graph.specs.Order.{IsRising}
use Rattle.gptp_lists.specs.Members.{In}
use Rattle.gptp_lists.proofs.SystemSpecLemmas.{from_map}
use Rattle.gptp_timeline.specs.Stretch.{times}
use Rattle.gptp_faults.specs.Follows.{AreFollows, followed}
use Rattle.gptp_faults.specs.Outcomes.{OutcomeState}
use Rattle.gptp_faults.specs.Ranking.{OutcomesAreRanked, is_worse}
use Rattle.gptp_faults.specs.declared.follows.Follow.{Follow}
use Rattle.gptp_faults.proofs.OrderLemmas.{worse_orders}

-- ---- members in order

module _ {X : Type 0} (lt : X → X → Bool) (o : IsStrictWeakOrder lt) where
  -- one more goes before the first that isn't before it
  abbrev put : X → List X → List X
  put x [] = x ∷ []
  put x (y ∷ ys) = cond (lt y x) (y ∷ put x ys) (x ∷ (y ∷ ys))

  abbrev sorted : List X → List X
  sorted [] = []
  sorted (x ∷ xs) = put x (sorted xs)

  -- it has the same members
  put_same : (x : X) (xs : List X) → IsPermutation (x ∷ xs) (put x xs)
  put_same x [] = IsPermutation-refl (x ∷ [])
  put_same x (y ∷ ys) = by (lt y x) (put_same x ys)
    where
      by : (before : Bool) → IsPermutation (x ∷ ys) (put x ys)
          → IsPermutation (x ∷ (y ∷ ys)) (cond before (y ∷ put x ys) (x ∷ (y ∷ ys)))
      by true rest =
          IsPermutation-trans (x ∷ (y ∷ ys)) (y ∷ (x ∷ ys)) (y ∷ put x ys)
          (IsPermutation-middle (x ∷ []) y ys) (IsPermutation-cons y (x ∷ ys) (put x ys) rest)
      by false rest = IsPermutation-refl (x ∷ (y ∷ ys))

  sorted_same : (xs : List X) → IsPermutation xs (sorted xs)
  sorted_same [] = IsPermutation-refl []
  sorted_same (x ∷ xs) =
      IsPermutation-trans (x ∷ xs) (x ∷ sorted xs) (put x (sorted xs))
      (IsPermutation-cons x xs (sorted xs) (sorted_same xs)) (put_same x (sorted xs))

  -- none is before the one in front of it
  abbrev Rises : List X → Type 0
  Rises [] = ⊤
  Rises (x ∷ []) = ⊤
  Rises (x ∷ (y ∷ ys)) = (lt y x ≡ false) × Rises (y ∷ ys)

  put_behind : (y x : X) (ys : List X) → lt x y ≡ false → Rises (y ∷ ys) → Rises (y ∷ put x ys)
  put_behind y x [] low up = (low, tt)
  put_behind y x (z ∷ zs) low up = by (lt z x) refl (λ under. put_behind z x zs under up.1)
    where
      by : (before : Bool) → lt z x ≡ before → (lt x z ≡ false → Rises (z ∷ put x zs))
          → Rises (y ∷ cond before (z ∷ put x zs) (x ∷ (z ∷ zs)))
      by true is rest = (up.0, rest (o.one_way z x is))
      by false is rest = (low, (is, up.1))

  put_rises : (x : X) (xs : List X) → Rises xs → Rises (put x xs)
  put_rises x [] up = tt
  put_rises x (y ∷ ys) up = by (lt y x) refl
    where
      by : (before : Bool) → lt y x ≡ before → Rises (cond before (y ∷ put x ys) (x ∷ (y ∷ ys)))
      by true is = put_behind y x ys (o.one_way y x is) up
      by false is = (is, up)

  sorted_rises : (xs : List X) → Rises (sorted xs)
  sorted_rises [] = tt
  sorted_rises (x ∷ xs) = put_rises x (sorted xs) (sorted_rises xs)

  rises_sorted : (xs : List X) → Rises xs → IsSortedBy lt xs
  rises_sorted [] up k d low below = absurd (omega (arith, below))
  rises_sorted (x ∷ []) up k d low below = absurd (omega (arith, below))
  rises_sorted (x ∷ (y ∷ ys)) up zero d low below = up.0
  rises_sorted (x ∷ (y ∷ ys)) up (suc k) d low below =
      let next : suc k + 1 ≡ suc (k + 1) = omega arith in
      rw next (rises_sorted (y ∷ ys) up.1 k d (omega arith) (omega (arith, below)))

  -- of two that tie with a third none is before the other
  not_both : (x y z : X) → lt y x ≡ true → ties lt z x ≡ true → ties lt z y ≡ true → ⊥
  not_both x y z before one other =
      let above : lt z x ≡ false = not-true (lt z x) (and_parts (not (lt z x)) (not (lt x z)) one).0 in
      let under : lt y z ≡ false = not-true (lt y z) (and_parts (not (lt z y)) (not (lt y z)) other).1 in
      let clash : true ≡ false = sym before ∙ o.chain y z x under above in absurd cc

  -- two that don't both pass a test may change places before what passes
  change_places : (one other : Bool) (x y : X) (some rest : List X) → (one ≡ true → other ≡ true → ⊥)
      → some ≡ cond one (x ∷ rest) rest
      → cond other (y ∷ some) some ≡ cond one (x ∷ cond other (y ∷ rest) rest) (cond other (y ∷ rest) rest)
  change_places true true x y some rest apart is = absurd (apart refl refl)
  change_places true false x y some rest apart is = is
  change_places false true x y some rest apart is = ap (λ zs. y ∷ zs) is
  change_places false false x y some rest apart is = is

  -- so those that tie stay as they stand
  put_ties : (z x : X) (xs : List X) → filter (ties lt z) (put x xs) ≡ filter (ties lt z) (x ∷ xs)
  put_ties z x [] = refl
  put_ties z x (y ∷ ys) = by (lt y x) refl (put_ties z x ys)
    where
      by : (before : Bool) → lt y x ≡ before → filter (ties lt z) (put x ys) ≡ filter (ties lt z) (x ∷ ys)
          → filter (ties lt z) (cond before (y ∷ put x ys) (x ∷ (y ∷ ys))) ≡ filter (ties lt z) (x ∷ (y ∷ ys))
      by true is rest =
          change_places (ties lt z x) (ties lt z y) x y (filter (ties lt z) (put x ys)) (filter (ties lt z) ys)
          (not_both x y z is) rest
      by false is rest = refl

  sorted_ties : (z : X) (xs : List X) → filter (ties lt z) (sorted xs) ≡ filter (ties lt z) xs
  sorted_ties z [] = refl
  sorted_ties z (x ∷ xs) =
      put_ties z x (sorted xs) ∙ ap (λ (kept : List X). cond (ties lt z x) (x ∷ kept) kept) (sorted_ties z xs)

-- ---- outcomes

pub each_is_ranked : (outcomes : List OutcomeState) → (told : List OutcomeState) × OutcomesAreRanked outcomes told
each_is_ranked outcomes = (
  sorted is_worse worse_orders outcomes,
  record {
    same = sorted_same is_worse worse_orders outcomes;
    worst_first = rises_sorted is_worse worse_orders (sorted is_worse worse_orders outcomes)
        (sorted_rises is_worse worse_orders outcomes);
    equals = λ z. sorted_ties is_worse worse_orders z outcomes;
  },
)

-- ---- roots

-- roots once each, by rising identity
record AreOnce (roots once : List ℕ) : Type 0 where
  rising : IsRising once
  all : (root : ℕ) → In root roots → In root once
  only : (root : ℕ) → In root once → In root roots

-- one more goes after a lower one
root_behind : (root lower : ℕ) (others more : List ℕ) → lower < root → IsRising (lower ∷ others)
    → AreOnce (root ∷ others) more → AreOnce (root ∷ (lower ∷ others)) (lower ∷ more)
root_behind root lower others more above up k = record {
  rising = ((λ y member. higher y (k.only y member)), k.rising);
  all = λ y member. there y member;
  only = λ y member. back y member;
}
  where
    higher : (y : ℕ) → In y (root ∷ others) → lower < y
    higher y (inl same) = omega (arith, above, same)
    higher y (inr later) = up.0 y later

    there : (y : ℕ) → In y (root ∷ (lower ∷ others)) → In y (lower ∷ more)
    there y (inl same) = inr (k.all y (inl same))
    there y (inr (inl same)) = inl same
    there y (inr (inr later)) = inr (k.all y (inr later))

    behind : (y : ℕ) → In y (root ∷ others) → In y (root ∷ (lower ∷ others))
    behind y (inl same) = inl same
    behind y (inr later) = inr (inr later)

    back : (y : ℕ) → In y (lower ∷ more) → In y (root ∷ (lower ∷ others))
    back y (inl same) = inr (inl same)
    back y (inr later) = behind y (k.only y later)

-- before a higher one
root_before : (root higher : ℕ) (others : List ℕ) → root < higher → IsRising (higher ∷ others)
    → AreOnce (root ∷ (higher ∷ others)) (root ∷ (higher ∷ others))
root_before root higher others below up = record {
  rising = ((λ y member. above y member), up);
  all = λ y member. member;
  only = λ y member. member;
}
  where
    above : (y : ℕ) → In y (higher ∷ others) → root < y
    above y (inl same) = omega (arith, below, same)
    above y (inr later) = let more : higher < y = up.0 y later in omega (arith, below, more)

-- and is there already where the same one stands
root_there : (root same : ℕ) (others : List ℕ) → root ≡ same → IsRising (same ∷ others)
    → AreOnce (root ∷ (same ∷ others)) (same ∷ others)
root_there root same others is up = record {
  rising = up;
  all = λ y member. elim member [
    | inl first ↦ inl (first ∙ is)
    | inr later ↦ later
  ];
  only = λ y member. inr member;
}

root_put : (root : ℕ) (once : List ℕ) → IsRising once → (more : List ℕ) × AreOnce (root ∷ once) more
root_put root [] up = (
  root ∷ [],
  record {
    rising = ((λ y none. absurd none), tt);
    all = λ y member. member;
    only = λ y member. member;
  },
)
root_put root (first ∷ others) up = by (dec_lt root first) (dec_lt first root) (root_put root others up.1)
  where
    by : Dec (root < first) → Dec (first < root) → ((more : List ℕ) × AreOnce (root ∷ others) more)
        → (more : List ℕ) × AreOnce (root ∷ (first ∷ others)) more
    by (yes below) other rest = (root ∷ (first ∷ others), root_before root first others below up)
    by (no over) (yes above) rest = (first ∷ rest.0, root_behind root first others rest.0 above up rest.1)
    by (no over) (no under) rest =
        let same : root ≡ first = omega (arith, over, under) in
        (first ∷ others, root_there root first others same up)

roots_once : (roots : List ℕ) → (once : List ℕ) × AreOnce roots once
roots_once [] = ([], record { rising = tt; all = λ y member. member; only = λ y member. member })
roots_once (root ∷ roots) =
    let (once, k) = roots_once roots in
    let (more, m) = root_put root once k.rising in (
      more,
      record {
        rising = m.rising;
        all = λ y member. elim member [
          | inl same ↦ m.all y (inl same)
          | inr later ↦ m.all y (inr (k.all y later))
        ];
        only = λ y member. elim (m.only y member) [
          | inl same ↦ inl same
          | inr later ↦ inr (k.only y later)
        ];
      },
    )

-- a root with how often it is there
abbrev follow_of : List ℕ → ℕ → Follow
follow_of roots root = record { root = root; systems = times roots root }

followed_of : (roots once : List ℕ) → followed (map (follow_of roots) once) ≡ once
followed_of roots [] = refl
followed_of roots (root ∷ once) = ap (λ rest. root ∷ rest) (followed_of roots once)

pub roots_are_followed : (roots : List ℕ) → (follow : List Follow) × AreFollows roots follow
roots_are_followed roots =
    let (once, k) = roots_once roots in
    let same = followed_of roots once in (
      map (follow_of roots) once,
      record {
        rising = subst IsRising (sym same) k.rising;
        all = λ root member. subst (In root) (sym same) (k.all root member);
        only = λ f member.
            let (root, there, is) = from_map (follow_of roots) f once member in
            subst (λ (g : Follow). In g.root roots) is (k.only root there);
        counted = λ f member.
            let (root, there, is) = from_map (follow_of roots) f once member in
            subst (λ (g : Follow). g.systems ≡ times roots g.root) is refl;
      },
    )
