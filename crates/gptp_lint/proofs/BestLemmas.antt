-- The bests of the components, and the two best of each, are found at the labels.
use Rattle.std.proofs.Common.{◌≡◌, ◌≢◌, ◌⊎◌, ◌≤◌, ◌<◌, ◌==◌, ◌&&◌, ◌++◌, ℕ, zero, suc, Bool, true, false, cond, not, nat_lt, List, [], ◌∷◌, map, Option, Some, None, slice_get, refl, sym, ap, subst, ◌∙◌, inl, inr, arith}
use Rattle.std.specs.List.{flat_map}
use Rattle.std.specs.List.Sorted.{IsPermutation, IsSorted}
use Rattle.std.specs.Ordering.{nat_cmp}
use Rattle.std.proofs.lemmas.Bool.{and_from, and_parts, eq-eqb, eqb-true, eqb-false, ne_eqb, not-true, not_from_false}
use Rattle.std.proofs.lemmas.Bool.Decides.{nat_tests}
use Rattle.std.proofs.lemmas.List.{map-append}
use Rattle.std.proofs.lemmas.List.Sorted.{IsPermutation-sym}
use Rattle.gptp_lists.specs.Members.{Different, In}
use Rattle.gptp_lists.proofs.SystemSpecLemmas.{In-left, In-parts, In-right, In-slice_get, slice_get-In}
use Rattle.gptp_roles.specs.Selection.{clock_of}
use Rattle.gptp_graph.specs.Order.{IsRising}
use Rattle.gptp_graph.specs.SettledChoice.{IsBestIdentity}
use Rattle.gptp_graph.specs.Snapshot.{IsWellFormed, Snapshot, System}
use Rattle.gptp_graph.proofs.BestLemmas.{IsBest-reached, IsBest-unique}
use Rattle.gptp_network.proofs.SnapshotLemmas.{In-permutation}
use Rattle.gptp_lint.specs.Components.{AreBests, AreChances, IsBestOfOne, IsSecond, decides_by_clock}
use Rattle.gptp_lint.specs.Labels.{best_at, bests_in, better_label, second_in, with_other}
use Rattle.gptp_lint.specs.Moments.{chance_at, chance_if}
use Rattle.gptp_lint.specs.declared.graph.Edge.{Edge}
use Rattle.gptp_lint.specs.declared.labels.Label.{Label}
use Rattle.gptp_lint.proofs.LabelLemmas.{Found, Lives, best_of_system, has_best, own_clock}
use Rattle.gptp_lint.proofs.SortedLemmas.{sorted_rising}

-- ---- what several give

from_flat : {X Y : Type 0} (f : X → List Y) (y : Y) (xs : List X) → In y (flat_map f xs)
    → (x : X) × In x xs × In y (f x)
from_flat f y [] member = absurd member
from_flat f y (x ∷ xs) member = elim (In-parts y (f x) (flat_map f xs) member) [
  | inl here ↦ (x, inl refl, here)
  | inr behind ↦ let (z, at, is) = from_flat f y xs behind in (z, inr at, is)
]

In-flat : {X Y : Type 0} (f : X → List Y) (x : X) (y : Y) (xs : List X) → In x xs → In y (f x)
    → In y (flat_map f xs)
In-flat f x y [] member is = absurd member
In-flat f x y (z ∷ xs) (inl here) is = In-left y (f z) (flat_map f xs) (subst (λ u. In y (f u)) here is)
In-flat f x y (z ∷ xs) (inr behind) is = In-right y (f z) (flat_map f xs) (In-flat f x y xs behind is)

-- ---- bests

-- the label is that of a live system that is the best of its component
record IsOwn (l : Label) (id : ℕ) : Type 0 where
  lives : l.lives ≡ true
  best : l.best ≡ id
  identity : l.identity ≡ id

own_from : (l : Label) (id : ℕ) → In id (best_at l) → IsOwn l id
own_from l id member = by (l.lives && (l.best == l.identity)) refl member
  where
    by : (test : Bool) → (l.lives && (l.best == l.identity)) ≡ test → In id (cond test (l.identity ∷ []) [])
        → IsOwn l id
    by true is (inl same) =
        let parts = and_parts l.lives (l.best == l.identity) is in
        record { lives = parts.0; best = eqb-true l.best l.identity parts.1 ∙ sym same; identity = sym same }
    by true is (inr none) = absurd none
    by false is none = absurd none

own_to : (l : Label) (id : ℕ) → IsOwn l id → In id (best_at l)
own_to l id own =
    let test : (l.lives && (l.best == l.identity)) ≡ true =
    and_from l.lives (l.best == l.identity) own.lives
    (eq-eqb l.best l.identity (own.best ∙ sym own.identity)) in
    subst (λ b. In id (cond b (l.identity ∷ []) [])) (sym test) (inl (sym own.identity))

-- labels of different clocks give different bests
abbrev Once : List Label → Type 0
Once ls = (i j : ℕ) (l k : Label) → slice_get ls i ≡ Some l → slice_get ls j ≡ Some k → own_clock l ≡ own_clock k
    → i ≡ j

different_bests : (ls : List Label) → Once ls → Different (bests_in ls)
different_bests [] once = tt
different_bests (l ∷ ls) once = by (different_bests ls behind) (l.lives && (l.best == l.identity))
  where
    behind : Once ls
    behind = λ i j k m at there same. (let e : suc i ≡ suc j = once (suc i) (suc j) k m at there same in omega arith)

    first : In l.identity (bests_in ls) → ⊥
    first member =
        let (k, among, given) = from_flat best_at l.identity ls member in
        let own = own_from k l.identity given in
        let (place, there) = slice_get-In k ls among in
        let none : zero ≡ suc place = once zero (suc place) l k refl there (ap clock_of (sym own.identity)) in
        omega arith

    by : Different (bests_in ls) → (test : Bool) → Different (cond test (l.identity ∷ []) [] ++ bests_in ls)
    by rest true = (first, rest)
    by rest false = rest

-- ---- the second

-- another of the component with this best
record IsOther (best : ℕ) (l : Label) : Type 0 where
  lives : l.lives ≡ true
  best_is : l.best ≡ best
  apart : l.identity ≢ best

abbrev is_other : ℕ → Label → Bool
is_other best l = l.lives && ((l.best == best) && not (l.identity == best))

other_from : (best : ℕ) (l : Label) → is_other best l ≡ true → IsOther best l
other_from best l is =
    let (lives, both) = and_parts l.lives ((l.best == best) && not (l.identity == best)) is in
    let (same, apart) = and_parts (l.best == best) (not (l.identity == best)) both in
    record {
      lives = lives;
      best_is = eqb-true l.best best same;
      apart = eqb-false l.identity best (not-true (l.identity == best) apart);
    }

other_to : (best : ℕ) (l : Label) → IsOther best l → is_other best l ≡ true
other_to best l other =
    and_from l.lives ((l.best == best) && not (l.identity == best)) other.lives
    (and_from (l.best == best) (not (l.identity == best)) (eq-eqb l.best best other.best_is)
    (not_from_false (l.identity == best) (ne_eqb l.identity best other.apart)))

-- of these labels and of what was found before, this is the best of the others
record IsLeast (best : ℕ) (before : Option ℕ) (ls : List Label) (b : ℕ) : Type 0 where
  from : (before ≡ Some b) ⊎ ((l : Label) × In l ls × IsOther best l × (l.identity ≡ b))
  low : (l : Label) → In l ls → IsOther best l → b ≤ l.identity
  under : (c : ℕ) → before ≡ Some c → b ≤ c

-- or there is none
record IsNone (best : ℕ) (before : Option ℕ) (ls : List Label) : Type 0 where
  none : (l : Label) → In l ls → IsOther best l → ⊥
  before_is : before ≡ None

abbrev Tells : ℕ → Option ℕ → List Label → Option ℕ → Type 0
Tells best before ls None = IsNone best before ls
Tells best before ls (Some b) = IsLeast best before ls b

same_some : (x y : ℕ) → Some x ≡ Some y → x ≡ y
same_some x y e = cc

better_some : (id : ℕ) (before : Option ℕ)
    → ((better_label id before ≡ id) ⊎ (before ≡ Some (better_label id before)))
    × (better_label id before ≤ id) × ((c : ℕ) → before ≡ Some c → better_label id before ≤ c)
better_some id None = (inl refl, omega arith, λ c is. absurd cc)
better_some id (Some other) = by (nat_lt id other) refl
  where
    by : (test : Bool) → nat_lt id other ≡ test
        → ((cond test id other ≡ id) ⊎ (Some other ≡ Some (cond test id other)))
        × (cond test id other ≤ id) × ((c : ℕ) → Some other ≡ Some c → cond test id other ≤ c)
    by true is = (
      inl refl,
      omega arith,
      λ c same. (
          let one : other ≡ c = same_some other c same in
          let less : id < other = grind (arith, nat_tests) in omega arith
          ),
    )
    by false is = (
      inr refl,
      (let more : other ≤ id = grind (arith, nat_tests) in more),
      λ c same. (let one : other ≡ c = same_some other c same in omega arith),
    )

tells : (best : ℕ) (before : Option ℕ) (ls : List Label) → Tells best before ls (second_in best before ls)
tells best None [] = record { none = λ l member. absurd member; before_is = refl }
tells best (Some b) [] = record {
  from = inl refl;
  low = λ l member. absurd member;
  under = λ c is. (let same : b ≡ c = same_some b c is in omega arith);
}
tells best before (l ∷ ls) =
    by (is_other best l) refl (second_in best (with_other best l before) ls) (tells best (with_other best l before) ls)
  where
    with_true : is_other best l ≡ true → with_other best l before ≡ Some (better_label l.identity before)
    with_true is = ap (λ test. cond test (Some (better_label l.identity before)) before) is

    with_false : is_other best l ≡ false → with_other best l before ≡ before
    with_false is = ap (λ test. cond test (Some (better_label l.identity before)) before) is

    by : (test : Bool) → is_other best l ≡ test → (found : Option ℕ) → Tells best (with_other best l before) ls found
        → Tells best before (l ∷ ls) found
    by true is None told = let some = with_true is in let none = told.before_is in absurd cc
    by true is (Some b) told = record {
      from = elim told.from [
        | inl here ↦ elim (better_some l.identity before).0 [
          | inl own ↦ inr (
            l,
            inl refl,
            other_from best l is,
            sym own ∙ same_some (better_label l.identity before) b (sym (with_true is) ∙ here),
          )
          | inr kept ↦ inl (kept ∙ sym (with_true is) ∙ here)
        ]
        | inr there ↦ let (k, member, other, same) = there in inr (k, inr member, other, same)
      ];
      low = λ k member other. elim member [
        | inl here ↦ (let under = told.under (better_label l.identity before) (with_true is) in
            let low = (better_some l.identity before).1 in let same : k.identity ≡ l.identity = ap
            (λ (m : Label). m.identity) here in omega arith)
        | inr behind ↦ told.low k behind other
      ];
      under = λ c same. (let first = told.under (better_label l.identity before) (with_true is) in
          let second = (better_some l.identity before).2 c same in omega arith);
    }
    by false is None told = record {
      none = λ k member other. elim member [
        | inl here ↦ (let yes = other_to best l (subst (IsOther best) here other) in absurd cc)
        | inr behind ↦ told.none k behind other
      ];
      before_is = sym (with_false is) ∙ told.before_is;
    }
    by false is (Some b) told = record {
      from = elim told.from [
        | inl here ↦ inl (sym (with_false is) ∙ here)
        | inr there ↦ let (k, member, other, same) = there in inr (k, inr member, other, same)
      ];
      low = λ k member other. elim member [
        | inl here ↦ (let yes = other_to best l (subst (IsOther best) here other) in absurd cc)
        | inr behind ↦ told.low k behind other
      ];
      under = λ c same. told.under c (with_false is ∙ same);
    }

-- ---- of a snapshot

module _ (g : Snapshot) (wf : IsWellFormed g) (es : List Edge) (ls : List Label)
    (found : Found g es (λ e. In e es) ls) where
  one_best : (v a b : ℕ) → IsBestIdentity g v a → IsBestIdentity g v b → a ≡ b
  one_best v a b (s, is, same) (t, also, other) =
      same ∙ ap (λ (u : System). u.identity) (IsBest-unique g v s t wf is also) ∙ sym other

  is_best : (id : ℕ) → In id (bests_in ls) → IsBestOfOne g id
  is_best id member =
      let (l, among, given) = from_flat best_at id ls member in
      let own = own_from l id given in
      let (place, there) = slice_get-In l ls among in
      let best = has_best g wf es ls found place l (record { there = there; lives = own.lives }) in
      (own_clock l, subst (IsBestIdentity g (own_clock l)) own.best best)

  best_is : (id : ℕ) → IsBestOfOne g id → In id (bests_in ls)
  best_is id (v, (s, best, is)) =
      let (place, l, lives, identity, own) = best_of_system g wf es ls found s best.live in
      let itself = IsBest-reached g v s.clock s wf best.reached best in
      let one = one_best s.clock l.best s.identity own (s, itself, refl) in
      In-flat best_at l id ls (In-slice_get l ls place lives.there)
      (own_to l id (record { lives = lives.lives; best = one ∙ sym is; identity = identity ∙ sym is }))

  pub are_bests : (bests : List ℕ) → IsPermutation (bests_in ls) bests → IsSorted nat_cmp bests → AreBests g bests
  are_bests bests all sorted = record {
    rising = sorted_rising (bests_in ls) bests (different_bests ls found.fits.once) all sorted;
    are = λ id. (
      λ member. is_best id
          (In-permutation id bests (bests_in ls) (IsPermutation-sym (bests_in ls) bests all) member),
      λ is. In-permutation id (bests_in ls) bests all (best_is id is),
    );
  }

  -- ---- the second of a component

  is_second : (a b : ℕ) → IsLeast a None ls b → IsSecond g a b
  is_second a b least = elim least.from [
    | inl none ↦ absurd cc
    | inr some ↦ (let (l, among, other, same) = some in
        let (place, there) = slice_get-In l ls among in
        let lives : Lives ls place l = record { there = there; lives = other.lives } in
        let (s, live, is) = found.fits.system place l lives in
        let clock : own_clock l ≡ s.clock = ap clock_of (sym is) ∙ (wf.identified s live).clock in
        record {
          system = s;
          live = live;
          is = is ∙ same;
          best = subst (λ v. IsBestIdentity g v a) clock
              (subst (IsBestIdentity g (own_clock l)) other.best_is (has_best g wf es ls found place l lives));
          other = λ e. other.apart (same ∙ e);
          least = λ t t-live follows apart.
              let (i, k, k-lives, k-is, own) = best_of_system g wf es ls found t t-live in
              let low = least.low k (In-slice_get k ls i k-lives.there) (record {
                lives = k-lives.lives;
                best_is = one_best t.clock k.best a own follows;
                apart = λ e. apart (sym k-is ∙ e);
              }) in
              subst (λ id. b ≤ id) k-is low;
        })
  ]

  -- a label of the system that is second
  other_of : (a b : ℕ) → IsSecond g a b → (l : Label) × In l ls × IsOther a l × (l.identity ≡ b)
  other_of a b second =
      let (i, k, k-lives, k-is, own) = best_of_system g wf es ls found second.system second.live in (
        k,
        In-slice_get k ls i k-lives.there,
        record {
          lives = k-lives.lives;
          best_is = one_best second.system.clock k.best a own second.best;
          apart = λ e. second.other (sym second.is ∙ sym k-is ∙ e);
        },
        k-is ∙ second.is,
      )

  second_is : (a b : ℕ) (told : Option ℕ) → Tells a None ls told → IsSecond g a b → told ≡ Some b
  second_is a b None told second =
      let (l, among, other, is) = other_of a b second in absurd (told.none l among other)
  second_is a b (Some c) told second =
      let (l, among, other, is) = other_of a b second in
      let low = told.low l among other in
      let also = is_second a c told in
      let least : b ≤ also.system.identity = second.least also.system also.live also.best
      (λ e. also.other (sym also.is ∙ e)) in
      let same = also.is in
      let one : c ≡ b = omega arith in ap Some one

  -- ---- those between which a clock decides

  chance_from : (a b best : ℕ) (told : Option ℕ) → Tells best None ls told → In (a, b) (chance_if best told)
      → (best ≡ a) × IsSecond g a b × (decides_by_clock a b ≡ true)
  chance_from a b best None told member = absurd member
  chance_from a b best (Some second) told member = by (decides_by_clock best second) refl member
    where
      by : (test : Bool) → decides_by_clock best second ≡ test
          → In {X = ℕ × ℕ} (a, b) (cond test ((best, second) ∷ []) [])
          → (best ≡ a) × IsSecond g a b × (decides_by_clock a b ≡ true)
      by true is (inl same) =
          let first : best ≡ a = ap (λ (two : ℕ × ℕ). two.0) (sym same) in
          let last : second ≡ b = ap (λ (two : ℕ × ℕ). two.1) (sym same) in (
            first,
            subst (λ x. IsSecond g x b) first (subst (IsSecond g best) last (is_second best second told)),
            subst (λ x. decides_by_clock x b ≡ true) first (subst (λ y. decides_by_clock best y ≡ true) last is),
          )
      by true is (inr none) = absurd none
      by false is none = absurd none

  chance_to : (a b : ℕ) → IsSecond g a b → decides_by_clock a b ≡ true → In (a, b) (chance_at ls a)
  chance_to a b second decides =
      let told = second_is a b (second_in a None ls) (tells a None ls) second in
      subst (λ (o : Option ℕ). In (a, b) (chance_if a o)) (sym told)
      (subst (λ test. In {X = ℕ × ℕ} (a, b) (cond test ((a, b) ∷ []) [])) (sym decides) (inl refl))

  -- the first of each pair is a best
  abbrev firsts : List (ℕ × ℕ) → List ℕ
  firsts = map (λ (two : ℕ × ℕ). two.0)

  first_is : (best : ℕ) (told : Option ℕ) (x : ℕ) → In x (firsts (chance_if best told)) → x ≡ best
  first_is best None x member = absurd member
  first_is best (Some second) x member = by (decides_by_clock best second) member
    where
      by : (test : Bool) → In x (map (λ (two : ℕ × ℕ). two.0) (cond test ((best, second) ∷ []) [])) → x ≡ best
      by true (inl same) = same
      by true (inr none) = absurd none
      by false none = absurd none

  among_bests : (bests : List ℕ) (x : ℕ) → In x (firsts (flat_map (chance_at ls) bests)) → In x bests
  among_bests [] x member = absurd member
  among_bests (best ∷ bests) x member =
      elim (In-parts x (firsts (chance_at ls best)) (firsts (flat_map (chance_at ls) bests))
      (subst (In x) (map-append (λ (two : ℕ × ℕ). two.0) (chance_at ls best) (flat_map (chance_at ls) bests)) member)) [
        | inl here ↦ inl (first_is best (second_in best None ls) x here)
        | inr behind ↦ inr (among_bests bests x behind)
      ]

  rising_firsts : (bests : List ℕ) → IsRising bests → IsRising (firsts (flat_map (chance_at ls) bests))
  rising_firsts [] rising = tt
  rising_firsts (best ∷ bests) rising =
      subst IsRising
      (sym (map-append (λ (two : ℕ × ℕ). two.0) (chance_at ls best) (flat_map (chance_at ls) bests)))
      (by (rising_firsts bests rising.1) (second_in best None ls))
    where
      one : IsRising (firsts (flat_map (chance_at ls) bests)) → (second : ℕ) (test : Bool)
          → IsRising (firsts (cond test ((best, second) ∷ []) []) ++ firsts (flat_map (chance_at ls) bests))
      one rest second true = ((λ y member. rising.0 y (among_bests bests y member)), rest)
      one rest second false = rest

      by : IsRising (firsts (flat_map (chance_at ls) bests)) → (told : Option ℕ)
          → IsRising (firsts (chance_if best told) ++ firsts (flat_map (chance_at ls) bests))
      by rest None = rest
      by rest (Some second) = one rest second (decides_by_clock best second)

  pub are_chances : (bests : List ℕ) → AreBests g bests → AreChances g (flat_map (chance_at ls) bests)
  are_chances bests are = record {
    rising = rising_firsts bests are.rising;
    are = λ a b. (
      λ member.
          (let (best, among, given) = from_flat (chance_at ls) (a, b) bests member in
          let (same, second, decides) = chance_from a b best (second_in best None ls) (tells best None ls) given in
          (second, decides)),
      λ told. let (second, decides) = told in
          In-flat (chance_at ls) a (a, b) bests ((are.are a).1 (second.system.clock, second.best))
          (chance_to a b second decides),
    );
  }
