-- The systems that follow a root, by rising identity.
use Rattle.std.proofs.Common.{◌≡◌, ◌+◌, ◌<◌, ◌⊎◌, ℕ, zero, suc, map, Bool, true, false, List, [], ◌∷◌, ◌++◌, Option, Some, slice_get, length, get_or, eqb, eqb-true, refl, sym, ap, subst, ◌∙◌, inl, inr, arith}
use Rattle.std.specs.List.{IsDistinct, list_any}
use Rattle.std.specs.List.Sorted.{IsPermutation, IsSorted, IsStrictlySortedBy}
use Rattle.std.specs.Ordering.{nat_cmp}
use Rattle.std.specs.Cmp.{nat_eq_equiv}
use Rattle.std.proofs.lemmas.List.Folds.{Any-from_list_any}
use Rattle.std.proofs.lemmas.List.Sorted.{IsNonDecreasingBy-from_sort, IsPermutation-sym}
use Rattle.std.proofs.lemmas.Option.{get_or_from_slice_get, slice_get-get_or, slice_get_within}
use Rattle.std.proofs.lemmas.Map.Keys.{IsDistinct-IsPermutation, IsDistinct-push, IsStrictlyIncreasing-from_distinct, below_from_sorted, sorted_from_strictly_increasing, sorted_tail}
use Rattle.gptp_lists.specs.Members.{Different, In}
use Rattle.gptp_lists.proofs.SystemSpecLemmas.{In-left, In-map, In-parts, In-right, In-slice_get, slice_get-In}
use Rattle.gptp_graph.specs.Order.{IsRising}
use Rattle.gptp_graph.specs.SettledChoice.{IsBestIdentity}
use Rattle.gptp_graph.specs.Snapshot.{Snapshot, System, IsWellFormed}
use Rattle.gptp_graph.proofs.SystemLemmas.{same_identity}
use Rattle.gptp_network.proofs.SnapshotLemmas.{In-permutation}
use Rattle.gptp_components.proofs.ComponentLemmas.{reaches_by_best, same_best}
use Rattle.gptp_explain.specs.Ranks.{FollowersAreFound, AreRanked, FollowsRoot, rank_lines, shown_line}
use Rattle.gptp_explain.proofs.TextLemmas.{lines_behind}
use Rattle.gptp_words.specs.Lines.{text_of}

-- ---- what was found of the systems at the first places

-- a system stands at one place
one_place_of : {X : Type 0} (key : X → ℕ) (xs : List X) (i j : ℕ) (x : X) → Different (map key xs)
    → slice_get xs i ≡ Some x → slice_get xs j ≡ Some x → i ≡ j
one_place_of key [] i j x different here there = absurd cc
one_place_of key (y ∷ xs) zero zero x different here there = refl
one_place_of key (y ∷ xs) zero (suc j) x different here there =
    let same : y ≡ x = cc in
    absurd (different.0 (subst (λ z. In (key z) (map key xs)) (sym same) (In-map key x xs (In-slice_get x xs j there))))
one_place_of key (y ∷ xs) (suc i) zero x different here there =
    let same : y ≡ x = cc in
    absurd (different.0 (subst (λ z. In (key z) (map key xs)) (sym same) (In-map key x xs (In-slice_get x xs i here))))
one_place_of key (y ∷ xs) (suc i) (suc j) x different here there =
    ap suc (one_place_of key xs i j x different.1 here there)

one_place : (g : Snapshot) → IsWellFormed g → (i j : ℕ) (s : System) → slice_get g.systems i ≡ Some s
    → slice_get g.systems j ≡ Some s → i ≡ j
one_place g wf i j s here there = one_place_of (λ (t : System). t.clock) g.systems i j s wf.different here there

module _ (g : Snapshot) (root : ℕ) where
  pub none_found : FollowersAreFound g root 0 []
  unfolding IsDistinct
  none_found = record {
    distinct = tt;
    all = λ i s before. absurd (omega arith);
    only = λ id member. absurd member;
  }

  -- the place before the next is one of the first, or the last of them
  before_next : (i place : ℕ) → i < place + 1 → (i < place) ⊎ (i ≡ place)
  before_next i place less = elim (native.Mathlib.Decide.dec_lt i place) [
    | yes before ↦ inl before
    | no over ↦ inr (omega arith)
  ]

  -- the next doesn't follow
  pub passed : (place : ℕ) (ids : List ℕ) → FollowersAreFound g root place ids
      → ((s : System) → slice_get g.systems place ≡ Some s → FollowsRoot g root s → ⊥)
      → FollowersAreFound g root (place + 1) ids
  passed place ids found none = record {
    distinct = found.distinct;
    all = λ i s less there follows. elim (before_next i place less) [
      | inl before ↦ found.all i s before there follows
      | inr same ↦ absurd (none s (subst (λ k. slice_get g.systems k ≡ Some s) same there) follows)
    ];
    only = λ id member. let (i, s, before, there, follows, is) = found.only id member in
        (i, s, omega arith, there, follows, is);
  }

  -- it does
  pub added : (wf : IsWellFormed g) (place : ℕ) (ids : List ℕ) (id : ℕ) → FollowersAreFound g root place ids
      → (s : System) × (slice_get g.systems place ≡ Some s) × FollowsRoot g root s × (s.identity ≡ id)
      → FollowersAreFound g root (place + 1) (ids ++ id ∷ [])
  added wf place ids id found (s, there, follows, is) = record {
    distinct = IsDistinct-push nat_eq_equiv ids id found.distinct (is_new (list_any (eqb id) ids) refl);
    all = λ i t less here member. elim (before_next i place less) [
      | inl before ↦ In-left t.identity ids (id ∷ []) (found.all i t before here member)
      | inr same ↦ In-right t.identity ids (id ∷ [])
          (inl (ap (λ (u : System). u.identity) (one t (subst (λ k. slice_get g.systems k ≡ Some t) same here)) ∙ is))
    ];
    only = λ other member. elim (In-parts other ids (id ∷ []) member) [
      | inl before ↦ let (i, t, less, at, also, has) = found.only other before in
          (i, t, omega arith, at, also, has)
      | inr last ↦ elim last [
        | inl same ↦ (place, s, omega arith, there, follows, is ∙ sym same)
        | inr none ↦ absurd none
      ]
    ];
  }
    where
      one : (t : System) → slice_get g.systems place ≡ Some t → t ≡ s
      one t here = let same : Some t ≡ Some s = sym here ∙ there in cc

      -- no system at a place before has the identity
      is_new : (b : Bool) → list_any (eqb id) ids ≡ b → list_any (eqb id) ids ≡ false
      is_new false e = e
      is_new true e =
          let (k, other, within, at, same) = Any-from_list_any (eqb id) ids e in
          let member = In-slice_get other ids k (slice_get-get_or ids k other within ∙ ap Some at) in
          let (i, t, before, here, also, has) = found.only other member in
          let identities : s.identity ≡ t.identity = is ∙ eqb-true id other same ∙ sym has in
          let systems =
          same_identity g s t wf (In-slice_get s g.systems place there) (In-slice_get t g.systems i here) identities in
          let places = one_place g wf i place s
          (subst (λ u. slice_get g.systems i ≡ Some u) (sym systems) here) there in
          absurd (omega arith)

-- ---- by rising identity

rising : (ids : List ℕ) → IsStrictlySortedBy nat_cmp ids → IsRising ids
rising [] sorted = tt
rising (id ∷ ids) sorted = (above, rising ids (sorted_tail nat_cmp id ids sorted))
  where
    above : (other : ℕ) → In other ids → id < other
    above other member =
        let (j, there) = slice_get-In other ids member in
        let within = slice_get_within ids j other there in
        let less = below_from_sorted (id ∷ ids) 0 (suc j) other sorted (omega arith) (omega arith) in
        let is : get_or ids j other ≡ other = get_or_from_slice_get ids j other other there in
        omega arith

flips : (a b : ℕ) → eqb a b ≡ eqb b a
flips a b = nat_eq_equiv.symm a b

-- all that follow the root, sorted
pub are_ranked : (g : Snapshot) (v root : ℕ) (before after : List ℕ) → IsWellFormed g → IsBestIdentity g v root
    → FollowersAreFound g root (length g.systems) before → IsPermutation before after → IsSorted nat_cmp after
    → AreRanked g v after
are_ranked g v root before after wf best found moved sorted = record {
  rising = rising after
      (sorted_from_strictly_increasing after
      (IsStrictlyIncreasing-from_distinct after (IsNonDecreasingBy-from_sort (λ x. x) after sorted)
      (IsDistinct-IsPermutation eqb flips before after moved found.distinct)));
  all = λ s live reached.
      let (i, there) = slice_get-In s g.systems live in
      In-permutation s.identity before after moved
      (found.all i s (slice_get_within g.systems i s there) there (same_best g v s.clock root wf best reached));
  no_other = λ id member.
      let (i, s, less, there, follows, is) =
      found.only id (In-permutation id after before (IsPermutation-sym before after moved) member) in
      (s, In-slice_get s g.systems i there, reaches_by_best g v s.clock root wf best follows, is);
}

-- ---- their lines

-- a line that is shown, and those of the systems after it
pub next_rank : (own rank : ℕ) (before : Option ℕ) (id : ℕ) (left rest : List ℕ) (text after all : List ℕ)
    → left ≡ id ∷ rest → after ≡ text ++ text_of (shown_line own rank before id)
    → text ++ text_of (rank_lines own rank before left) ≡ all
    → after ++ text_of (rank_lines own (rank + 1) (Some id) rest) ≡ all
next_rank own rank before id left rest text after all first appended is =
    ap (λ t. t ++ text_of (rank_lines own (rank + 1) (Some id) rest)) appended
    ∙ lines_behind text (shown_line own rank before id) (rank_lines own (rank + 1) (Some id) rest)
    ∙ sym (ap (λ ids. text ++ text_of (rank_lines own rank before ids)) first) ∙ is
