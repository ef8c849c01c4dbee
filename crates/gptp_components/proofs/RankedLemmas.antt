-- The components, by the rank of their bests.
use Rattle.std.proofs.Common.{◌≡◌, ◌⊎◌, ◌<◌, ◌≤◌, ◌+◌, ◌%◌, ◌^◌, ◌++◌, ◌∙◌, ℕ, zero, suc, List, [], ◌∷◌, length, map, take, get_or, Option, Some, None, slice_get, length-append, refl, sym, ap, subst, inl, inr, arith}
use Rattle.std.specs.List.Sorted.{IsPermutation, IsSorted}
use Rattle.std.specs.Ordering.{nat_cmp}
use Rattle.std.proofs.lemmas.Bool.{cases_lt}
use Rattle.std.proofs.lemmas.List.Sorted.{IsNonDecreasingBy-from_sort, IsPermutation-sym}
use Rattle.std.proofs.lemmas.Option.{get_or_from_slice_get, same_Some, slice_get_within}
use Rattle.gptp_lists.specs.Members.{In}
use Rattle.gptp_lists.proofs.MappedLemmas.{taken}
use Rattle.gptp_lists.proofs.SystemSpecLemmas.{In-map, In-parts, In-slice_get, from_map, slice_get-In}
use Rattle.gptp_graph.specs.Best.{IsBest}
use Rattle.gptp_graph.specs.Order.{IsRising}
use Rattle.gptp_graph.specs.Path.{Reaches}
use Rattle.gptp_graph.specs.SettledChoice.{IsBestIdentity}
use Rattle.gptp_graph.specs.Snapshot.{System, Snapshot, IsWellFormed, clocks}
use Rattle.gptp_graph.proofs.PathLemmas.{Reaches-self, Reaches-sym}
use Rattle.gptp_graph.proofs.SystemLemmas.{In-clocks, same_identity}
use Rattle.gptp_network.proofs.SnapshotLemmas.{In-permutation}
use Rattle.gptp_components.specs.Distances.{AreFirstDistances, IsDistanceOf}
use Rattle.gptp_components.specs.Search.{AreAllFound, AreByRank, ComponentsAreFound, IsComponentFound, IsFound, IsNewRoot, NothingFound}
use Rattle.gptp_components.specs.declared.distance.Distance.{Distance}
use Rattle.gptp_components.proofs.ComponentLemmas.{same_best}
use Rattle.gptp_components.proofs.FoundLemmas.{found_there, nothing_there}

abbrev identity_of : System → ℕ
identity_of s = s.identity

-- identities that are sorted stand by rank
pub sorted_by_rank : (g : Snapshot) (ids after : List ℕ) → ids ≡ map (λ (s : System). s.identity) g.systems
    → IsPermutation ids after → IsSorted nat_cmp after → AreByRank g after
sorted_by_rank g ids after are moved sorted = record {
  sorted = IsNonDecreasingBy-from_sort (λ x. x) after sorted;
  all = λ s live.
      In-permutation s.identity ids after moved (subst (In s.identity) (sym are) (In-map identity_of s g.systems live));
  only = λ id member.
      let there = In-permutation id after ids (IsPermutation-sym ids after moved) member in
      from_map identity_of id g.systems (subst (In id) are there);
}

-- one identity more
pub identities_more : (g : Snapshot) (place : ℕ) (s : System) (ids : List ℕ) → slice_get g.systems place ≡ Some s
    → ids ≡ map (λ (t : System). t.identity) (take place g.systems)
    → ids ++ s.identity ∷ [] ≡ map (λ (t : System). t.identity) (take (place + 1) g.systems)
identities_more g place s ids there are =
    ap (λ xs. xs ++ s.identity ∷ []) are ∙ sym (joined (take place g.systems))
    ∙ ap (map identity_of) (sym (taken g.systems place s there))
  where
    joined : (xs : List System) → map identity_of (xs ++ s ∷ []) ≡ map identity_of xs ++ s.identity ∷ []
    joined [] = refl
    joined (x ∷ xs) = ap (λ (ys : List ℕ). x.identity ∷ ys) (joined xs)

-- at each place within a list something stands
pub no_gap : {X : Type 0} (xs : List X) (i : ℕ) → i < length xs → slice_get xs i ≡ None → ⊥
no_gap [] i less none = absurd (omega arith)
no_gap (x ∷ xs) zero less none = absurd cc
no_gap (x ∷ xs) (suc i) less none = no_gap xs i (omega arith) none

-- at the place of each system its distance is found
pub found_within : (g : Snapshot) (found : List (Option Distance)) → AreAllFound g found → (place : ℕ)
    → place < length g.systems → (d : Distance) × (slice_get found place ≡ Some (Some d))
found_within g found all place within = by_system (slice_get g.systems place) refl
  where
    by_system : (o : Option System) → slice_get g.systems place ≡ o
        → (d : Distance) × (slice_get found place ≡ Some (Some d))
    by_system None none = absurd (no_gap g.systems place within none)
    by_system (Some s) there = let (d, at, is) = all place s there in (d, at)

-- nothing is found at first
pub found_nothing : (g : Snapshot) (ids : List ℕ) (found : List (Option Distance)) → length found ≡ length g.systems
    → NothingFound found → ComponentsAreFound g ids 0 found
found_nothing g ids found as_many nothing = record {
  as_many = as_many;
  right = λ v d is. absurd (nothing_there g found v d nothing is);
  whole = λ v w d reached is. absurd (nothing_there g found v d nothing is);
  first = λ s live member. absurd member;
}

-- the clock of a system is that of its identity
pub clock_named : (g : Snapshot) → IsWellFormed g → (root clock : ℕ) → clock ≡ root % 2 ^ 64 → (s : System)
    → In s g.systems → s.identity ≡ root → s.clock ≡ clock
clock_named g wf root clock is s live same =
    sym (wf.identified s live).clock ∙ ap (λ id. id % 2 ^ 64) same ∙ sym is

module _ (g : Snapshot) (wf : IsWellFormed g) (ids : List ℕ) (ranked : AreByRank g ids) (rank root : ℕ)
    (at : slice_get ids rank ≡ Some root) (found : List (Option Distance))
    (so_far : ComponentsAreFound g ids rank found) where
  -- the system of this rank
  own : (s : System) × In s g.systems × (s.identity ≡ root)
  own = ranked.only root (In-slice_get root ids rank at)

  -- one more of the first
  one_more : (s : System) → In s.identity (take (suc rank) ids) → In s.identity (take rank ids) ⊎ (s.identity ≡ root)
  one_more s member =
      let next : take (suc rank) ids ≡ take rank ids ++ root ∷ [] =
      (let one : suc rank ≡ rank + 1 = omega arith in ap (λ n. take n ids) one) ∙ taken ids rank root at in
      elim (In-parts s.identity (take rank ids) (root ∷ []) (subst (In s.identity) next member)) [
        | inl before ↦ inl before
        | inr last ↦ elim last [
          | inl same ↦ inr same
          | inr none ↦ absurd none
        ]
      ]

  -- it was found with a better one
  pub passed_ranked : (clock : ℕ) → ((s : System) → In s g.systems → s.identity ≡ root → s.clock ≡ clock)
      → (d : Distance) → IsFound g found clock d → ComponentsAreFound g ids (suc rank) found
  passed_ranked clock clock_is d is = record {
    as_many = so_far.as_many;
    right = so_far.right;
    whole = so_far.whole;
    first = λ s live member. elim (one_more s member) [
      | inl before ↦ so_far.first s live before
      | inr same ↦ (d, subst (λ v. IsFound g found v d) (sym (clock_is s live same)) is)
    ];
  }

  -- else it is the best of its component, of which nothing is found
  pub new_root : (clock : ℕ) → ((s : System) → In s g.systems → s.identity ≡ root → s.clock ≡ clock)
      → ((d : Distance) → IsFound g found clock d → ⊥) → IsNewRoot g root found
  new_root clock clock_is unfound = record {
    best = s;
    is = best;
    identity = sym is;
    unfound = λ w d (other, of, same) there.
        let one : other ≡ s = same_identity g other s wf of.live live (sym same ∙ sym is) in
        let (e, here) = so_far.whole w s.clock d (subst (λ (u : System). Reaches g w u.clock) one of.reached) there in
        nothing e here;
  }
    where
      s : System
      s = own.0

      live : In s g.systems
      live = own.1

      is : s.identity ≡ root
      is = own.2

      nothing : (d : Distance) → IsFound g found s.clock d → ⊥
      nothing d there = unfound d (subst (λ v. IsFound g found v d) (clock_is s live is) there)

      no_better : (t : System) → In t g.systems → Reaches g s.clock t.clock → s.identity ≤ t.identity
      no_better t there reached =
          let (j, stands) = slice_get-In t.identity ids (ranked.all t there) in
          elim (cases_lt j rank) [
            | inl early ↦ (
                let (d, was) = so_far.first t there (front j early stands) in
                let (e, here) = so_far.whole t.clock s.clock d (Reaches-sym g s.clock t.clock wf reached) was in
                absurd (nothing e here)
                )
            | inr late ↦ (
                let within = slice_get_within ids j t.identity stands in
                let a : get_or ids rank 0 ≡ root = get_or_from_slice_get ids rank root 0 at in
                let b : get_or ids j 0 ≡ t.identity = get_or_from_slice_get ids j t.identity 0 stands in
                let sorted : get_or ids rank 0 ≤ get_or ids j 0 = ranked.sorted rank j 0 late within in
                let named : own.0.identity ≡ root = own.2 in
                omega arith
                )
          ]
        where
          front : (j : ℕ) → j < rank → slice_get ids j ≡ Some t.identity → In t.identity (take rank ids)
          front j early stands = in_front t.identity ids j rank early stands
            where
              in_front : (x : ℕ) (xs : List ℕ) (i n : ℕ) → i < n → slice_get xs i ≡ Some x → In x (take n xs)
              in_front x [] i n less e = absurd cc
              in_front x (y ∷ xs) zero zero less e = absurd (omega arith)
              in_front x (y ∷ xs) zero (suc n) less e = inl (sym (same_Some y x e))
              in_front x (y ∷ xs) (suc i) zero less e = absurd (omega arith)
              in_front x (y ∷ xs) (suc i) (suc n) less e = inr (in_front x xs i n (omega arith) e)

      best : IsBest g s.clock s
      best = record {
        live = live;
        reached = Reaches-self g s.clock (In-clocks g s live);
        least = no_better;
      }

  -- and its component is found
  pub found_ranked : (after : List (Option Distance)) → (new : IsNewRoot g root found)
      → IsComponentFound g root found after → ComponentsAreFound g ids (suc rank) after
  found_ranked after new component = record {
    as_many = component.as_many ∙ so_far.as_many;
    right = λ v d is. elim (component.only v d is) [
      | inl before ↦ so_far.right v d before
      | inr (now, of_root) ↦ now
    ];
    whole = λ v w d reached is. elim (component.only v d is) [
      | inl before ↦ (let (e, there) = so_far.whole v w d reached before in (e, component.kept w e there))
      | inr (now, of_root) ↦
          component.all w (same_best g v w root wf (subst (IsBestIdentity g v) of_root now.root) reached)
    ];
    first = λ s live member. elim (one_more s member) [
      | inl before ↦ (let (d, is) = so_far.first s live before in (d, component.kept s.clock d is))
      | inr same ↦ (
          let one : new.best ≡ s = same_identity g new.best s wf new.is.live live (sym new.identity ∙ sym same) in
          component.all s.clock
          (s, subst (λ (u : System). IsBest g u.clock u) one new.is, sym same)
          )
    ];
  }

-- all are found
pub all_by_rank : (g : Snapshot) (ids : List ℕ) (count : ℕ) (found : List (Option Distance)) → IsRising (clocks g)
    → AreByRank g ids → length ids ≤ count → ComponentsAreFound g ids count found → AreAllFound g found
all_by_rank g ids count found rising ranked all is place s there =
    let live = In-slice_get s g.systems place there in
    let member = subst (In s.identity) (sym (whole_front ids count all)) (ranked.all s live) in
    let (d, at) = is.first s live member in (
      d,
      found_there g found s.clock place d rising (record { system = s; there = there; is = refl }) at,
      is.right s.clock d at,
    )
  where
    whole_front : (xs : List ℕ) (n : ℕ) → length xs ≤ n → take n xs ≡ xs
    whole_front [] zero less = refl
    whole_front [] (suc n) less = refl
    whole_front (x ∷ xs) zero less = absurd (omega arith)
    whole_front (x ∷ xs) (suc n) less = ap (λ (ys : List ℕ). x ∷ ys) (whole_front xs n (omega arith))

-- ---- by place

pub none_yet : (g : Snapshot) → AreFirstDistances g 0 []
none_yet g = record { as_many = refl; each = λ place s d there here. absurd cc }

pub one_yet : (g : Snapshot) (found : List (Option Distance)) (place : ℕ) (ds : List Distance) (d : Distance)
    → AreAllFound g found → AreFirstDistances g place ds → slice_get found place ≡ Some (Some d)
    → AreFirstDistances g (suc place) (ds ++ d ∷ [])
one_yet g found place ds d all before is = record {
  as_many = length-append ds (d ∷ []) ∙ (let many = before.as_many in omega arith);
  each = λ i s e there here. elim (parts ds d i e here) [
    | inl early ↦ before.each i s e there early
    | inr (last, same) ↦ (
        let (own, at, right) = all i s there in
        let found_is : Some (Some own) ≡ Some (Some d) =
        sym at ∙ ap (slice_get found) (last ∙ before.as_many) ∙ is in
        let one : own ≡ d = same_Some own d (same_Some (Some own) (Some d) found_is) in
        subst (IsDistanceOf g s.clock) (one ∙ sym same) right
        )
  ];
}
  where
    parts : (xs : List Distance) (x : Distance) (i : ℕ) (y : Distance) → slice_get (xs ++ x ∷ []) i ≡ Some y
        → (slice_get xs i ≡ Some y) ⊎ ((i ≡ length xs) × (y ≡ x))
    parts [] x zero y e = inr (refl, sym (same_Some x y e))
    parts [] x (suc i) y e = absurd cc
    parts (z ∷ xs) x zero y e = inl e
    parts (z ∷ xs) x (suc i) y e = elim (parts xs x i y e) [
      | inl early ↦ inl early
      | inr (last, same) ↦ inr (ap suc last, same)
    ]
