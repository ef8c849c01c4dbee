-- Systems by their places, and how many there are.
use Rattle.std.proofs.Common.{◌≡◌, ◌≤◌, ◌+◌, ◌++◌, ℕ, suc, Bool, true, false, if◌then◌else◌, List, [], ◌∷◌, length, map, filter, take, slice_get, Some, None, refl, sym, ap, subst, arith}
use Rattle.std.specs.List.{AllByRecursion}
use Rattle.std.proofs.lemmas.List.{length-map}
use Rattle.gptp_graph.specs.Snapshot.{clocks, Snapshot, System}
use Rattle.gptp_lists.proofs.MappedLemmas.{taken}
use Rattle.gptp_timeline.specs.Each.{Each}
use Rattle.gptp_faults.specs.Parts.{AreFew, ArePlaced, ArePlacedBy, is_kept, is_of, IsPlaced, kept, leads, part_of, parts_of, weigh_among, weighed}
use Rattle.gptp_faults.specs.declared.parts.Placed.{Placed}
use Rattle.gptp_faults.specs.declared.parts.Weighed.{Weighed}
use Rattle.gptp_faults.proofs.CaseLemmas.{none_more}
use Rattle.gptp_faults.proofs.EachLemmas.{each_more}

-- ---- by place

-- one more is placed
pub placed_more : (g g' : Snapshot) (place clock : ℕ) (x : Placed) (xs : List Placed) → ArePlacedBy g g' place xs
    → slice_get (clocks g') place ≡ Some clock → IsPlaced g g' clock x → ArePlacedBy g g' (place + 1) (xs ++ x ∷ [])
placed_more g g' place clock x xs so_far there is =
    subst (λ names. Each (IsPlaced g g') names (xs ++ x ∷ [])) (sym (taken (clocks g') place clock there))
    (each_more (IsPlaced g g') (take place (clocks g')) xs clock x so_far is)

-- there is none at the place
pub placed_none : (g g' : Snapshot) (place : ℕ) (xs : List Placed) → ArePlacedBy g g' place xs
    → slice_get (clocks g') place ≡ None → ArePlacedBy g g' (place + 1) xs
placed_none g g' place xs so_far none =
    subst (λ names. Each (IsPlaced g g') names xs) (sym (none_more (clocks g') place none)) so_far

-- ---- how many there are

each_length : {X Y : Type 0} (P : X → Y → Type 0) (xs : List X) (ys : List Y) → Each P xs ys → length ys ≡ length xs
each_length P [] [] each = refl
each_length P [] (y ∷ ys) each = absurd each
each_length P (x ∷ xs) [] each = absurd each
each_length P (x ∷ xs) (y ∷ ys) each = ap suc (each_length P xs ys each.1)

pub placed_few : (g g' : Snapshot) (xs : List Placed) → ArePlaced g g' xs → length g'.systems ≤ 512
    → length xs ≤ 512
placed_few g g' xs are few =
    let same = each_length (IsPlaced g g') (clocks g') xs are in
    let many = length-map g'.systems (λ (s : System). s.clock) in omega (arith, same, many, few)

filter_fewer : {X : Type 0} (p : X → Bool) (xs : List X) → length (filter p xs) ≤ length xs
filter_fewer p [] = omega arith
filter_fewer p (x ∷ xs) = by (p x) (filter_fewer p xs)
  where
    by : (t : Bool) → length (filter p xs) ≤ length xs
        → length (if t then x ∷ filter p xs else filter p xs) ≤ length (x ∷ xs)
    by true rest = omega (arith, rest)
    by false rest = omega (arith, rest)

pub kept_few : (xs : List Placed) → length xs ≤ 512 → length (kept (weighed xs)) ≤ 512
kept_few xs few =
    let ws : List Weighed = weighed xs in
    let same : length (kept ws) ≡ length (filter (is_kept ws) ws) =
    length-map (filter (is_kept ws) ws) (λ (w : Weighed). w.placed) in
    let fewer = filter_fewer (is_kept ws) ws in
    let all : length ws ≡ length xs = length-map xs (weigh_among xs) in
    omega (arith, same, fewer, all, few)

part_few : (xs : List Placed) (ys : List Placed) → length xs ≤ 512
    → AllByRecursion (λ part. length part ≤ 512) (map (part_of xs) ys)
part_few xs [] few = tt
part_few xs (y ∷ ys) few =
    let same = length-map (filter (is_of y.part) xs) (λ (x : Placed). x.clock) in
    let fewer = filter_fewer (is_of y.part) xs in (omega (arith, same, fewer, few), part_few xs ys few)

pub parts_few : (xs : List Placed) → length xs ≤ 512 → AreFew (parts_of xs)
parts_few xs few =
    let same = length-map (filter leads xs) (part_of xs) in
    let fewer = filter_fewer leads xs in record {
      parts_few = omega (arith, same, fewer, few);
      systems_few = part_few xs (filter leads xs) few;
    }
