-- Numbers have an order in which none is below one before it.
use Rattle.std.proofs.Common.{◌≡◌, ◌==◌, ◌+◌, ◌<◌, ◌≤◌, ℕ, zero, suc, Bool, true, false, cond, nat_lt, List, [], ◌∷◌, length, get_or, Less, Equal, Greater, is_lt, nat_cmp, refl, sym, subst, inl, inr, arith, le-ltb}
use Rattle.std.specs.List.Sorted.{IsPermutation, IsSorted}
use Rattle.std.proofs.lemmas.List.Sorted.{IsPermutation-cons, IsPermutation-middle, IsPermutation-refl, IsPermutation-sym, IsPermutation-trans}
use native.Mathlib.Decide.{dec_le}
use Rattle.gptp_lists.specs.Members.{In}
use Rattle.gptp_network.proofs.SnapshotLemmas.{In-permutation}

-- none is below one before it
abbrev IsOrdered : List ℕ → Type 0
IsOrdered [] = Unit {0}
IsOrdered (x ∷ xs) = ((y : ℕ) → In y xs → x ≤ y) × IsOrdered xs

-- these numbers in such an order
record HasOrder (xs : List ℕ) : Type 0 where
  ordered : List ℕ
  are : IsPermutation xs ordered
  rise : IsOrdered ordered

-- one more goes before the first that isn't below it
put_in : (x : ℕ) (xs : List ℕ) → IsOrdered xs → HasOrder (x ∷ xs)
put_in x [] rise = record {
  ordered = x ∷ [];
  are = IsPermutation-refl (x ∷ []);
  rise = ((λ y none. absurd none), tt);
}
put_in x (z ∷ xs) rise = by (dec_le x z) (put_in x xs rise.1)
  where
    above : x ≤ z → (y : ℕ) → In y (z ∷ xs) → x ≤ y
    above low y (inl same) = omega arith
    above low y (inr member) = let more : z ≤ y = rise.0 y member in omega arith

    among : z ≤ x → (y : ℕ) → In y (x ∷ xs) → z ≤ y
    among low y (inl same) = omega arith
    among low y (inr member) = rise.0 y member

    by : Dec (x ≤ z) → HasOrder (x ∷ xs) → HasOrder (x ∷ z ∷ xs)
    by (yes low) rest = record {
      ordered = x ∷ z ∷ xs;
      are = IsPermutation-refl (x ∷ z ∷ xs);
      rise = (above low, rise);
    }
    by (no high) rest = record {
      ordered = z ∷ rest.ordered;
      are = IsPermutation-trans (x ∷ z ∷ xs) (z ∷ x ∷ xs) (z ∷ rest.ordered)
          (IsPermutation-middle (x ∷ []) z xs) (IsPermutation-cons z (x ∷ xs) rest.ordered rest.are);
      rise = (
        λ y member. among (omega arith) y
            (In-permutation y rest.ordered (x ∷ xs) (IsPermutation-sym (x ∷ xs) rest.ordered rest.are) member),
        rest.rise,
      );
    }

has_order : (xs : List ℕ) → HasOrder xs
has_order [] = record { ordered = []; are = IsPermutation-refl []; rise = tt }
has_order (x ∷ xs) = one_more (has_order xs)
  where
    one_more : HasOrder xs → HasOrder (x ∷ xs)
    one_more rest =
        let added = put_in x rest.ordered rest.rise in
        record {
          ordered = added.ordered;
          are = IsPermutation-trans (x ∷ xs) (x ∷ rest.ordered) added.ordered
              (IsPermutation-cons x xs rest.ordered rest.are) added.are;
          rise = added.rise;
        }

-- such an order is that of a sort
not_less : (less same : Bool) → less ≡ false → is_lt (cond less Less (cond same Equal Greater)) ≡ false
not_less true same is = absurd cc
not_less false true is = refl
not_less false false is = refl

not_below : (a b : ℕ) → a ≤ b → is_lt (nat_cmp b a) ≡ false
not_below a b low = not_less (nat_lt b a) (b == a) (le-ltb b a low)

never_falls : (xs : List ℕ) → IsOrdered xs → (k d : ℕ) → k + 1 < length xs → get_or xs k d ≤ get_or xs (k + 1) d
never_falls [] rise k d within = absurd (omega arith)
never_falls (x ∷ []) rise k d within = absurd (omega arith)
never_falls (x ∷ y ∷ xs) rise zero d within = rise.0 y (inl refl)
never_falls (x ∷ y ∷ xs) rise (suc k) d within =
    let next : suc k + 1 ≡ suc (k + 1) = omega arith in
    subst (λ (place : ℕ). get_or (y ∷ xs) k d ≤ get_or (x ∷ y ∷ xs) place d) (sym next)
    (never_falls (y ∷ xs) rise.1 k d (omega arith))

is_sorted : (xs : List ℕ) → IsOrdered xs → IsSorted nat_cmp xs
is_sorted xs rise k d from within = not_below (get_or xs k d) (get_or xs (k + 1) d) (never_falls xs rise k d within)

-- numbers can be sorted
pub sorted_exists : (xs : List ℕ) → (ordered : List ℕ) × IsPermutation xs ordered × IsSorted nat_cmp ordered
sorted_exists xs = let order = has_order xs in (order.ordered, order.are, is_sorted order.ordered order.rise)
