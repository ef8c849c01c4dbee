-- The orders and the memberships of both crates are one.
use Rattle.std.proofs.Common.{◌≡◌, ◌⊎◌, ◌<◌, ◌≤◌, ℕ, zero, suc, true, false, List, [], ◌∷◌, Contains, refl, sym, ap, ◌∙◌, inl, inr, arith}
use Rattle.std.specs.declared.cmp.Ordering.TheVariants.{Less, Equal, Greater}
use Rattle.std.specs.Cmp.{nat_cmp_is}
use Rattle.std.specs.Cmp.Lexicographic.{slice_cmp}
use Rattle.std.specs.Ordering.{is_lt, nat_cmp, ordering_then}
use Rattle.std.proofs.lemmas.Bool.{cases_lt}
use Rattle.gptp_lists.specs.Members.{In}
use Rattle.gptp_graph.specs.Order.{IsLower}
use Rattle.gptp_vector.specs.declared.vector.Vector.{Vector}
use Rattle.gptp_vector.specs.Vector.{lower, parts}

-- ---- the order of vectors

three_ways : (x y : ℕ) → (x < y) ⊎ ((x ≡ y) ⊎ (y < x))
three_ways x y = go (cases_lt x y)
  where
    go : (x < y) ⊎ (y ≤ x) → (x < y) ⊎ ((x ≡ y) ⊎ (y < x))
    go (inl less) = inl less
    go (inr more) = other (cases_lt y x)
      where
        other : (y < x) ⊎ (x ≤ y) → (x < y) ⊎ ((x ≡ y) ⊎ (y < x))
        other (inl greater) = inr (inr greater)
        other (inr equal) = inr (inl (omega arith))

compared_lower : (xs ys : List ℕ) → is_lt (slice_cmp nat_cmp xs ys) ≡ true → IsLower xs ys
compared_lower [] [] e = absurd cc
compared_lower [] (y ∷ ys) e = tt
compared_lower (x ∷ xs) [] e = absurd cc
compared_lower (x ∷ xs) (y ∷ ys) e = go (compared_lower xs ys) (three_ways x y)
  where
    go : (is_lt (slice_cmp nat_cmp xs ys) ≡ true → IsLower xs ys) → (x < y) ⊎ ((x ≡ y) ⊎ (y < x))
        → IsLower (x ∷ xs) (y ∷ ys)
    go rest (inl less) = inl less
    go rest (inr (inl equal)) =
        let tied = nat_cmp_is x y Equal equal in
        inr (equal, rest (ap (λ o. is_lt (ordering_then o (slice_cmp nat_cmp xs ys))) tied ∙ e))
    go rest (inr (inr more)) =
        let greater = nat_cmp_is x y Greater more in
        let both : false ≡ true = ap (λ o. is_lt (ordering_then o (slice_cmp nat_cmp xs ys))) greater ∙ e in
        absurd cc

lower_compared : (xs ys : List ℕ) → IsLower xs ys → is_lt (slice_cmp nat_cmp xs ys) ≡ true
lower_compared [] [] h = absurd h
lower_compared [] (y ∷ ys) h = refl
lower_compared (x ∷ xs) [] h = absurd h
lower_compared (x ∷ xs) (y ∷ ys) (inl less) =
    ap (λ o. is_lt (ordering_then o (slice_cmp nat_cmp xs ys))) (sym (nat_cmp_is x y Less less))
lower_compared (x ∷ xs) (y ∷ ys) (inr (equal, rest)) =
    ap (λ o. is_lt (ordering_then o (slice_cmp nat_cmp xs ys))) (sym (nat_cmp_is x y Equal equal))
    ∙ lower_compared xs ys rest

-- a vector is lower where the list of its parts is
pub lower_parts : (v w : Vector) → lower v w ≡ true → IsLower (parts v) (parts w)
lower_parts v w = compared_lower (parts v) (parts w)

pub parts_lower : (v w : Vector) → IsLower (parts v) (parts w) → lower v w ≡ true
parts_lower v w = lower_compared (parts v) (parts w)

-- ---- members

pub in_contains : (x : ℕ) (xs : List ℕ) → In x xs → Contains xs x
in_contains x [] h = absurd h
in_contains x (y ∷ ys) (inl same) = (zero, omega arith, sym same)
in_contains x (y ∷ ys) (inr h) = let (k, within, is) = in_contains x ys h in (suc k, omega arith, is)

pub contains_in : (x : ℕ) (xs : List ℕ) → Contains xs x → In x xs
contains_in x [] (k, within, is) = absurd (omega arith)
contains_in x (y ∷ ys) (zero, within, is) = inl (sym is)
contains_in x (y ∷ ys) (suc k, within, is) = inr (contains_in x ys (k, omega arith, is))
