-- Going over a list: what holds of each member before a place. Options through a map.
use Rattle.std.proofs.Common.{◌↔◌, zero, suc, Bool, IsTrue, [], ◌∷◌, ◌++◌, take, drop, ap, inl, inr, ◌≡◌, ◌<◌, ◌≤◌, ◌+◌, ℕ, List, Option, Some, None, IfSome, IfNone, option_map, length, slice_get, sym, subst, ◌∙◌, arith}
use Rattle.std.proofs.lemmas.Option.{slice_get_within}
use Rattle.gptp_lists.specs.Members.{In}
use Rattle.gptp_lists.proofs.SystemSpecLemmas.{slice_get-In}

-- of each member before place n
pub record HoldBefore {X : Type 0} (P : X → Type 0) (xs : List X) (n : ℕ) : Type 0 where
  pub each : (i : ℕ) (x : X) → i < n → slice_get xs i ≡ Some x → P x

-- of one more
pub one_more : {X : Type 0} (P : X → Type 0) (xs : List X) (n : ℕ) → HoldBefore P xs n
    → ((x : X) → slice_get xs n ≡ Some x → P x) → HoldBefore P xs (n + 1)
one_more {X} P xs n h here = record { each = each }
  where
    at : (i : ℕ) (x : X) → i ≡ n → slice_get xs i ≡ Some x → P x
    at i x e s = here x (sym (subst (λ k. Some x ≡ slice_get xs k) e (sym s)))

    each : (i : ℕ) (x : X) → i < n + 1 → slice_get xs i ≡ Some x → P x
    each i x b e = elim (native.Mathlib.Decide.dec_lt i n) [
      | yes before ↦ h.each i x before e
      | no over ↦ at i x (omega arith) e
    ]

-- and of all at last
pub all_hold : {X : Type 0} (P : X → Type 0) (xs : List X) (n : ℕ) → HoldBefore P xs n → length xs ≤ n
    → (x : X) → In x xs → P x
all_hold P xs n h b x k =
    let r = slice_get-In x xs k in
    let w = slice_get_within xs r.0 x r.1 in h.each r.0 x (omega arith) r.1

-- what is in an option whose image is known
pub some_of_map : {X Y : Type 0} (f : X → Y) (P : Y → Type 0) (o : Option X) (y : Y) → option_map f o ≡ Some y → P y
    → IfSome o (λ x. P (f x))
some_of_map f P None y e h = tt
some_of_map f P (Some x) y e h = let same : y ≡ f x = cc in subst P same h

-- an option whose image is there isn't none
pub not_none_of_map : {X Y : Type 0} (f : X → Y) (Q : Type 0) (o : Option X) (y : Y) → option_map f o ≡ Some y
    → IfNone o Q
not_none_of_map f Q None y e = absurd cc
not_none_of_map f Q (Some x) y e = tt

-- of what stands at a place, and of no other
pub of_that : {X : Type 0} (xs : List X) (i : ℕ) (x : X) (P : X → Type 0) (b : Bool) → Some x ≡ slice_get xs i
    → (IsTrue b ↔ P x) → IsTrue b ↔ ((y : X) → slice_get xs i ≡ Some y → P y)
of_that {X} xs i x P b e test = ((λ t y at. put y (e ∙ at) (test.0 t)), (λ h. test.1 (h x (sym e))))
  where
    put : (y : X) → Some x ≡ Some y → P x → P y
    put y s p = let same : x ≡ y = cc in subst P same p

-- what stands before a place and after it
pub around : {X : Type 0} (xs : List X) (i : ℕ) (x : X) → slice_get xs i ≡ Some x
    → take i xs ++ x ∷ drop (suc i) xs ≡ xs
around [] i x e = absurd cc
around (y ∷ ys) zero x e = let same : x ≡ y = cc in ap (λ z. z ∷ ys) same
around (y ∷ ys) (suc i) x e = ap (λ zs. y ∷ zs) (around ys i x e)

-- what stands before a place has a lower one
place_before : {X : Type 0} (xs : List X) (i : ℕ) (x : X) → In x (take i xs)
    → (j : ℕ) × (j < i) × (slice_get xs j ≡ Some x)
place_before [] zero x k = absurd k
place_before [] (suc i) x k = absurd k
place_before (y ∷ ys) zero x k = absurd k
place_before (y ∷ ys) (suc i) x (inl e) = (0, omega arith, ap (λ z. Some z) (sym e))
place_before (y ∷ ys) (suc i) x (inr k) =
    let (j, b, at) = place_before ys i x k in (suc j, omega arith, at)

-- it holds of each of those
pub hold_before : {X : Type 0} (P : X → Type 0) (xs : List X) (n : ℕ) → HoldBefore P xs n → (x : X) → In x (take n xs)
    → P x
hold_before P xs n h x k = let (i, b, at) = place_before xs n x k in h.each i x b at
