-- What stands at the places of a list.
use Rattle.std.proofs.Common.{◌<◌, ◌≡◌, ◌≢◌, ◌⊎◌, ℕ, zero, suc, List, [], ◌∷◌, ◌++◌, length, map, Some, slice_get, slice_set, slice_index_or, refl, ap, subst, sym, ◌∙◌, inl, inr, arith}
use Rattle.std.proofs.lemmas.Option.{none-some, same_Some}

pub get-set_same : {X : Type 0} (xs : List X) (i : ℕ) (x y : X) → slice_get xs i ≡ Some x
    → slice_get (slice_set xs i y) i ≡ Some y
get-set_same [] i x y is = absurd (none-some x is)
get-set_same (z ∷ zs) zero x y is = refl
get-set_same (z ∷ zs) (suc i) x y is = get-set_same zs i x y is

pub get-set_other : {X : Type 0} (xs : List X) (i j : ℕ) (y : X) → j ≢ i
    → slice_get (slice_set xs i y) j ≡ slice_get xs j
get-set_other [] i j y other = refl
get-set_other (z ∷ zs) zero zero y other = absurd (other refl)
get-set_other (z ∷ zs) zero (suc j) y other = refl
get-set_other (z ∷ zs) (suc i) zero y other = refl
get-set_other (z ∷ zs) (suc i) (suc j) y other = get-set_other zs i j y (λ e. other (ap suc e))

pub read : {X : Type 0} (xs : List X) (i : ℕ) (x d : X) → slice_get xs i ≡ Some x → slice_index_or xs i d ≡ x
read [] i x d is = absurd (none-some x is)
read (z ∷ zs) zero x d is = same_Some z x is
read (z ∷ zs) (suc i) x d is = read zs i x d is

pub map-set : {X Y : Type 0} (f : X → Y) (xs : List X) (i : ℕ) (y : X)
    → map f (slice_set xs i y) ≡ slice_set (map f xs) i (f y)
map-set f [] i y = refl
map-set f (z ∷ zs) zero y = refl
map-set f (z ∷ zs) (suc i) y = ap (λ rest. f z ∷ rest) (map-set f zs i y)

-- a member is replaced by one that f can't tell from it
pub map-set_same : {X Y : Type 0} (f : X → Y) (xs : List X) (i : ℕ) (x y : X) → slice_get xs i ≡ Some x → f y ≡ f x
    → map f (slice_set xs i y) ≡ map f xs
map-set_same f [] i x y is same = refl
map-set_same f (z ∷ zs) zero x y is same = ap (λ v. v ∷ map f zs) (same ∙ ap f (sym (same_Some z x is)))
map-set_same f (z ∷ zs) (suc i) x y is same = ap (λ rest. f z ∷ rest) (map-set_same f zs i x y is same)

pub same_place : (i j : ℕ) → (i ≡ j) ⊎ (i ≢ j)
same_place zero zero = inl refl
same_place zero (suc j) = inr (λ e. omega arith)
same_place (suc i) zero = inr (λ e. omega arith)
same_place (suc i) (suc j) = next (same_place i j)
  where
    next : (i ≡ j) ⊎ (i ≢ j) → (suc i ≡ suc j) ⊎ (suc i ≢ suc j)
    next (inl same) = inl (ap suc same)
    next (inr apart) = inr (λ e. apart (omega arith))

-- what holds of all members and of a new one holds of all where that stands among them
pub get-set_all : {X : Type 0} (P : X → Type 0) (xs : List X) (place : ℕ) (old new : X) → slice_get xs place ≡ Some old
    → P new → ((i : ℕ) (x : X) → slice_get xs i ≡ Some x → P x)
    → (i : ℕ) (x : X) → slice_get (slice_set xs place new) i ≡ Some x → P x
get-set_all P xs place old new here is all i x there = by (same_place i place)
  where
    by : (i ≡ place) ⊎ (i ≢ place) → P x
    by (inl same) =
        let at : slice_get (slice_set xs place new) place ≡ Some x =
        ap (slice_get (slice_set xs place new)) (sym same) ∙ there in
        subst P (same_Some new x (sym (get-set_same xs place old new here) ∙ at)) is
    by (inr apart) = all i x (sym (get-set_other xs place i new apart) ∙ there)

-- what is read where something stands
pub stands : {X : Type 0} (xs : List X) (i : ℕ) (x d : X) → slice_get xs i ≡ Some x
    → slice_get xs i ≡ Some (slice_index_or xs i d)
stands xs i x d is = is ∙ ap Some (sym (read xs i x d is))

-- ---- one more after

-- a member of a list with one more after is one of the list, or that one
pub behind : {X : Type 0} (xs : List X) (y x : X) (i : ℕ) → slice_get (xs ++ y ∷ []) i ≡ Some x
    → (slice_get xs i ≡ Some x) ⊎ ((i ≡ length xs) × (y ≡ x))
behind [] y x (suc i) h = absurd cc
behind [] y x zero h = inr (refl, cc)
behind (z ∷ xs) y x zero h = inl h
behind (z ∷ xs) y x (suc i) h = elim (behind xs y x i h) [
  | inl e ↦ inl e
  | inr e ↦ inr (ap suc e.0, e.1)
]

-- the members stay at their places
pub before : {X : Type 0} (xs : List X) (y x : X) (i : ℕ) → slice_get xs i ≡ Some x
    → slice_get (xs ++ y ∷ []) i ≡ Some x
before [] y x i h = absurd cc
before (z ∷ xs) y x zero h = h
before (z ∷ xs) y x (suc i) h = before xs y x i h

-- ---- one replaced

-- What holds of the new one at its place, and of the others where they stand, holds wherever one stands.
pub set_each : {X : Type 0} (P : ℕ → X → Type 0) (xs : List X) (place : ℕ) (old new : X) → slice_get xs place ≡ Some old
    → P place new → ((other : ℕ) (x : X) → other ≢ place → slice_get xs other ≡ Some x → P other x)
    → (other : ℕ) (x : X) → slice_get (slice_set xs place new) other ≡ Some x → P other x
set_each P xs place old new here now others other x there = by (same_place other place)
  where
    by : (other ≡ place) ⊎ (other ≢ place) → P other x
    by (inl same) =
        let now_here = get-set_same xs place old new here in
        let one : new ≡ x =
        same_Some new x (sym now_here ∙ (ap (slice_get (slice_set xs place new)) (sym same) ∙ there)) in
        subst (λ i. P i x) (sym same) (subst (P place) one now)
    by (inr apart) = others other x apart (sym (get-set_other xs place other new apart) ∙ there)

-- one stands at each place below the length
pub member_there : {X : Type 0} (xs : List X) (i : ℕ) → i < length xs → (x : X) × (slice_get xs i ≡ Some x)
member_there [] i within = absurd (omega arith)
member_there (x ∷ xs) zero within = (x, refl)
member_there (x ∷ xs) (suc i) within = member_there xs i (omega arith)
