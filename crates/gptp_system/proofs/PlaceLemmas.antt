-- What stands at a port's number, and lists with that changed.
use Rattle.std.proofs.Common.{◌≡◌, ◌⊎◌, inl, inr, ℕ, zero, suc, ◌-◌, ◌<◌, ◌≤◌, List, [], ◌∷◌, length, Some, refl, ap, arith}
use Rattle.std.specs.Prelude.{slice_get, slice_set, slice_index_or}
use Rattle.std.specs.List.{AllByRecursion}
use Rattle.gptp_system.specs.State.{number, change, change_at}

pub get_at : {X : Type 0} (xs : List X) (i : ℕ) (d : X) → i < length xs → slice_get xs i ≡ Some (slice_index_or xs i d)
get_at [] i d within = absurd (omega arith)
get_at (x ∷ xs) zero d within = refl
get_at (x ∷ xs) (suc i) d within = get_at xs i d (omega arith)

pub set_at : {X : Type 0} (f : X → X) (xs : List X) (i : ℕ) (d : X) → i < length xs
    → slice_set xs i (f (slice_index_or xs i d)) ≡ change_at f i xs
set_at f [] i d within = absurd (omega arith)
set_at f (x ∷ xs) zero d within = refl
set_at {X} f (x ∷ xs) (suc i) d within = ap (λ (rest : List X). x ∷ rest) (set_at f xs i d (omega arith))

-- the port with a number stands at the place before it
pub number_is : {X : Type 0} (xs : List X) (p : ℕ) (d : X) → 1 ≤ p → p ≤ length xs
    → number xs p ≡ Some (slice_index_or xs (p - 1) d)
number_is xs zero d least most = absurd (omega arith)
number_is xs (suc i) d least most = let place : suc i - 1 ≡ i = omega arith in rw place (get_at xs i d (omega arith))

pub change_is : {X : Type 0} (f : X → X) (xs : List X) (p : ℕ) (d : X) → 1 ≤ p → p ≤ length xs
    → slice_set xs (p - 1) (f (slice_index_or xs (p - 1) d)) ≡ change f p xs
change_is f xs zero d least most = absurd (omega arith)
change_is f xs (suc i) d least most = let place : suc i - 1 ≡ i = omega arith in
    rw place (set_at f xs i d (omega arith))

-- where no port has the number nothing changes
change_at_past : {X : Type 0} (f : X → X) (xs : List X) (i : ℕ) → length xs ≤ i → xs ≡ change_at f i xs
change_at_past f [] i past = refl
change_at_past f (x ∷ xs) zero past = absurd (omega arith)
change_at_past {X} f (x ∷ xs) (suc i) past = ap (λ (rest : List X). x ∷ rest) (change_at_past f xs i (omega arith))

pub change_past : {X : Type 0} (f : X → X) (xs : List X) (p n : ℕ) → n ≡ p
    → ((1 ≤ n) × (length xs < n)) ⊎ (n < 1)
    → xs ≡ change f p xs
change_past f xs zero n is off = refl
change_past f xs (suc i) n is (inl (least, past)) = change_at_past f xs i (omega (arith, is))
change_past f xs (suc i) n is (inr few) = absurd (omega (arith, is))

-- what holds of all members and of what one of them becomes holds of all again
pub all_change_at : {X : Type 0} (P : X → Type 0) (f : X → X) (i : ℕ) (xs : List X) → ((x : X) → P x → P (f x))
    → AllByRecursion P xs
    → AllByRecursion P (change_at f i xs)
all_change_at P f i [] kept all = tt
all_change_at P f zero (x ∷ xs) kept all = (kept x all.0, all.1)
all_change_at P f (suc i) (x ∷ xs) kept all = (all.0, all_change_at P f i xs kept all.1)

pub all_change : {X : Type 0} (P : X → Type 0) (f : X → X) (p : ℕ) (xs : List X) → ((x : X) → P x → P (f x))
    → AllByRecursion P xs
    → AllByRecursion P (change f p xs)
all_change P f zero xs kept all = all
all_change P f (suc i) xs kept all = all_change_at P f i xs kept all

-- what holds of all members holds of the one at a place
pub member_at : {X : Type 0} (P : X → Type 0) (xs : List X) (i : ℕ) (d : X) → AllByRecursion P xs → i < length xs
    → P (slice_index_or xs i d)
member_at P [] i d all within = absurd (omega arith)
member_at P (x ∷ xs) zero d all within = all.0
member_at P (x ∷ xs) (suc i) d all within = member_at P xs i d all.1 (omega arith)
