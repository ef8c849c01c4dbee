-- What stands at the places of lists that were changed, backwards: from a member of the new list to that of the old
-- one.
use Rattle.std.proofs.Common.{◌≡◌, ◌⊎◌, ℕ, zero, suc, ◌+◌, List, [], ◌∷◌, length, map, Some, slice_get, refl, sym, ap, ◌∙◌, inl, inr, arith}
use Rattle.std.proofs.lemmas.Option.{none-some, same_Some}
use Rattle.gptp_receipt.specs.declared.held.Held.{Held}
use Rattle.gptp_roles.specs.Role.{each_from}
use Rattle.gptp_system.specs.State.{number, change, change_at}

-- ---- one member changed

abbrev pub Changed : {X : Type 0} → (X → X) → Type 0 → List X → ℕ → X → Type 0
Changed {X} f here xs i y = (x : X) × (slice_get xs i ≡ Some x) × ((here × (y ≡ f x)) ⊎ ((here → ⊥) × (y ≡ x)))

change_at-get : {X : Type 0} (f : X → X) (j : ℕ) (xs : List X) (i : ℕ) (y : X) → slice_get (change_at f j xs) i ≡ Some y
    → Changed f (j ≡ i) xs i y
change_at-get f j [] i y is = absurd (none-some y is)
change_at-get f zero (x ∷ xs) zero y is = (x, refl, inl (refl, sym (same_Some (f x) y is)))
change_at-get f zero (x ∷ xs) (suc i) y is = (y, is, inr ((λ e. omega arith), refl))
change_at-get f (suc j) (x ∷ xs) zero y is = (x, refl, inr ((λ e. omega arith), sym (same_Some x y is)))
change_at-get {X} f (suc j) (x ∷ xs) (suc i) y is = next (change_at-get f j xs i y is)
  where
    next : Changed f (j ≡ i) xs i y → Changed f (suc j ≡ suc i) (x ∷ xs) (suc i) y
    next (z, there, inl (here, new)) = (z, there, inl (ap suc here, new))
    next (z, there, inr (elsewhere, old)) = (z, there, inr ((λ e. elsewhere (omega arith)), old))

-- the port with this number is changed, and no other
pub change-get : {X : Type 0} (f : X → X) (p : ℕ) (xs : List X) (i : ℕ) (y : X) → slice_get (change f p xs) i ≡ Some y
    → Changed f (p ≡ suc i) xs i y
change-get f zero xs i y is = (y, is, inr ((λ e. omega arith), refl))
change-get {X} f (suc j) xs i y is = next (change_at-get f j xs i y is)
  where
    next : Changed f (j ≡ i) xs i y → Changed f (suc j ≡ suc i) xs i y
    next (z, there, inl (here, new)) = (z, there, inl (ap suc here, new))
    next (z, there, inr (elsewhere, old)) = (z, there, inr ((λ e. elsewhere (omega arith)), old))

-- what stands at a number stands at the place before
pub number-get : {X : Type 0} (xs : List X) (p i : ℕ) (x : X) → p ≡ suc i → slice_get xs i ≡ Some x
    → number xs p ≡ Some x
number-get xs p i x here is = ap (number xs) here ∙ is

change_at-length : {X : Type 0} (f : X → X) (j : ℕ) (xs : List X) → length (change_at f j xs) ≡ length xs
change_at-length f j [] = refl
change_at-length f zero (x ∷ xs) = refl
change_at-length f (suc j) (x ∷ xs) = let ih = change_at-length f j xs in omega arith

pub change-length : {X : Type 0} (f : X → X) (p : ℕ) (xs : List X) → length (change f p xs) ≡ length xs
change-length f zero xs = refl
change-length f (suc j) xs = change_at-length f j xs

change_at-map : {X Y : Type 0} (g : X → Y) (f : X → X) → ((x : X) → g (f x) ≡ g x) → (j : ℕ) (xs : List X)
    → map g (change_at f j xs) ≡ map g xs
change_at-map g f same j [] = refl
change_at-map g f same zero (x ∷ xs) = ap (λ y. y ∷ map g xs) (same x)
change_at-map g f same (suc j) (x ∷ xs) = ap (λ ys. g x ∷ ys) (change_at-map g f same j xs)

-- what a change leaves of each member it leaves of the list
pub change-map : {X Y : Type 0} (g : X → Y) (f : X → X) → ((x : X) → g (f x) ≡ g x) → (p : ℕ) (xs : List X)
    → map g (change f p xs) ≡ map g xs
change-map g f same zero xs = refl
change-map g f same (suc j) xs = change_at-map g f same j xs

change_at-same : {X : Type 0} (f : X → X) (j : ℕ) (xs : List X) → ((x : X) → slice_get xs j ≡ Some x → f x ≡ x)
    → change_at f j xs ≡ xs
change_at-same f j [] same = refl
change_at-same f zero (x ∷ xs) same = ap (λ y. y ∷ xs) (same x refl)
change_at-same f (suc j) (x ∷ xs) same = ap (λ ys. x ∷ ys) (change_at-same f j xs same)

-- nothing changes where the member stays
pub change-same : {X : Type 0} (f : X → X) (p : ℕ) (xs : List X) → ((x : X) → number xs p ≡ Some x → f x ≡ x)
    → change f p xs ≡ xs
change-same f zero xs same = refl
change-same f (suc j) xs same = change_at-same f j xs same

-- ---- something made of each member

-- for a port's number that is n after the first
pub each_from-get : {X : Type 0} (f : ℕ → Held → X) (n : ℕ) (hs : List Held) (i : ℕ) (y : X)
    → slice_get (each_from f n hs) i ≡ Some y
    → (h : Held) × (slice_get hs i ≡ Some h) × (y ≡ f (n + i) h)
each_from-get f n [] i y is = absurd (none-some y is)
each_from-get f n (h ∷ hs) zero y is =
    let here : n ≡ n + 0 = omega arith in
    (h, refl, sym (same_Some (f n h) y is) ∙ ap (λ p. f p h) here)
each_from-get f n (h ∷ hs) (suc i) y is =
    let (g, there, made) = each_from-get f (n + 1) hs i y is in
    let number : n + 1 + i ≡ n + suc i = omega arith in
    (g, there, made ∙ ap (λ p. f p g) number)

-- the ports are numbered from 1
pub each_port-get : {X : Type 0} (f : ℕ → Held → X) (hs : List Held) (i : ℕ) (y : X)
    → slice_get (each_from f 1 hs) i ≡ Some y
    → (h : Held) × (slice_get hs i ≡ Some h) × (y ≡ f (suc i) h)
each_port-get f hs i y is =
    let (h, there, made) = each_from-get f 1 hs i y is in
    let number : 1 + i ≡ suc i = omega arith in
    (h, there, made ∙ ap (λ p. f p h) number)
