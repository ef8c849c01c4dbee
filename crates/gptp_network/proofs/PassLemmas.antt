-- Members of lists that are filtered or tested, and how many pass.
use Rattle.std.proofs.Common.{◌≡◌, ◌+◌, Bool, true, false, cond, List, [], ◌∷◌, filter, map, Option, Some, None, refl, sym, ap, ap₂, ◌∙◌, inl, inr}
use Rattle.std.specs.List.{cons_option, count_by, filter_map, list_any}
use Rattle.std.proofs.lemmas.Bool.{or_cases, or_left, or_right}
use Rattle.std.proofs.lemmas.List.Sums.{sum_by-cons}
use Rattle.gptp_lists.specs.Members.{In}

pub kept : {X : Type 0} (p : X → Bool) (x : X) (xs : List X) → In x xs → p x ≡ true → In x (filter p xs)
kept p x [] member is = absurd member
kept p x (y ∷ ys) (inl same) is = rw (ap p (sym same) ∙ is) (inl same)
kept {X} p x (y ∷ ys) (inr member) is = by (p y) (kept p x ys member is)
  where
    by : (test : Bool) → In x (filter p ys) → In x (cond test (y ∷ filter p ys) (filter p ys))
    by true rest = inr rest
    by false rest = rest

pub given : {X Y : Type 0} (f : X → Option Y) (x : X) (y : Y) (xs : List X) → In x xs → f x ≡ Some y
    → In y (filter_map f xs)
given f x y [] member is = absurd member
given f x y (z ∷ zs) (inl same) is = rw (ap f (sym same) ∙ is) (inl refl)
given {X} {Y} f x y (z ∷ zs) (inr member) is = by (f z) (given f x y zs member is)
  where
    by : (o : Option Y) → In y (filter_map f zs) → In y (cons_option o (filter_map f zs))
    by None rest = rest
    by (Some v) rest = inr rest

-- a member that passes
pub passes : {X : Type 0} (p : X → Bool) (xs : List X) → list_any p xs ≡ true → (x : X) × In x xs × (p x ≡ true)
passes p [] is = absurd cc
passes p (x ∷ xs) is = elim (or_cases (p x) (list_any p xs) is) [
  | inl here ↦ (x, inl refl, here)
  | inr there ↦ let (y, member, passed) = passes p xs there in (y, inr member, passed)
]

pub passes_at : {X : Type 0} (p : X → Bool) (xs : List X) (x : X) → In x xs → p x ≡ true → list_any p xs ≡ true
passes_at p [] x member is = absurd member
passes_at p (y ∷ ys) x (inl same) is = or_left (p y) (list_any p ys) (ap p (sym same) ∙ is)
passes_at p (y ∷ ys) x (inr member) is = or_right (p y) (list_any p ys) (passes_at p ys x member is)

-- ---- how many pass

pub count_more : {X : Type 0} (p : X → Bool) (x : X) (xs : List X)
    → count_by p (x ∷ xs) ≡ cond (p x) 1 0 + count_by p xs
count_more p x xs = sum_by-cons (λ y. cond (p y) 1 0) x xs

pub count-map : {X Y : Type 0} (p : Y → Bool) (f : X → Y) (xs : List X)
    → count_by p (map f xs) ≡ count_by (λ x. p (f x)) xs
count-map p f [] = refl
count-map p f (x ∷ xs) =
    count_more p (f x) (map f xs) ∙ ap (λ k. cond (p (f x)) 1 0 + k) (count-map p f xs)
    ∙ sym (count_more (λ y. p (f y)) x xs)

pub count_alike : {X : Type 0} (p q : X → Bool) (xs : List X) → ((x : X) → p x ≡ q x)
    → count_by p xs ≡ count_by q xs
count_alike p q [] same = refl
count_alike p q (x ∷ xs) same =
    count_more p x xs
    ∙ ap₂ (λ test k. cond test 1 0 + k) (same x) (count_alike p q xs same)
    ∙ sym (count_more q x xs)

-- two tests that pass for each other's sake are one
pub same_tests : (a b : Bool) → (a ≡ true → b ≡ true) → (b ≡ true → a ≡ true) → a ≡ b
same_tests true b to back = sym (to refl)
same_tests false true to back = back refl
same_tests false false to back = refl
