-- Members that pass a test.
use Rattle.std.proofs.Common.{◌≡◌, ◌∙◌, ◌+◌, ◌++◌, ◌||◌, ℕ, zero, suc, Bool, true, false, List, [], ◌∷◌, Some, ap, filter, map, refl, slice_get, take}
use Rattle.std.specs.List.{list_any}
use Rattle.std.proofs.lemmas.List.{map-append}
use Rattle.std.proofs.lemmas.List.Elements.{filter-append}
use Rattle.gptp_lists.proofs.MappedLemmas.{some_same, taken}

or_true : (b : Bool) → (b || true) ≡ true
or_true true = refl
or_true false = refl

pub any_there : {X : Type 0} (p : X → Bool) (xs : List X) (i : ℕ) (x : X) → slice_get xs i ≡ Some x → p x ≡ true
    → list_any p xs ≡ true
any_there p [] i x there passes = absurd cc
any_there p (y ∷ xs) zero x there passes =
    let same : p y ≡ true = ap p (some_same y x there) ∙ passes in
    rw same refl
any_there p (y ∷ xs) (suc i) x there passes = rw (any_there p xs i x there passes) (or_true (p y))

-- those of one more
pub passed_more : {X Y : Type 0} (f : X → Y) (p : Y → Bool) (xs : List X) (i : ℕ) (x : X) → slice_get xs i ≡ Some x
    → filter p (map f (take (i + 1) xs)) ≡ filter p (map f (take i xs)) ++ filter p (f x ∷ [])
passed_more f p xs i x there =
    ap (λ ys. filter p (map f ys)) (taken xs i x there) ∙ ap (filter p) (map-append f (take i xs) (x ∷ []))
    ∙ filter-append p (map f (take i xs)) (f x ∷ [])
