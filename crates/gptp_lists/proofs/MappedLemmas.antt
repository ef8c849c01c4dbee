-- Lists by place: what stands there, and mapped lists.
use Rattle.std.proofs.Common.{◌≡◌, ℕ, zero, suc, ◌+◌, List, [], ◌∷◌, ◌++◌, map, take, Some, slice_get, Contains, refl, sym, ap, ◌∙◌}
use Rattle.std.proofs.lemmas.List.{take_more}
use Rattle.std.proofs.lemmas.Option.{slice_get-get_or, slice_get_within, get_or_from_slice_get}

pub some_same : {X : Type 0} (x y : X) → Some x ≡ Some y → x ≡ y
some_same x y e = cc

-- at one place one member stands
pub same_there : {X : Type 0} (xs : List X) (i : ℕ) (x y : X) → slice_get xs i ≡ Some x → slice_get xs i ≡ Some y
    → x ≡ y
same_there xs i x y e f = some_same x y (sym e ∙ f)

-- one more of those in front
pub taken : {X : Type 0} (xs : List X) (i : ℕ) (x : X) → slice_get xs i ≡ Some x → take (i + 1) xs ≡ take i xs ++ x ∷ []
taken xs i x e =
    take_more xs i x (slice_get_within xs i x e) ∙ ap (λ y. take i xs ++ y ∷ []) (get_or_from_slice_get xs i x x e)

-- a member of a mapped list comes from one of the list
pub mapped : {X Y : Type 0} (f : X → Y) (xs : List X) (i : ℕ) (y : Y) → slice_get (map f xs) i ≡ Some y
    → (x : X) × (slice_get xs i ≡ Some x) × (f x ≡ y)
mapped f [] i y e = absurd cc
mapped f (x ∷ xs) zero y e = (x, refl, some_same (f x) y e)
mapped f (x ∷ xs) (suc i) y e = mapped f xs i y e

pub mapped_there : {X Y : Type 0} (f : X → Y) (xs : List X) (i : ℕ) (x : X) → slice_get xs i ≡ Some x
    → slice_get (map f xs) i ≡ Some (f x)
mapped_there f [] i x e = absurd cc
mapped_there f (y ∷ xs) zero x e = ap (λ z. Some (f z)) (some_same y x e)
mapped_there f (y ∷ xs) (suc i) x e = mapped_there f xs i x e

-- where one list looks under f as another does under g, each member of the other has its like at its place
pub alike : {X Y Z : Type 0} (f : X → Z) (g : Y → Z) (xs : List X) (ys : List Y) → map f xs ≡ map g ys → (i : ℕ) (y : Y)
    → slice_get ys i ≡ Some y → (x : X) × (slice_get xs i ≡ Some x) × (f x ≡ g y)
alike f g xs ys same i y there = mapped f xs i (g y) (ap (λ zs. slice_get zs i) same ∙ mapped_there g ys i y there)

pub contains_there : {X : Type 0} (xs : List X) (i : ℕ) (x : X) → slice_get xs i ≡ Some x → Contains xs x
contains_there xs i x e = (i, slice_get_within xs i x e, get_or_from_slice_get xs i x x e)

pub there_contains : {X : Type 0} (xs : List X) (x : X) → Contains xs x → (i : ℕ) × (slice_get xs i ≡ Some x)
there_contains xs x h = (h.0, slice_get-get_or xs h.0 x h.1 ∙ ap Some h.2)
