-- Those of several that pass a test, with one more.
use Rattle.std.proofs.Common.{◌≡◌, ◌++◌, ◌∷◌, [], Bool, true, false, List, filter, map, if◌then◌else◌, refl, ap, append-nil, append_assoc}

pub kept_more : {X Y : Type 0} (f : X → Y) (p : X → Bool) (x : X) (rest : List X) (ys : List Y)
    → (ys ++ (if p x then f x ∷ [] else [])) ++ map f (filter p rest) ≡ ys ++ map f (filter p (x ∷ rest))
kept_more {X} {Y} f p x rest ys = by (p x) refl
  where
    by : (t : Bool) → p x ≡ t
        → (ys ++ (if p x then f x ∷ [] else [])) ++ map f (filter p rest) ≡ ys ++ map f (filter p (x ∷ rest))
    by true is = rw is (append_assoc ys (f x ∷ []) (map f (filter p rest)))
    by false is = rw is (ap (λ (zs : List Y). zs ++ map f (filter p rest)) (append-nil ys))

-- and without a function
pub passed_more : {X : Type 0} (p : X → Bool) (x : X) (rest ys : List X)
    → (ys ++ (if p x then x ∷ [] else [])) ++ filter p rest ≡ ys ++ filter p (x ∷ rest)
passed_more {X} p x rest ys = by (p x) refl
  where
    by : (t : Bool) → p x ≡ t → (ys ++ (if p x then x ∷ [] else [])) ++ filter p rest ≡ ys ++ filter p (x ∷ rest)
    by true is = rw is (append_assoc ys (x ∷ []) (filter p rest))
    by false is = rw is (ap (λ (zs : List X). zs ++ filter p rest) (append-nil ys))
