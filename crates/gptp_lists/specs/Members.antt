-- Members of lists, by recursion, so that definitions over them serve in proofs by induction.
use Rattle.std.specs.Prelude.{◌≡◌, ◌⊎◌, ⊤, List, [], ◌∷◌}

-- x is one of the list
abbrev pub In : {X : Type 0} → X → List X → Type 0
In x [] = ⊥
In x (y ∷ ys) = (x ≡ y) ⊎ In x ys

-- no two members are equal
abbrev pub Different : {X : Type 0} → List X → Type 0
Different [] = ⊤
Different (x ∷ xs) = (In x xs → ⊥) × Different xs
