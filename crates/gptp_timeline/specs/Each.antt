-- Two lists, member by member.
use Rattle.std.specs.Prelude.{⊤, List, [], ◌∷◌}

-- there are as many of both, and this holds of each and the other at its place
abbrev pub Each : {X Y : Type 0} → (X → Y → Type 0) → List X → List Y → Type 0
Each P [] [] = ⊤
Each P [] (y ∷ ys) = ⊥
Each P (x ∷ xs) [] = ⊥
Each P (x ∷ xs) (y ∷ ys) = P x y × Each P xs ys
