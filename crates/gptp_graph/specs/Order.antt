-- The order of lists of numbers by which priority vectors are compared: part by part, lower is better
-- (IEEE 802.1AS-2020, 10.3.4).
use Rattle.std.specs.Prelude.{◌≡◌, ◌⊎◌, ◌<◌, ⊤, ℕ, List, [], ◌∷◌}
use Rattle.gptp_lists.specs.Members.{In}

-- the first difference decides
abbrev pub IsLower : List ℕ → List ℕ → Type 0
IsLower _ [] = ⊥
IsLower [] (y ∷ ys) = ⊤
IsLower (x ∷ xs) (y ∷ ys) = (x < y) ⊎ ((x ≡ y) × IsLower xs ys)

-- each number is lower than all after it
abbrev pub IsRising : List ℕ → Type 0
IsRising [] = ⊤
IsRising (x ∷ xs) = ((y : ℕ) → In y xs → x < y) × IsRising xs
