-- The one word after the program's name.
use Rattle.std.proofs.Common.{◌≡◌, ◌∙◌, ℕ, List, [], ◌∷◌, Some, drop, length, map, slice_get, ap, arith}

pub one_word : {X : Type 0} (f : X → List ℕ) (xs : List X) (x : X) (word : List ℕ) → length xs ≡ 2
    → slice_get xs 1 ≡ Some x → f x ≡ word → drop 1 (map f xs) ≡ word ∷ []
one_word f [] x word two there is = absurd (omega (arith, two))
one_word f (a ∷ []) x word two there is = absurd (omega (arith, two))
one_word f (a ∷ b ∷ []) x word two there is = let same : b ≡ x = cc in ap (λ w. w ∷ []) (ap f same ∙ is)
one_word f (a ∷ b ∷ c ∷ xs) x word two there is = absurd (omega (arith, two))
