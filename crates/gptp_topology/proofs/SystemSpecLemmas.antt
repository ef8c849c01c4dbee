-- Lists that are mapped, one more at a time.
use Rattle.std.proofs.Common.{◌≡◌, ◌<◌, ◌+◌, ℕ, zero, suc, List, [], ◌∷◌, ◌++◌, drop, get_or, length, map, take, Some, slice_get, slice_set, refl, sym, ap, ◌∙◌, arith}
use Rattle.std.proofs.lemmas.List.{map-append}
use Rattle.gptp_lists.proofs.MappedLemmas.{taken}

-- one more of a list that is mapped
pub mapped_more : {X Y : Type 0} (f : X → Y) (xs : List X) (place : ℕ) (x : X) → slice_get xs place ≡ Some x
    → map f (take place xs) ++ f x ∷ [] ≡ map f (take (place + 1) xs)
mapped_more f xs place x there =
    sym (map-append f (take place xs) (x ∷ [])) ∙ ap (map f) (sym (taken xs place x there))

-- one more of a list that is mapped in place
pub mapped_set : {X : Type 0} (f : X → X) (xs : List X) (place : ℕ) (d : X) → place < length xs
    → slice_set (map f (take place xs) ++ drop place xs) place
    (f (get_or (map f (take place xs) ++ drop place xs) place d))
    ≡ map f (take (place + 1) xs) ++ drop (place + 1) xs
mapped_set f [] place d within = absurd (omega (arith, within))
mapped_set f (x ∷ xs) zero d within = refl
mapped_set f (x ∷ xs) (suc place) d within =
    let next : suc place + 1 ≡ suc (place + 1) = omega arith in
    ap (λ ys. f x ∷ ys) (mapped_set f xs place d (omega (arith, within)))
    ∙ ap (λ n. map f (take n (x ∷ xs)) ++ drop n (x ∷ xs)) (sym next)
