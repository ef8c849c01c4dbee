-- Folds over the front of a table.
use Rattle.std.proofs.Common.{◌≡◌, ◌∙◌, ◌<◌, ◌+◌, ℕ, List, [], ◌∷◌, ap, fold, length, map, slice_index_or, take}
use Rattle.std.proofs.lemmas.List.{map-append, take_more}
use Rattle.std.proofs.lemmas.List.Sums.{fold-append}

-- one row more is one step more
pub fold_more_of : {X Y Z : Type 0} (f : Z → Y → Z) (g : X → Y) (a : Z) (xs : List X) (i : ℕ) (d : X) → i < length xs
    → fold f a (map g (take (i + 1) xs)) ≡ f (fold f a (map g (take i xs))) (g (slice_index_or xs i d))
fold_more_of f g a xs i d lt =
    ap (λ front. fold f a (map g front)) (take_more xs i d lt)
    ∙ ap (fold f a) (map-append g (take i xs) (slice_index_or xs i d ∷ []))
    ∙ fold-append f a (map g (take i xs)) (g (slice_index_or xs i d) ∷ [])
