-- One place more is looked at where systems are listed, or all are tested.
use Rattle.std.proofs.Common.{◌≡◌, ◌<◌, ◌+◌, ◌-◌, ◌++◌, ℕ, suc, Bool, true, false, cond, List, [], ◌∷◌, filter, refl, sym, ap, ◌∙◌, arith}
use Rattle.std.specs.Prelude.{◌&&◌}
use Rattle.std.specs.List.{list_all, range_with_len}

-- of the places from this one on
pub places_more : (is : ℕ → Bool) (place all : ℕ) → place < all
    → cond (is place) (place ∷ []) [] ++ filter is (range_with_len (place + 1) (all - (place + 1)))
    ≡ filter is (range_with_len place (all - place))
places_more is place all less =
    let more : all - place ≡ suc (all - (place + 1)) = omega (arith, less) in
    by (is place) (filter is (range_with_len (place + 1) (all - (place + 1))))
    ∙ ap (λ count. filter is (range_with_len place count)) (sym more)
  where
    by : (test : Bool) (rest : List ℕ) → cond test (place ∷ []) [] ++ rest ≡ cond test (place ∷ rest) rest
    by true rest = refl
    by false rest = refl

-- all places from this one on are so
pub all_more : (is : ℕ → Bool) (place all : ℕ) → place < all
    → (is place && list_all is (range_with_len (place + 1) (all - (place + 1))))
    ≡ list_all is (range_with_len place (all - place))
all_more is place all less =
    let more : all - place ≡ suc (all - (place + 1)) = omega (arith, less) in
    ap (λ count. list_all is (range_with_len place count)) (sym more)

pub both_more : (a b c : Bool) → ((a && b) && c) ≡ (a && (b && c))
both_more true b c = refl
both_more false b c = refl
