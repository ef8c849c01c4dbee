-- Two lists, member by member.
use Rattle.std.proofs.Common.{List, [], ◌∷◌, ◌++◌}
use Rattle.gptp_timeline.specs.Each.{Each}

-- with one more at the end of both
pub each_more : {X Y : Type 0} (P : X → Y → Type 0) (xs : List X) (ys : List Y) (x : X) (y : Y) → Each P xs ys → P x y
    → Each P (xs ++ x ∷ []) (ys ++ y ∷ [])
each_more P [] [] x y each is = (is, tt)
each_more P [] (w ∷ ys) x y each is = absurd each
each_more P (v ∷ xs) [] x y each is = absurd each
each_more P (v ∷ xs) (w ∷ ys) x y each is = (each.0, each_more P xs ys x y each.1 is)
