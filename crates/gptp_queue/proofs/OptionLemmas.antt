-- What holds of the value of an option.
use Rattle.std.proofs.Common.{◌≡◌, Option, Some, None, IfSome, subst, arith}

pub on_some : {T : Type 0} (o : Option T) (x : T) (P : T → Type 0) → o ≡ Some x → IfSome o P → P x
on_some None x P is p = absurd (grind (arith, is))
on_some (Some y) x P is p = let same : y ≡ x = cc in subst P same p
