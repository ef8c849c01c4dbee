-- What is there of what is made of an option.
use Rattle.std.proofs.Common.{◌≡◌, Option, Some, None, option_map, refl}
use Rattle.std.proofs.lemmas.Option.{same_Some}

pub mapped_from : {X Y : Type 0} (f : X → Y) (o : Option X) (y : Y) → Some y ≡ option_map f o
    → (x : X) × (o ≡ Some x) × (y ≡ f x)
mapped_from f None y e = absurd cc
mapped_from f (Some x) y e = (x, refl, same_Some y (f x) e)
