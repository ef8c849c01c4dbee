-- That a thing exists once.
use Rattle.std.specs.Prelude.{◌≡◌}

-- there is an x of which P holds, and no other
abbrev pub ExistsOnce : {X : Type 0} → (X → Type 0) → Type 0
ExistsOnce {X} P = (x : X) × P x × ((y : X) → P y → y ≡ x)
