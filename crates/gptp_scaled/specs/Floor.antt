-- Quotients rounded down.
use Rattle.std.specs.Prelude.{ℤ, pos, ◌+ℤ◌, ◌*ℤ◌, ◌≤ℤ◌, ◌<ℤ◌}
use Rattle.std.specs.Int.{int_div_euclid}

-- f is x / d, rounded down: the greatest whole number with d f at most x, for d above 0
pub record IsFloor (x d f : ℤ) : Type 0 where
  pub reached : (d *ℤ f) ≤ℤ x
  pub passed : x <ℤ (d *ℤ (f +ℤ pos 1))

-- x / d, rounded down: for d above 0 the one number with the property above (`FloorIsExact` of `Laws`)
abbrev pub floor_div : ℤ → ℤ → ℤ
floor_div x d = int_div_euclid x d
