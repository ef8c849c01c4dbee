-- What a system reads by the reading that it gets, and by the one before (profile). Times of clocks are in units of
-- 2^-16 ns.
use Rattle.std.specs.Prelude.{ℕ, ◌<◌, ◌^◌, ℤ, IfSome, Option, unsigned_abs}
use Rattle.std.specs.Option.{option_and_then}
use Rattle.gptp_model.specs.World.{WorldState}
use Rattle.gptp_timeline.specs.Readings.{reading_error, step_of}
use Rattle.gptp_timeline.specs.declared.readings.Jump.{Jump}
use Rattle.gptp_timeline.specs.declared.readings.NewReading.{NewReading}

-- how far off it is by the reading before, where it had time
abbrev pub error_before : ℕ → WorldState → NewReading → Option ℤ
error_before at w u = option_and_then (reading_error at w u.clock) u.before

-- both errors, and by how much more it reads by the new one
abbrev pub jump_of : ℕ → WorldState → NewReading → Jump
jump_of at w u = record {
  before = error_before at w u;
  after = reading_error at w u.clock u.after;
  step = step_of at w u;
}

-- its errors are so small that 128 bits hold their difference
pub record IsSmallJump (j : Jump) : Type 0 where
  pub before_small : IfSome j.before (λ e. unsigned_abs e < 2 ^ 100)
  pub after_small : IfSome j.after (λ e. unsigned_abs e < 2 ^ 100)
