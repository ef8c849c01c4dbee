-- The range of the correctionField.
use Rattle.std.specs.Prelude.{ℤ, FitsSigned}
use Rattle.std.specs.Int.{w64}

-- z is a signed number of 64 bits (TimeInterval, IEEE 1588-2019, 5.3.2)
abbrev pub FitsInterval : ℤ → Type 0
FitsInterval z = FitsSigned w64 z
