-- The least and the greatest of several errors that are looked at.
use Rattle.std.specs.Prelude.{ℕ, ◌<◌, ◌^◌, if◌then◌else◌, List, [], ◌∷◌, Option, Some, None, ℤ, int_lt, unsigned_abs}

-- an error of a system, in units of 2^-16 ns
pub record Look : Type 0 where
  pub clock : ℕ
  pub error : ℤ

pub record ExtremesState : Type 0 where
  pub least : ℤ
  pub most : ℤ

abbrev pub lesser : ℤ → ℤ → ℤ
lesser best error = if int_lt error best then error else best

abbrev pub greater : ℤ → ℤ → ℤ
greater best error = if int_lt best error then error else best

abbrev pub extremes_with : Option ExtremesState → ℤ → ExtremesState
extremes_with None error = record { least = error; most = error }
extremes_with (Some e) error = record {
  least = lesser e.least error;
  most = greater e.most error;
}

abbrev pub extremes_from : Option ExtremesState → List Look → Option ExtremesState
extremes_from e [] = e
extremes_from e (l ∷ ls) = extremes_from (Some (extremes_with e l.error)) ls

-- they are so small that 128 bits hold their difference
pub record AreSmallErrors (e : ExtremesState) : Type 0 where
  pub least_small : unsigned_abs e.least < 2 ^ 100
  pub most_small : unsigned_abs e.most < 2 ^ 100
