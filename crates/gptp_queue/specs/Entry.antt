-- What a queue has at a place.
use Rattle.std.specs.Prelude.{ℕ}

-- something is due at a time, in ns, at a place, under the number that it got when it was put
pub record Entry : Type 0 where
  pub time : ℕ
  pub number : ℕ
  pub place : ℕ
