-- The bounds of a link, and what they allow (profile).
use Rattle.std.specs.Prelude.{◌≢◌, ℕ, ◌≤◌, Option, Some, None}
use Rattle.gptp_links.specs.declared.bounds.Bounds.{Bounds}

-- bounds that a link can have: delays of 1 ns to 16 s, the greatest no less than the least, and a loss of at most
-- all frames
pub record Fit (b : Bounds) : Type 0 where
  pub positive : 1 ≤ b.min
  pub ordered : b.min ≤ b.max
  pub short : b.max ≤ 16000000000
  pub share : b.loss ≤ 1000

-- a delay lies in the bounds; a loss stands only where frames are lost
abbrev pub IsLawful : Bounds → Option ℕ → Type 0
IsLawful b (Some delay) = (b.min ≤ delay) × (delay ≤ b.max)
IsLawful b None = b.loss ≢ 0
