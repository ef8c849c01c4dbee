-- The laws of exact arithmetic, over the definitions alone.
use Rattle.std.specs.Prelude.{◌≡◌, ℕ, ◌+◌, ◌*◌, ◌^◌, ◌<◌, ℤ, pos, ◌+ℤ◌, ◌-ℤ◌, ◌*ℤ◌, ◌≤ℤ◌, ◌<ℤ◌, unsigned_abs}
use Rattle.gptp_scaled.specs.Floor.{IsFloor, floor_div}
use Rattle.gptp_scaled.specs.Rate.{FitsRate, IsNeighborRate, unit, scaled_by, unscaled_by}
use Rattle.gptp_scaled.specs.Stamp.{Timestamp, IsTimestamp, FitsStamp, IsSplit, scaled_of}

-- x / d rounded down is a number f with d f <= x < d (f + 1), and no other number is
pub record FloorIsExact : Type 0 where
  pub is : (x d : ℤ) → pos 0 <ℤ d → IsFloor x d (floor_div x d)
  pub only : (x d f : ℤ) → pos 0 <ℤ d → IsFloor x d f → f ≡ floor_div x d

-- what rounds down keeps the order
abbrev pub FloorIsMonotone : Type 0
FloorIsMonotone = (x y d : ℤ) → pos 0 <ℤ d → x ≤ℤ y → floor_div x d ≤ℤ floor_div y d

-- a time times a rate is the exact product, and a time divided by a rate the exact quotient, each less than one unit
-- too small
pub record RateRoundsDown : Type 0 where
  pub scaled : (q x : ℤ) → IsFloor (x *ℤ (unit +ℤ q)) unit (scaled_by q x)
  pub unscaled : (q x : ℤ) → FitsRate q → IsFloor (x *ℤ unit) (unit +ℤ q) (unscaled_by q x)

-- the rate 1, whose q is 0, changes no time
pub record RateZeroIsIdentity : Type 0 where
  pub scaled : (x : ℤ) → scaled_by (pos 0) x ≡ x
  pub unscaled : (x : ℤ) → unscaled_by (pos 0) x ≡ x

-- a later time stays later or becomes the same
pub record RateIsMonotone : Type 0 where
  pub scaled : (q x y : ℤ) → FitsRate q → x ≤ℤ y → scaled_by q x ≤ℤ scaled_by q y
  pub unscaled : (q x y : ℤ) → FitsRate q → x ≤ℤ y → unscaled_by q x ≤ℤ unscaled_by q y

-- the rate of a neighbour changes a time by less than one unit more than its 5000th part, or its 4999th part where it
-- divides
pub record NeighborRateIsNear : Type 0 where
  pub scaled : (q x : ℤ) → IsNeighborRate q → 5000 * unsigned_abs (scaled_by q x -ℤ x) < unsigned_abs x + 5000
  pub unscaled : (q x : ℤ) → IsNeighborRate q → 4999 * unsigned_abs (unscaled_by q x -ℤ x) < unsigned_abs x + 4999

-- a time that has a timestamp is that of one timestamp and one rest, and every timestamp and rest are those of their
-- time
pub record SplitIsExact : Type 0 where
  pub only : (x : ℤ) (t u : Timestamp) (r s : ℕ) → IsSplit x t r → IsSplit x u s → (t ≡ u) × (r ≡ s)
  pub back : (t : Timestamp) (r : ℕ) → IsTimestamp t → r < 2 ^ 16 → FitsStamp (scaled_of t +ℤ pos r)
      × IsSplit (scaled_of t +ℤ pos r) t r
