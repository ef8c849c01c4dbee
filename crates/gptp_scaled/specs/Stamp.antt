-- Timestamps, and times taken apart into a timestamp and a rest.
use Rattle.std.specs.Prelude.{◌≡◌, ℕ, ◌+◌, ◌*◌, ◌^◌, ◌<◌, ℤ, pos, ◌+ℤ◌, ◌≤ℤ◌, ◌<ℤ◌}

-- a Timestamp (IEEE 1588-2019, 5.3.3): secondsField and nanosecondsField
pub record Timestamp : Type 0 where
  pub seconds : ℕ
  pub nanos : ℕ

-- the seconds have 48 bits, and the nanoseconds make no second
pub record IsTimestamp (t : Timestamp) : Type 0 where
  pub seconds : t.seconds < 2 ^ 48
  pub nanos : t.nanos < 1000000000

-- its time in nanoseconds
abbrev pub nanos_of : Timestamp → ℕ
nanos_of t = t.seconds * 1000000000 + t.nanos

-- its time in units of 2^-16 ns
abbrev pub scaled_of : Timestamp → ℤ
scaled_of t = pos (nanos_of t * 2 ^ 16)

-- the time x in units of 2^-16 ns has a timestamp: it is not negative, and its seconds have 48 bits
pub record FitsStamp (x : ℤ) : Type 0 where
  pub low : pos 0 ≤ℤ x
  pub high : x <ℤ pos (2 ^ 48 * 1000000000 * 2 ^ 16)

-- the time x is that of t and a rest below one nanosecond, in units of 2^-16 ns
pub record IsSplit (x : ℤ) (t : Timestamp) (rest : ℕ) : Type 0 where
  pub stamp : IsTimestamp t
  pub small : rest < 2 ^ 16
  pub whole : scaled_of t +ℤ pos rest ≡ x
