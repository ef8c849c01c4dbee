-- Time stamps: what a clock is read as, of a granularity and with a noise, which are in ns.
use Rattle.std.specs.Prelude.{◌≡◌, ℕ, zero, suc, ◌+◌, ◌*◌, ◌%◌, ℤ, pos, neg_ℤ, ◌+ℤ◌, ◌-ℤ◌, ◌*ℤ◌, ◌≤ℤ◌, bit_xor}
use Rattle.std.specs.Int.{int_max}
use Rattle.rand_xoshiro.specs.SplitMix64.{mix_u64}
use Rattle.gptp_scaled.specs.Floor.{floor_div}
use Rattle.gptp_scaled.specs.Counts.{AreWithin}
use Rattle.gptp_scaled.specs.declared.time_stamp.Stamping.{Stamping}

-- of what a time stamp is a multiple, in units of 2^-16 ns: of the granularity, and of one unit where that is 0
abbrev pub grain : ℕ → ℕ
grain zero = 1
grain (suc g) = 65536 * suc g

-- the time stamp of a clock that shows so many units, with this noise: rounded down, and not below 0 (profile)
abbrev pub stamp_of : ℕ → ℤ → ℤ → ℤ
stamp_of granularity noise shown =
    int_max (pos 0) (floor_div (shown +ℤ pos 65536 *ℤ noise) (pos (grain granularity)) *ℤ pos (grain granularity))

-- by how many ns two time stamps of a clock differ at most from what passed on it, where the noise is so much at most
abbrev pub stamp_blur : ℕ → ℕ → ℕ
stamp_blur granularity most_noise = granularity + 2 * most_noise

-- a noise is at most so much either way
pub record IsNoise (most_noise : ℕ) (noise : ℤ) : Type 0 where
  pub low : neg_ℤ (pos most_noise) ≤ℤ noise
  pub high : noise ≤ℤ pos most_noise

-- A time stamp is not negative, at most the noise above what the clock shows, and at most the granularity and the noise
-- below it.
pub record IsNearShown (granularity most_noise : ℕ) (shown stamp : ℤ) : Type 0 where
  pub positive : pos 0 ≤ℤ stamp
  pub below : stamp ≤ℤ (shown +ℤ pos (65536 * most_noise))
  pub above : shown ≤ℤ (stamp +ℤ pos (65536 * (granularity + most_noise)))

abbrev pub StampIsNear : Type 0
StampIsNear = (granularity most_noise : ℕ) (noise shown : ℤ) → pos 0 ≤ℤ shown → IsNoise most_noise noise →
    IsNearShown granularity most_noise shown (stamp_of granularity noise shown)

-- Against the clock less half of the granularity a time stamp is off by half of the blur at most, either way.
abbrev pub StampIsCentred : Type 0
StampIsCentred = (granularity most_noise : ℕ) (noise shown : ℤ) → pos 0 ≤ℤ shown → IsNoise most_noise noise →
    AreWithin (32768 * stamp_blur granularity most_noise) (stamp_of granularity noise shown)
    (shown -ℤ pos (32768 * granularity))

-- ---- drawn noise

-- the word that SplitMix64 gives first, from this state
abbrev pub mixed : ℕ → ℕ
mixed n = (mix_u64 n).0

-- a word brought to the range of a noise
abbrev pub drawn_noise : ℕ → ℕ → ℤ
drawn_noise most_noise word = pos (word % (2 * most_noise + 1)) -ℤ pos most_noise

-- The noise of what is stamped at a time, t ns: of the word that the seed, the clock and the time are mixed to
-- (profile).
unfoldable pub noise_at : Stamping → ℕ → ℤ
noise_at k t = drawn_noise k.most_noise (mixed (bit_xor (mixed (bit_xor (mixed k.seed) k.clock)) t))

-- the time stamp that is taken then of what is shown, in units of 2^-16 ns
unfoldable pub time_stamp : Stamping → ℕ → ℤ → ℤ
time_stamp k t shown = stamp_of k.granularity (noise_at k t) shown

abbrev pub NoiseIsWithin : Type 0
NoiseIsWithin = (k : Stamping) (t : ℕ) → IsNoise k.most_noise (noise_at k t)

-- So time stamps are near what is shown, and centred.
abbrev pub TimeStampIsNear : Type 0
TimeStampIsNear = (k : Stamping) (t : ℕ) (shown : ℤ) → pos 0 ≤ℤ shown →
    IsNearShown k.granularity k.most_noise shown (time_stamp k t shown)

abbrev pub TimeStampIsCentred : Type 0
TimeStampIsCentred = (k : Stamping) (t : ℕ) (shown : ℤ) → pos 0 ≤ℤ shown →
    AreWithin (32768 * stamp_blur k.granularity k.most_noise) (time_stamp k t shown)
    (shown -ℤ pos (32768 * k.granularity))

-- With neither granularity nor noise they are what is shown.
abbrev pub TimeStampIsShown : Type 0
TimeStampIsShown = (k : Stamping) (t : ℕ) (shown : ℤ) → k.granularity ≡ 0 → k.most_noise ≡ 0 → pos 0 ≤ℤ shown →
    time_stamp k t shown ≡ shown
