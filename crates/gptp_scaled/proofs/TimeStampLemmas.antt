use Rattle.std.proofs.Common.{ℕ, zero, suc, ◌*◌, ◌+◌, ◌%◌, ◌<◌, ◌≤◌, ℤ, pos, ◌+ℤ◌, ◌*ℤ◌, ◌≤ℤ◌, arith}
use Rattle.std.specs.Int.{int_max}
use Rattle.std.proofs.lemmas.Int.{ints, clamps}
use Rattle.std.proofs.lemmas.Nat.{mod_below}
use Rattle.gptp_scaled.specs.Floor.{floor_div}
use Rattle.gptp_scaled.specs.TimeStamp.{IsNearShown, IsNoise, NoiseIsWithin, StampIsCentred, StampIsNear}
use Rattle.gptp_scaled.specs.TimeStamp.{TimeStampIsCentred, TimeStampIsNear, TimeStampIsShown, drawn_noise, noise_at, time_stamp}
use Rattle.gptp_scaled.proofs.FloorLemmas.{floor_is}
use Rattle.gptp_scaled.proofs.ProductLemmas.{distribute, swap}

-- rounded down to a multiple of the grain k
near_grain : (g e k : ℕ) (z x : ℤ) → 0 < k → k ≤ 65536 * g + 1 → pos 0 ≤ℤ x → IsNoise e z →
    IsNearShown g e x (int_max (pos 0) (floor_div (x +ℤ pos 65536 *ℤ z) (pos k) *ℤ pos k))
near_grain g e k z x some fine shown n =
    let f = floor_div (x +ℤ pos 65536 *ℤ z) (pos k) in
    let i = floor_is (x +ℤ pos 65536 *ℤ z) (pos k) (omega (arith, ints, some)) in
    let d = distribute (pos k) f (pos 1) in
    let s = swap f (pos k) in
    record {
      positive = omega (arith, ints, clamps);
      below = omega (arith, ints, clamps, i.reached, s, shown, n.high);
      above = omega (arith, ints, clamps, i.passed, d, s, n.low, fine);
    }

pub stamp_is_near : StampIsNear
stamp_is_near zero e z x shown n = near_grain zero e 1 z x (omega arith) (omega arith) shown n
stamp_is_near (suc g) e z x shown n = near_grain (suc g) e (65536 * suc g) z x (omega arith) (omega arith) shown n

pub stamp_is_centred : StampIsCentred
stamp_is_centred g e z x shown n =
    let near = stamp_is_near g e z x shown n in
    record { low = omega (arith, ints, near.above); high = omega (arith, ints, near.below) }

-- ---- drawn noise

pub drawn_within : (most word : ℕ) → IsNoise most (drawn_noise most word)
drawn_within most word =
    let m : word % (2 * most + 1) < 2 * most + 1 = mod_below word (2 * most + 1) (omega arith) in
    record { low = omega (arith, ints); high = omega (arith, ints, m) }

pub noise_is_within : NoiseIsWithin
unfolding noise_at
noise_is_within k t = drawn_within k.most_noise _

pub time_stamp_is_near : TimeStampIsNear
unfolding time_stamp
time_stamp_is_near k t x shown =
    stamp_is_near k.granularity k.most_noise (noise_at k t) x shown (noise_is_within k t)

pub time_stamp_is_centred : TimeStampIsCentred
unfolding time_stamp
time_stamp_is_centred k t x shown =
    stamp_is_centred k.granularity k.most_noise (noise_at k t) x shown (noise_is_within k t)

pub time_stamp_is_shown : TimeStampIsShown
time_stamp_is_shown k t x fine still shown =
    let near = time_stamp_is_near k t x shown in omega (arith, ints, near.below, near.above, fine, still)
