-- The limits of rates: a neighbour rate is held at 200 parts in a million, and a rate that is told has 32 bits.
use Rattle.std.proofs.Common.{◌⊎◌, inl, inr, ℕ, zero, suc, ◌*◌, ◌+◌, ◌-◌, ◌<◌, ◌≤◌, ℤ, subst, sym, ◌≡◌, arith}
use Rattle.std.specs.Prelude.{min}
use Rattle.std.proofs.lemmas.Bool.{cases_lt}
use Rattle.std.proofs.lemmas.Int.{ints}
use Rattle.std.proofs.Math.Nat.{mul-le-mul_left}
use Rattle.gptp_scaled.specs.Rate.{IsNeighborRate}
use Rattle.gptp_scaled.specs.Counts.{AreWithin, IsClockRate}
use Rattle.gptp_pdelay.specs.GoodLink.{ceil_div}
use Rattle.gptp_error_laws.specs.TimeError.{Way, measured_jitter_at, measured_most_at, rate_error_at, rates_error_at, total_below, wait_error_at}
use Rattle.gptp_error_laws.specs.HopLaws.{IsRateWithin}
use Rattle.gptp_error_laws.specs.WayLaws.{CutsAreNoMore, uncut_rates_error_at}

-- two neighbour rates are never further apart than twice their limit
pub neighbours_are_near : (m : ℕ) (x y : ℤ) → IsNeighborRate x → IsNeighborRate y → AreWithin (m + 3) x y
    → AreWithin (min m 879609302 + 3) x y
neighbours_are_near m x y a b near = record {
  low = omega (arith, ints, a.low, b.high, near.low);
  high = omega (arith, ints, a.high, b.low, near.high);
}

-- a rate of 32 bits is never further than this from that of two clocks
told_rate_is_near : (root own rate : ℕ) → IsClockRate root → IsClockRate own → 2199023255552 ≤ rate + 2147483648
    → rate ≤ 2199023255552 + 2147483648 → IsRateWithin 2587332284 root own rate
told_rate_is_near root own rate r o low high =
    let a : own * rate ≤ own * (2199023255552 + 2147483648) = mul-le-mul_left own high in
    let b : own * 2199023255552 ≤ own * (rate + 2147483648) = mul-le-mul_left own low in
    record { low = omega (arith, b, r.high, o.low); high = omega (arith, a, r.low, o.high) }

-- so one that is within an error is within the lesser of both
pub told_rate_is_within : (e root own rate : ℕ) → IsClockRate root → IsClockRate own
    → 2199023255552 ≤ rate + 2147483648 → rate ≤ 2199023255552 + 2147483648 → IsRateWithin e root own rate
    → IsRateWithin (min e 2587332284) root own rate
told_rate_is_within e root own rate r o low high within = by (cases_lt e 2587332284)
  where
    by : (e < 2587332284) ⊎ (2587332284 ≤ e) → IsRateWithin (min e 2587332284) root own rate
    by (inl less) =
        let same : min e 2587332284 ≡ e = omega (arith, less) in
        subst (λ n. IsRateWithin n root own rate) (sym same) within
    by (inr more) =
        let same : min e 2587332284 ≡ 2587332284 = omega (arith, more) in
        subst (λ n. IsRateWithin n root own rate) (sym same) (told_rate_is_near root own rate r o low high)

-- ---- no error is larger by the cuts

total_grows : (n : ℕ) (f g : ℕ → ℕ) → ((i : ℕ) → f i ≤ g i) → total_below n f ≤ total_below n g
total_grows zero f g each = omega arith
total_grows (suc n) f g each = omega (arith, total_grows n f g each, each n)

ceil_grows : (x y : ℕ) → x ≤ y → ceil_div x 33550000 ≤ ceil_div y 33550000
ceil_grows x y less = omega (arith, less)

rates_cut : (w : Way) (i : ℕ) → rates_error_at w i ≤ uncut_rates_error_at w i
rates_cut w i =
    let total = total_grows (suc i) (rate_error_at w)
    (λ j. ceil_div (2202000000000 * measured_jitter_at w j) w.interval + 4) (λ j. omega arith) in
    omega (arith, total)

pub cuts_are_no_more : CutsAreNoMore
cuts_are_no_more w h =
    let time : ℕ → ℕ = λ i. w.residence + measured_jitter_at w i + measured_most_at w (suc i) in
    let waits = total_grows (h - 1) (wait_error_at w) (λ i. ceil_div (time i * uncut_rates_error_at w i) 33550000)
    (λ i. ceil_grows (time i * rates_error_at w i) (time i * uncut_rates_error_at w i)
    (mul-le-mul_left (time i) (rates_cut w i))) in
    omega (arith, waits)
