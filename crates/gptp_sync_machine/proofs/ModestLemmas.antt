-- How large the sum of the rates on a way is, without jitter.
use Rattle.std.proofs.Common.{◌≡◌, ◌⊎◌, ℕ, zero, suc, ◌*◌, ◌+◌, ◌-◌, ◌/◌, ◌<◌, ◌≤◌, ℤ, pos, negsuc, ◌+ℤ◌, ◌-ℤ◌, ◌≤ℤ◌, ◌<ℤ◌, unsigned_abs, length, refl, inl, inr, arith}
use Rattle.std.specs.Int.{int_max, int_min}
use Rattle.std.proofs.lemmas.Bool.{cases_lt}
use Rattle.std.proofs.lemmas.Int.{ints, clamps}
use Rattle.std.proofs.Math.Nat.{mul-le-mul_left}
use Rattle.gptp_scaled.specs.Rate.{rate_of}
use Rattle.gptp_scaled.specs.Counts.{AreWithin, IsClockRate}
use Rattle.gptp_scaled.proofs.CountLemmas.{IsQuotient, quotient_is, rate_of_counts}
use Rattle.gptp_pdelay.proofs.MeasurementLemmas.{clock_counts}
use Rattle.gptp_correction.specs.Sum.{sum_below}
use Rattle.gptp_error_laws.specs.TimeError.{Way, clock_at, drift_at, steady_rate_at}
use Rattle.gptp_error_laws.specs.WayLaws.{IsDocumented}
use Rattle.gptp_sync_machine.specs.Right.{IsHeldAt, IsModest}
use Rattle.gptp_sync_machine.specs.RightLaws.{RatesAreHeld, WaysAreModest}

-- two clock rates a and b: the product of what they differ by and what b differs from 2^41 by
record IsApart (a b : ℕ) : Type 0 where
  high : a * 2199023255552 + b * b ≤ a * b + b * 2199023255552 + 96714065080811250
  low : a * b + b * 2199023255552 ≤ a * 2199023255552 + b * b + 96714065080811250

apart : (a b : ℕ) → IsClockRate a → IsClockRate b → IsApart a b
apart a b c d = go (cases_lt b 2199023255552)
  where
    -- by how much b differs from 2^41
    by : (y : ℕ) → y ≤ 219902325 → (y * a ≤ y * b + 96714065080811250) × (y * b ≤ y * a + 96714065080811250)
    by y h =
        let e : y * a ≤ y * (b + 439804650) = mul-le-mul_left y (omega (arith, c.high, d.low)) in
        let f : y * b ≤ y * (a + 439804650) = mul-le-mul_left y (omega (arith, d.high, c.low)) in
        (omega (arith, e, h), omega (arith, f, h))

    below : (y : ℕ) → b + y ≡ 2199023255552 → IsApart a b
    below y e =
        let m = by y (omega (arith, e, d.low)) in
        let p : a * (b + y) ≡ a * 2199023255552 = rw e (omega arith) in
        let q : b * (b + y) ≡ b * 2199023255552 = rw e (omega arith) in
        record { high = omega (arith, m.0, m.1, p, q); low = omega (arith, m.0, m.1, p, q) }

    above : (y : ℕ) → 2199023255552 + y ≡ b → IsApart a b
    above y e =
        let m = by y (omega (arith, e, d.high)) in
        let p : a * (2199023255552 + y) ≡ a * b = rw e (omega arith) in
        let q : b * (2199023255552 + y) ≡ b * b = rw e (omega arith) in
        record { high = omega (arith, m.0, m.1, p, q); low = omega (arith, m.0, m.1, p, q) }

    go : (b < 2199023255552) ⊎ (2199023255552 ≤ b) → IsApart a b
    go (inl h) = below (2199023255552 - b) (omega (arith, h))
    go (inr h) = above (b - 2199023255552) (omega (arith, h))

-- the quotient of two clock rates is their difference, within 44000 units
record IsNear (a b q : ℕ) : Type 0 where
  high : q + b ≤ a + 2199023255552 + 44000
  low : a + 2199023255552 ≤ q + b + 44000

near : (a b q : ℕ) → IsClockRate a → IsClockRate b → IsQuotient (a * 2199023255552) b q → IsNear a b q
near a b q c d is = record {
  high = high (cases_lt (a + 2199023255552 + 44000) (q + b));
  low = low (cases_lt (q + b + 44000) (a + 2199023255552));
}
  where
    bounds : IsApart a b
    bounds = apart a b c d

    high : (a + 2199023255552 + 44000 < q + b) ⊎ (q + b ≤ a + 2199023255552 + 44000)
        → q + b ≤ a + 2199023255552 + 44000
    high (inr h) = h
    high (inl h) =
        let m : b * (a + 2199023255552 + 44001) ≤ b * (q + b) = mul-le-mul_left b (omega (arith, h)) in
        absurd (omega (arith, m, is.reached, bounds.high, d.low))

    low : (q + b + 44000 < a + 2199023255552) ⊎ (a + 2199023255552 ≤ q + b + 44000)
        → a + 2199023255552 ≤ q + b + 44000
    low (inr h) = h
    low (inl h) =
        let m : b * (q + b + 44001) ≤ b * (a + 2199023255552) = mul-le-mul_left b (omega (arith, h)) in
        absurd (omega (arith, m, is.passed, bounds.low, d.low))

-- so is the neighbour rate that is measured without jitter, within what its limit cuts off
steady_near : (a b : ℕ) → IsClockRate a → IsClockRate b → AreWithin 88000 (rate_of (pos a) (pos b)) (pos a -ℤ pos b)
steady_near a b c d =
    let some : 0 < b = omega (arith, d.low) in
    let q = a * 2199023255552 / b in
    let quotient = quotient_is (a * 2199023255552) b some in
    let n = near a b q c d quotient in
    let e = rate_of_counts a b q some quotient in
    record {
      low = omega (arith, ints, clamps, e, n.low, n.high, c.low, c.high, d.low, d.high);
      high = omega (arith, ints, clamps, e, n.low, n.high, c.low, c.high, d.low, d.high);
    }

-- the sum of the rates up to a place is what the first and the last clock differ by
sum_near : (w : Way) → IsDocumented w → (i : ℕ) → i ≤ length w.links
    → AreWithin (88000 * i) (sum_below i (steady_rate_at w)) (pos (clock_at w 0) -ℤ pos (clock_at w i))
sum_near w k zero h = record { low = omega (arith, ints); high = omega (arith, ints) }
sum_near w k (suc i) h =
    let before = sum_near w k i (omega (arith, h)) in
    let here = steady_near (clock_at w i) (clock_at w (suc i))
    (clock_counts.rate (drift_at w i) (k.drifts i (omega (arith, h))))
    (clock_counts.rate (drift_at w (suc i)) (k.drifts (suc i) h)) in
    record {
      low = omega (arith, ints, before.low, here.low);
      high = omega (arith, ints, before.high, here.high);
    }

-- a number between two limits
size_below : (z : ℤ) (m : ℕ) → (pos 0 -ℤ pos m) ≤ℤ z → z ≤ℤ pos m → unsigned_abs z ≤ m
size_below (pos n) m low high = omega (arith, ints, high)
size_below (negsuc n) m low high = omega (arith, ints, low)

pub ways_are_modest : WaysAreModest
ways_are_modest w i k h few =
    let s = sum_near w k i h in
    let first = clock_counts.rate (drift_at w 0) (k.drifts 0 (omega arith)) in
    let last = clock_counts.rate (drift_at w i) (k.drifts i h) in
    size_below (sum_below i (steady_rate_at w)) 1700000000
    (omega (arith, ints, s.low, first.low, last.high, few))
    (omega (arith, ints, s.high, first.high, last.low, few))

-- the nearest number of 32 bits
held_by : (w : Way) (i : ℕ) (told neighbour : ℤ) → IsModest w i
    → ((told +ℤ neighbour) <ℤ negsuc 2147483647) ⊎ (negsuc 2147483647 ≤ℤ (told +ℤ neighbour))
    → (pos 2147483647 <ℤ (told +ℤ neighbour)) ⊎ ((told +ℤ neighbour) ≤ℤ pos 2147483647)
    → IsHeldAt w i told neighbour
    (int_max (negsuc 2147483647) (int_min (told +ℤ neighbour) (pos 2147483647)) -ℤ neighbour)
held_by w i told neighbour modest (inl low) (inl high) = absurd (omega (arith, ints, low, high))
held_by w i told neighbour modest (inl low) (inr high) = record {
  fits = omega (arith, ints, clamps);
  nearest = inr (modest, inr (omega (arith, ints, clamps, low), omega (arith, ints, clamps, low)));
}
held_by w i told neighbour modest (inr low) (inl high) = record {
  fits = omega (arith, ints, clamps);
  nearest = inr (modest, inl (omega (arith, ints, clamps, high), omega (arith, ints, clamps, high)));
}
held_by w i told neighbour modest (inr low) (inr high) = record {
  fits = omega (arith, ints, clamps);
  nearest = inl (omega (arith, ints, clamps, low, high));
}

-- one number is less than another, or isn't
less_or_not : (x y : ℤ) → (x <ℤ y) ⊎ (y ≤ℤ x)
less_or_not (pos a) (pos b) = elim (cases_lt a b) [
  | inl h ↦ inl (omega (arith, ints, h))
  | inr h ↦ inr (omega (arith, ints, h))
]
less_or_not (pos a) (negsuc b) = inr (omega (arith, ints))
less_or_not (negsuc a) (pos b) = inl (omega (arith, ints))
less_or_not (negsuc a) (negsuc b) = elim (cases_lt b a) [
  | inl h ↦ inl (omega (arith, ints, h))
  | inr h ↦ inr (omega (arith, ints, h))
]

pub rates_are_held : RatesAreHeld
rates_are_held = record {
  by_limits = λ w i told neighbour modest. held_by w i told neighbour modest
      (less_or_not (told +ℤ neighbour) (negsuc 2147483647)) (less_or_not (pos 2147483647) (told +ℤ neighbour));
  as_told = λ w i told neighbour fits. record { fits = fits; nearest = inl refl };
}
