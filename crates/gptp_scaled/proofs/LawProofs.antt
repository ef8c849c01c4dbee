use Rattle.std.proofs.Common.{◌≡◌, ℕ, ◌*◌, ◌+◌, ◌<◌, ◌^◌, ℤ, pos, ◌+ℤ◌, ◌-ℤ◌, ◌*ℤ◌, ◌≤ℤ◌, ◌<ℤ◌, unsigned_abs, ap, ◌∙◌, sym, refl, arith}
use Rattle.std.proofs.lemmas.Int.{ints}
use Rattle.std.proofs.Math.IntN.{*ℤ-zero, +ℤ_idr, *ℤ_comm}
use Rattle.gptp_scaled.specs.Floor.{IsFloor, floor_div}
use Rattle.gptp_scaled.specs.Laws.{FloorIsExact, FloorIsMonotone, RateRoundsDown, RateZeroIsIdentity, RateIsMonotone, NeighborRateIsNear, SplitIsExact}
use Rattle.gptp_scaled.specs.Rate.{FitsRate, IsNeighborRate, unit, scaled_by, unscaled_by}
use Rattle.gptp_scaled.specs.Stamp.{Timestamp, IsSplit}
use Rattle.gptp_scaled.proofs.ProductLemmas.{times_within, distribute, times_grows}
use Rattle.gptp_scaled.proofs.FloorLemmas.{floor_is, floor_only, floor_grows, floor_shift, floor_near}
use Rattle.gptp_scaled.proofs.RateLemmas.{unscaled_parts}

-- division rounds down, and only one number does
pub floor_is_exact : FloorIsExact
floor_is_exact = record { is = floor_is; only = floor_only }

-- it keeps the order
pub floor_is_monotone : FloorIsMonotone
floor_is_monotone = floor_grows

-- a product rounded down
scaled_floor : (q x : ℤ) → IsFloor (x *ℤ (unit +ℤ q)) unit (scaled_by q x)
scaled_floor q x =
    let i = floor_shift (x *ℤ q) unit x (floor_div (x *ℤ q) unit) (floor_is (x *ℤ q) unit (omega (arith, ints))) in
    let e : unit *ℤ x +ℤ x *ℤ q ≡ x *ℤ (unit +ℤ q) = omega (arith, ints, distribute x unit q) in
    rw e at i

-- scaling and its reverse are the exact numbers rounded down
pub rate_rounds_down : RateRoundsDown
rate_rounds_down =
    record { scaled = scaled_floor; unscaled = λ q x f. floor_is (x *ℤ unit) (unit +ℤ q) (omega (arith, ints)) }

-- the rate 1 changes nothing
pub rate_zero_is_identity : RateZeroIsIdentity
rate_zero_is_identity = record {
  scaled = λ x. rw *ℤ-zero (+ℤ_idr x);
  unscaled = λ x.
      sym (floor_only (x *ℤ unit) unit x (omega (arith, ints))
      (record { reached = omega (arith, ints); passed = omega (arith, ints, distribute unit x (pos 1)) }));
}

-- products with a positive number keep the order, on the right as well
grows_right : (x y d : ℤ) → pos 0 ≤ℤ d → x ≤ℤ y → (x *ℤ d) ≤ℤ (y *ℤ d)
grows_right x y d p h = rw (*ℤ_comm x d, *ℤ_comm y d) (times_grows d x y p h)

-- a later time scaled is not earlier
scaled_grows : (q x y : ℤ) → FitsRate q → x ≤ℤ y → scaled_by q x ≤ℤ scaled_by q y
scaled_grows q x y f h =
    let p : pos 0 <ℤ unit = omega (arith, ints) in
    let a = floor_only (x *ℤ (unit +ℤ q)) unit (scaled_by q x) p (scaled_floor q x) in
    let b = floor_only (y *ℤ (unit +ℤ q)) unit (scaled_by q y) p (scaled_floor q y) in
    rw (a, b) (floor_grows (x *ℤ (unit +ℤ q)) (y *ℤ (unit +ℤ q)) unit p
    (grows_right x y (unit +ℤ q) (omega (arith, ints)) h))

-- scaling and its reverse keep the order
pub rate_is_monotone : RateIsMonotone
rate_is_monotone = record {
  scaled = scaled_grows;
  unscaled = λ q x y f h. floor_grows (x *ℤ unit) (y *ℤ unit) (unit +ℤ q) (omega (arith, ints))
      (grows_right x y unit (omega (arith, ints)) h);
}

-- x q/2^41 is less than |x|/5000 + 1 away from 0
scaled_near : (q x : ℤ) → IsNeighborRate q → 5000 * unsigned_abs (scaled_by q x -ℤ x) < unsigned_abs x + 5000
scaled_near q x w =
    let product = times_within (unsigned_abs x) 439804651 x q (omega arith) (omega (arith, ints)) in
    let e : scaled_by q x -ℤ x ≡ floor_div (x *ℤ q) unit = omega (arith, ints) in
    let p : pos 0 <ℤ unit = omega (arith, ints) in
    rw e (floor_near (x *ℤ q) unit (floor_div (x *ℤ q) unit) 5000 (unsigned_abs x) p (omega arith)
    (floor_is (x *ℤ q) unit p) (omega (arith, ints)) (omega (arith, ints)))

-- x q/(2^41 + q) is less than |x|/4999 + 1 away from 0
unscaled_near : (q x : ℤ) → IsNeighborRate q → 4999 * unsigned_abs (unscaled_by q x -ℤ x) < unsigned_abs x + 4999
unscaled_near q x w =
    let product = times_within (unsigned_abs x) 439804651 x q (omega arith) (omega (arith, ints)) in
    let size = times_within (unsigned_abs x) 439804651 (pos (unsigned_abs x)) q (omega arith) (omega (arith, ints)) in
    let parts = distribute (pos (unsigned_abs x)) unit q in
    let turned = *ℤ_comm (unit +ℤ q) (pos (unsigned_abs x)) in
    let e : unscaled_by q x -ℤ x
    ≡ floor_div (pos 0 -ℤ x *ℤ q) (unit +ℤ q) = omega (arith, ints, unscaled_parts q x (omega (arith, ints))) in
    let p : pos 0 <ℤ (unit +ℤ q) = omega (arith, ints) in
    rw e (floor_near (pos 0 -ℤ x *ℤ q) (unit +ℤ q) (floor_div (pos 0 -ℤ x *ℤ q) (unit +ℤ q)) 4999 (unsigned_abs x) p
    (omega arith) (floor_is (pos 0 -ℤ x *ℤ q) (unit +ℤ q) p)
    (omega (arith, ints)) (omega (arith, ints)))

-- both are near the time where the rate is a neighbour's
pub neighbor_rate_is_near : NeighborRateIsNear
neighbor_rate_is_near = record { scaled = scaled_near; unscaled = unscaled_near }

-- a timestamp is made of its parts
abbrev made : ℕ → ℕ → Timestamp
made s n = record { seconds = s; nanos = n }

-- a time splits in one way
split_only : (x : ℤ) (t u : Timestamp) (r s : ℕ) → IsSplit x t r → IsSplit x u s → (t ≡ u) × (r ≡ s)
split_only x t u r s a b =
    let whole : (t.seconds * 1000000000 + t.nanos) * 2 ^ 16 + r
    ≡ (u.seconds * 1000000000 + u.nanos) * 2 ^ 16 + s = omega (arith, ints, a.whole, b.whole) in
    let rest : r ≡ s = omega arith in
    let seconds : t.seconds ≡ u.seconds = omega arith in
    let nanos : t.nanos ≡ u.nanos = omega arith in
    (same seconds nanos, rest)
  where
    same : t.seconds ≡ u.seconds → t.nanos ≡ u.nanos → t ≡ u
    same e f = ap (λ k. made k t.nanos) e ∙ ap (made u.seconds) f

-- a time splits in one way, and every stamp and rest are the split of a time
pub split_is_exact : SplitIsExact
split_is_exact =
    record {
      only = split_only;
      back = λ t r i h. (
        record { low = omega (arith, ints); high = omega (arith, ints, i.seconds, i.nanos) },
        record {
          stamp = i;
          small = h;
          whole = refl;
        },
      );
    }
