-- How large what a bridge adds to the correction is.
use Rattle.std.proofs.Common.{◌≡◌, ℕ, zero, suc, ◌*◌, ◌+◌, ◌/◌, ◌^◌, ◌≤◌, ℤ, pos, ◌+ℤ◌, ◌-ℤ◌, ◌*ℤ◌, arith}
use Rattle.std.proofs.lemmas.Int.{ints}
use Rattle.std.proofs.Math.Nat.{mul-le-mul_left}
use Rattle.gptp_scaled.specs.Rate.{FitsRate, IsNeighborRate, unit, scaled_by}
use Rattle.gptp_scaled.specs.Counts.{AreWithin, IsClockRate, IsCounted}
use Rattle.gptp_scaled.proofs.CountLemmas.{quotient_is}
use Rattle.gptp_scaled.proofs.FloorLemmas.{floor_is}
use Rattle.gptp_scaled.proofs.ProductLemmas.{IsWithin, times_within}
use Rattle.gptp_pdelay.specs.Measured.{IsDelayBelow, IsDelayWithin}
use Rattle.gptp_correction.specs.declared.correction.Hop.{Hop}
use Rattle.gptp_correction.specs.Correction.{link_time, passage}
use Rattle.gptp_sync_machine.specs.RightLaws.{CorrectionsAreSmall}
use Rattle.gptp_error_laws.proofs.HopLemmas.{link_time_of}
use Rattle.gptp_error_laws.proofs.WayLemmas.{natural}

-- The link time of a hop isn't negative; it, the passage and the passage at the rate after the hop are small. Time
-- stamps may make the passage negative.
pub record IsSmall (span : ℕ) (h : Hop) (rate : ℤ) : Type 0 where
  pub time : ℕ
  pub time_is : link_time h.delay h.neighbour ≡ pos time
  pub time_small : time ≤ 65600 * span
  pub passed : IsWithin (65601 * span) (passage h)
  pub scaled : IsWithin (131072 * span) (scaled_by rate (passage h))

-- the time on the link is little more than the greatest delay and the turnaround
time_small : (w most turnaround up value ratio time : ℕ) → IsClockRate up → 2198583450901 ≤ ratio →
    time * ratio ≤ value * 2199023255552 → IsDelayBelow w most turnaround up value →
    time ≤ 65600 * (most + w + turnaround + 1)
time_small w most turnaround up value ratio time u near reached high =
    let a : most * up ≤ most * 2199243157877 = mul-le-mul_left most (omega (arith, u.high)) in
    let b : time * 2198583450901 ≤ time * ratio = mul-le-mul_left time near in
    omega (arith, a, b, reached, high)

-- and what the own clock counts while the Sync is kept, little more than that
count_small : (own stay count : ℕ) → IsClockRate own → IsCounted own stay count → count ≤ 65600 * stay + 1
count_small own stay count o c =
    let a : stay * own ≤ stay * 2199243157877 = mul-le-mul_left stay (omega (arith, o.high)) in
    omega (arith, a, c.high)

-- a time at a rate of 32 bits is little more
scaled_small : (span : ℕ) (rate x : ℤ) → FitsRate rate → 1 ≤ span → IsWithin (65601 * span) x →
    IsWithin (131072 * span) (scaled_by rate x)
scaled_small span rate x fits some small =
    let product = times_within (65601 * span) (2 ^ 31) x rate (omega (arith, ints, small.low, small.high))
    (omega (arith, ints, fits)) in
    let floor = floor_is (x *ℤ rate) unit (omega (arith, ints)) in
    record {
      low = omega (arith, ints, product.low, floor.passed, small.low, some);
      high = omega (arith, ints, product.high, floor.reached, small.high, some);
    }

pub passage_small : (w least most turnaround up own stay count span : ℕ) (off : ℤ) (h : Hop) (rate : ℤ) →
    IsClockRate up → IsClockRate own → IsNeighborRate h.neighbour → IsDelayWithin w least most turnaround up h.delay →
    FitsRate rate → h.egress -ℤ h.ingress ≡ pos count +ℤ off → AreWithin (65536 * w) off (pos 0) →
    IsCounted own stay count → most + w + turnaround + stay + w + 1 ≤ span → IsSmall span h rate
passage_small w least most turnaround up own stay count span off h rate u o limited d fits e near c room =
    let (ratio, r) = natural (unit +ℤ h.neighbour) (omega (arith, ints, limited.low)) in
    let fast : 2198583450901 ≤ ratio = omega (arith, ints, r, limited.low) in
    let q = quotient_is (d.value * 2199023255552) ratio (omega (arith, fast)) in
    let time = d.value * 2199023255552 / ratio in
    let timed = link_time_of h.delay h.neighbour d.value ratio d.is r in
    let short = time_small w most turnaround up d.value ratio time u fast q.reached d.high in
    let counted = count_small own stay count o c in
    let passed : IsWithin (65601 * span) (passage h) =
    record {
      low = omega (arith, ints, e, timed, near.low, room);
      high = omega (arith, ints, e, timed, short, counted, near.high, room);
    } in
    record {
      time = time;
      time_is = timed;
      time_small = omega (arith, short, room);
      passed = passed;
      scaled = scaled_small span rate (passage h) fits (omega (arith, room)) passed;
    }

pub corrections_are_small : CorrectionsAreSmall
corrections_are_small w longest zero h = omega arith
corrections_are_small w longest (suc i) h =
    let before = corrections_are_small w longest i (λ j m. h j (omega (arith, m))) in
    let here = h i (omega arith) in
    omega (arith, before, here)
