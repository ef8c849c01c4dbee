use Rattle.std.proofs.Common.{◌≡◌, ℕ, ◌*◌, ◌+◌, ◌-◌, ◌/◌, ◌<◌, ◌≤◌, ℤ, pos, negsuc, ◌+ℤ◌, ◌-ℤ◌, ◌*ℤ◌, ◌≤ℤ◌, ap, ◌∙◌, refl, arith}
use Rattle.std.proofs.lemmas.Int.{ints}
use Rattle.std.proofs.Math.Nat.{mul-le-mul_left}
use Rattle.gptp_scaled.specs.Floor.{floor_div}
use Rattle.gptp_scaled.specs.Rate.{unit, scaled_by}
use Rattle.gptp_scaled.specs.Counts.{AreWithin, IsClockRate, IsCounted}
use Rattle.gptp_scaled.proofs.CountLemmas.{quotient_is}
use Rattle.gptp_pdelay.proofs.DelayLemmas.{IsScaled, scaled_is}
use Rattle.gptp_pdelay.proofs.MeanLemmas.{cancel_left}
use Rattle.gptp_correction.specs.Correction.{passage, link_time}
use Rattle.gptp_error_laws.specs.TimeError.{hop_error}
use Rattle.gptp_error_laws.specs.HopLaws.{IsRateWithin, AreRates, IsOverLink, IsRateBehind, HopKeeps, OffsetIsWithin}
use Rattle.gptp_error_laws.proofs.LinkLemmas.{link_time_is_below, link_time_is_above, stay_is_below, stay_is_above}

-- the link time as a natural number, and the rates about it
pub record IsTimed (w least most turnaround root up above : ℕ) (rate neighbour delay : ℤ) : Type 0 where
  pub time : ℕ
  pub after : ℕ
  pub time_is : link_time delay neighbour ≡ pos time
  pub after_is : unit +ℤ (rate +ℤ neighbour) ≡ pos after
  pub after_most : after ≤ 2201610543851
  pub below : 50325000000 * time * after ≤
      50325000000 * 65536 * (most * root + 2199810000000 * w)
      + 2199023255552 * (1500 * above * (most + w) + 33550000 * (20 * (most + w) + turnaround + 7530))
  pub atleast : 50325000000 * 65536 * least * root ≤
      50325000000 * time * after
      + 2199023255552 * (1500 * above * (most + w) + 33550000 * (20 * (most + w) + turnaround + 7530))
      + 50325000000 * 65536 * 2199810000000 * w

-- a number that is at least 0
as_natural : (z : ℤ) → pos 0 ≤ℤ z → (n : ℕ) × (z ≡ pos n)
as_natural (pos n) h = (n, refl)
as_natural (negsuc n) h = absurd (omega (arith, ints, h))

-- a link time is a quotient
pub link_time_of : (delay neighbour : ℤ) (value ratio : ℕ) → delay ≡ pos value → unit +ℤ neighbour ≡ pos ratio →
    link_time delay neighbour ≡ pos (value * 2199023255552 / ratio)
link_time_of delay neighbour value ratio e f =
    let p : delay *ℤ unit ≡ pos (value * 2199023255552) = rw e (omega (arith, ints)) in
    ap (λ d. floor_div (delay *ℤ unit) d) f ∙ ap (λ x. floor_div x (pos ratio)) p

pub timed : (w least most turnaround root up above : ℕ) (rate neighbour delay : ℤ) →
    IsOverLink w least most turnaround root up above rate neighbour delay →
    IsTimed w least most turnaround root up above rate neighbour delay
timed w least most turnaround root up above rate neighbour delay o =
    let (ratio, r) = as_natural (unit +ℤ neighbour) (omega (arith, ints, o.near.low)) in
    let (after, a) = as_natural (unit +ℤ (rate +ℤ neighbour)) (omega (arith, ints, o.near.low, o.fits)) in
    let d = o.measured in
    let rates : AreRates o.before ratio after =
    record {
      before_low = omega (arith, ints, o.before_is, o.fits);
      before_high = omega (arith, ints, o.before_is, o.fits);
      neighbour_low = omega (arith, ints, r, o.near.low);
      neighbour_high = omega (arith, ints, r, o.near.high);
      after_is = omega (arith, ints, o.before_is, r, a);
    } in
    let q = quotient_is (d.value * 2199023255552) ratio (omega (arith, rates.neighbour_low)) in
    let time = d.value * 2199023255552 / ratio in
    record {
      time = time;
      after = after;
      time_is = link_time_of delay neighbour d.value ratio d.is r;
      after_is = a;
      after_most = omega (arith, rates.after_is, rates.before_high, rates.neighbour_high);
      below = link_time_is_below w most turnaround root up above d.value o.before ratio after time o.root_rate
          o.up_rate o.within rates (omega (arith, q.reached)) d.high;
      atleast = link_time_is_above w least most turnaround root up above d.value o.before ratio after time o.order
          o.root_rate o.up_rate o.within rates (omega (arith, q.passed)) d.high d.low;
    }

-- a part of the hop's error is a quotient
pub part_is : (most turnaround : ℕ) → 20 * most + turnaround ≤ 1500 * ((20 * most + turnaround) / 1500) + 1499
part_is most turnaround =
    let q = quotient_is (20 * most + turnaround) 1500 (omega arith) in omega (arith, q.passed)

-- the rate behind the hop is near that of the clocks
pub after_high : (root own behind after : ℕ) → IsClockRate root → IsClockRate own → IsRateWithin behind root own after →
    after ≤ 2199463110000 + behind
after_high root own behind after r o w =
    let a : own * after ≤ own * (2199463110000 + behind) = omega (arith, w.high, r.high, o.low) in
    cancel_left own after (2199463110000 + behind) (omega (arith, o.low)) a

-- what a bridge adds isn't above
keeps_high : (w least most turnaround root own above behind delay stay count passed time after said : ℕ) (added : ℤ) →
    IsClockRate root → IsClockRate own → least ≤ delay → delay ≤ most → after ≤ 2201610543851 →
    IsScaled said (65536 * w) after added → said ≤ time + count + 131072 * w → IsRateWithin behind root own after →
    IsCounted own stay count → IsCounted root (delay + stay) passed →
    50325000000 * time * after ≤
    50325000000 * 65536 * (most * root + 2199810000000 * w)
    + 2199023255552 * (1500 * above * (most + w) + 33550000 * (20 * (most + w) + turnaround + 7530)) →
    (pos 33550000 *ℤ added) ≤ℤ
    (pos (33550000 * passed) +ℤ pos (33550000 * hop_error (most - least + 2 * w) (most + w) turnaround
    + above * (most + w) + behind * (stay + w)))
keeps_high w least most turnaround root own above behind delay stay count passed time after said added r o low high
    small s late rate n c below =
    let a = stay_is_below stay root own behind after count rate n in
    let b : behind * stay * own ≤ behind * stay * 2199243157877 =
    mul-le-mul_left (behind * stay) (omega (arith, o.high)) in
    let d : root * most ≤ root * (delay + (most - least)) = mul-le-mul_left root (omega (arith, low)) in
    let f : (most - least) * root ≤ (most - least) * 2199243157877 =
    mul-le-mul_left (most - least) (omega (arith, r.high)) in
    let g = part_is (most + w) turnaround in
    let h : w * after ≤ w * (2199463110000 + behind) =
    mul-le-mul_left w (after_high root own behind after r o rate) in
    let i : after * said ≤ after * (time + count + 131072 * w) = mul-le-mul_left after late in
    omega (arith, ints, s.reached, a, b, d, f, g, h, i, c.low, below, small)

-- and isn't below
keeps_low : (w least most turnaround root own above behind delay stay count passed time after said : ℕ) (added : ℤ) →
    IsClockRate root → IsClockRate own → least ≤ delay → delay ≤ most → after ≤ 2201610543851 →
    IsScaled said (65536 * w) after added → time + count ≤ said → IsRateWithin behind root own after →
    IsCounted own stay count → IsCounted root (delay + stay) passed →
    50325000000 * 65536 * least * root ≤
    50325000000 * time * after
    + 2199023255552 * (1500 * above * (most + w) + 33550000 * (20 * (most + w) + turnaround + 7530))
    + 50325000000 * 65536 * 2199810000000 * w →
    pos (33550000 * passed) ≤ℤ
    (pos 33550000 *ℤ added +ℤ pos (33550000 * hop_error (most - least + 2 * w) (most + w) turnaround
    + above * (most + w) + behind * (stay + w)))
keeps_low w least most turnaround root own above behind delay stay count passed time after said added r o low high
    small s late rate n c atleast =
    let a = stay_is_above stay root own behind after count rate n in
    let b : behind * stay * own ≤ behind * stay * 2199243157877 =
    mul-le-mul_left (behind * stay) (omega (arith, o.high)) in
    let d : root * delay ≤ root * (least + (most - least)) = mul-le-mul_left root (omega (arith, low, high)) in
    let f : (most - least) * root ≤ (most - least) * 2199243157877 =
    mul-le-mul_left (most - least) (omega (arith, r.high)) in
    let g = part_is (most + w) turnaround in
    let h : w * after ≤ w * (2199463110000 + behind) =
    mul-le-mul_left w (after_high root own behind after r o rate) in
    let i : after * (time + count) ≤ after * said = mul-le-mul_left after late in
    omega (arith, ints, s.passed, a, b, d, f, g, h, i, c.high, atleast, small)

-- what a bridge adds
pub added_within : (w least most turnaround root up own above behind delay stay count passed : ℕ) (off : ℤ)
    (rate neighbour link_delay between : ℤ) →
    IsOverLink w least most turnaround root up above rate neighbour link_delay →
    IsRateBehind root own behind (rate +ℤ neighbour) → IsClockRate own → least ≤ delay → delay ≤ most →
    IsCounted own stay count → AreWithin (65536 * w) off (pos 0) →
    between ≡ link_time link_delay neighbour +ℤ pos count +ℤ off → IsCounted root (delay + stay) passed →
    AreWithin (33550000 * hop_error (most - least + 2 * w) (most + w) turnaround + above * (most + w)
    + behind * (stay + w)) (pos 33550000 *ℤ scaled_by (rate +ℤ neighbour) between) (pos (33550000 * passed))
added_within w least most turnaround root up own above behind delay stay count passed off rate neighbour link_delay
    between o b p low high n near e c =
    let t = timed w least most turnaround root up above rate neighbour link_delay o in
    let same : t.after ≡ b.after = omega (arith, ints, t.after_is, b.after_is) in
    let (said, is) = as_natural (between +ℤ pos (65536 * w)) (omega (arith, ints, e, t.time_is, near.low)) in
    let s = scaled_is (rate +ℤ neighbour) between said (65536 * w) t.after (omega (arith, ints, t.after_is)) is in
    let within : IsRateWithin behind root own t.after = rw same b.within in
    let added = scaled_by (rate +ℤ neighbour) between in
    record {
      low = keeps_low w least most turnaround root own above behind delay stay count passed t.time t.after said added
          o.root_rate p low high t.after_most s (omega (arith, ints, is, e, t.time_is, near.low)) within n c t.atleast;
      high = keeps_high w least most turnaround root own above behind delay stay count passed t.time t.after said added
          o.root_rate p low high t.after_most s (omega (arith, ints, is, e, t.time_is, near.high)) within n c t.below;
    }

pub hop_keeps : HopKeeps
hop_keeps w least most turnaround root up own above behind delay stay count passed off s h o b p low high n near e
    c =
    let x =
    added_within w least most turnaround root up own above behind delay stay count passed off s.rate h.neighbour h.delay
    (passage h) o b p low high n near (omega (arith, ints, e)) c in
    record { low = omega (arith, ints, x.low); high = omega (arith, ints, x.high) }

-- what a slave adds, and what its clock counts then
offset_high : (w least most turnaround root own above delay wait count passed time after : ℕ) (added off : ℤ) →
    IsClockRate root → IsClockRate own → least ≤ delay → delay ≤ most → wait ≤ most - least → after ≤ 2201610543851 →
    IsScaled time 0 after added → off ≤ℤ pos (32768 * w) → IsCounted own wait count →
    IsCounted root (delay + wait) passed →
    50325000000 * time * after ≤
    50325000000 * 65536 * (most * root + 2199810000000 * w)
    + 2199023255552 * (1500 * above * (most + w) + 33550000 * (20 * (most + w) + turnaround + 7530)) →
    (pos 33550000 *ℤ (added +ℤ pos count +ℤ off)) ≤ℤ
    (pos (33550000 * passed) +ℤ pos (33550000 * (hop_error (most - least + 2 * w) (most + w) turnaround - 32768 * w)
    + above * (most + w)))
offset_high w least most turnaround root own above delay wait count passed time after added off r o low high soon small
    s near n c below =
    let b : wait * own ≤ wait * (root + 439804650) = mul-le-mul_left wait (omega (arith, o.high, r.low)) in
    let d : root * most ≤ root * (delay + (most - least)) = mul-le-mul_left root (omega (arith, low)) in
    let f : (most - least) * root ≤ (most - least) * 2199243157877 =
    mul-le-mul_left (most - least) (omega (arith, r.high)) in
    let g = part_is (most + w) turnaround in
    omega (arith, ints, s.reached, b, d, f, g, n.high, c.low, below, small, soon, near)

offset_low : (w least most turnaround root own above delay wait count passed time after : ℕ) (added off : ℤ) →
    IsClockRate root → IsClockRate own → least ≤ delay → delay ≤ most → wait ≤ most - least → after ≤ 2201610543851 →
    IsScaled time 0 after added → pos 0 ≤ℤ (off +ℤ pos (32768 * w)) → IsCounted own wait count →
    IsCounted root (delay + wait) passed →
    50325000000 * 65536 * least * root ≤
    50325000000 * time * after
    + 2199023255552 * (1500 * above * (most + w) + 33550000 * (20 * (most + w) + turnaround + 7530))
    + 50325000000 * 65536 * 2199810000000 * w →
    pos (33550000 * passed) ≤ℤ
    (pos 33550000 *ℤ (added +ℤ pos count +ℤ off) +ℤ pos (33550000 * (hop_error (most - least + 2 * w) (most + w)
    turnaround - 32768 * w) + above * (most + w)))
offset_low w least most turnaround root own above delay wait count passed time after added off r o low high soon small
    s near n c atleast =
    let b : wait * root ≤ wait * (own + 439804650) = mul-le-mul_left wait (omega (arith, o.low, r.high)) in
    let d : root * delay ≤ root * (least + (most - least)) = mul-le-mul_left root (omega (arith, low, high)) in
    let f : (most - least) * root ≤ (most - least) * 2199243157877 =
    mul-le-mul_left (most - least) (omega (arith, r.high)) in
    let g = part_is (most + w) turnaround in
    omega (arith, ints, s.passed, b, d, f, g, n.low, c.high, atleast, small, soon, near)

-- a whole number scaled by a rate
pub scaled_time : (rate time : ℤ) (n after : ℕ) → time ≡ pos n → unit +ℤ rate ≡ pos after →
    IsScaled n 0 after (scaled_by rate time)
scaled_time rate time n after e f = scaled_is rate time n 0 after (omega (arith, ints, f)) (omega (arith, ints, e))

-- what a slave adds
pub received_within : (w least most turnaround root up own above delay wait count passed : ℕ)
    (off rate neighbour link_delay : ℤ) →
    IsOverLink w least most turnaround root up above rate neighbour link_delay → IsClockRate own → least ≤ delay →
    delay ≤ most → wait ≤ most - least → IsCounted own wait count → AreWithin (32768 * w) off (pos 0) →
    IsCounted root (delay + wait) passed →
    AreWithin (33550000 * (hop_error (most - least + 2 * w) (most + w) turnaround - 32768 * w) + above * (most + w))
    (pos 33550000 *ℤ (scaled_by (rate +ℤ neighbour) (link_time link_delay neighbour) +ℤ pos count +ℤ off))
    (pos (33550000 * passed))
received_within w least most turnaround root up own above delay wait count passed off rate neighbour link_delay o p low
    high soon n near c =
    let t = timed w least most turnaround root up above rate neighbour link_delay o in
    let time = link_time link_delay neighbour in
    let s = scaled_time (rate +ℤ neighbour) time t.time t.after t.time_is t.after_is in
    let added = scaled_by (rate +ℤ neighbour) time in
    record {
      low = offset_low w least most turnaround root own above delay wait count passed t.time t.after added off
          o.root_rate p low high soon t.after_most s (omega (arith, ints, near.low)) n c t.atleast;
      high = offset_high w least most turnaround root own above delay wait count passed t.time t.after added off
          o.root_rate p low high soon t.after_most s (omega (arith, ints, near.high)) n c t.below;
    }

pub offset_is_within : OffsetIsWithin
offset_is_within w least most turnaround root up own above delay wait count passed off s link_delay neighbour o p low
    high soon n near c =
    let x =
    received_within w least most turnaround root up own above delay wait count passed off s.rate neighbour link_delay o
    p low high soon n near c in
    record { low = omega (arith, ints, x.low); high = omega (arith, ints, x.high) }
