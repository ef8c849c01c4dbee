-- What is read so long after a Sync came over one link.
use Rattle.std.proofs.Common.{◌≡◌, ℕ, ◌*◌, ◌+◌, ◌-◌, ◌≤◌, ℤ, pos, ◌+ℤ◌, ◌-ℤ◌, ◌*ℤ◌, ◌≤ℤ◌, arith}
use Rattle.std.proofs.lemmas.Int.{ints}
use Rattle.std.proofs.Math.Nat.{mul-le-mul_left}
use Rattle.gptp_scaled.specs.Rate.{unit, scaled_by}
use Rattle.gptp_scaled.specs.Counts.{IsClockRate, IsCounted}
use Rattle.gptp_pdelay.proofs.DelayLemmas.{IsScaled, scaled_is}
use Rattle.gptp_pdelay.proofs.MeanLemmas.{cancel_left}
use Rattle.gptp_correction.specs.Correction.{link_time}
use Rattle.gptp_error_laws.specs.TimeError.{hop_error}
use Rattle.gptp_error_laws.specs.HopLaws.{IsRateWithin}
use Rattle.gptp_error_laws.proofs.HopLemmas.{after_high, part_is, scaled_time, timed}
use Rattle.gptp_error_laws.proofs.LinkLemmas.{stay_is_below, stay_is_above}
use Rattle.gptp_error_laws.proofs.WayLemmas.{natural}
use Rattle.gptp_reading.specs.ReadingLaws.{ReadingIsWithin}

-- the rate after the hop is near that of the clocks
after_low : (root own behind after : ℕ) → IsClockRate root → IsClockRate own → IsRateWithin behind root own after →
    2198583400000 ≤ after + behind
after_low root own behind after r o w =
    let a : own * 2198583400000 ≤ own * (after + behind) = omega (arith, w.low, r.low, o.high) in
    cancel_left own 2198583400000 (after + behind) (omega (arith, o.low)) a

-- what is read isn't above
reads_high : (w g least most turnaround root own above behind delay span count passed time after said : ℕ)
    (added more : ℤ) → IsClockRate root → IsClockRate own → g ≤ w → least ≤ delay → delay ≤ most →
    after ≤ 2201610543851 → IsScaled time 0 after added → IsScaled said (32768 * w) after more →
    said ≤ count + 32768 * g + 65536 * w → IsRateWithin behind root own after → IsCounted own span count →
    IsCounted root (delay + span) passed →
    50325000000 * time * after ≤
    50325000000 * 65536 * (most * root + 2199810000000 * w)
    + 2199023255552 * (1500 * above * (most + w) + 33550000 * (20 * (most + w) + turnaround + 7530)) →
    (pos 33550000 *ℤ (added +ℤ more)) ≤ℤ
    (pos (33550000 * (passed + 32768 * g)) +ℤ pos (33550000 * (hop_error (most - least + 2 * w) (most + w) turnaround
    - 32768 * w) + above * (most + w) + behind * (span + w)))
reads_high w g least most turnaround root own above behind delay span count passed time after said added more r o fine
    low high small s m late rate n c below =
    let a = stay_is_below span root own behind after count rate n in
    let b : behind * span * own ≤ behind * span * 2199243157877 =
    mul-le-mul_left (behind * span) (omega (arith, o.high)) in
    let d : root * most ≤ root * (delay + (most - least)) = mul-le-mul_left root (omega (arith, low)) in
    let f : (most - least) * root ≤ (most - least) * 2199243157877 =
    mul-le-mul_left (most - least) (omega (arith, r.high)) in
    let k = part_is (most + w) turnaround in
    let near = after_high root own behind after r o rate in
    let h : w * after ≤ w * (2199463110000 + behind) = mul-le-mul_left w near in
    let h' : g * after ≤ g * (2199463110000 + behind) = mul-le-mul_left g near in
    let j : behind * g ≤ behind * w = mul-le-mul_left behind fine in
    let i : after * said ≤ after * (count + 32768 * g + 65536 * w) = mul-le-mul_left after late in
    omega (arith, ints, s.reached, m.reached, a, b, d, f, k, h, h', j, i, c.low, below, small, fine)

-- and isn't below
reads_low : (w g least most turnaround root own above behind delay span count passed time after said : ℕ)
    (added more : ℤ) → IsClockRate root → IsClockRate own → g ≤ w → least ≤ delay → delay ≤ most →
    after ≤ 2201610543851 → IsScaled time 0 after added → IsScaled said (32768 * w) after more →
    count + 32768 * g ≤ said → IsRateWithin behind root own after → IsCounted own span count →
    IsCounted root (delay + span) passed →
    50325000000 * 65536 * least * root ≤
    50325000000 * time * after
    + 2199023255552 * (1500 * above * (most + w) + 33550000 * (20 * (most + w) + turnaround + 7530))
    + 50325000000 * 65536 * 2199810000000 * w →
    pos (33550000 * (passed + 32768 * g)) ≤ℤ
    (pos 33550000 *ℤ (added +ℤ more) +ℤ pos (33550000 * (hop_error (most - least + 2 * w) (most + w) turnaround
    - 32768 * w) + above * (most + w) + behind * (span + w)))
reads_low w g least most turnaround root own above behind delay span count passed time after said added more r o fine
    low high small s m late rate n c atleast =
    let a = stay_is_above span root own behind after count rate n in
    let b : behind * span * own ≤ behind * span * 2199243157877 =
    mul-le-mul_left (behind * span) (omega (arith, o.high)) in
    let d : root * delay ≤ root * (least + (most - least)) = mul-le-mul_left root (omega (arith, low, high)) in
    let f : (most - least) * root ≤ (most - least) * 2199243157877 =
    mul-le-mul_left (most - least) (omega (arith, r.high)) in
    let k = part_is (most + w) turnaround in
    let h : w * after ≤ w * (2199463110000 + behind) =
    mul-le-mul_left w (after_high root own behind after r o rate) in
    let h' : g * 2198583400000 ≤ g * (after + behind) = mul-le-mul_left g (after_low root own behind after r o rate) in
    let j : behind * g ≤ behind * w = mul-le-mul_left behind fine in
    let i : after * (count + 32768 * g) ≤ after * said = mul-le-mul_left after late in
    omega (arith, ints, s.passed, m.passed, a, b, d, f, k, h, h', j, i, c.high, atleast, small, fine)

pub reading_is_within : ReadingIsWithin
reading_is_within w g least most turnaround root up own above behind delay span count passed off s link_delay
    neighbour o b p fine low high n near c =
    let t = timed w least most turnaround root up above s.rate neighbour link_delay o in
    let time = link_time link_delay neighbour in
    let rate = s.rate +ℤ neighbour in
    let rate_is : rate ≡ pos t.after -ℤ unit = omega (arith, ints, t.after_is) in
    let same : t.after ≡ b.after = omega (arith, ints, t.after_is, b.after_is) in
    let within : IsRateWithin behind root own t.after = rw same b.within in
    let x = scaled_time rate time t.time t.after t.time_is t.after_is in
    let gone = pos (count + 32768 * g) +ℤ off in
    let (said, is) = natural (gone +ℤ pos (32768 * w)) (omega (arith, ints, near.low)) in
    let y = scaled_is rate gone said (32768 * w) t.after rate_is is in
    let added = scaled_by rate time in
    let more = scaled_by rate gone in
    let below = reads_high w g least most turnaround root own above behind delay span count passed t.time t.after said
    added more o.root_rate p fine low high t.after_most x y (omega (arith, ints, is, near.high)) within n c t.below in
    let above' = reads_low w g least most turnaround root own above behind delay span count passed t.time t.after said
    added more o.root_rate p fine low high t.after_most x y (omega (arith, ints, is, near.low)) within n c t.atleast in
    record { low = omega (arith, ints, above'); high = omega (arith, ints, below) }
