-- What is read on a way, where what was told there was right.
use Rattle.std.proofs.Common.{◌≡◌, ℕ, suc, ◌*◌, ◌+◌, ◌-◌, ◌≤◌, ℤ, pos, ◌+ℤ◌, ◌-ℤ◌, ◌*ℤ◌, Option, Some, arith}
use Rattle.std.proofs.lemmas.Int.{ints}
use Rattle.std.proofs.Math.Nat.{mul-le-mul_left}
use Rattle.gptp_scaled.specs.Rate.{FitsRate}
use Rattle.gptp_scaled.specs.Stamp.{scaled_of}
use Rattle.gptp_scaled.specs.Counts.{AreWithin}
use Rattle.gptp_pdelay.specs.GoodLink.{ceil_div}
use Rattle.gptp_pdelay.proofs.MeasurementLemmas.{clock_counts, counts_between}
use Rattle.gptp_correction.specs.declared.correction.Relayed.{Relayed}
use Rattle.gptp_error_laws.specs.TimeError.{Way, clock_at, drift_at, link_at, rates_error_at, time_error_at}
use Rattle.gptp_error_laws.specs.WayLaws.{IsReadAt, shown_at}
use Rattle.gptp_error_laws.proofs.WayLemmas.{adds, ceil_reaches, error_before, error_behind, link_grows}
use Rattle.gptp_sync_machine.specs.Right.{IsMeasuredAt, at_rate, info_of, sent_error_at, told_at}
use Rattle.gptp_sync_machine.specs.RightLaws.{IsOnWay}
use Rattle.gptp_sync_machine.proofs.RightLemmas.{held_on_way, over_link, rate_behind, sent_error_is}
use Rattle.gptp_reading.specs.Reading.{read_after}
use Rattle.gptp_reading.specs.ReadingLaws.{IsBehindBy, ReadingIsRight}
use Rattle.gptp_reading.proofs.HopLemmas.{reading_is_within}

-- ---- errors

-- an error that grows with time isn't less later
pub later_within : (error rates soon late : ℕ) (x y : ℤ) → soon ≤ late → AreWithin (error + rates * soon) x y
    → AreWithin (error + rates * late) x y
later_within error rates soon late x y less within =
    let more : rates * soon ≤ rates * late = mul-le-mul_left rates less in
    record { low = omega (arith, ints, within.low, more); high = omega (arith, ints, within.high, more) }

-- an error in parts of 33550000 to a unit, in whole units
whole_units : (error part whole : ℕ) (x y : ℤ) → part ≤ whole * 33550000
    → AreWithin (33550000 * error + part) (pos 33550000 *ℤ x) (pos 33550000 *ℤ y) → AreWithin (error + whole) x y
whole_units error part whole x y enough within = record {
  low = omega (arith, ints, enough, within.low);
  high = omega (arith, ints, enough, within.high);
}

pub in_units : (error rates span : ℕ) (x y : ℤ)
    → AreWithin (33550000 * error + rates * span) (pos 33550000 *ℤ x) (pos 33550000 *ℤ y)
    → AreWithin (error + ceil_div (span * rates) 33550000) x y
in_units error rates span x y within =
    let enough = ceil_reaches (span * rates) 33550000 (omega arith) in
    whole_units error (rates * span) (ceil_div (span * rates) 33550000) x y (omega (arith, enough)) within

-- ---- what is read

-- what passes on from a time that is behind, until it isn't
made_up : (a b base : ℤ) (behind g passed : ℕ) → b -ℤ a ≡ pos passed → behind ≡ 32768 * g
    → (b +ℤ base) -ℤ (a +ℤ base -ℤ pos behind) ≡ pos (passed + 32768 * g)
made_up a b base behind g passed is half = omega (arith, ints, is, half)

read_within : (w : Way) (g : ℕ) (phase : ℕ → ℕ) (base : Option ℤ) (i : ℕ) (stamps : ℕ → ℤ) (told : Relayed)
    (sent came now : ℕ) (rate delay : ℤ)
    → IsBehindBy w g → IsReadAt w phase (suc i) stamps → IsOnWay w phase base i told sent came
    → IsMeasuredAt w i rate delay → FitsRate (told.rate +ℤ rate) → came ≤ now
    → let ingress = stamps came in
    (ahead : ℤ) × (base ≡ Some ahead)
    × AreWithin (33550000 * time_error_at w (suc i) + rates_error_at w i * (now - came + w.blur))
    (pos 33550000 *ℤ read_after (info_of told ingress) delay rate (shown_at w phase (suc i) now -ℤ ingress))
    (pos 33550000 *ℤ told_at w phase ahead now)
read_within w g phase base i stamps told sent came now rate delay behind read on measured fits later =
    let l = link_at w i in
    let ingress = stamps came in
    let near = read.near came in
    let off = shown_at w phase (suc i) came -ℤ pos w.behind -ℤ ingress in
    let info = info_of told ingress in
    let passing = came - sent in
    let span = now - came in
    let drifts = on.documented.drifts (suc i) on.on_way in
    let count = counts_between (phase (suc i)) (drift_at w (suc i)) came now drifts later in
    let passed = counts_between (phase 0) (drift_at w 0) sent now (on.documented.drifts 0 (omega arith))
    (omega (arith, on.long, later)) in
    let parts : now - sent ≡ passing + span = omega (arith, on.long, later) in
    let gone : shown_at w phase (suc i) now -ℤ ingress ≡ pos (count.count + 32768 * g) +ℤ off =
    omega (arith, ints, count.is, behind.half) in
    let added = read_after info delay rate (pos (count.count + 32768 * g) +ℤ off)
    -ℤ (scaled_of told.origin +ℤ told.correction) in
    let within = reading_is_within w.blur g l.least l.most w.turnaround (clock_at w 0) (clock_at w i)
    (clock_at w (suc i)) (error_before w i) (rates_error_at w i)
    passing span count.count passed.count off info delay rate
    (over_link w phase base i told sent came rate delay on measured)
    (rate_behind w phase base i told sent came rate delay on measured fits)
    (clock_counts.rate (drift_at w (suc i)) drifts) behind.fine (omega (arith, on.long))
    (omega (arith, on.short, on.long)) count.counted
    (record { low = omega (arith, ints, near.high); high = omega (arith, ints, near.low) })
    (rw parts at passed.counted) in
    let sum = adds (sent_error_at w i) _ (33550000 * time_error_at w (suc i) + rates_error_at w i * (span + w.blur))
    (scaled_of told.origin) told.correction added (told_at w phase on.right.ahead sent -ℤ pos w.behind)
    (told_at w phase on.right.ahead now) (passed.count + 32768 * g)
    (omega (arith, sent_error_is w i, error_behind w i, link_grows w i))
    (made_up (shown_at w phase 0 sent) (shown_at w phase 0 now) on.right.ahead w.behind g passed.count passed.is
    behind.half) on.right.time within in (
      on.right.ahead,
      on.right.base_is,
      rw gone (record { low = omega (arith, ints, sum.low); high = omega (arith, ints, sum.high) }),
    )

pub reading_is_right : ReadingIsRight
reading_is_right w g phase base i stamps told sent came now rate delay held behind read on measured at later =
    read_within w g phase base i stamps (at_rate told held) sent came now rate delay behind read
    (held_on_way w phase base i told sent came rate delay held on measured at) measured at.fits later
