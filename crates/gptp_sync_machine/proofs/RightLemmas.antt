-- What is told and known on a way, hop by hop.
use Rattle.std.proofs.Common.{◌≡◌, ℕ, zero, suc, ◌*◌, ◌+◌, ◌-◌, ◌<◌, ◌≤◌, ℤ, pos, negsuc, ◌^◌, ◌⊎◌, inl, inr, ◌+ℤ◌, ◌-ℤ◌, ◌≤ℤ◌, length, Option, Some, ap, ◌∙◌, sym, refl, arith}
use Rattle.std.specs.Prelude.{min}
use Rattle.std.proofs.lemmas.Int.{ints}
use Rattle.gptp_scaled.specs.Rate.{FitsRate, IsNeighborRate, unit}
use Rattle.gptp_scaled.specs.Stamp.{scaled_of}
use Rattle.gptp_scaled.specs.Counts.{AreWithin}
use Rattle.gptp_scaled.proofs.CountLemmas.{rate_is_bounded}
use Rattle.gptp_pdelay.specs.Clock.{IsTime}
use Rattle.gptp_pdelay.specs.GoodLink.{ceil_div}
use Rattle.gptp_pdelay.specs.Measured.{AreMeasured}
use Rattle.gptp_pdelay.proofs.MeasurementLemmas.{clock_counts, counts_between, measurement_is_within}
use Rattle.gptp_correction.specs.declared.correction.Relayed.{Relayed}
use Rattle.gptp_correction.specs.Correction.{bridge, carried, carried_on, sync_received, relayed, BridgeFits}
use Rattle.gptp_correction.specs.Sum.{sum_below}
use Rattle.gptp_pdelay_machine.specs.Setting.{IsByMost}
use Rattle.gptp_error_laws.specs.TimeError.{WayLink, Way, clock_at, drift_at, jitter_at, link_at, measured_jitter_at, measured_most_at, rate_error_at, rates_error_at, steady_rate_at, time_error_at, total_below}
use Rattle.gptp_error_laws.specs.HopLaws.{IsOverLink, IsRateBehind, IsRateWithin}
use Rattle.gptp_error_laws.specs.WayLaws.{IsDocumented, IsReadAt, longer, shown_at}
use Rattle.gptp_error_laws.proofs.HopLemmas.{hop_keeps, offset_is_within}
use Rattle.gptp_error_laws.proofs.CutLemmas.{neighbours_are_near}
use Rattle.gptp_error_laws.proofs.WayLemmas.{adds, ceil_reaches, error_before, error_behind, error_sent, link_grows, natural, off_within, rate_so_far, size_is, stay_grows, steady_is_limited}
use Rattle.gptp_error_laws.proofs.LongerLemmas.{link_same, parents_error_stays, rates_same, steady_same, sum_same, total_same}
use Rattle.gptp_sync_machine.proofs.SizeLemmas.{IsSmall, passage_small}
use Rattle.gptp_sync_machine.specs.Right.{IsHeldAt, IsMeasuredAt, IsModest, FollowUpIsRight, at_rate, info_of, measured_error_at, most_correction_at, sent_error_at, told_at}
use Rattle.gptp_sync_machine.specs.RightLaws.{BridgeNumbersFit, BridgeTellsRight, ExchangesMeasureRight, HeldIsRight, IsOnWay, OffsetIsRight, RightStays, RootTellsRight}

pub root_tells_right : RootTellsRight
root_tells_right w phase ahead said stamp rest sent near split =
    let whole = split.whole in
    let small = split.small in
    record {
      ahead = ahead;
      base_is = refl;
      origin = split.stamp;
      time = record { low = omega (arith, ints, whole, near.low); high = omega (arith, ints, whole, near.high) };
      least = omega (arith, ints);
      small = omega (arith, ints, small);
      rate = record { low = omega (arith, ints); high = omega (arith, ints) };
      fits = omega (arith, ints);
    }

pub held_is_right : HeldIsRight
held_is_right w phase base i told sent neighbour held limited at right = by_case at.nearest
  where
    near : AreWithin (total_below i (measured_error_at w)) told.rate (sum_below i (steady_rate_at w))
    near = right.rate

    fits : FitsRate told.rate
    fits = right.fits

    other : AreWithin (total_below i (measured_error_at w)) held (sum_below i (steady_rate_at w)) → FitsRate held
        → FollowUpIsRight w phase base i (at_rate told held) sent
    other within fits' = record {
      ahead = right.ahead;
      base_is = right.base_is;
      origin = right.origin;
      time = right.time;
      least = right.least;
      small = right.small;
      rate = within;
      fits = fits';
    }

    by_case : (held ≡ told.rate) ⊎ (IsModest w i × (((held +ℤ neighbour ≡ pos 2147483647) × (held ≤ℤ told.rate))
        ⊎ ((held +ℤ neighbour ≡ negsuc 2147483647) × (told.rate ≤ℤ held))))
        → FollowUpIsRight w phase base i (at_rate told held) sent
    by_case (inl same) = other (rw same near) (rw same fits)
    by_case (inr (modest, inl (greatest, below))) =
        let sum = size_is (sum_below i (steady_rate_at w)) in
        other
        (record {
          low = omega (arith, ints, modest, sum.high, greatest, limited.high);
          high = omega (arith, ints, below, near.high);
        })
        (omega (arith, ints, greatest, below, limited.high, fits))
    by_case (inr (modest, inr (least, above))) =
        let sum = size_is (sum_below i (steady_rate_at w)) in
        other
        (record {
          low = omega (arith, ints, above, near.low);
          high = omega (arith, ints, modest, sum.low, least, limited.low);
        })
        (omega (arith, ints, least, above, limited.low, fits))

-- each rate is measured one unit nearer than its error in the time error
measured_nearer : (w : Way) (n : ℕ) → total_below n (measured_error_at w) + n ≡ total_below n (rate_error_at w)
measured_nearer w zero = refl
measured_nearer w (suc n) = let before = measured_nearer w n in omega (arith, before)

-- the error at the egress to a link, with the time error of the bridge there
pub sent_error_is : (w : Way) (i : ℕ) → sent_error_at w i ≡ error_sent w i
sent_error_is w zero = refl
sent_error_is w (suc i) =
    ap (λ e. 33550000 * (e + 32768 * w.blur) + rates_error_at w i * (w.residence + measured_jitter_at w i))
    (error_behind w i)

-- the rate so far, as a natural number within its error
rate_is : (w : Way) → IsDocumented w → (n : ℕ) → n ≤ length w.links → (sum : ℤ) →
    AreWithin (total_below n (measured_error_at w)) sum (sum_below n (steady_rate_at w)) → FitsRate sum → (rate : ℕ) →
    unit +ℤ sum ≡ pos rate → IsRateWithin (error_before w n) (clock_at w 0) (clock_at w n) rate
rate_is w k n h sum near fits rate e =
    let errors = measured_nearer w n in
    rate_so_far w k n h sum
    (record { low = omega (arith, ints, near.low, errors); high = omega (arith, ints, near.high, errors) }) fits rate e

-- what is known of the hop over the link
pub over_link : (w : Way) (phase : ℕ → ℕ) (base : Option ℤ) (i : ℕ) (told : Relayed) (sent came : ℕ) (rate delay : ℤ) →
    IsOnWay w phase base i told sent came → IsMeasuredAt w i rate delay → let l = link_at w i in
    IsOverLink w.blur l.least l.most w.turnaround (clock_at w 0) (clock_at w i) (error_before w i) told.rate rate delay
over_link w phase base i told sent came rate delay on measured =
    let right = on.right in
    let fits = right.fits in
    let near = on.on_way in
    let (before, e) = natural (unit +ℤ told.rate) (omega (arith, ints, fits)) in
    record {
      order = omega (arith, on.long, on.short);
      root_rate = clock_counts.rate (drift_at w 0) (on.documented.drifts 0 (omega arith));
      up_rate = clock_counts.rate (drift_at w i) (on.documented.drifts i (omega (arith, near)));
      before = before;
      before_is = e;
      within = rate_is w on.documented i (omega (arith, near)) told.rate right.rate fits before e;
      fits = fits;
      near = measured.limited;
      measured = measured.delay_within;
    }

-- the sum of the rates after it is right
rates_add : (w : Way) (phase : ℕ → ℕ) (base : Option ℤ) (i : ℕ) (told : Relayed) (sent : ℕ) (rate delay : ℤ) →
    FollowUpIsRight w phase base i told sent → IsMeasuredAt w i rate delay →
    AreWithin (total_below (suc i) (measured_error_at w)) (told.rate +ℤ rate) (sum_below (suc i) (steady_rate_at w))
rates_add w phase base i told sent rate delay right measured =
    let before = right.rate in
    let here = measured.rate_within in
    record {
      low = omega (arith, ints, before.low, here.low);
      high = omega (arith, ints, before.high, here.high);
    }

-- and of the rate after it
pub rate_behind : (w : Way) (phase : ℕ → ℕ) (base : Option ℤ) (i : ℕ) (told : Relayed) (sent came : ℕ) (rate delay : ℤ)
    → IsOnWay w phase base i told sent came → IsMeasuredAt w i rate delay → FitsRate (told.rate +ℤ rate) →
    IsRateBehind (clock_at w 0) (clock_at w (suc i)) (rates_error_at w i) (told.rate +ℤ rate)
rate_behind w phase base i told sent came rate delay on measured fits =
    let (after, e) = natural (unit +ℤ (told.rate +ℤ rate)) (omega (arith, ints, fits)) in
    record {
      after = after;
      after_is = e;
      within = rate_is w on.documented (suc i) on.on_way (told.rate +ℤ rate)
          (rates_add w phase base i told sent rate delay on.right measured) fits after e;
    }

-- what was told on the way, at the rate that is held
pub held_on_way : (w : Way) (phase : ℕ → ℕ) (base : Option ℤ) (i : ℕ) (told : Relayed) (sent came : ℕ)
    (rate delay held : ℤ) →
    IsOnWay w phase base i told sent came → IsMeasuredAt w i rate delay → IsHeldAt w i told.rate rate held →
    IsOnWay w phase base i (at_rate told held) sent came
held_on_way w phase base i told sent came rate delay held on measured at = record {
  documented = on.documented;
  on_way = on.on_way;
  long = on.long;
  short = on.short;
  right = held_is_right w phase base i told sent rate held measured.limited at on.right;
}

-- two times that a base and what time stamps are behind move
pub both_moved : (a b base : ℤ) (behind passed : ℕ) → b -ℤ a ≡ pos passed
    → (b +ℤ base -ℤ pos behind) -ℤ (a +ℤ base -ℤ pos behind) ≡ pos passed
both_moved a b base behind passed is = omega (arith, ints, is)

-- what passes between two time stamps, and by how much that is another count than the clock's
passes_by : (from to count : ℤ) → to -ℤ from ≡ count +ℤ (to -ℤ from -ℤ count)
passes_by from to count = omega (arith, ints)

-- what a bridge adds to the correction is small
added_small : (w : Way) (phase : ℕ → ℕ) (base : Option ℤ) (i : ℕ) (stamps : ℕ → ℤ) (told : Relayed)
    (sent came due : ℕ) (rate delay : ℤ) →
    IsReadAt w phase (suc i) stamps → IsOnWay w phase base i told sent came → IsMeasuredAt w i rate delay →
    IsByMost came due (w.residence + jitter_at w i) → FitsRate (told.rate +ℤ rate) →
    IsSmall (measured_most_at w i + w.turnaround + w.residence + measured_jitter_at w i + 1)
    (bridge (info_of told (stamps came)) delay rate (stamps due)) (told.rate +ℤ rate)
added_small w phase base i stamps told sent came due rate delay read on measured (later, soon) fits =
    let l = link_at w i in
    let hop = bridge (info_of told (stamps came)) delay rate (stamps due) in
    let drifts = on.documented.drifts (suc i) on.on_way in
    let count = counts_between (phase (suc i)) (drift_at w (suc i)) came due drifts later in
    passage_small w.blur l.least l.most w.turnaround (clock_at w i) (clock_at w (suc i)) (due - came) count.count
    (measured_most_at w i + w.turnaround + w.residence + measured_jitter_at w i + 1)
    (stamps due -ℤ stamps came -ℤ pos count.count) hop (told.rate +ℤ rate)
    (clock_counts.rate (drift_at w i) (on.documented.drifts i (omega (arith, on.on_way))))
    (clock_counts.rate (drift_at w (suc i)) drifts) measured.limited measured.delay_within fits
    (passes_by (stamps came) (stamps due) (pos count.count))
    (off_within w.blur w.behind (phase (suc i)) (drift_at w (suc i)) stamps read came due count.count count.is)
    count.counted (omega (arith, soon, later))

right_behind : (w : Way) (phase : ℕ → ℕ) (base : Option ℤ) (i : ℕ) (stamps : ℕ → ℤ) (told : Relayed)
    (sent came due : ℕ) (rate delay : ℤ) →
    IsReadAt w phase (suc i) stamps → IsOnWay w phase base i told sent came → IsMeasuredAt w i rate delay →
    IsByMost came due (w.residence + jitter_at w i) → FitsRate (told.rate +ℤ rate) →
    let info = info_of told (stamps came) in
    FollowUpIsRight w phase base (suc i) (relayed info (bridge info delay rate (stamps due))) due
right_behind w phase base i stamps told sent came due rate delay read on measured (later, soon) fits =
    let l = link_at w i in
    let ingress = stamps came in
    let egress = stamps due in
    let info = info_of told ingress in
    let hop = bridge info delay rate egress in
    let passing = came - sent in
    let stay = due - came in
    let drifts = on.documented.drifts (suc i) on.on_way in
    let count = counts_between (phase (suc i)) (drift_at w (suc i)) came due drifts later in
    let passed = counts_between (phase 0) (drift_at w 0) sent due (on.documented.drifts 0 (omega arith))
    (omega (arith, on.long, later)) in
    let parts : due - sent ≡ passing + stay = omega (arith, on.long, later) in
    let added = hop_keeps w.blur l.least l.most w.turnaround (clock_at w 0) (clock_at w i) (clock_at w (suc i))
    (error_before w i) (rates_error_at w i) passing stay count.count passed.count
    (egress -ℤ ingress -ℤ pos count.count) info hop
    (over_link w phase base i told sent came rate delay on measured)
    (rate_behind w phase base i told sent came rate delay on measured fits)
    (clock_counts.rate (drift_at w (suc i)) drifts) (omega (arith, on.long)) (omega (arith, on.short, on.long))
    count.counted
    (off_within w.blur w.behind (phase (suc i)) (drift_at w (suc i)) stamps read came due count.count count.is)
    (passes_by ingress egress (pos count.count)) (rw parts at passed.counted) in
    let sum = adds (sent_error_at w i) _ (sent_error_at w (suc i)) (scaled_of told.origin) told.correction
    ((relayed info hop).correction -ℤ told.correction) (told_at w phase on.right.ahead sent -ℤ pos w.behind)
    (told_at w phase on.right.ahead due -ℤ pos w.behind) passed.count
    (omega (arith, sent_error_is w i, sent_error_is w (suc i), stay_grows w i stay (omega (arith, later, soon))))
    (both_moved (shown_at w phase 0 sent) (shown_at w phase 0 due) on.right.ahead w.behind passed.count passed.is)
    on.right.time added in
    let more = added_small w phase base i stamps told sent came due rate delay read on measured (later, soon) fits in
    record {
      ahead = on.right.ahead;
      base_is = on.right.base_is;
      origin = on.right.origin;
      time = record { low = omega (arith, ints, sum.low); high = omega (arith, ints, sum.high) };
      least = omega (arith, ints, on.right.least, more.scaled.low);
      small = omega (arith, ints, on.right.small, more.scaled.high);
      rate = rates_add w phase base i told sent rate delay on.right measured;
      fits = fits;
    }

pub bridge_tells_right : BridgeTellsRight
bridge_tells_right w phase base i stamps told sent came due rate delay held read on measured in_time at =
    right_behind w phase base i stamps (at_rate told held) sent came due rate delay read
    (held_on_way w phase base i told sent came rate delay held on measured at) measured in_time at.fits

-- the numbers fit
numbers_fit : (w : Way) (phase : ℕ → ℕ) (base : Option ℤ) (i : ℕ) (stamps : ℕ → ℤ) (told : Relayed)
    (sent came due : ℕ) (rate delay : ℤ) →
    IsReadAt w phase (suc i) stamps → IsOnWay w phase base i told sent came → IsMeasuredAt w i rate delay →
    IsByMost came due (w.residence + jitter_at w i) → FitsRate (told.rate +ℤ rate) →
    most_correction_at w (suc i) < 2 ^ 63 → IsTime (stamps came) → IsTime (stamps due) →
    let info = info_of told (stamps came) in let hop = bridge info delay rate (stamps due) in
    BridgeFits hop (carried_on (carried info) hop)
numbers_fit w phase base i stamps told sent came due rate delay read on measured in_time fits short at_ingress
    at_egress =
    let more = added_small w phase base i stamps told sent came due rate delay read on measured in_time fits in
    let right = on.right in
    record {
      link = record {
        low = omega (arith, ints, more.time_is);
        high = omega
            (arith, ints, more.time_is, more.time_small, short);
      };
      upstream = record {
        low = omega (arith, ints, more.time_is, more.time_small, short, at_ingress.low);
        high = omega (arith, ints, more.time_is, at_ingress.high);
      };
      rate = fits;
      between = record {
        low = omega (arith, ints, more.passed.low, short);
        high = omega (arith, ints, more.passed.high, short);
      };
      scaled = record {
        low = omega (arith, ints, more.scaled.low, short);
        high = omega (arith, ints, more.scaled.high, short);
      };
      correction = omega (arith, ints, right.least, right.small, more.scaled.low, more.scaled.high, short);
    }

pub bridge_numbers_fit : BridgeNumbersFit
bridge_numbers_fit w phase base i stamps told sent came due rate delay held read on measured in_time at short ingress
    egress =
    numbers_fit w phase base i stamps (at_rate told held) sent came due rate delay read
    (held_on_way w phase base i told sent came rate delay held on measured at) measured in_time at.fits short ingress
    egress

-- the offset that is computed from what was told
offset_within : (w : Way) (phase : ℕ → ℕ) (base : Option ℤ) (i : ℕ) (stamps : ℕ → ℤ) (told : Relayed)
    (sent came now : ℕ) (rate delay : ℤ) →
    IsReadAt w phase (suc i) stamps → IsOnWay w phase base i told sent came → IsMeasuredAt w i rate delay →
    came ≤ now → now ≤ sent + (link_at w i).most →
    let ingress = stamps came in
    (ahead : ℤ) × (base ≡ Some ahead)
    × AreWithin (time_error_at w (suc i)) (ingress -ℤ sync_received (info_of told ingress) delay rate)
    (shown_at w phase (suc i) now -ℤ told_at w phase ahead now)
offset_within w phase base i stamps told sent came now rate delay read on measured later soon =
    let l = link_at w i in
    let ingress = stamps came in
    let near = read.near came in
    let off = shown_at w phase (suc i) came -ℤ pos w.behind -ℤ ingress in
    let info = info_of told ingress in
    let passing = came - sent in
    let wait = now - came in
    let drifts = on.documented.drifts (suc i) on.on_way in
    let count = counts_between (phase (suc i)) (drift_at w (suc i)) came now drifts later in
    let passed = counts_between (phase 0) (drift_at w 0) sent now (on.documented.drifts 0 (omega arith))
    (omega (arith, on.long, later)) in
    let parts : now - sent ≡ passing + wait = omega (arith, on.long, later) in
    let added = sync_received info delay rate -ℤ (scaled_of told.origin +ℤ told.correction) +ℤ pos count.count
    +ℤ off in
    let within = offset_is_within w.blur l.least l.most w.turnaround (clock_at w 0) (clock_at w i) (clock_at w (suc i))
    (error_before w i) passing wait count.count passed.count off info delay rate
    (over_link w phase base i told sent came rate delay on measured) (clock_counts.rate (drift_at w (suc i)) drifts)
    (omega (arith, on.long)) (omega (arith, on.short, on.long)) (omega (arith, on.long, soon)) count.counted
    (record { low = omega (arith, ints, near.high); high = omega (arith, ints, near.low) })
    (rw parts at passed.counted) in
    let sum = adds (sent_error_at w i) _ (33550000 * time_error_at w (suc i)) (scaled_of told.origin) told.correction
    added (told_at w phase on.right.ahead sent -ℤ pos w.behind) (told_at w phase on.right.ahead now -ℤ pos w.behind)
    passed.count (omega (arith, sent_error_is w i, error_behind w i, link_grows w i))
    (both_moved (shown_at w phase 0 sent) (shown_at w phase 0 now) on.right.ahead w.behind passed.count passed.is)
    on.right.time within in (
      on.right.ahead,
      on.right.base_is,
      record { low = omega (arith, ints, sum.high, count.is); high = omega (arith, ints, sum.low, count.is) },
    )

pub offset_is_right : OffsetIsRight
offset_is_right w phase base i stamps told sent came now rate delay held read on measured at later soon =
    offset_within w phase base i stamps (at_rate told held) sent came now rate delay read
    (held_on_way w phase base i told sent came rate delay held on measured at) measured later soon

-- what is measured on the links that a way had stays as it was
measured_same : (w : Way) (l : WayLink) (i : ℕ) → i < length w.links →
    measured_error_at (longer w l) i ≡ measured_error_at w i
measured_same w l i h =
    ap (λ (k : WayLink). min (ceil_div (2202000000000 * (k.most - k.least + 2 * w.blur)) w.interval) 879609302 + 3)
    (link_same w l i h)

-- and so does the error of what is sent over them, and over the next one
sent_same : (w : Way) (l : WayLink) (i : ℕ) → i ≤ length w.links → sent_error_at (longer w l) i ≡ sent_error_at w i
sent_same w l zero h = refl
sent_same w l (suc i) h =
    ap (λ n. 33550000 * (n + 32768 * w.blur)
    + rates_error_at (longer w l) i * (w.residence + measured_jitter_at (longer w l) i))
    (parents_error_stays w l (suc i) h)
    ∙ ap (λ n. 33550000 * (time_error_at w (suc i) + 32768 * w.blur)
    + n * (w.residence + measured_jitter_at (longer w l) i)) (rates_same w l i h)
    ∙ ap (λ (k : WayLink). 33550000 * (time_error_at w (suc i) + 32768 * w.blur)
    + rates_error_at w i * (w.residence + (k.most - k.least + 2 * w.blur))) (link_same w l i h)

-- what passes on the link at a place and at the bridge after it
abbrev passing_at : Way → ℕ → ℕ
passing_at w j = 131072 * (measured_most_at w j + w.turnaround + w.residence + measured_jitter_at w j + 1)

pub right_stays : RightStays
right_stays w l phase phase' base i told sent h root right =
    let errors = total_same i (measured_error_at (longer w l)) (measured_error_at w)
    (λ j m. measured_same w l j (omega (arith, h, m))) in
    let rates = sum_same i (steady_rate_at (longer w l)) (steady_rate_at w)
    (λ j m. steady_same w l j (omega (arith, h, m))) in
    let most = total_same i (passing_at (longer w l)) (passing_at w)
    (λ j m. ap
    (λ (k : WayLink). 131072 * (k.most + w.blur + w.turnaround + w.residence + (k.most - k.least + 2 * w.blur) + 1))
    (link_same w l j (omega (arith, h, m)))) in
    let least = right.least in
    let small = right.small in
    record {
      ahead = right.ahead;
      base_is = right.base_is;
      origin = right.origin;
      time = rw (sent_same w l i h, root) right.time;
      least = omega (arith, ints, most, least);
      small = omega (arith, ints, most, small);
      rate = rw (errors, rates) right.rate;
      fits = right.fits;
    }

-- two exchanges over the link at a place
measured_right : (w : Way) (phase : ℕ → ℕ) (i : ℕ) (mine yours : ℕ → ℤ) (rate delay : ℤ) → IsDocumented w →
    i < length w.links → IsReadAt w phase (suc i) mine → IsReadAt w phase i yours →
    (link_at w i).least ≤ (link_at w i).most →
    12 * w.blur ≤ w.interval - (2 * (link_at w i).most + w.turnaround) →
    AreMeasured (link_at w i).least (link_at w i).most w.turnaround w.interval mine yours rate delay →
    IsMeasuredAt w i rate delay
measured_right w phase i mine yours rate delay k h read_mine read_yours order rested a =
    let l = link_at w i in
    let first = a.earlier_carried in
    let is = measurement_is_within w.blur w.behind l.least l.most w.turnaround w.interval
    (ceil_div (2202000000000 * measured_jitter_at w i) w.interval) (phase (suc i)) (phase i) (drift_at w (suc i))
    (drift_at w i) rate delay mine yours (k.drifts (suc i) h)
    (k.drifts i (omega (arith, h))) read_mine read_yours order k.waits k.little k.long
    (ceil_reaches (2202000000000 * measured_jitter_at w i) w.interval (omega (arith, k.long))) a
    (omega (arith, rested, a.apart, a.ended, first.there_short, first.home_short)) in
    let limited = bounded a in
    record {
      limited = limited;
      rate_within = neighbours_are_near (ceil_div (2202000000000 * measured_jitter_at w i) w.interval) rate
          (steady_rate_at w i) limited (steady_is_limited w i) is.rate_within;
      delay_within = is.delay_within;
    }
  where
    bounded : let l = link_at w i in
        AreMeasured l.least l.most w.turnaround w.interval mine yours rate delay → IsNeighborRate rate
    bounded m =
        rw m.rate_is (rate_is_bounded (yours (m.later.heard + w.turnaround) -ℤ yours (m.earlier.heard + w.turnaround))
        (mine m.later.came -ℤ mine m.earlier.came))

-- the same delays and parameters
same_exchanges : (least most most' turnaround turnaround' interval interval' : ℕ) (mine yours : ℕ → ℤ)
    (rate delay : ℤ) → most' ≡ most → turnaround' ≡ turnaround → interval' ≡ interval →
    AreMeasured least most turnaround interval mine yours rate delay →
    AreMeasured least most' turnaround' interval' mine yours rate delay
same_exchanges least most most' turnaround turnaround' interval interval' mine yours rate delay a b c m = rw (a, b, c) m

pub exchanges_measure_right : ExchangesMeasureRight
exchanges_measure_right k w phase i last on h =
    let l = link_at w i in
    let m = h.measured in (
      m,
      h.is,
      measured_right w phase i k.asking_clock k.answering_clock m.rate m.delay on.documented on.on_way on.asking
          on.answering (omega (arith, on.order, on.most)) (omega (arith, on.rested, on.most, on.turnaround))
          (same_exchanges l.least k.most l.most k.turnaround w.turnaround (k.window * k.period) w.interval
          k.asking_clock k.answering_clock m.rate m.delay (sym on.most) (sym on.turnaround) (sym on.interval)
          h.exchanges),
    )
