use Rattle.std.proofs.Common.{◌≡◌, ℕ, zero, suc, ◌*◌, ◌+◌, ◌-◌, ◌/◌, ◌<◌, ◌≤◌, ℤ, pos, negsuc, ◌+ℤ◌, ◌-ℤ◌, ◌*ℤ◌, ◌≤ℤ◌, unsigned_abs, List, length, ap, ◌∙◌, sym, refl, arith}
use Rattle.std.proofs.lemmas.Int.{ints}
use Rattle.std.proofs.Math.Nat.{mul-le-mul_left}
use Rattle.gptp_scaled.specs.Floor.{floor_div}
use Rattle.gptp_scaled.specs.Rate.{FitsRate, IsNeighborRate, unit, scaled_by}
use Rattle.gptp_scaled.specs.Counts.{AreWithin}
use Rattle.gptp_scaled.proofs.CountLemmas.{IsQuotient, quotient_is, gain_is, rate_is_bounded}
use Rattle.gptp_pdelay.specs.Clock.{IsStampClock, local_clock}
use Rattle.gptp_pdelay.specs.GoodLink.{ceil_div}
use Rattle.gptp_pdelay.specs.Measured.{AreMeasured, IsMeasuredWithin}
use Rattle.gptp_pdelay.proofs.MeasurementLemmas.{clock_counts, counts_between, measurement_is_within}
use Rattle.gptp_correction.specs.declared.correction.Hop.{Hop}
use Rattle.gptp_correction.specs.Sum.{sum_below}
use Rattle.gptp_correction.specs.Carry.{added_at, carry_of, hop_at, link_time_at, neighbour_at, rate_at, residence_at, CarryFits}
use Rattle.gptp_correction.proofs.CarryLemmas.{carry_of-last}
use Rattle.gptp_error_laws.specs.TimeError.{Way, clock_at, drift_at, hop_error_at, jitter_at, link_at, measured_jitter_at, measured_most_at, rate_error_at, rates_error_at, steady_rate_at, time_error, time_error_at, total_below, unlike_at, wait_error_at}
use Rattle.gptp_error_laws.specs.HopLaws.{IsOverLink, IsRateBehind, IsRateWithin}
use Rattle.gptp_error_laws.specs.WayLaws.{AreRead, CarryIsWithin, GoesOver, IsDocumented, OffsetOfWayIsWithin, TimeErrorGoesByHops, shown_at}
use Rattle.gptp_error_laws.proofs.HopLemmas.{added_within, received_within}
use Rattle.gptp_error_laws.proofs.CutLemmas.{neighbours_are_near, told_rate_is_within}

-- a quotient rounded up is enough
pub ceil_reaches : (x d : ℕ) → 0 < d → x ≤ ceil_div x d * d
ceil_reaches x d h =
    let q = quotient_is (x + (d - 1)) d h in omega (arith, q.passed, h)

-- a Sync that goes over a way, with all that is known of it
record Carriage : Type 0 where
  way : Way
  hops : List Hop
  phase : ℕ → ℕ
  says : ℕ → ℕ → ℤ
  sent : ℕ → ℕ
  came : ℕ → ℕ
  documented : IsDocumented way
  read : AreRead way phase says
  goes : GoesOver way hops says sent came
  fits : CarryFits (says 0 (sent 0)) hops

-- what is measured on the link at a place
measured_at : (c : Carriage) (i : ℕ) → i < length c.hops → let w = c.way in let l = link_at w i in
    IsMeasuredWithin w.blur l.least l.most w.turnaround (ceil_div (2202000000000 * measured_jitter_at w i) w.interval)
    (clock_at w i) (clock_at w (suc i)) (neighbour_at c.hops i) (hop_at c.hops i).delay
measured_at c i h =
    let w = c.way in
    let l = link_at w i in
    let g = c.goes in
    let k = c.documented in
    let near : i < length w.links = omega (arith, h, g.as_long) in
    measurement_is_within w.blur w.behind l.least l.most w.turnaround w.interval
    (ceil_div (2202000000000 * measured_jitter_at w i) w.interval) (c.phase (suc i)) (c.phase i) (drift_at w (suc i))
    (drift_at w i) (neighbour_at c.hops i) (hop_at c.hops i).delay (c.says (suc i)) (c.says i)
    (k.drifts (suc i) near) (k.drifts i (omega (arith, near))) (c.read (suc i) near) (c.read i (omega (arith, near)))
    (omega (arith, g.carried_long i h, g.carried_short i h)) k.waits k.little k.long
    (ceil_reaches (2202000000000 * measured_jitter_at w i) w.interval (omega (arith, k.long))) (g.measured i h)
    (g.rested i h)

-- and this rate is limited
limited_at : (c : Carriage) (i : ℕ) → i < length c.hops → IsNeighborRate (neighbour_at c.hops i)
limited_at c i h = bounded (c.says (suc i)) (c.says i) (neighbour_at c.hops i) (c.goes.measured i h)
  where
    w : Way
    w = c.way

    bounded : (mine yours : ℕ → ℤ) (rate : ℤ) → let l = link_at w i in
        AreMeasured l.least l.most w.turnaround w.interval mine yours rate (hop_at c.hops i).delay → IsNeighborRate rate
    bounded mine yours rate a =
        rw a.rate_is (rate_is_bounded (yours (a.later.heard + w.turnaround) -ℤ yours (a.earlier.heard + w.turnaround))
        (mine a.later.came -ℤ mine a.earlier.came))

-- so is the one without jitter
pub steady_is_limited : (w : Way) (i : ℕ) → IsNeighborRate (steady_rate_at w i)
steady_is_limited w i = rate_is_bounded (pos (clock_at w i)) (pos (clock_at w (suc i)))

-- the rates so far are nearer to those without jitter than their errors add up to, one unit a link
pub record AreNearer (n total : ℕ) (x y : ℤ) : Type 0 where
  pub low : (y +ℤ pos n) ≤ℤ (x +ℤ pos total)
  pub high : (x +ℤ pos n) ≤ℤ (y +ℤ pos total)

rates_nearer : (c : Carriage) (n : ℕ) → n ≤ length c.hops →
    AreNearer n (total_below n (rate_error_at c.way)) (sum_below n (neighbour_at c.hops))
    (sum_below n (steady_rate_at c.way))
rates_nearer c zero h = record { low = omega (arith, ints); high = omega (arith, ints) }
rates_nearer c (suc n) h =
    let w = c.way in
    let before = rates_nearer c n (omega (arith, h)) in
    let here = neighbours_are_near (ceil_div (2202000000000 * measured_jitter_at w n) w.interval)
    (neighbour_at c.hops n) (steady_rate_at w n) (limited_at c n (omega (arith, h))) (steady_is_limited w n)
    (measured_at c n (omega (arith, h))).rate_within in
    record {
      low = omega (arith, ints, before.low, here.low);
      high = omega (arith, ints, before.high, here.high);
    }

-- the error of the rate before the link at a place
abbrev pub error_before : Way → ℕ → ℕ
error_before w zero = 0
error_before w (suc i) = rates_error_at w i

-- a whole number is so far from 0 as its absolute value
pub record IsSize (z : ℤ) (n : ℕ) : Type 0 where
  pub low : (pos 0 -ℤ pos n) ≤ℤ z
  pub high : z ≤ℤ pos n

pub size_is : (z : ℤ) → IsSize z (unsigned_abs z)
size_is (pos n) = record { low = omega (arith, ints); high = omega (arith, ints) }
size_is (negsuc n) = record { low = omega (arith, ints); high = omega (arith, ints) }

-- the rate of a quotient
pub rate_near : (root own rate quotient e : ℕ) → IsQuotient (root * 2199023255552) own quotient →
    rate + 1 ≤ quotient + e → quotient + 1 ≤ rate + e → IsRateWithin e root own rate
rate_near root own rate quotient e q high low =
    let a : own * (rate + 1) ≤ own * (quotient + e) = mul-le-mul_left own high in
    let b : own * (quotient + 1) ≤ own * (rate + e) = mul-le-mul_left own low in
    record { low = omega (arith, q.passed, b); high = omega (arith, q.reached, a) }

-- The rate so far, where it has 32 bits and is so near to that without jitter, is within its error as a natural number.
pub rate_so_far : (w : Way) → IsDocumented w → (n : ℕ) → n ≤ length w.links → (sum : ℤ)
    → AreNearer n (total_below n (rate_error_at w)) sum (sum_below n (steady_rate_at w)) → FitsRate sum → (rate : ℕ)
    → unit +ℤ sum ≡ pos rate → IsRateWithin (error_before w n) (clock_at w 0) (clock_at w n) rate
rate_so_far w k zero h sum near fits rate e =
    let f : rate ≡ 2199023255552 = omega (arith, ints, e, near.low, near.high) in
    rw f (record { low = omega arith; high = omega arith })
rate_so_far w k (suc n) h sum near fits rate e =
    let root = clock_at w 0 in
    let own = clock_at w (suc n) in
    let root_rate = clock_counts.rate (drift_at w 0) (k.drifts 0 (omega arith)) in
    let own_rate = clock_counts.rate (drift_at w (suc n)) (k.drifts (suc n) h) in
    let some : 0 < own = omega (arith, own_rate.low) in
    let quotient = root * 2199023255552 / own in
    let q = quotient_is (root * 2199023255552) own some in
    let gain = gain_is root own quotient some q in
    let unlike =
    size_is (sum_below (suc n) (steady_rate_at w) -ℤ floor_div ((pos root -ℤ pos own) *ℤ unit) (pos own)) in
    let error = total_below (suc n) (rate_error_at w) + unlike_at w n in
    told_rate_is_within error root own rate root_rate own_rate (omega (arith, ints, e, fits))
    (omega (arith, ints, e, fits))
    (rate_near root own rate quotient error q (omega (arith, ints, e, gain, near.high, unlike.high))
    (omega (arith, ints, e, gain, near.low, unlike.low)))

-- the rate before the link at a place has 32 bits
rate_fits : (hops : List Hop) (origin : ℤ) → CarryFits origin hops → (n : ℕ) → n < length hops →
    FitsRate (sum_below n (neighbour_at hops))
rate_fits hops origin f zero h = omega (arith, ints)
rate_fits hops origin f (suc n) h = (f.bridges n h).rate

-- a rate of 32 bits as a natural number
pub natural : (z : ℤ) → pos 0 ≤ℤ z → (n : ℕ) × (z ≡ pos n)
natural (pos n) h = (n, refl)
natural (negsuc n) h = absurd (omega (arith, ints, h))

-- what is known of the hop at a place
over_link : (c : Carriage) (n : ℕ) → n < length c.hops → let w = c.way in let l = link_at w n in
    IsOverLink w.blur l.least l.most w.turnaround (clock_at w 0) (clock_at w n) (error_before w n)
    (sum_below n (neighbour_at c.hops)) (neighbour_at c.hops n) (hop_at c.hops n).delay
over_link c n h =
    let w = c.way in
    let g = c.goes in
    let measured = measured_at c n h in
    let fits = rate_fits c.hops (c.says 0 (c.sent 0)) c.fits n h in
    let (rate, e) = natural (unit +ℤ sum_below n (neighbour_at c.hops)) (omega (arith, ints, fits)) in
    let near : n ≤ length w.links = omega (arith, h, g.as_long) in
    record {
      order = omega (arith, g.carried_long n h, g.carried_short n h);
      root_rate = clock_counts.rate (drift_at w 0) (c.documented.drifts 0 (omega arith));
      up_rate = clock_counts.rate (drift_at w n) (c.documented.drifts n near);
      before = rate;
      before_is = e;
      within = rate_so_far w c.documented n near (sum_below n (neighbour_at c.hops))
          (rates_nearer c n (omega (arith, h))) fits rate e;
      fits = fits;
      near = limited_at c n h;
      measured = measured.delay_within;
    }

-- and of the rate after it, where a bridge is there
rate_behind : (c : Carriage) (n : ℕ) → suc n < length c.hops → let w = c.way in
    IsRateBehind (clock_at w 0) (clock_at w (suc n)) (rates_error_at w n)
    (sum_below n (neighbour_at c.hops) +ℤ neighbour_at c.hops n)
rate_behind c n h =
    let fits = rate_fits c.hops (c.says 0 (c.sent 0)) c.fits (suc n) h in
    let (rate, e) = natural (unit +ℤ sum_below (suc n) (neighbour_at c.hops)) (omega (arith, ints, fits)) in
    record {
      after = rate;
      after_is = e;
      within = rate_so_far c.way c.documented (suc n) (omega (arith, h, c.goes.as_long))
          (sum_below (suc n) (neighbour_at c.hops)) (rates_nearer c (suc n) (omega (arith, h))) fits rate e;
    }

-- the error of the time at the egress to the link at a place, in parts of 33550000 to a unit: what is read there is off
-- by half of the blur
abbrev pub error_sent : Way → ℕ → ℕ
error_sent w zero = 33550000 * (32768 * w.blur)
error_sent w (suc i) =
    33550000 * (total_below (suc i) (hop_error_at w) + total_below i (wait_error_at w) + 32768 * w.blur)
    + rates_error_at w i * (w.residence + measured_jitter_at w i)

-- the part of a wait that the link after it takes
wait_is : (w : Way) (i : ℕ) →
    rates_error_at w i * (w.residence + measured_jitter_at w i) + rates_error_at w i * measured_most_at w (suc i) ≤
    33550000 * wait_error_at w i
wait_is w i =
    let c = ceil_reaches ((w.residence + measured_jitter_at w i + measured_most_at w (suc i)) * rates_error_at w i)
    33550000 (omega arith) in
    omega (arith, c)

-- a link's part has room for what is read at the egress
reading_fits : (w : Way) (i : ℕ) → 32768 * w.blur ≤ hop_error_at w i
reading_fits w i = omega arith

-- the error at the end of a link
pub link_grows : (w : Way) (n : ℕ) →
    error_sent w n + (33550000 * (hop_error_at w n - 32768 * w.blur) + error_before w n * measured_most_at w n) ≤
    33550000 * (total_below (suc n) (hop_error_at w) + total_below n (wait_error_at w))
link_grows w zero = omega (arith, reading_fits w 0)
link_grows w (suc i) = omega (arith, wait_is w i, reading_fits w (suc i))

-- and at the end of the stay after it
pub stay_grows : (w : Way) (n stay : ℕ) → stay ≤ w.residence + jitter_at w n →
    error_sent w n + (33550000 * hop_error_at w n + error_before w n * measured_most_at w n
    + rates_error_at w n * (stay + w.blur)) ≤
    error_sent w (suc n)
stay_grows w n stay h =
    let a : rates_error_at w n * (stay + w.blur) ≤ rates_error_at w n * (w.residence + measured_jitter_at w n) =
    mul-le-mul_left (rates_error_at w n) (omega (arith, h)) in
    omega (arith, a, link_grows w n, reading_fits w n)

-- errors add up
pub adds : (m n total : ℕ) (origin sum added before after : ℤ) (passed : ℕ) → m + n ≤ total →
    after -ℤ before ≡ pos passed →
    AreWithin m (pos 33550000 *ℤ (origin +ℤ sum)) (pos 33550000 *ℤ before) →
    AreWithin n (pos 33550000 *ℤ added) (pos (33550000 * passed)) →
    AreWithin total (pos 33550000 *ℤ (origin +ℤ (sum +ℤ added))) (pos 33550000 *ℤ after)
adds m n total origin sum added before after passed h e a b =
    record { low = omega (arith, ints, h, e, a.low, b.low); high = omega (arith, ints, h, e, a.high, b.high) }

-- what two readings of a clock are off together, in between it counts so much
pub off_within : (w behind phase : ℕ) (drift : ℤ) (says : ℕ → ℤ) → IsStampClock w behind phase drift says →
    (from to count : ℕ) → local_clock phase drift to -ℤ local_clock phase drift from ≡ pos count →
    AreWithin (65536 * w) (says to -ℤ says from -ℤ pos count) (pos 0)
off_within w behind phase drift says clock from to count is =
    let first = clock.near from in
    let last = clock.near to in
    record {
      low = omega (arith, ints, first.high, last.low, is);
      high = omega (arith, ints, first.low, last.high, is);
    }

-- the time at each egress is within its error of the root's clock
egress_within : (c : Carriage) (n : ℕ) → n < length c.hops → let w = c.way in
    AreWithin (error_sent w n) (pos 33550000 *ℤ (c.says 0 (c.sent 0) +ℤ sum_below n (added_at c.hops)))
    (pos 33550000 *ℤ (shown_at w c.phase 0 (c.sent n) -ℤ pos w.behind))
egress_within c zero h =
    let near = (c.read 0 (omega arith)).near (c.sent 0) in
    record { low = omega (arith, ints, near.low); high = omega (arith, ints, near.high) }
egress_within c (suc n) h =
    let w = c.way in
    let g = c.goes in
    let k = c.documented in
    let origin = c.says 0 (c.sent 0) in
    let near : n < length c.hops = omega (arith, h) in
    let before = egress_within c n near in
    let l = link_at w n in
    let delay = c.came n - c.sent n in
    let stay = c.sent (suc n) - c.came n in
    let long = g.carried_long n near in
    let kept = g.kept_long n h in
    let there : suc n ≤ length w.links = omega (arith, h, g.as_long) in
    let drifts = k.drifts (suc n) there in
    let count = counts_between (c.phase (suc n)) (drift_at w (suc n)) (c.came n) (c.sent (suc n)) drifts kept in
    let passed = counts_between (c.phase 0) (drift_at w 0) (c.sent n) (c.sent (suc n)) (k.drifts 0 (omega arith))
    (omega (arith, long, kept)) in
    let parts : c.sent (suc n) - c.sent n ≡ delay + stay = omega (arith, long, kept) in
    let off = c.says (suc n) (c.sent (suc n)) -ℤ c.says (suc n) (c.came n) -ℤ pos count.count in
    let time : residence_at c.hops n ≡ pos count.count +ℤ off =
    omega (arith, ints, g.ingress n h, g.egress n h) in
    let added =
    added_within w.blur l.least l.most w.turnaround (clock_at w 0) (clock_at w n) (clock_at w (suc n))
    (error_before w n) (rates_error_at w n) delay stay count.count passed.count off (sum_below n (neighbour_at c.hops))
    (neighbour_at c.hops n) (hop_at c.hops n).delay (link_time_at c.hops n +ℤ residence_at c.hops n)
    (over_link c n near) (rate_behind c n h) (clock_counts.rate (drift_at w (suc n)) drifts) (omega (arith, long))
    (omega (arith, g.carried_short n near)) count.counted
    (off_within w.blur w.behind (c.phase (suc n)) (drift_at w (suc n)) (c.says (suc n)) (c.read (suc n) there)
    (c.came n) (c.sent (suc n)) count.count count.is)
    (omega (arith, ints, time)) (rw parts at passed.counted) in
    adds (error_sent w n) _ (error_sent w (suc n)) origin (sum_below n (added_at c.hops)) (added_at c.hops n)
    (shown_at w c.phase 0 (c.sent n) -ℤ pos w.behind) (shown_at w c.phase 0 (c.sent (suc n)) -ℤ pos w.behind)
    passed.count (omega (arith, stay_grows w n stay (omega (arith, g.kept_short n h, kept))))
    (omega (arith, ints, passed.is)) before added

-- the time error after a link
pub error_behind : (w : Way) (i : ℕ) →
    time_error_at w (suc i) ≡ total_below (suc i) (hop_error_at w) + total_below i (wait_error_at w)
error_behind w i =
    let p : suc i - 1 ≡ i =
    omega arith in ap (λ n. total_below (suc i) (hop_error_at w) + total_below n (wait_error_at w)) p

pub time_error_goes_by_hops : TimeErrorGoesByHops
time_error_goes_by_hops =
    record {
      root = λ w. refl;
      first = λ w. omega (arith, error_behind w 0);
      next = λ w i. omega (arith, error_behind w (suc i), error_behind w i);
    }

-- the time error of a way that isn't empty
time_error_is : (w : Way) (last : ℕ) → length w.links ≡ suc last →
    time_error w ≡ total_below (suc last) (hop_error_at w) + total_below last (wait_error_at w)
time_error_is w last e =
    ap (time_error_at w) e ∙ error_behind w last

-- the time that was carried, what the last clock counts from there to a moment, and at most half of the blur, is the
-- root's time then
arrives : (c : Carriage) (last now : ℕ) (off : ℤ) → length c.hops ≡ suc last → c.came last ≤ now →
    now ≤ c.came last + jitter_at c.way last → AreWithin (32768 * c.way.blur) off (pos 0) → let w = c.way in
    AreWithin (33550000 * time_error w) (pos 33550000 *ℤ (carry_of (c.says 0 (c.sent 0)) c.hops +ℤ
    (shown_at w c.phase (suc last) now -ℤ shown_at w c.phase (suc last) (c.came last)) +ℤ off))
    (pos 33550000 *ℤ (shown_at w c.phase 0 now -ℤ pos w.behind))
arrives c last now off e later soon near_off =
    let w = c.way in
    let g = c.goes in
    let k = c.documented in
    let origin = c.says 0 (c.sent 0) in
    let near : last < length c.hops = omega (arith, e) in
    let before = egress_within c last near in
    let l = link_at w last in
    let delay = c.came last - c.sent last in
    let wait = now - c.came last in
    let long = g.carried_long last near in
    let there : suc last ≤ length w.links = omega (arith, e, g.as_long) in
    let drifts = k.drifts (suc last) there in
    let count = counts_between (c.phase (suc last)) (drift_at w (suc last)) (c.came last) now drifts later in
    let passed = counts_between (c.phase 0) (drift_at w 0) (c.sent last) now (k.drifts 0 (omega arith))
    (omega (arith, long, later)) in
    let parts : now - c.sent last ≡ delay + wait = omega (arith, long, later) in
    let within = received_within w.blur l.least l.most w.turnaround (clock_at w 0) (clock_at w last)
    (clock_at w (suc last)) (error_before w last) delay wait count.count passed.count off
    (sum_below last (neighbour_at c.hops)) (neighbour_at c.hops last) (hop_at c.hops last).delay (over_link c last near)
    (clock_counts.rate (drift_at w (suc last)) drifts) (omega (arith, long)) (omega (arith, g.carried_short last near))
    (omega (arith, soon)) count.counted near_off (rw parts at passed.counted) in
    let total = time_error_is w last (sym g.as_long ∙ e) in
    let received = scaled_by (rate_at c.hops last) (link_time_at c.hops last) in
    let sum = adds (error_sent w last) _ (33550000 * time_error w) origin (sum_below last (added_at c.hops))
    (received +ℤ pos count.count +ℤ off) (shown_at w c.phase 0 (c.sent last) -ℤ pos w.behind)
    (shown_at w c.phase 0 now -ℤ pos w.behind) passed.count (omega (arith, total, link_grows w last))
    (omega (arith, ints, passed.is)) before within in
    let whole = carry_of-last origin c.hops last e in
    record {
      low = omega (arith, ints, sum.low, whole, count.is);
      high = omega (arith, ints, sum.high, whole, count.is);
    }

abbrev carriage : (w : Way) (hops : List Hop) (phase : ℕ → ℕ) (says : ℕ → ℕ → ℤ) (sent came : ℕ → ℕ) →
    IsDocumented w → AreRead w phase says → GoesOver w hops says sent came → CarryFits (says 0 (sent 0)) hops →
    Carriage
carriage w hops phase says sent came k read g f = record {
  way = w;
  hops = hops;
  phase = phase;
  says = says;
  sent = sent;
  came = came;
  documented = k;
  read = read;
  goes = g;
  fits = f;
}

-- over the whole way
pub carry_is_within : CarryIsWithin
carry_is_within w hops phase says sent came last e k read g f =
    let a = arrives (carriage w hops phase says sent came k read g f) last (came last) (pos 0) e (omega arith)
    (omega arith) (record { low = omega (arith, ints); high = omega (arith, ints) }) in
    record { low = omega (arith, ints, a.low); high = omega (arith, ints, a.high) }

-- and to the Follow_Up
pub offset_of_way_is_within : OffsetOfWayIsWithin
offset_of_way_is_within w hops phase says sent came last now e k read g f later soon =
    let arrived = (read (suc last) (omega (arith, e, g.as_long))).near (came last) in
    let off = shown_at w phase (suc last) (came last) -ℤ pos w.behind -ℤ says (suc last) (came last) in
    let a = arrives (carriage w hops phase says sent came k read g f) last now off e later soon
    (record { low = omega (arith, ints, arrived.high); high = omega (arith, ints, arrived.low) }) in
    record { low = omega (arith, ints, a.high); high = omega (arith, ints, a.low) }
