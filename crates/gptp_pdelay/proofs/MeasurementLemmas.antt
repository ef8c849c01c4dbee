use Rattle.std.proofs.Common.{◌≡◌, ℕ, ◌*◌, ◌+◌, ◌-◌, ◌≤◌, ℤ, pos, negsuc, ◌+ℤ◌, ◌-ℤ◌, ◌*ℤ◌, ◌≤ℤ◌, unsigned_abs, ap, ◌∙◌, sym, refl, arith}
use Rattle.std.proofs.lemmas.Int.{ints}
use Rattle.gptp_scaled.specs.Rate.{unit, rate_of}
use Rattle.gptp_scaled.specs.Counts.{DifferBy, IsClockRate, IsStamped}
use Rattle.gptp_scaled.proofs.FloorLemmas.{floor_is}
use Rattle.std.proofs.Math.Nat.{mul-le-mul_left}
use Rattle.gptp_pdelay.specs.Clock.{IsDrift, IsStampClock, local_clock}
use Rattle.gptp_pdelay.specs.Late.{AreLate}
use Rattle.gptp_pdelay.specs.Measured.{ClockCounts, Counts, clock_rate, AreExchangeSpans, IsReadExchange, MeasurementIsWithin, RestIsLong}
use Rattle.gptp_pdelay.specs.Exchange.{mean_delay}
use Rattle.gptp_scaled.proofs.ProductLemmas.{distribute}
use Rattle.gptp_scaled.proofs.CountLemmas.{measured_within}
use Rattle.gptp_pdelay.proofs.DelayLemmas.{delay_is_within}
use Rattle.gptp_pdelay.proofs.ClockLemmas.{clock_elapses, clock_is_read, spans}

-- the rate of a clock as a whole number
pub clock_rate_is : (drift : ℤ) → IsDrift drift → pos (clock_rate drift) ≡ unit +ℤ drift
clock_rate_is drift d = not_negative (unit +ℤ drift) (omega (arith, ints, d.low))
  where
    not_negative : (z : ℤ) → pos 0 ≤ℤ z → pos (unsigned_abs z) ≡ z
    not_negative (pos n) h = refl
    not_negative (negsuc n) h = absurd (omega (arith, ints, h))

rate_is : (drift : ℤ) → IsDrift drift → IsClockRate (clock_rate drift)
rate_is drift d =
    let e = clock_rate_is drift d in
    record { low = omega (arith, ints, e, d.low); high = omega (arith, ints, e, d.high) }

-- a whole number at least 0
as_count : (z : ℤ) → pos 0 ≤ℤ z → (n : ℕ) × (z ≡ pos n)
as_count (pos n) h = (n, refl)
as_count (negsuc n) h = absurd (omega (arith, ints, h))

counts : (phase : ℕ) (drift : ℤ) (t span : ℕ) → IsDrift drift →
    Counts (clock_rate drift) span (local_clock phase drift (t + span) -ℤ local_clock phase drift t)
counts phase drift t span d =
    let elapsed = local_clock phase drift (t + span) -ℤ local_clock phase drift t in
    let e = clock_rate_is drift d in
    let before = floor_is (pos (65536 * t) *ℤ drift) unit (omega (arith, ints)) in
    let after = floor_is (pos (65536 * (t + span)) *ℤ drift) unit (omega (arith, ints)) in
    let times : 65536 * (t + span) ≡ 65536 * t + 65536 * span = omega arith in
    let parts = ap (λ n. pos n *ℤ drift) times ∙ spans (65536 * t) (65536 * span) drift in
    let whole : pos (65536 * span) *ℤ (unit +ℤ drift) ≡ pos (65536 * span * clock_rate drift) =
    rw (sym e) (omega (arith, ints)) in
    let sum = distribute (pos (65536 * span)) unit drift in
    let low : pos (65536 * span * clock_rate drift) ≤ℤ (unit *ℤ (elapsed +ℤ pos 1)) =
    omega (arith, ints, before.reached, after.passed, parts, whole, sum) in
    let high : (unit *ℤ elapsed) ≤ℤ (pos (65536 * span * clock_rate drift) +ℤ unit) =
    omega (arith, ints, before.passed, after.reached, parts, whole, sum) in
    let slow = clock_elapses 0 0 phase drift (local_clock phase drift) t span d
    (clock_is_read 0 0 phase drift (omega arith)) in
    let (n, is) = as_count elapsed (omega (arith, ints, slow.low)) in
    record {
      count = n;
      is = is;
      counted = record { low = omega (arith, ints, low, is); high = omega (arith, ints, high, is) };
    }

pub clock_counts : ClockCounts
clock_counts = record { rate = rate_is; counts = counts }

-- what passes on a clock from one moment to a later one
pub counts_between : (phase : ℕ) (drift : ℤ) (from to : ℕ) → IsDrift drift → from ≤ to →
    Counts (clock_rate drift) (to - from) (local_clock phase drift to -ℤ local_clock phase drift from)
counts_between phase drift from to d h =
    let e : from + (to - from) ≡ to = omega (arith, h) in rw e at (counts phase drift from (to - from) d)

-- how late a reading is, by the clock that is half of w more behind
record IsLate (w behind phase : ℕ) (drift : ℤ) (says : ℕ → ℤ) (t : ℕ) : Type 0 where
  late : ℕ
  is : says t +ℤ pos (behind + 32768 * w) ≡ local_clock phase drift t +ℤ pos late
  short : late ≤ 65536 * w

late_of : (w behind phase : ℕ) (drift : ℤ) (says : ℕ → ℤ) → IsStampClock w behind phase drift says → (t : ℕ) →
    IsLate w behind phase drift says t
late_of w behind phase drift says c t =
    let n = c.near t in
    let (late, is) = as_count (says t +ℤ pos (behind + 32768 * w) -ℤ local_clock phase drift t)
    (omega (arith, ints, n.low)) in
    record { late = late; is = omega (arith, ints, is); short = omega (arith, ints, is, n.high) }

-- two readings differ by what passed, but for what they are late
differ : (says says' shown shown' : ℤ) (k late late' count : ℕ) → says +ℤ pos k ≡ shown +ℤ pos late →
    says' +ℤ pos k ≡ shown' +ℤ pos late' → shown' -ℤ shown ≡ pos count →
    says' -ℤ says +ℤ pos late ≡ pos (count + late')
differ says says' shown shown' k late late' count a b c = omega (arith, ints, a, b, c)

pub measurement_is_within : MeasurementIsWithin
measurement_is_within w behind least most turnaround interval m phase phase' drift drift' rate delay mine yours d d'
    my_clock your_clock order some little long enough a rested =
    let first = a.earlier_carried in
    let second = a.later_carried in
    let whole = a.later.came - a.later.asked in
    let arrivals = a.later.came - a.earlier.came in
    let sendings = a.later.heard + turnaround - (a.earlier.heard + turnaround) in
    let answer = a.later.heard + turnaround - a.later.heard in
    let s : AreExchangeSpans least most turnaround whole arrivals sendings =
    record {
      there = a.later.heard - a.later.asked;
      home = a.later.came - (a.later.heard + turnaround);
      before = a.earlier.came - (a.earlier.heard + turnaround);
      gap = a.later.asked - a.earlier.came;
      there_long = omega (arith, second.there_long);
      there_short = omega (arith, second.there_short);
      home_long = omega (arith, second.home_long);
      home_short = omega (arith, second.home_short);
      before_long = omega (arith, first.home_long);
      before_short = omega (arith, first.home_short);
      whole_is = omega (arith, second.there_long, second.home_long);
      arrivals_is = omega (arith, a.ended, second.there_long, second.home_long);
      sendings_is = omega (arith, a.ended, second.there_long, second.home_long, first.home_long);
    } in
    let room : whole + 12 * w ≤ arrivals =
    omega (arith, rested, a.ended, second.there_long, second.home_long) in
    let e3 = counts_between phase' drift' (a.earlier.heard + turnaround) (a.later.heard + turnaround) d'
    (omega (arith, a.ended, second.there_long, first.home_long)) in
    let e4 = counts_between phase drift a.earlier.came a.later.came d
    (omega (arith, a.ended, second.there_long, second.home_long)) in
    let y =
    counts_between phase drift a.later.asked a.later.came d (omega (arith, second.there_long, second.home_long)) in
    let z = counts_between phase' drift' a.later.heard (a.later.heard + turnaround) d' (omega arith) in
    let turned : answer ≡ turnaround = omega arith in
    let theirs = clock_counts.rate drift' d' in
    let own_rate = clock_counts.rate drift d in
    let asked = late_of w behind phase drift mine my_clock a.later.asked in
    let came = late_of w behind phase drift mine my_clock a.later.came in
    let came_before = late_of w behind phase drift mine my_clock a.earlier.came in
    let heard = late_of w behind phase' drift' yours your_clock a.later.heard in
    let sent = late_of w behind phase' drift' yours your_clock (a.later.heard + turnaround) in
    let sent_before = late_of w behind phase' drift' yours your_clock (a.earlier.heard + turnaround) in
    -- what passed since the exchange before is more than what is read late
    let sends : 12 * w ≤ sendings = omega (arith, rested, first.home_long, second.there_long, a.ended) in
    let k : clock_rate drift * (whole + 12 * w) ≤ clock_rate drift * arrivals =
    mul-le-mul_left (clock_rate drift) room in
    let k' : clock_rate drift' * (12 * w) ≤ clock_rate drift' * sendings =
    mul-le-mul_left (clock_rate drift') sends in
    let v : w * 2199023255552 ≤ w * (clock_rate drift + 219902325) =
    mul-le-mul_left w (omega (arith, own_rate.low)) in
    let v' : w * 2199023255552 ≤ w * (clock_rate drift' + 219902325) =
    mul-le-mul_left w (omega (arith, theirs.low)) in
    let many : 65536 * w ≤ e4.count = omega (arith, k, v, e4.counted.low) in
    let many' : 65536 * w ≤ e3.count = omega (arith, k', v', e3.counted.low) in
    let (n4, is4) = as_count (mine a.later.came -ℤ mine a.earlier.came)
    (omega (arith, ints, came.is, came_before.is, e4.is, came_before.short, many)) in
    let (n3, is3) = as_count (yours (a.later.heard + turnaround) -ℤ yours (a.earlier.heard + turnaround))
    (omega (arith, ints, sent.is, sent_before.is, e3.is, sent_before.short, many')) in
    let four : n4 + came_before.late ≡ e4.count + came.late =
    omega (arith, ints, is4, came.is, came_before.is, e4.is) in
    let three : n3 + sent_before.late ≡ e3.count + sent.late =
    omega (arith, ints, is3, sent.is, sent_before.is, e3.is) in
    let late : AreLate (65536 * w) e4.count e3.count n3 n4 =
    record {
      came_before = came_before.late;
      asked = asked.late;
      came = came.late;
      sent_before = sent_before.late;
      heard = heard.late;
      sent = sent.late;
      asked_late = asked.short;
      came_late = came.short;
      came_before_late = came_before.short;
      sent_before_late = sent_before.short;
      heard_late = heard.short;
      sent_late = sent.short;
      e4_is = four;
      e3_is = three;
    } in
    let own_stamped : IsStamped (65536 * w + 1) (clock_rate drift) arrivals n4 =
    record {
      low = omega (arith, e4.counted.low, four, came_before.short);
      high = omega (arith, e4.counted.high, four, came.short);
    } in
    let their_stamped : IsStamped (65536 * w + 1) (clock_rate drift') sendings n3 =
    record {
      low = omega (arith, e3.counted.low, three, sent_before.short);
      high = omega (arith, e3.counted.high, three, sent.short);
    } in
    let spans : DifferBy (most - least) sendings arrivals =
    record {
      low = omega (arith, s.sendings_is, s.before_short, s.home_long, order);
      high = omega (arith, s.sendings_is, s.before_long, s.home_short, order);
    } in
    let apart : interval ≤ arrivals + 2 * (most - least) =
    omega (arith, order, a.apart, a.ended, first.there_short, first.home_short, second.there_long, second.home_long) in
    let near = measured_within w (most - least) interval sendings arrivals (clock_rate drift') (clock_rate drift)
    n3 n4 m theirs own_rate their_stamped own_stamped spans little long apart enough in
    let measured : rate ≡ rate_of (pos n3) (pos n4) = a.rate_is ∙ same_rate is3 is4 in
    let own_time = mine a.later.came -ℤ mine a.later.asked in
    let their_time = yours (a.later.heard + turnaround) -ℤ yours a.later.heard in
    let x : IsReadExchange w turnaround whole arrivals sendings (clock_rate drift') (clock_rate drift) n3 n4 own_time
    their_time =
    record {
      own_all = e4.count;
      own_whole = y.count;
      up_all = e3.count;
      up_wait = z.count;
      all_counted = e4.counted;
      whole_counted = y.counted;
      sent_counted = e3.counted;
      wait_counted = rw turned at z.counted;
      late = late;
      y_is = differ _ _ _ _ (behind + 32768 * w) asked.late came.late y.count asked.is came.is y.is;
      z_is = differ _ _ _ _ (behind + 32768 * w) heard.late sent.late z.count heard.is sent.is z.is;
    } in
    let within = delay_is_within w least most turnaround whole arrivals sendings (clock_rate drift') (clock_rate drift)
    n3 n4 own_time their_time theirs own_rate little some s room x in
    let same : delay ≡ mean_delay (rate_of (pos n3) (pos n4)) own_time their_time =
    a.delay_is ∙ same_delay own_time their_time measured in
    record { rate_within = rw measured near; delay_within = rw same within }
  where
    same_rate : {a b c d : ℤ} → a ≡ b → c ≡ d → rate_of a c ≡ rate_of b d
    same_rate {b = b} {c = c} e f = ap (λ v. rate_of v c) e ∙ ap (rate_of b) f

    same_delay : {q r : ℤ} (y z : ℤ) → q ≡ r → mean_delay q y z ≡ mean_delay r y z
    same_delay y z e = ap (λ v. mean_delay v y z) e

pub rest_is_long : RestIsLong
rest_is_long w most turnaround threshold period good timed long little = omega (arith, good, timed, long, little)
