use Rattle.std.proofs.Common.{Bool, true, false, int_lt, if◌then◌else◌, rules, ◌≡◌, ◌⊎◌, inl, inr, ℕ, zero, suc, ◌*◌, ◌+◌, ◌/◌, ◌%◌, ◌<◌, ◌≤◌, ◌^◌, ℤ, pos, neg_ℤ, ◌+ℤ◌, ◌-ℤ◌, ◌*ℤ◌, ap, ◌∙◌, sym, arith}
use Rattle.std.proofs.lemmas.Bool.{cases_lt}
use Rattle.std.proofs.lemmas.Int.{ints, clamps}
use Rattle.std.proofs.lemmas.Nat.{div-add-mod', mod_below}
use Rattle.std.proofs.Math.Nat.{mul-le-mul_left}
use Rattle.gptp_scaled.specs.Floor.{IsFloor, floor_div}
use Rattle.gptp_scaled.specs.Rate.{IsNeighborRate, unit, clamped, rate_of}
use Rattle.gptp_scaled.specs.Counts.{AreWithin, IsClockRate, IsStamped, DifferBy, RateIsWithin, MeasuredWithin}
use Rattle.gptp_scaled.proofs.ProductLemmas.{distribute}
use Rattle.gptp_scaled.proofs.FloorLemmas.{floor_only}

-- a natural number is a quotient rounded down
pub record IsQuotient (x d q : ℕ) : Type 0 where
  pub reached : q * d ≤ x
  pub passed : x < (q + 1) * d

pub quotient_is : (x d : ℕ) → 0 < d → IsQuotient x d (x / d)
quotient_is x d h =
    let e = div-add-mod' x d in
    let m : x % d < d = mod_below x d h in
    record { reached = omega arith; passed = omega arith }

-- the measured quotient is at most that of the rates and m
rate_high : (blur jitter span span' up own e3 e4 m f g : ℕ) → IsStamped blur up span e3 → IsStamped blur own span' e4 →
    DifferBy jitter span span' → 0 < own → 0 < e4 →
    65536 * jitter * own * up + 2199023255552 * blur * (up + own) ≤ m * own * e4 →
    IsQuotient (e3 * 2199023255552) e4 f → IsQuotient (up * 2199023255552) own g → f < g + m + 1
rate_high blur jitter span span' up own e3 e4 m f g theirs mine near p some room i j =
    go (cases_lt f (g + m + 1))
  where
    go : (f < g + m + 1) ⊎ (g + m + 1 ≤ f) → f < g + m + 1
    go (inl h) = h
    go (inr h) =
        let c0 : own * e4 * (g + m + 1) ≤ own * e4 * f = mul-le-mul_left (own * e4) h in
        let c1 : own * (f * e4) ≤ own * (e3 * 2199023255552) = mul-le-mul_left own i.reached in
        let c2 : e4 * (up * 2199023255552 + 1) ≤ e4 * ((g + 1) * own) =
        mul-le-mul_left e4 (omega (arith, j.passed)) in
        let c3 : own * (2199023255552 * e3) ≤ own * (65536 * span * up + 2199023255552 * blur) =
        mul-le-mul_left own (omega (arith, theirs.high)) in
        let c4 : up * (65536 * span' * own) ≤ up * (2199023255552 * (e4 + blur)) =
        mul-le-mul_left up (omega (arith, mine.low)) in
        let c5 : own * up * span ≤ own * up * (span' + jitter) = mul-le-mul_left (own * up) near.low in
        omega (arith, c0, c1, c2, c3, c4, c5, room, some)

-- and at least that of the rates less m
rate_low : (blur jitter span span' up own e3 e4 m f g : ℕ) → IsStamped blur up span e3 → IsStamped blur own span' e4 →
    DifferBy jitter span span' → 0 < own → 0 < e4 →
    65536 * jitter * own * up + 2199023255552 * blur * (up + own) ≤ m * own * e4 →
    IsQuotient (e3 * 2199023255552) e4 f → IsQuotient (up * 2199023255552) own g → g < f + m + 1
rate_low blur jitter span span' up own e3 e4 m f g theirs mine near p some room i j =
    go (cases_lt g (f + m + 1))
  where
    go : (g < f + m + 1) ⊎ (f + m + 1 ≤ g) → g < f + m + 1
    go (inl h) = h
    go (inr h) =
        let c0 : own * e4 * (f + m + 1) ≤ own * e4 * g = mul-le-mul_left (own * e4) h in
        let c1 : own * (e3 * 2199023255552 + 1) ≤ own * ((f + 1) * e4) =
        mul-le-mul_left own (omega (arith, i.passed)) in
        let c2 : e4 * (g * own) ≤ e4 * (up * 2199023255552) = mul-le-mul_left e4 j.reached in
        let c3 : own * (65536 * span * up) ≤ own * (2199023255552 * (e3 + blur)) =
        mul-le-mul_left own (omega (arith, theirs.low)) in
        let c4 : up * (2199023255552 * e4) ≤ up * (65536 * span' * own + 2199023255552 * blur) =
        mul-le-mul_left up (omega (arith, mine.high)) in
        let c5 : own * up * span' ≤ own * up * (span + jitter) = mul-le-mul_left (own * up) near.high in
        omega (arith, c0, c1, c2, c3, c4, c5, room, p)

-- m own e4 isn't 0, so e4 isn't
counts_some : (blur jitter up own e4 m : ℕ) → 0 < blur → 0 < own →
    65536 * jitter * own * up + 2199023255552 * blur * (up + own) ≤ m * own * e4 → 0 < e4
counts_some blur jitter up own zero m h p room =
    let a : own * 1 ≤ own * blur = mul-le-mul_left own (omega (arith, h)) in absurd (omega (arith, room, a, p))
counts_some blur jitter up own (suc n) m h p room = omega arith

-- the quotients are within m
pub rate_is_within : RateIsWithin
rate_is_within blur jitter span span' up own e3 e4 m theirs mine near some p room =
    let many = counts_some blur jitter up own e4 m some p (omega (arith, room)) in
    let i = quotient_is (e3 * 2 ^ 41) e4 many in
    let j = quotient_is (up * 2 ^ 41) own p in
    let high = rate_high blur jitter span span' up own e3 e4 m (e3 * 2 ^ 41 / e4) (up * 2 ^ 41 / own) theirs mine near p
    many (omega (arith, room)) i j in
    let low = rate_low blur jitter span span' up own e3 e4 m (e3 * 2 ^ 41 / e4) (up * 2 ^ 41 / own) theirs mine near p
    many (omega (arith, room)) i j in
    record { low = omega (arith, ints, low); high = omega (arith, ints, high) }

-- what a count gains on another, by the other, is their quotient less 1
pub gain_is : (e3 e4 f : ℕ) → 0 < e4 → IsQuotient (e3 * 2199023255552) e4 f →
    floor_div ((pos e3 -ℤ pos e4) *ℤ unit) (pos e4) ≡ pos f -ℤ unit
gain_is e3 zero f p i = absurd (omega (arith, p))
gain_is e3 (suc n) f p i =
    let d = distribute (pos (suc n)) (pos f) (neg_ℤ unit) in
    let d' = distribute (pos (suc n)) (pos f +ℤ neg_ℤ unit) (pos 1) in
    let q : IsFloor ((pos e3 -ℤ pos (suc n)) *ℤ unit) (pos (suc n)) (pos f +ℤ neg_ℤ unit) =
    record {
      reached = omega (arith, ints, i.reached, d);
      passed = omega (arith, ints, i.passed, d, d');
    } in
    let e = floor_only ((pos e3 -ℤ pos (suc n)) *ℤ unit) (pos (suc n)) (pos f +ℤ neg_ℤ unit) (omega (arith, ints)) q in
    let g : pos f +ℤ neg_ℤ unit ≡ pos f -ℤ unit = omega (arith, ints) in
    sym (sym g ∙ e)

-- the rate of two counts is their quotient less 1, kept within the limit
pub rate_of_counts : (e3 e4 f : ℕ) → 0 < e4 → IsQuotient (e3 * 2199023255552) e4 f →
    rate_of (pos e3) (pos e4) ≡ clamped (pos f -ℤ unit)
rate_of_counts e3 zero f p i = absurd (omega (arith, p))
rate_of_counts e3 (suc n) f p i =
    let t : int_lt (pos 0) (pos (suc n)) ≡ true = search rules in
    rw t (ap clamped (gain_is e3 (suc n) f p i))

-- numbers that are within m stay so where both are kept within the limit
clamps_keep : (m : ℕ) (x y : ℤ) → AreWithin m x y → AreWithin m (clamped x) (clamped y)
clamps_keep m x y h =
    record { low = omega (arith, ints, clamps, h.low); high = omega (arith, ints, clamps, h.high) }

-- whatever two clocks count, the rate is within the limit
bounded : (t : Bool) (z : ℤ) → IsNeighborRate (if t then clamped z else pos 0)
bounded true z = record { low = omega (arith, ints, clamps); high = omega (arith, ints, clamps) }
bounded false z = record { low = omega (arith, ints); high = omega (arith, ints) }

pub rate_is_bounded : (e3 e4 : ℤ) → IsNeighborRate (rate_of e3 e4)
rate_is_bounded e3 e4 = bounded (int_lt (pos 0) e4) (floor_div ((e3 -ℤ e4) *ℤ unit) e4)

-- where the limit doesn't decide, the own count isn't small
counts_many : (w jitter interval span' own e4 m : ℕ) → IsClockRate own → IsStamped (65536 * w + 1) own span' e4 →
    w ≤ 3000 → 62500000 ≤ interval → interval ≤ span' + 2 * jitter →
    2202000000000 * (jitter + 2 * w) ≤ m * interval → m < 879609299 → 4000000000000 ≤ e4
counts_many w jitter interval span' own e4 m mine counted little long spans enough small =
    let k : interval * m ≤ interval * 879609298 = mul-le-mul_left interval (omega (arith, small)) in
    let j : 2202000000000 * jitter ≤ 879609298 * interval = omega (arith, enough, k) in
    let s : 62000000 ≤ span' = omega (arith, j, spans, long) in
    let h : span' * 2199023255552 ≤ span' * (own + 219902325) = mul-le-mul_left span' (omega (arith, mine.low)) in
    omega (arith, h, s, counted.low, little)

-- and jitter and readings leave m + 3 room enough
room_is : (w jitter interval span' up own e4 m : ℕ) → IsClockRate up → IsClockRate own →
    IsStamped (65536 * w + 1) own span' e4 → w ≤ 3000 → 62500000 ≤ interval → interval ≤ span' + 2 * jitter →
    2202000000000 * (jitter + 2 * w) ≤ m * interval → m < 879609299 →
    655360000 * jitter * up + 20003 * (65536 * w + 1) * 2199023255552 ≤ 10000 * (m + 3) * e4
room_is w jitter interval span' up own e4 m theirs mine counted little long spans enough small =
    let many = counts_many w jitter interval span' own e4 m mine counted little long spans enough small in
    let a : m * interval ≤ m * (span' + 2 * jitter) = mul-le-mul_left m spans in
    let b : jitter * m ≤ jitter * 879609298 = mul-le-mul_left jitter (omega (arith, small)) in
    let c : 2200240781404 * jitter + 4404000000000 * w ≤ m * span' = omega (arith, a, b, enough) in
    let d : own * (2200240781404 * jitter + 4404000000000 * w) ≤ own * (m * span') = mul-le-mul_left own c in
    let e : m * (65536 * span' * own) ≤ m * (2199023255552 * (e4 + (65536 * w + 1))) =
    mul-le-mul_left m (omega (arith, counted.low)) in
    let f : jitter * 2199023255552 ≤ jitter * (own + 219902325) = mul-le-mul_left jitter (omega (arith, mine.low)) in
    let f' : w * 2199023255552 ≤ w * (own + 219902325) = mul-le-mul_left w (omega (arith, mine.low)) in
    let g : jitter * up ≤ jitter * (2199023255552 + 219902325) = mul-le-mul_left jitter (omega (arith, theirs.high)) in
    let l : w * m ≤ w * 879609298 = mul-le-mul_left w (omega (arith, small)) in
    omega (arith, d, e, f, f', g, l, many, small)

-- one blur and up / own blurs, for two clocks within their limits
room_for : (blur jitter up own e4 m : ℕ) → 10000 * up ≤ 10003 * own →
    655360000 * jitter * up + 20003 * blur * 2199023255552 ≤ 10000 * m * e4 →
    65536 * jitter * own * up + 2199023255552 * blur * (up + own) ≤ m * own * e4
room_for blur jitter up own e4 m like room =
    let a : own * (655360000 * jitter * up + 20003 * blur * 2199023255552) ≤ own * (10000 * m * e4) =
    mul-le-mul_left own room in
    let b : blur * (10000 * up) ≤ blur * (10003 * own) = mul-le-mul_left blur like in
    omega (arith, a, b)

-- the rates are within m + 3 where the limit doesn't decide, and else as far apart as it allows
pub measured_within : MeasuredWithin
measured_within w jitter interval span span' up own e3 e4 m theirs mine far near spans little long apart enough =
    go (cases_lt m 879609299)
  where
    go : (m < 879609299) ⊎ (879609299 ≤ m) → AreWithin (m + 3) (rate_of (pos e3) (pos e4)) (rate_of (pos up) (pos own))
    go (inl small) =
        let many = counts_many w jitter interval span' own e4 m mine near little long apart enough small in
        let some : 0 < e4 = omega (arith, many) in
        let own_some : 0 < own = omega (arith, mine.low) in
        let room = room_for (65536 * w + 1) jitter up own e4 (m + 3) (omega (arith, theirs.high, mine.low))
        (room_is w jitter interval span' up own e4 m theirs mine near little long apart enough small) in
        let within = rate_is_within (65536 * w + 1) jitter span span' up own e3 e4 (m + 3) far near spans (omega arith)
        own_some (omega (arith, room)) in
        let f = e3 * 2 ^ 41 / e4 in
        let g = up * 2 ^ 41 / own in
        let measured = rate_of_counts e3 e4 f some (quotient_is (e3 * 2 ^ 41) e4 some) in
        let true_rate = rate_of_counts up own g own_some (quotient_is (up * 2 ^ 41) own own_some) in
        rw (measured, true_rate) (clamps_keep (m + 3) (pos f -ℤ unit) (pos g -ℤ unit)
        (record { low = omega (arith, ints, within.low); high = omega (arith, ints, within.high) }))
    go (inr large) =
        let a = rate_is_bounded (pos e3) (pos e4) in
        let b = rate_is_bounded (pos up) (pos own) in
        record { low = omega (arith, ints, a.low, b.high); high = omega (arith, ints, a.high, b.low) }
