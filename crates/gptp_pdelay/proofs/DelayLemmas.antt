use Rattle.std.proofs.Common.{◌≡◌, ◌⊎◌, inl, inr, ℕ, zero, suc, ◌*◌, ◌+◌, ◌-◌, ◌/◌, ◌<◌, ◌≤◌, ◌^◌, ℤ, pos, ◌+ℤ◌, ◌-ℤ◌, ◌*ℤ◌, ◌≤ℤ◌, ◌<ℤ◌, unsigned_abs, ap, ◌∙◌, refl, arith}
use Rattle.std.specs.Int.{int_max}
use Rattle.std.proofs.lemmas.Bool.{cases_lt}
use Rattle.std.proofs.lemmas.Int.{ints, clamps}
use Rattle.std.proofs.Math.Nat.{mul-le-mul_left}
use Rattle.gptp_scaled.specs.Floor.{floor_div}
use Rattle.gptp_scaled.specs.Rate.{unit, clamped, scaled_by, rate_of}
use Rattle.gptp_scaled.specs.Counts.{IsClockRate, IsCounted}
use Rattle.gptp_scaled.proofs.FloorLemmas.{floor_is}
use Rattle.gptp_scaled.proofs.ProductLemmas.{distribute}
use Rattle.gptp_scaled.proofs.LawProofs.{rate_rounds_down}
use Rattle.gptp_scaled.proofs.CountLemmas.{IsQuotient, quotient_is, rate_of_counts}
use Rattle.gptp_pdelay.specs.Measured.{DelayIsWithin}
use Rattle.gptp_pdelay.proofs.LateLemmas.{late_is_above, late_is_below}
use Rattle.gptp_pdelay.proofs.MeanLemmas.{cancel_left, mean_is_above, mean_is_below, weighted_mean}

-- r is the number within the limit that is nearest to f, where both stand for a ratio
record IsKept (f r : ℕ) : Type 0 where
  is : clamped (pos f -ℤ unit) ≡ pos r -ℤ unit
  low : (f ≤ r) ⊎ (r ≡ 2199463060203)
  high : (r ≤ f) ⊎ (r ≡ 2198583450901)
  least : 2198583450901 ≤ r
  most : r ≤ 2199463060203

kept_at : (f : ℕ) → (r : ℕ) × IsKept f r
kept_at f = low (cases_lt f 2198583450901)
  where
    high : 2198583450901 ≤ f → (f < 2199463060203) ⊎ (2199463060203 ≤ f) → (r : ℕ) × IsKept f r
    high l (inl h) = (
      f,
      record {
        is = omega (arith, ints, clamps);
        low = inl (omega arith);
        high = inl (omega arith);
        least = l;
        most = omega (arith, h);
      },
    )
    high l (inr h) = (
      2199463060203,
      record {
        is = omega (arith, ints, clamps);
        low = inr refl;
        high = inl h;
        least = omega arith;
        most = omega arith;
      },
    )

    low : (f < 2198583450901) ⊎ (2198583450901 ≤ f) → (r : ℕ) × IsKept f r
    low (inl h) = (
      2198583450901,
      record {
        is = omega (arith, ints, clamps);
        low = inl (omega (arith, h));
        high = inr refl;
        least = omega arith;
        most = omega arith;
      },
    )
    low (inr h) = high h (cases_lt f 2199463060203)

-- a count over so many spans of 2^25 ns is that of the rate itself
whole_counts : (rate n : ℕ) → IsCounted rate (n * 33554432) (n * rate)
whole_counts rate n = record { low = omega arith; high = omega arith }

-- a number that isn't negative, and 0 for one that is
at_least_zero : (m : ℤ) → (n : ℕ) × (int_max (pos 0) m ≡ pos n)
at_least_zero m = (unsigned_abs (int_max (pos 0) m), omega (arith, ints, clamps))

-- what is read of the requester's clock, brought to the rate r, is the product rounded down; it may be negative, by so
-- much as was read late at its beginning
pub record IsScaled (said asked r : ℕ) (s : ℤ) : Type 0 where
  pub reached : (unit *ℤ s +ℤ pos (r * asked)) ≤ℤ pos (r * said)
  pub passed : pos (r * said) <ℤ (unit *ℤ s +ℤ unit +ℤ pos (r * asked))

pub scaled_is : (q y : ℤ) (said asked r : ℕ) → q ≡ pos r -ℤ unit → y +ℤ pos asked ≡ pos said →
    IsScaled said asked r (scaled_by q y)
scaled_is q y said asked r e is =
    let i = rate_rounds_down.scaled q y in
    let f : unit +ℤ q ≡ pos r = omega (arith, ints, e) in
    let g : y *ℤ (unit +ℤ q) ≡ y *ℤ pos r = ap (λ v. y *ℤ v) f in
    let d = distribute (pos r) y (pos asked) in
    let h : pos r *ℤ (y +ℤ pos asked) ≡ pos r *ℤ pos said = ap (λ v. pos r *ℤ v) is in
    record { reached = omega (arith, ints, i.reached, g, d, h); passed = omega (arith, ints, i.passed, g, d, h) }

-- half of a difference, at least 0
record IsHalf (s z : ℤ) (n : ℕ) : Type 0 where
  low : (s -ℤ z) ≤ℤ pos (2 * n + 1)
  high : (n ≡ 0) ⊎ (pos (2 * n) ≤ℤ (s -ℤ z))

half_is : (s z : ℤ) (n : ℕ) → int_max (pos 0) (floor_div (s -ℤ z) (pos 2)) ≡ pos n → IsHalf s z n
half_is s z n e =
    let i = floor_is (s -ℤ z) (pos 2) (omega (arith, ints)) in
    record { low = omega (arith, ints, clamps, e, i.passed); high = at n (omega (arith, ints, clamps, e, i.reached)) }
  where
    at : (n : ℕ) → (1 ≤ n → pos (2 * n) ≤ℤ (s -ℤ z)) → (n ≡ 0) ⊎ (pos (2 * n) ≤ℤ (s -ℤ z))
    at zero h = inl refl
    at (suc k) h = inr (h (omega arith))

-- from what a ratio makes of the widened exchange the delay isn't above
below_all : (w most turnaround whole up own counted wait n v r : ℕ) → IsClockRate up → IsClockRate own →
    IsCounted own whole counted → IsCounted up turnaround wait → whole ≤ turnaround + 2 * most →
    v ≡ counted + 65536 * w → r ≤ 2 * 2199023255552 →
    2199023255552 * (2 * n + wait) ≤ (r + 1) * v + 2199023255552 * (65536 * w) →
    10000 * (r * v) ≤ 65536 * (10000 * (turnaround + 2 * most) + 10002 * w) * up + 10000 * 2199023255552
    + 2 * 10000 * r →
    1525 * 2199023255552 * n ≤
    1525 * 65536 * (most * up + 2199360000000 * w) + 2199023255552 * (6100 + 2 * (most + w) + turnaround)
below_all w most turnaround whole up own counted wait n v r theirs mine span waited long v_is limited twice mean =
    let a : whole * own ≤ whole * (2199023255552 + 219902325) = mul-le-mul_left whole (omega (arith, mine.high)) in
    let b : w * up ≤ w * (2199023255552 + 219902325) = mul-le-mul_left w (omega (arith, theirs.high)) in
    omega (arith, a, b, span.high, waited.low, long, v_is, limited, twice, mean)

-- and not below
above_all : (w least most turnaround whole up own counted wait n l v r : ℕ) → IsClockRate up → IsClockRate own →
    IsCounted own whole counted → IsCounted up turnaround wait → whole ≤ turnaround + 2 * most →
    v + 65536 * w ≡ counted → l + 10002 * w ≡ 10000 * (turnaround + 2 * least) → r ≤ 3298534883328 →
    r * v ≤ 2199023255552 * (2 * n + 2 + wait + 65536 * w) + 43986 * (counted + 65536 * w) →
    65536 * l * up ≤ 10000 * ((r + 1) * (v + 2)) + 10000 * 2199023255552 →
    1525 * 65536 * least * up ≤
    2199023255552 * (1525 * n + 6100 + 2 * (most + w) + turnaround) + 1525 * 65536 * 2199360000000 * w
above_all w least most turnaround whole up own counted wait n l v r theirs mine span waited long v_is l_is limited
    twice mean =
    let a : whole * own ≤ whole * (2199023255552 + 219902325) = mul-le-mul_left whole (omega (arith, mine.high)) in
    let b : w * up ≤ w * (2199023255552 + 219902325) = mul-le-mul_left w (omega (arith, theirs.high)) in
    let c : (l + 10002 * w) * up ≡ 10000 * (turnaround + 2 * least) * up = ap (λ k. k * up) l_is in
    omega (arith, a, b, c, span.high, waited.high, long, v_is, limited, twice, mean)

-- the delay lies between
pub delay_is_within : DelayIsWithin
delay_is_within w least most turnaround whole arrivals sendings up own e3 e4 y z theirs mine little some s room x =
    let l = x.late in
    let f = e3 * 2 ^ 41 / e4 in
    let q = quotient_is (e3 * 2 ^ 41) e4 e4_some in
    let (r, kept) = kept_at f in
    let rate : rate_of (pos e3) (pos e4) ≡ pos r -ℤ unit = rate_of_counts e3 e4 f e4_some q ∙ kept.is in
    let time = scaled_by (rate_of (pos e3) (pos e4)) y in
    let scaled = scaled_is (rate_of (pos e3) (pos e4)) y (x.own_whole + l.came) l.asked r rate x.y_is in
    let (n, e) = at_least_zero (floor_div (time -ℤ z) (pos 2)) in
    let half = half_is time z n e in
    record {
      value = n;
      is = e;
      low = above f r n time q kept scaled half (cases_lt (10000 * (turnaround + 2 * least)) (10002 * w));
      high = below f r n time q kept scaled half.high;
    }
  where
    blur : ℕ
    blur = 65536 * w

    v : ℕ
    v = x.own_whole + blur

    long : whole ≤ turnaround + 2 * most
    long = omega (arith, s.whole_is, s.there_short, s.home_short)

    short : turnaround + 2 * least ≤ whole
    short = omega (arith, s.whole_is, s.there_long, s.home_long)

    -- what is read late is less than what passed
    many : 65536 * w + 1 ≤ x.own_all
    many =
        let a : own * (1 + 12 * w) ≤ own * arrivals = mul-le-mul_left own (omega (arith, room, some, short)) in
        let b : w * 2199023255552 ≤ w * (own + 219902325) = mul-le-mul_left w (omega (arith, mine.low)) in
        omega (arith, a, b, x.all_counted.low, mine.low)

    e4_some : 0 < e4
    e4_some = omega (arith, many, x.late.e4_is, x.late.came_before_late)

    all_some : 0 < x.own_all
    all_some = omega (arith, many)

    -- and where w isn't 0 the rest is long
    wider : 1 ≤ w → x.own_whole + 9 * (65536 * w) + 1 ≤ x.own_all
    wider h =
        let a : own * (whole + 12 * w) ≤ own * arrivals = mul-le-mul_left own room in
        let b : w * 2199023255552 ≤ w * (own + 219902325) = mul-le-mul_left w (omega (arith, mine.low)) in
        omega (arith, a, b, x.all_counted.low, x.whole_counted.high, mine.low, h)

    wide : 1 ≤ w → x.own_whole + blur ≤ x.own_all
    wide h = omega (arith, wider h)

    -- where w is 0 nothing is read late
    own_exact : w < 1 → e4 ≡ x.own_all
    own_exact h = omega (arith, h, x.late.e4_is, x.late.came_late, x.late.came_before_late)

    up_exact : w < 1 → e3 ≡ x.up_all
    up_exact h = omega (arith, h, x.late.e3_is, x.late.sent_late, x.late.sent_before_late)

    wide_v : 10000 * 2199023255552 * v ≤ 65536 * own * (10000 * whole + 10002 * w) + 10000 * 2199023255552
    wide_v =
        let a : w * (10000 * 2199023255552) ≤ w * (10002 * own) = mul-le-mul_left w (omega (arith, mine.low)) in
        omega (arith, a, x.whole_counted.high)

    -- what a ratio that isn't above that of the counts makes of the widened exchange
    wide_mean : (r : ℕ) → r * x.own_all ≤ 2199023255552 * x.up_all →
        10000 * (r * v) ≤ 65536 * (10000 * (turnaround + 2 * most) + 10002 * w) * up + 10000 * 2199023255552
        + 2 * 10000 * r
    wide_mean r ratio =
        mean_is_below 10000 arrivals sendings up own x.up_all x.own_all (10000 * whole + 10002 * w)
        (10000 * (turnaround + 2 * most) + 10002 * w) v r x.sent_counted x.all_counted wide_v
        (weighted_mean.high 10000 (10002 * w) least most turnaround whole arrivals sendings s (omega (arith, room)))
        (omega (arith, room)) (omega (arith, room, some, short)) ratio

    Below : ℕ → Type 0
    Below n = 1525 * 2199023255552 * n ≤
        1525 * 65536 * (most * up + 2199360000000 * w) + 2199023255552 * (6100 + 2 * (most + w) + turnaround)

    below : (f r n : ℕ) (time : ℤ) → IsQuotient (e3 * 2 ^ 41) e4 f → IsKept f r →
        IsScaled (x.own_whole + x.late.came) x.late.asked r time → (n ≡ 0) ⊎ (pos (2 * n) ≤ℤ (time -ℤ z)) → Below n
    below f r n time q kept scaled (inl h) = omega (arith, h)
    below f r n time q kept scaled (inr h) = on kept.high
      where
        -- what the delay is, by what was counted
        said : 2199023255552 * (2 * n + x.up_wait + x.late.sent) + r * x.late.asked ≤
            r * (x.own_whole + x.late.came) + 2199023255552 * x.late.heard
        said = omega (arith, ints, h, scaled.reached, x.z_is)

        -- by the kept ratio itself
        plain : 2199023255552 * (2 * n + x.up_wait) ≤ (r + 1) * v + 2199023255552 * (65536 * w)
        plain =
            let a : r * (x.own_whole + x.late.came) ≤ r * v = mul-le-mul_left r (omega (arith, x.late.came_late)) in
            omega (arith, a, said, x.late.heard_late)

        by_mean : 10000 * (r * v) ≤ 65536 * (10000 * (turnaround + 2 * most) + 10002 * w) * up + 10000 * 2199023255552
            + 2 * 10000 * r → Below n
        by_mean mean =
            below_all w most turnaround whole up own x.own_whole x.up_wait n v r theirs mine x.whole_counted
            x.wait_counted long refl (omega (arith, kept.most)) plain mean

        -- by that of the counts
        counted : 1 ≤ w → (2199023255552 * x.up_all < 2 * 2199023255552 * x.own_all)
            ⊎ (2 * 2199023255552 * x.own_all ≤ 2199023255552 * x.up_all) → r ≤ f → Below n
        counted h (inr far) under =
            let a : x.own_all * r ≤ x.own_all * (2 * 2199023255552) =
            mul-le-mul_left x.own_all (omega (arith, kept.most)) in
            by_mean (wide_mean r (omega (arith, a, far)))
        counted h (inl near) under =
            let r' = x.up_all * 2 ^ 41 / x.own_all in
            let q' = quotient_is (x.up_all * 2 ^ 41) x.own_all all_some in
            let a : e4 * r ≤ e4 * f = mul-le-mul_left e4 under in
            let late = late_is_below blur x.own_all x.own_whole x.up_all x.up_wait e3 e4 r x.late (wide h)
            (omega (arith, a, q.reached)) in
            let b : x.own_all * (2199023255552 * (2 * n + x.up_wait + x.late.sent) + r * x.late.asked)
            ≤ x.own_all * (r * (x.own_whole + x.late.came) + 2199023255552 * x.late.heard) =
            mul-le-mul_left x.own_all said in
            let c : v * (2199023255552 * x.up_all) ≤ v * ((r' + 1) * x.own_all) =
            mul-le-mul_left v (omega (arith, q'.passed)) in
            let d : x.own_all * (2199023255552 * (2 * n + x.up_wait))
            ≤ x.own_all * ((r' + 1) * v + 2199023255552 * (65536 * w)) =
            omega (arith, late, b, c) in
            let twice = cancel_left x.own_all _ _ all_some d in
            let e : x.own_all * r' ≤ x.own_all * (2 * 2199023255552) = omega (arith, q'.reached, near) in
            let limited = cancel_left x.own_all r' (2 * 2199023255552) all_some e in
            below_all w most turnaround whole up own x.own_whole x.up_wait n v r' theirs mine x.whole_counted
            x.wait_counted long refl limited twice (wide_mean r' (omega (arith, q'.reached)))

        under_true : (w < 1) ⊎ (1 ≤ w) → r ≤ f → Below n
        under_true (inl none) under =
            let a : e4 * r ≤ e4 * f = mul-le-mul_left e4 under in
            let b : e4 * r ≡ x.own_all * r = ap (λ k. k * r) (own_exact none) in
            by_mean (wide_mean r (omega (arith, a, b, q.reached, up_exact none)))
        under_true (inr some_late) under =
            counted some_late (cases_lt (2199023255552 * x.up_all) (2 * 2199023255552 * x.own_all)) under

        on : (r ≤ f) ⊎ (r ≡ 2198583450901) → Below n
        on (inl under) = under_true (cases_lt w 1) under
        on (inr cut) =
            let k = 10000 * whole + 10002 * w in
            let l = 10000 * (turnaround + 2 * most) + 10002 * w in
            let a : whole * 33554432 * k ≤ whole * 33554432 * l =
            mul-le-mul_left (whole * 33554432) (omega (arith, long)) in
            let b : whole * (2198583450901 * own) ≤ whole * (2199023255552 * up) =
            mul-le-mul_left whole (omega (arith, theirs.low, mine.high)) in
            let c : r * (whole * own) ≡ 2198583450901 * (whole * own) = ap (λ k. k * (whole * own)) cut in
            by_mean (mean_is_below 10000 (whole * 33554432) (whole * 33554432) up own (whole * up) (whole * own) k l v r
            (whole_counts up whole) (whole_counts own whole) wide_v a (omega (arith, some, short, little))
            (omega (arith, some, short)) (omega (arith, b, c)))

    Above : ℕ → Type 0
    Above n = 1525 * 65536 * least * up ≤
        2199023255552 * (1525 * n + 6100 + 2 * (most + w) + turnaround) + 1525 * 65536 * 2199360000000 * w

    above : (f r n : ℕ) (time : ℤ) → IsQuotient (e3 * 2 ^ 41) e4 f → IsKept f r →
        IsScaled (x.own_whole + x.late.came) x.late.asked r time → IsHalf time z n →
        (10000 * (turnaround + 2 * least) < 10002 * w) ⊎ (10002 * w ≤ 10000 * (turnaround + 2 * least)) → Above n
    above f r n time q kept scaled half (inl small) =
        let a : up * least ≤ up * w = mul-le-mul_left up (omega (arith, small)) in
        let b : w * up ≤ w * 2199360000000 = mul-le-mul_left w (omega (arith, theirs.high)) in
        omega (arith, a, b)
    above f r n time q kept scaled half (inr h) = on kept.low
      where
        k : ℕ
        k = 10000 * whole - 10002 * w

        l : ℕ
        l = 10000 * (turnaround + 2 * least) - 10002 * w

        k_is : k + 10002 * w ≡ 10000 * whole
        k_is = omega (arith, h, short)

        l_is : l + 10002 * w ≡ 10000 * (turnaround + 2 * least)
        l_is = omega (arith, h)

        counted : 65536 * w ≤ x.own_whole
        counted =
            let a : own * (10002 * w) ≤ own * (10000 * whole) = mul-le-mul_left own (omega (arith, h, short)) in
            let b : w * 2199023255552 ≤ w * (own + 219902325) = mul-le-mul_left w (omega (arith, mine.low)) in
            omega (arith, a, b, x.whole_counted.low)

        u : ℕ
        u = x.own_whole - 65536 * w

        u_is : u + 65536 * w ≡ x.own_whole
        u_is = omega (arith, counted)

        narrow : 65536 * own * k ≤ 10000 * 2199023255552 * u + 10000 * 2199023255552
        narrow =
            let a : own * (k + 10002 * w) ≡ own * (10000 * whole) = ap (λ m. own * m) k_is in
            let b : w * (10000 * 2199023255552) ≤ w * (10002 * own) = mul-le-mul_left w (omega (arith, mine.low)) in
            omega (arith, a, b, u_is, x.whole_counted.low)

        -- what a ratio that isn't below that of the counts makes of the narrowed exchange
        narrow_mean : (r : ℕ) → 2199023255552 * x.up_all ≤ r * x.own_all →
            65536 * l * up ≤ 10000 * (r * (u + 2)) + 10000 * 2199023255552
        narrow_mean r ratio =
            mean_is_above 10000 arrivals sendings up own x.up_all x.own_all k l u r x.sent_counted x.all_counted narrow
            (weighted_mean.low 10000 (10002 * w) least most turnaround whole arrivals sendings k l s k_is l_is)
            (omega (arith, k_is, room)) (omega (arith, room, some, short)) ratio

        -- what the delay is, by what was counted
        said : r * (x.own_whole + x.late.came) + 2199023255552 * x.late.heard ≤
            2199023255552 * (2 * n + 2 + x.up_wait + x.late.sent) + r * x.late.asked
        said = omega (arith, ints, half.low, scaled.passed, x.z_is)

        -- by the kept ratio itself, and as much more as the limit cuts off
        by_mean : 65536 * l * up ≤ 10000 * ((r + 43986) * (u + 2)) + 10000 * 2199023255552 → Above n
        by_mean mean =
            let d : r * (u + x.late.asked) ≤ r * (x.own_whole + x.late.came) =
            mul-le-mul_left r (omega (arith, u_is, x.late.asked_late)) in
            above_all w least most turnaround whole up own x.own_whole x.up_wait n l u (r + 43986) theirs mine
            x.whole_counted x.wait_counted long u_is l_is (omega (arith, kept.most))
            (omega (arith, d, said, x.late.sent_late, u_is)) (omega (arith, mean))

        over_true : (w < 1) ⊎ (1 ≤ w) → f ≤ r → Above n
        over_true (inl none) over =
            let a : e4 * (f + 1) ≤ e4 * (r + 43986) = mul-le-mul_left e4 (omega (arith, over)) in
            let b : e4 * (r + 43986) ≡ x.own_all * (r + 43986) = ap (λ k. k * (r + 43986)) (own_exact none) in
            by_mean (narrow_mean (r + 43986) (omega (arith, a, b, q.passed, up_exact none)))
        over_true (inr some_late) over =
            let r' = x.up_all * 2 ^ 41 / x.own_all in
            let q' = quotient_is (x.up_all * 2 ^ 41) x.own_all all_some in
            let a : e4 * (f + 1) ≤ e4 * (r + 43986) = mul-le-mul_left e4 (omega (arith, over)) in
            let a' : e4 * (r + 43986) ≤ e4 * 2199463104189 = mul-le-mul_left e4 (omega (arith, kept.most)) in
            let late = late_is_above blur x.own_all x.own_whole x.up_all x.up_wait e3 e4 (r + 43986) x.late counted
            (wide some_late) e4_some (omega (arith, a, q.passed)) in
            let b : x.own_all * (r * (x.own_whole + x.late.came) + 2199023255552 * x.late.heard)
            ≤ x.own_all * (2199023255552 * (2 * n + 2 + x.up_wait + x.late.sent) + r * x.late.asked) =
            mul-le-mul_left x.own_all said in
            let c : u * (r' * x.own_all) ≤ u * (2199023255552 * x.up_all) =
            mul-le-mul_left u (omega (arith, q'.reached)) in
            let d : x.up_all * (u + 65536 * w) ≡ x.up_all * x.own_whole = ap (λ m. x.up_all * m) u_is in
            let e : x.own_all * x.late.came ≤ x.own_all * (65536 * w) = mul-le-mul_left x.own_all x.late.came_late in
            let g : x.own_all * (r' * u)
            ≤ x.own_all * (2199023255552 * (2 * n + 2 + x.up_wait + 65536 * w) + 43986 * (x.own_whole + 65536 * w)) =
            omega (arith, late, b, c, d, e) in
            let twice = cancel_left x.own_all _ _ all_some g in
            let i : x.own_all * r' ≤ x.own_all * 3298534883328 =
            omega (
              arith,
              q'.reached,
              a,
              a',
              q.passed,
              x.late.e3_is,
              x.late.e4_is,
              x.late.sent_before_late,
              x.late.came_late,
              wider some_late,
            ) in
            let limited = cancel_left x.own_all r' 3298534883328 all_some i in
            above_all w least most turnaround whole up own x.own_whole x.up_wait n l u r' theirs mine x.whole_counted
            x.wait_counted long u_is l_is limited twice (narrow_mean (r' + 1) (omega (arith, q'.passed)))

        on : (f ≤ r) ⊎ (r ≡ 2199463060203) → Above n
        on (inl over) = over_true (cases_lt w 1) over
        on (inr cut) =
            let a : whole * 33554432 * l ≤ whole * 33554432 * k =
            mul-le-mul_left (whole * 33554432) (omega (arith, k_is, l_is, short)) in
            let b : whole * (2199023255552 * up) ≤ whole * (2199463104189 * own) =
            mul-le-mul_left whole (omega (arith, theirs.high, mine.low)) in
            let c : r * (whole * own) ≡ 2199463060203 * (whole * own) = ap (λ m. m * (whole * own)) cut in
            by_mean (mean_is_above 10000 (whole * 33554432) (whole * 33554432) up own (whole * up) (whole * own) k l u
            (r + 43986) (whole_counts up whole) (whole_counts own whole) narrow a (omega (arith, k_is))
            (omega (arith, some, short)) (omega (arith, b, c)))
