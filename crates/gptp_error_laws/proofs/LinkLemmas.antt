use Rattle.std.proofs.Common.{◌≡◌, ◌⊎◌, inl, inr, ℕ, ◌*◌, ◌+◌, ◌-◌, ◌<◌, ◌≤◌, ◌^◌, ap, arith}
use Rattle.std.proofs.lemmas.Bool.{cases_lt}
use Rattle.std.proofs.Math.Nat.{mul-le-mul_left}
use Rattle.gptp_scaled.specs.Counts.{IsClockRate}
use Rattle.gptp_pdelay.specs.Measured.{IsDelayAbove, IsDelayBelow}
use Rattle.gptp_pdelay.proofs.MeanLemmas.{cancel_left}
use Rattle.gptp_error_laws.specs.HopLaws.{IsRateWithin, AreRates, LinkTimeIsBelow, LinkTimeIsAbove, StayIsBelow, StayIsAbove}

-- d is how far a rate is from 1
abbrev IsApart : ℕ → ℕ → Type 0
IsApart rate d = (rate ≡ 2199023255552 + d) ⊎ (rate + d ≡ 2199023255552)

apart_of : (rate : ℕ) → (d : ℕ) × IsApart rate d
apart_of rate = go (cases_lt rate 2199023255552)
  where
    go : (rate < 2199023255552) ⊎ (2199023255552 ≤ rate) → (d : ℕ) × IsApart rate d
    go (inl h) = (2199023255552 - rate, inr (omega (arith, h)))
    go (inr h) = (rate - 2199023255552, inl (omega (arith, h)))

-- the sum of two rates is their product but for the product of how far they are from 1
record IsProduct (before neighbour after x y : ℕ) : Type 0 where
  low : before * neighbour ≤ 2199023255552 * after + x * y
  high : 2199023255552 * after ≤ before * neighbour + x * y

product_is : (before neighbour after x y : ℕ) → IsApart before x → IsApart neighbour y →
    after + 2199023255552 ≡ before + neighbour → IsProduct before neighbour after x y
product_is before neighbour after x y (inl h) (inl k) e =
    let a : before * neighbour ≡ (2199023255552 + x) * neighbour = ap (λ n. n * neighbour) h in
    let b : x * neighbour ≡ x * (2199023255552 + y) = ap (λ n. x * n) k in
    record { low = omega arith; high = omega arith }
product_is before neighbour after x y (inl h) (inr k) e =
    let a : before * neighbour ≡ (2199023255552 + x) * neighbour = ap (λ n. n * neighbour) h in
    let b : x * (neighbour + y) ≡ x * 2199023255552 = ap (λ n. x * n) k in
    record { low = omega arith; high = omega arith }
product_is before neighbour after x y (inr h) (inl k) e =
    let a : (before + x) * neighbour ≡ 2199023255552 * neighbour = ap (λ n. n * neighbour) h in
    let b : x * neighbour ≡ x * (2199023255552 + y) = ap (λ n. x * n) k in
    record { low = omega arith; high = omega arith }
product_is before neighbour after x y (inr h) (inr k) e =
    let a : (before + x) * neighbour ≡ 2199023255552 * neighbour = ap (λ n. n * neighbour) h in
    let b : x * (neighbour + y) ≡ x * 2199023255552 = ap (λ n. x * n) k in
    record { low = omega arith; high = omega arith }

-- a rate is as far from 1 as two clocks may be, and its error
deviates : (e root up rate x : ℕ) → IsClockRate root → IsClockRate up → IsRateWithin e root up rate → IsApart rate x →
    x < e + 439850001
deviates e root up rate x r u w a = go a (cases_lt x (e + 439850001))
  where
    go : IsApart rate x → (x < e + 439850001) ⊎ (e + 439850001 ≤ x) → x < e + 439850001
    go _ (inl h) = h
    go (inl k) (inr h) =
        let b : up * (e + 439850001) ≤ up * x = mul-le-mul_left up h in
        let c : rate * up ≡ (2199023255552 + x) * up = ap (λ n. n * up) k in
        absurd (omega (arith, w.high, r.high, u.low, b, c))
    go (inr k) (inr h) =
        let b : up * (e + 439850001) ≤ up * x = mul-le-mul_left up h in
        let c : (rate + x) * up ≡ 2199023255552 * up = ap (λ n. n * up) k in
        absurd (omega (arith, w.low, r.low, u.high, b, c))

-- a rate is at most so far above 1
apart_high : (rate x : ℕ) → IsApart rate x → rate ≤ 2199023255552 + x
apart_high rate x (inl h) = omega (arith, h)
apart_high rate x (inr h) = omega (arith, h)

-- what the delay at the greatest rate comes to, where x is how far the rate from above is from 1
delay_high : (w most turnaround up delay x : ℕ) → IsClockRate up → IsDelayBelow w most turnaround up delay →
    x ≤ 2147483648 →
    1525 * 2199023255552 * (delay * x) ≤
    1525 * 65536 * (2199243157877 * (most * x) + 2199360000000 * (w * x))
    + 2199023255552 * 2147483648 * (6100 + 2 * (most + w) + turnaround)
delay_high w most turnaround up delay x u below small =
    let a : x * (1525 * 2199023255552 * delay)
    ≤ x * (1525 * 65536 * (most * up + 2199360000000 * w) + 2199023255552 * (6100 + 2 * (most + w) + turnaround)) =
    mul-le-mul_left x below in
    let b : most * x * up ≤ most * x * 2199243157877 = mul-le-mul_left (most * x) (omega (arith, u.high)) in
    let c : (most + w) * x ≤ (most + w) * 2147483648 = mul-le-mul_left (most + w) small in
    let d : turnaround * x ≤ turnaround * 2147483648 = mul-le-mul_left turnaround small in
    omega (arith, a, b, c, d, small)

-- the neighbour's rate cancels out of the link time, but for the delay times the product of two distances from 1
time_high : (delay before neighbour after time x y : ℕ) → IsProduct before neighbour after x y →
    4999 * y ≤ neighbour → 0 < neighbour → time * neighbour ≤ delay * 2199023255552 →
    4999 * time * after ≤ 4999 * delay * before + delay * x
time_high delay before neighbour after time x y p small some time_is =
    let a : after * (time * neighbour) ≤ after * (delay * 2199023255552) = mul-le-mul_left after time_is in
    let b : delay * (2199023255552 * after) ≤ delay * (before * neighbour + x * y) = mul-le-mul_left delay p.high in
    let c : delay * x * (4999 * y) ≤ delay * x * neighbour = mul-le-mul_left (delay * x) small in
    let d : neighbour * (4999 * time * after) ≤ neighbour * (4999 * delay * before + delay * x) =
    omega (arith, a, b, c) in
    cancel_left neighbour _ _ some d

time_low : (delay before neighbour after time x y : ℕ) → IsProduct before neighbour after x y →
    4999 * y ≤ neighbour → 0 < neighbour → delay * 2199023255552 < (time + 1) * neighbour →
    4999 * delay * before ≤ 4999 * (time + 1) * after + delay * x
time_low delay before neighbour after time x y p small some time_is =
    let a : after * (delay * 2199023255552) ≤ after * ((time + 1) * neighbour) =
    mul-le-mul_left after (omega (arith, time_is)) in
    let b : delay * (before * neighbour) ≤ delay * (2199023255552 * after + x * y) = mul-le-mul_left delay p.low in
    let c : delay * x * (4999 * y) ≤ delay * x * neighbour = mul-le-mul_left (delay * x) small in
    let d : neighbour * (4999 * delay * before) ≤ neighbour * (4999 * (time + 1) * after + delay * x) =
    omega (arith, a, b, c) in
    cancel_left neighbour _ _ some d

-- a neighbour's rate is at least 4999 times as great as it is far from 1
far_small : (before neighbour after y : ℕ) → AreRates before neighbour after → IsApart neighbour y → 4999 * y ≤
    neighbour
far_small before neighbour after y rates (inl h) = omega (arith, h, rates.neighbour_high)
far_small before neighbour after y rates (inr h) = omega (arith, h, rates.neighbour_low)

-- the rate from above is at most 2^-10 away from 1
above_small : (before neighbour after x : ℕ) → AreRates before neighbour after → IsApart before x → x ≤ 2147483648
above_small before neighbour after x rates (inl h) = omega (arith, h, rates.before_high)
above_small before neighbour after x rates (inr h) = omega (arith, h, rates.before_low)

-- the delay at the rate from above
rate_high : (w most turnaround root up e delay before : ℕ) → IsClockRate up → IsRateWithin e root up before →
    before ≤ 2201170739200 → IsDelayBelow w most turnaround up delay →
    1525 * 2199023255552 * (delay * before) ≤
    1525 * 65536 * (2199023255552 * (most * root) + 2199243157877 * (most * e) + 2199360000000 * (w * before))
    + 2199023255552 * 2201170739200 * (6100 + 2 * (most + w) + turnaround)
rate_high w most turnaround root up e delay before u within small below =
    let a : before * (1525 * 2199023255552 * delay)
    ≤ before * (1525 * 65536 * (most * up + 2199360000000 * w) + 2199023255552 * (6100 + 2 * (most + w)
    + turnaround)) =
    mul-le-mul_left before below in
    let b : most * (before * up) ≤ most * (2199023255552 * root + e * up) = mul-le-mul_left most within.high in
    let c : most * e * up ≤ most * e * 2199243157877 = mul-le-mul_left (most * e) (omega (arith, u.high)) in
    let d : (most + w) * before ≤ (most + w) * 2201170739200 = mul-le-mul_left (most + w) small in
    let f : turnaround * before ≤ turnaround * 2201170739200 = mul-le-mul_left turnaround small in
    omega (arith, a, b, c, d, f, small)

rate_low : (w least most turnaround root up e delay before : ℕ) → least ≤ most → IsClockRate up →
    IsRateWithin e root up before → before ≤ 2201170739200 → IsDelayAbove w least most turnaround up delay →
    1525 * 65536 * 2199023255552 * (least * root) ≤
    1525 * 2199023255552 * (delay * before)
    + 1525 * 65536 * (2199243157877 * (most * e) + 2199360000000 * (w * before))
    + 2199023255552 * 2201170739200 * (6100 + 2 * (most + w) + turnaround)
rate_low w least most turnaround root up e delay before order u within small above =
    let a : before * (1525 * 65536 * least * up)
    ≤ before * (2199023255552 * (1525 * delay + 6100 + 2 * (most + w) + turnaround)
    + 1525 * 65536 * 2199360000000 * w) =
    mul-le-mul_left before above in
    let b : least * (2199023255552 * root) ≤ least * ((before + e) * up) = mul-le-mul_left least within.low in
    let c : least * e * up ≤ least * e * 2199243157877 = mul-le-mul_left (least * e) (omega (arith, u.high)) in
    let d : (most + w) * before ≤ (most + w) * 2201170739200 = mul-le-mul_left (most + w) small in
    let f : turnaround * before ≤ turnaround * 2201170739200 = mul-le-mul_left turnaround small in
    let g : e * least ≤ e * most = mul-le-mul_left e order in
    omega (arith, a, b, c, d, f, g, small)

pub link_time_is_below : LinkTimeIsBelow
link_time_is_below w most turnaround root up e delay before neighbour after time r u within rates time_is below =
    go (apart_of before) (apart_of neighbour)
  where
    go : (x : ℕ) × IsApart before x → (y : ℕ) × IsApart neighbour y →
        50325000000 * time * after ≤
        50325000000 * 65536 * (most * root + 2199810000000 * w)
        + 2 ^ 41 * (1500 * e * (most + w) + 33550000 * (20 * (most + w) + turnaround + 7530))
    go (x, ax) (y, ay) =
        let dev = deviates e root up before x r u within ax in
        let small = above_small before neighbour after x rates ax in
        let p = product_is before neighbour after x y ax ay rates.after_is in
        let a = time_high delay before neighbour after time x y p (far_small before neighbour after y rates ay)
        (omega (arith, rates.neighbour_low)) (omega (arith, time_is)) in
        let b = rate_high w most turnaround root up e delay before u within (omega (arith, rates.before_high)) below in
        let c = delay_high w most turnaround up delay x u below small in
        let d : (most + w) * x ≤ (most + w) * (e + 439850000) = mul-le-mul_left (most + w) (omega (arith, dev)) in
        let d' : w * x ≤ w * (e + 439850000) = mul-le-mul_left w (omega (arith, dev)) in
        let f : most * x ≤ most * 2147483648 = mul-le-mul_left most small in
        let f' : w * x ≤ w * 2147483648 = mul-le-mul_left w small in
        let g : w * before ≤ w * (2199023255552 + x) = mul-le-mul_left w (apart_high before x ax) in
        omega (arith, a, b, c, d, d', f, f', g)

pub link_time_is_above : LinkTimeIsAbove
link_time_is_above w least most turnaround root up e delay before neighbour after time order r u within rates
    time_is below above =
    go (apart_of before) (apart_of neighbour)
  where
    go : (x : ℕ) × IsApart before x → (y : ℕ) × IsApart neighbour y →
        50325000000 * 65536 * least * root ≤
        50325000000 * time * after
        + 2 ^ 41 * (1500 * e * (most + w) + 33550000 * (20 * (most + w) + turnaround + 7530))
        + 50325000000 * 65536 * 2199810000000 * w
    go (x, ax) (y, ay) =
        let dev = deviates e root up before x r u within ax in
        let small = above_small before neighbour after x rates ax in
        let p = product_is before neighbour after x y ax ay rates.after_is in
        let a = time_low delay before neighbour after time x y p (far_small before neighbour after y rates ay)
        (omega (arith, rates.neighbour_low)) (omega (arith, time_is)) in
        let b = rate_low w least most turnaround root up e delay before order u within
        (omega (arith, rates.before_high)) above in
        let c = delay_high w most turnaround up delay x u below small in
        let d : (most + w) * x ≤ (most + w) * (e + 439850000) = mul-le-mul_left (most + w) (omega (arith, dev)) in
        let d' : w * x ≤ w * (e + 439850000) = mul-le-mul_left w (omega (arith, dev)) in
        let f : most * x ≤ most * 2147483648 = mul-le-mul_left most small in
        let f' : w * x ≤ w * 2147483648 = mul-le-mul_left w small in
        let g : w * before ≤ w * (2199023255552 + x) = mul-le-mul_left w (apart_high before x ax) in
        let h : after ≤ 2201610543851 = omega (arith, rates.after_is, rates.before_high, rates.neighbour_high) in
        omega (arith, a, b, c, d, d', f, f', g, h)

pub stay_is_below : StayIsBelow
stay_is_below stay root own e rate count w n =
    let a : rate * (2199023255552 * count) ≤ rate * (65536 * stay * own + 2199023255552) =
    mul-le-mul_left rate (omega (arith, n.high)) in
    let b : stay * (rate * own) ≤ stay * (2199023255552 * root + e * own) = mul-le-mul_left stay w.high in
    omega (arith, a, b)

pub stay_is_above : StayIsAbove
stay_is_above stay root own e rate count w n =
    let a : rate * (65536 * stay * own) ≤ rate * (2199023255552 * (count + 1)) =
    mul-le-mul_left rate (omega (arith, n.low)) in
    let b : stay * (2199023255552 * root) ≤ stay * ((rate + e) * own) = mul-le-mul_left stay w.low in
    omega (arith, a, b)
