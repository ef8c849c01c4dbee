use Rattle.std.proofs.Common.{◌≡◌, ◌⊎◌, inl, inr, ℕ, ◌*◌, ◌+◌, ◌-◌, ◌<◌, ◌≤◌, ap, arith}
use Rattle.std.proofs.lemmas.Bool.{cases_lt}
use Rattle.std.proofs.Math.Nat.{mul-le-mul_left}
use Rattle.gptp_pdelay.specs.Measured.{AreExchangeSpans, WeightedMean, MeanIsBelow, MeanIsAbove}

mean_low : (parts more least most turnaround whole arrivals sendings k l : ℕ) →
    AreExchangeSpans least most turnaround whole arrivals sendings → k + more ≡ parts * whole →
    l + more ≡ parts * (turnaround + 2 * least) → arrivals * l ≤ sendings * k
mean_low parts more least most turnaround whole arrivals sendings k l s k_is l_is = go (cases_lt s.before s.home)
  where
    spans : (sendings + s.home) * k ≡ (arrivals + s.before) * k
    spans = ap (λ n. n * k) s.sendings_is

    whole_is : parts * arrivals * whole ≡ parts * arrivals * (s.there + turnaround + s.home)
    whole_is = ap (λ n. parts * arrivals * n) s.whole_is

    k_all : arrivals * (k + more) ≡ arrivals * (parts * whole)
    k_all = ap (λ n. arrivals * n) k_is

    l_all : arrivals * (l + more) ≡ arrivals * (parts * (turnaround + 2 * least))
    l_all = ap (λ n. arrivals * n) l_is

    order : k ≤ parts * arrivals
    order =
        let a : parts * whole ≤ parts * arrivals = mul-le-mul_left parts (omega (arith, s.arrivals_is)) in
        omega (arith, a, k_is)

    go : (s.before < s.home) ⊎ (s.home ≤ s.before) → arrivals * l ≤ sendings * k
    go (inl h) =
        let d = s.home - s.before in
        let e : s.home ≡ s.before + d = omega (arith, h) in
        let a : d * k ≤ d * (parts * arrivals) = mul-le-mul_left d order in
        let b : s.home * k ≡ (s.before + d) * k = ap (λ n. n * k) e in
        let c : parts * arrivals * s.home ≡ parts * arrivals * (s.before + d) = ap (λ n. parts * arrivals * n) e in
        let f : parts * arrivals * (2 * least) ≤ parts * arrivals * (s.there + s.before) =
        mul-le-mul_left (parts * arrivals) (omega (arith, s.there_long, s.before_long)) in
        omega (arith, spans, whole_is, k_all, l_all, a, b, c, f)
    go (inr h) =
        let a : k * s.home ≤ k * s.before = mul-le-mul_left k h in
        let f : parts * arrivals * (2 * least) ≤ parts * arrivals * (s.there + s.home) =
        mul-le-mul_left (parts * arrivals) (omega (arith, s.there_long, s.home_long)) in
        omega (arith, spans, whole_is, k_all, l_all, a, f)

mean_high : (parts more least most turnaround whole arrivals sendings : ℕ) →
    AreExchangeSpans least most turnaround whole arrivals sendings → parts * whole + more ≤ parts * arrivals →
    sendings * (parts * whole + more) ≤ arrivals * (parts * (turnaround + 2 * most) + more)
mean_high parts more least most turnaround whole arrivals sendings s room = go (cases_lt s.home s.before)
  where
    k : ℕ
    k = parts * whole + more

    spans : (sendings + s.home) * k ≡ (arrivals + s.before) * k
    spans = ap (λ n. n * k) s.sendings_is

    whole_is : parts * arrivals * whole ≡ parts * arrivals * (s.there + turnaround + s.home)
    whole_is = ap (λ n. parts * arrivals * n) s.whole_is

    go : (s.home < s.before) ⊎ (s.before ≤ s.home) →
        sendings * (parts * whole + more) ≤ arrivals * (parts * (turnaround + 2 * most) + more)
    go (inl h) =
        let d = s.before - s.home in
        let e : s.before ≡ s.home + d = omega (arith, h) in
        let a : d * k ≤ d * (parts * arrivals) = mul-le-mul_left d room in
        let b : s.before * k ≡ (s.home + d) * k = ap (λ n. n * k) e in
        let c : parts * arrivals * s.before ≡ parts * arrivals * (s.home + d) = ap (λ n. parts * arrivals * n) e in
        let f : parts * arrivals * (s.there + s.before) ≤ parts * arrivals * (2 * most) =
        mul-le-mul_left (parts * arrivals) (omega (arith, s.there_short, s.before_short)) in
        omega (arith, spans, whole_is, a, b, c, f)
    go (inr h) =
        let a : k * s.before ≤ k * s.home = mul-le-mul_left k h in
        let f : parts * arrivals * (s.there + s.home) ≤ parts * arrivals * (2 * most) =
        mul-le-mul_left (parts * arrivals) (omega (arith, s.there_short, s.home_short)) in
        omega (arith, spans, whole_is, a, f)

-- it lies between
pub weighted_mean : WeightedMean
weighted_mean = record { low = mean_low; high = mean_high }

-- a factor that isn't 0 is no matter for an order
pub cancel_left : (k m n : ℕ) → 0 < k → k * m ≤ k * n → m ≤ n
cancel_left k m n p h = go (cases_lt n m)
  where
    go : (n < m) ⊎ (m ≤ n) → m ≤ n
    go (inr l) = l
    go (inl l) = let e : k * (n + 1) ≤ k * m = mul-le-mul_left k (omega (arith, l)) in absurd (omega arith)

pub mean_is_below : MeanIsBelow
mean_is_below parts arrivals sendings up own e3 e4 k l y r far near high mean order some ratio =
    let a : r * (65536 * arrivals * own) ≤ r * (2199023255552 * (e4 + 1)) =
    mul-le-mul_left r (omega (arith, near.low)) in
    let b : k * (r * (65536 * arrivals * own))
    ≤ k * (2199023255552 * (65536 * sendings * up + 2199023255552) + 2199023255552 * r) =
    mul-le-mul_left k (omega (arith, a, ratio, far.high)) in
    let c : up * (sendings * k) ≤ up * (arrivals * l) = mul-le-mul_left up mean in
    let d : r * k ≤ r * (parts * arrivals) = mul-le-mul_left r order in
    let e : arrivals * (r * 65536 * own * k)
    ≤ arrivals * (2199023255552 * 65536 * l * up + parts * (2199023255552 * 2199023255552)
    + parts * 2199023255552 * r) =
    omega (arith, b, c, d, order) in
    let f = cancel_left arrivals _ _ some e in
    let g : r * (parts * 2199023255552 * y) ≤ r * (65536 * own * k + parts * 2199023255552) = mul-le-mul_left r high in
    omega (arith, f, g)

pub mean_is_above : MeanIsAbove
mean_is_above parts arrivals sendings up own e3 e4 k l y r far near low mean order some ratio =
    let a : r * (2199023255552 * e4) ≤ r * (65536 * arrivals * own + 2199023255552) =
    mul-le-mul_left r (omega (arith, near.high)) in
    let b : k * (2199023255552 * (65536 * sendings * up))
    ≤ k * (r * (65536 * arrivals * own) + 2199023255552 * r + 2199023255552 * 2199023255552) =
    mul-le-mul_left k (omega (arith, a, ratio, far.low)) in
    let c : up * (arrivals * l) ≤ up * (sendings * k) = mul-le-mul_left up mean in
    let d : r * k ≤ r * (parts * arrivals) = mul-le-mul_left r order in
    let e : arrivals * (2199023255552 * 65536 * l * up)
    ≤ arrivals * (r * 65536 * own * k + parts * 2199023255552 * r + parts * (2199023255552 * 2199023255552)) =
    omega (arith, b, c, d, order) in
    let f = cancel_left arrivals _ _ some e in
    let g : r * (65536 * own * k) ≤ r * (parts * 2199023255552 * y + parts * 2199023255552) = mul-le-mul_left r low in
    omega (arith, f, g)
