-- How long what a port received stays there, and how long the Slave port waits for time: within which limits, and how
-- long where the interval is one of the network.
use Rattle.std.proofs.Common.{◌≡◌, ◌<◌, ◌≤◌, ◌*◌, ℕ, ℤ, ap, arith}
use Rattle.std.proofs.lemmas.Int.{ints, clamps}
use Rattle.std.proofs.Math.Nat.{mul-le-mul, mul-le-mul_left}
use Rattle.gptp_setup.specs.declared.setup.Params.{Params}
use Rattle.gptp_setup.specs.Intervals.{interval_of, AreParams, IsLog, IsLogUpTo}
use Rattle.gptp_setup.specs.SettlingParams.{kept_log, lapse_span, longest_span, span_by, SettlingParams}
use Rattle.gptp_setup.proofs.IntervalLemmas.{interval_most, interval_positive, interval_rises}

-- what counts of an interval is within the limits, and not above the largest
pub kept_is_log : (largest log : ℤ) → IsLog largest → IsLogUpTo largest (kept_log largest log)
kept_is_log largest log k =
    let low = k.low in let high = k.high in
    record {
      within = record { low = omega (arith, ints, clamps); high = omega (arith, ints, clamps) };
      most = omega (arith, ints, clamps);
    }

-- an interval of the network counts as it is
pub kept_same : (largest log : ℤ) → IsLogUpTo largest log → kept_log largest log ≡ log
kept_same largest log k =
    let low = k.within.low in let most = k.most in omega (arith, ints, clamps)

pub span_same : (timeout : ℕ) (largest log : ℤ) → IsLogUpTo largest log
    → span_by timeout largest log ≡ timeout * interval_of log
span_same timeout largest log k = ap (λ v. timeout * interval_of v) (kept_same largest log k)

-- no span is empty, and none is above 160 seconds
pub span_within : (timeout : ℕ) (largest log : ℤ) → 3 ≤ timeout → timeout ≤ 10 → IsLog largest
    → (1 ≤ span_by timeout largest log) × (span_by timeout largest log ≤ 160000000000)
span_within timeout largest log least most k =
    let kept = kept_is_log largest log k in
    let positive = interval_positive (kept_log largest log) kept.within in
    let short = interval_most (kept_log largest log) kept.within in
    let lower : timeout * 1 ≤ span_by timeout largest log = mul-le-mul_left timeout positive in
    let upper : span_by timeout largest log ≤ timeout * 16000000000 = mul-le-mul_left timeout short in
    (omega arith, omega arith)

-- what a port of a network received stays there at most the longest span of the network
pub span_longest : (p : SettlingParams) (log : ℤ) → IsLog p.largest
    → span_by p.params.timeout p.largest log ≤ longest_span p
span_longest p log k =
    mul-le-mul_left p.params.timeout
    (interval_rises (kept_log p.largest log) p.largest (kept_is_log p.largest log k).most)

-- the Slave port waits for time where there is a syncReceiptTimeout, and at most 160 seconds
pub lapse_positive : (p : Params) → AreParams p → 0 < p.sync_timeout → 1 ≤ lapse_span p
lapse_positive p k on =
    let least : 1 ≤ p.sync_timeout = omega arith in
    let product : 1 * 1 ≤ lapse_span p = mul-le-mul least (interval_positive p.sync k.sync) in
    omega arith

pub lapse_most : (p : Params) → AreParams p → lapse_span p ≤ 160000000000
lapse_most p k =
    let product : lapse_span p ≤ 10 * 16000000000 = mul-le-mul k.sync-timeout (interval_most p.sync k.sync) in
    omega arith
