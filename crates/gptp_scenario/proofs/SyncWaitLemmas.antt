-- For how long a settled system waits for Sync at most.
use Rattle.std.proofs.Common.{◌≡◌, ◌<◌, ◌≤◌, ℕ, ◌+◌, ◌-◌, ◌*◌, nat_lt, Bool, true, false, cond, refl, ap, ◌∙◌, arith}
use Rattle.std.proofs.lemmas.Bool.Decides.{nat_tests}
use Rattle.std.proofs.Math.Nat.{mul-le-mul, mul-zero, zero-mul}
use Rattle.gptp_setup.specs.Intervals.{interval_of, IsLog}
use Rattle.gptp_setup.specs.SettlingParams.{SettlingParams, lapse_span, largest_interval}
use Rattle.gptp_setup.proofs.IntervalLemmas.{interval_most}
use Rattle.gptp_scenario.specs.Params.{KeepParams}
use Rattle.gptp_scenario.specs.SettlingTime.{settling_span, settling_span_with}
use Rattle.gptp_scenario.specs.SyncWait.{step_more, sync_wait}
use Rattle.gptp_scenario.specs.declared.sync_wait.SyncPaths.{SyncPaths}
use Rattle.gptp_scenario.proofs.SpanLemmas.{short_span}

pub short_way : (links residence delay : ℕ) → links ≤ 512 → residence ≤ 1000000000 → delay ≤ 160000000000
    → links * (residence + delay) ≤ 82432000000000
short_way links residence delay h r d = mul-le-mul {n₂ = 512} {m₂ = 161000000000} h (omega arith)

-- where syncReceiptTimeout is off no step takes longer
pub never_more : (p : SettlingParams) (paths : SyncPaths) → p.params.sync_timeout ≡ 0 → step_more p paths ≡ 0
never_more p paths off =
    let none : lapse_span p.params ≡ 0 = ap (λ k. k * interval_of p.params.sync) off ∙ zero-mul _ in
    by (nat_lt (sync_wait p.params paths) (lapse_span p.params)) refl none
  where
    by : (test : Bool) → nat_lt (sync_wait p.params paths) (lapse_span p.params) ≡ test → lapse_span p.params ≡ 0
        → cond test (sync_wait p.params paths + paths.delay - largest_interval p) 0 ≡ 0
    by false is none = refl
    by true is none = absurd (grind (arith, nat_tests))

pub never_longer : (p : SettlingParams) (paths : SyncPaths) (n : ℕ) → p.params.sync_timeout ≡ 0
    → settling_span p n ≡ settling_span_with p paths n
never_longer p paths n off =
    let none = never_more p paths off in
    let times : n * step_more p paths ≡ 0 = ap (λ k. n * k) none ∙ mul-zero n in
    omega (arith, times)

-- no longer than so: the wait is below the longest timeout, and intervals and delays are within sixteen seconds
pub short_time : (p : SettlingParams) (paths : SyncPaths) (n : ℕ) → KeepParams p.params → IsLog p.largest → n ≤ 512
    → paths.delay ≤ 16000000000
    → settling_span_with p paths n ≤ 195000000000000
short_time p paths n params log few short =
    by (nat_lt (sync_wait p.params paths) (lapse_span p.params)) refl
  where
    most : interval_of p.largest ≤ 16000000000
    most = interval_most p.largest log

    rest : ℕ
    rest = (p.params.timeout + 2) * n + p.params.lost + 5

    rest_few : rest ≤ 6404
    rest_few =
        let times : (p.params.timeout + 2) * n ≤ 6144 =
        mul-le-mul {n₂ = 12} {m₂ = 512} (let t = params.ranges.params.timeout in omega (arith, t)) few in
        let l = params.ranges.params.lost in
        omega (arith, times, l)

    spans : settling_span p n ≡ (rest + n) * interval_of p.largest
    spans = ap (λ k. k * interval_of p.largest) (omega arith)

    timeout_short : lapse_span p.params ≤ 160000000000
    timeout_short =
        mul-le-mul {n₂ = 10} {m₂ = 16000000000} params.ranges.params.sync-timeout
        (interval_most p.params.sync params.ranges.params.sync)

    by : (test : Bool) → nat_lt (sync_wait p.params paths) (lapse_span p.params) ≡ test
        → settling_span p n + n * cond test (sync_wait p.params paths + paths.delay - interval_of p.largest) 0
        ≤ 195000000000000
    by true is =
        let timely : sync_wait p.params paths < lapse_span p.params = grind (arith, nat_tests) in
        let limit = timeout_short in
        let reach : sync_wait p.params paths + paths.delay ≤ 176000000000 = omega arith in
        rw spans
        (short_span rest n (interval_of p.largest) (sync_wait p.params paths + paths.delay) rest_few few most reach)
    by false is =
        let none = mul-zero n in
        let alone = short_span rest n (interval_of p.largest) 0 rest_few few most (omega arith) in
        let is = spans in
        omega (arith, none, alone, is)
