-- How long a settled system waits for Sync, what a step of distance takes, and what the settling span is then.
use Rattle.std.proofs.Common.{◌≡◌, ◌<◌, ◌≤◌, ◌+◌, ◌-◌, ◌*◌, ℕ, zero, suc, pred, nat_lt, Bool, true, false, refl, inl, inr, ap, ◌∙◌, arith}
use Rattle.std.specs.Prelude.{if◌then◌else◌}
use Rattle.std.proofs.lemmas.Bool.Decides.{nat_tests}
use Rattle.std.proofs.Math.Nat.{mul-le-mul, mul-le-mul_right, zero-mul}
use Rattle.gptp_setup.specs.declared.setup.Params.{Params}
use Rattle.gptp_setup.specs.Intervals.{interval_of}
use Rattle.gptp_setup.specs.SettlingParams.{SettlingParams, lapse_span, largest_interval}
use Rattle.gptp_scenario.specs.Calm.{SyncsComeInTime}
use Rattle.gptp_scenario.specs.SyncWait.{step_more, sync_wait}
use Rattle.gptp_scenario.specs.declared.sync_wait.SyncPaths.{SyncPaths}
use Rattle.gptp_invariants.specs.ChoiceCalm.{step_with, wait_with}

-- ---- the wait

-- where Syncs come in less than the span of Lapse timers there is a syncReceiptTimeout
pub has_timeout : (p : Params) (paths : SyncPaths) → sync_wait p paths < lapse_span p → 0 < p.sync_timeout
has_timeout p paths short = by p.sync_timeout refl
  where
    by : (timeout : ℕ) → p.sync_timeout ≡ timeout → 0 < p.sync_timeout
    by zero none =
        let off : lapse_span p ≡ 0 = ap (λ k. k * interval_of p.sync) none ∙ zero-mul _ in absurd (omega arith)
    by (suc more) some = omega arith

-- and a settled system waits for them
pub wait_is : (p : Params) (paths : SyncPaths) → sync_wait p paths < lapse_span p
    → wait_with p paths ≡ sync_wait p paths
wait_is p paths short = by (nat_lt (sync_wait p paths) (lapse_span p)) refl
  where
    by : (test : Bool) → nat_lt (sync_wait p paths) (lapse_span p) ≡ test
        → (if test then sync_wait p paths else 0) ≡ sync_wait p paths
    by true is = refl
    by false is = absurd (grind (arith, nat_tests))

-- in a step that wait ends, and then the Announces of one interval come
pub step_long : (p : SettlingParams) (paths : SyncPaths) → paths.delay ≤ largest_interval p
    → wait_with p.params paths + largest_interval p + paths.delay ≤ step_with p paths
step_long p paths short = by (nat_lt (sync_wait p.params paths) (lapse_span p.params))
  where
    by : (test : Bool) → (if test then sync_wait p.params paths else 0) + largest_interval p + paths.delay
        ≤ 2 * largest_interval p
        + (if test then sync_wait p.params paths + paths.delay - largest_interval p else 0)
    by true = omega arith
    by false = omega arith

-- ---- fewer systems of a path

module _ (p : SettlingParams) (a b delay : ℕ) (fewer : a ≤ b) where
  abbrev small : SyncPaths
  small = record { systems = a; delay = delay }

  abbrev great : SyncPaths
  great = record { systems = b; delay = delay }

  -- the wait over fewer systems is shorter
  wait_less : sync_wait p.params small ≤ sync_wait p.params great
  wait_less =
      let links = mul-le-mul_right (p.params.residence + delay) (pred_less a b fewer) in omega (arith, links)
    where
      pred_less : (m n : ℕ) → m ≤ n → pred m ≤ pred n
      pred_less zero n h = omega arith
      pred_less (suc m) zero h = absurd (omega arith)
      pred_less (suc m) (suc n) h = omega arith

  -- so Syncs come in time there too
  pub in_time_less : SyncsComeInTime p.params great → SyncsComeInTime p.params small
  in_time_less (inl none) = inl none
  in_time_less (inr short) = let less = wait_less in inr (omega arith)

  -- and no step takes longer
  pub more_less : SyncsComeInTime p.params great → step_more p small ≤ step_more p great
  more_less timely =
      by (nat_lt (sync_wait p.params small) (lapse_span p.params)) refl
      (nat_lt (sync_wait p.params great) (lapse_span p.params)) refl timely
    where
      by : (x : Bool) → nat_lt (sync_wait p.params small) (lapse_span p.params) ≡ x
          → (y : Bool) → nat_lt (sync_wait p.params great) (lapse_span p.params) ≡ y
          → SyncsComeInTime p.params great
          → (if x then sync_wait p.params small + delay - largest_interval p else 0)
          ≤ (if y then sync_wait p.params great + delay - largest_interval p else 0)
      by false off y is timely = omega arith
      by true on true is timely = let less = wait_less in omega arith
      by true on false is (inl none) =
          let off : lapse_span p.params ≡ 0 = ap (λ k. k * interval_of p.params.sync) none ∙ zero-mul _ in
          absurd (grind (arith, nat_tests))
      by true on false is (inr short) = absurd (grind (arith, nat_tests))

-- a span grows with the systems, and with what a step takes
pub spans_grow : (turns rest interval m n x y : ℕ) → m ≤ n → x ≤ y
    → (turns * m + rest) * interval + m * x ≤ (turns * n + rest) * interval + n * y
spans_grow turns rest interval m n x y more longer =
    let intervals = mul-le-mul_right (turns * interval) more in
    let steps : m * x ≤ n * y = mul-le-mul more longer in
    omega (arith, intervals, steps)
