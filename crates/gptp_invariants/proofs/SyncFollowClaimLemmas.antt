-- In every world of a network time is carried right wherever it is calm for long enough.
use Rattle.std.proofs.Common.{◌≡◌, ◌⊎◌, inl, inr, ◌<◌, ◌≤◌, ◌+◌, ◌*◌, ◌^◌, ℕ, Option, refl, sym, ap, subst, arith}
use Rattle.std.proofs.lemmas.Bool.{cases_lt}
use Rattle.gptp_links.specs.declared.bounds.Bounds.{Bounds}
use Rattle.gptp_setup.specs.SettlingParams.{SettlingParams}
use Rattle.gptp_setup.proofs.IntervalLemmas.{interval_positive}
use Rattle.gptp_scenario.specs.Allowed.{IsFitAct}
use Rattle.gptp_scenario.specs.declared.change.Act.{Act}
use Rattle.gptp_scenario.specs.declared.change.Act.TheVariants.{Deliver, Expire, Change as Changing}
use Rattle.gptp_scenario.specs.declared.change.Timed.{Timed}
use Rattle.gptp_scenario.specs.Network.{IsNetwork, NetworkState, pace_of}
use Rattle.gptp_scenario.specs.SettlingTime.{settling_span_with, window_span}
use Rattle.gptp_scenario.specs.SyncWait.{step_more}
use Rattle.gptp_model.specs.Acts.{Acts, at}
use Rattle.gptp_model.specs.Course.{Begun, WasDone}
use Rattle.gptp_model.specs.declared.done.Done.{Done}
use Rattle.gptp_model.specs.Initial.{initial}
use Rattle.gptp_model.specs.Prompt.{DelaysFitIntervals}
use Rattle.gptp_model.specs.Sound.{IsSound}
use Rattle.gptp_model.specs.World.{WorldState}
use Rattle.gptp_graph.specs.PathBound.{BoundsPaths, path_bound}
use Rattle.gptp_invariants.specs.ChoiceCalm.{sync_paths_of}
use Rattle.gptp_invariants.specs.WorldCalmFor.{IsCalmFor, span_over}
use Rattle.gptp_invariants.specs.WorldSettlingInvariant.{KeepsAll}
use Rattle.gptp_invariants.specs.WorldEncodableLaws.{SetsAnOctet}
use Rattle.gptp_invariants.specs.ChoiceSeenLaws.{IsNoChange}
use Rattle.gptp_invariants.specs.WorldStanding.{snapshot_of}
use Rattle.gptp_invariants.specs.SyncTimed.{AllMeasureRight, ArriveBy, CarriesTime, IsSettledFrom}
use Rattle.gptp_invariants.specs.SyncTimedClaim.{CarriesWhereCalm, IsCalmBy}
use Rattle.gptp_invariants.specs.SyncTimedClaimLaws.{CalmOffsetsAreExact, CarriesLater}
use Rattle.gptp_invariants.proofs.ChoiceCalmKeptLemmas.{KeepsNetwork, acts_keep, earlier_quiet, same_paths, same_snapshot, stays_quiet}
use Rattle.gptp_invariants.proofs.WorldSettlingInvariantLemmas.{over_measured, settled_by_paths}
use Rattle.gptp_invariants.proofs.WorldClaimLemmas.{claim_begins, claim_kept, claim_later}
use Rattle.gptp_invariants.proofs.SyncFollowLaterLemmas.{known_arrive, time_begins, time_carries}
use Rattle.gptp_invariants.proofs.SyncFollowMeasureLemmas.{measured_right}
use Rattle.gptp_invariants.proofs.SyncFollowOffsetLemmas.{offsets_are_exact}
use Rattle.gptp_invariants.proofs.SyncFollowWorldLemmas.{claimed_is_settled_from, done_carries}
use Rattle.gptp_invariants.proofs.DelayMeasuredLinkLemmas.{claimed_measured}
use Rattle.gptp_invariants.proofs.WorldOutlineLemmas.{acts_time, change_is_last, starts_are_last}
use Rattle.gptp_invariants.proofs.ChoiceSettlesAsMachineLemmas.{kept_back}

-- ---- a calm world

-- it has been calm for the settling span of m systems
calm_for : (p : SettlingParams) (m settled : ℕ) (w : WorldState) → KeepsAll p w → IsCalmBy p m settled w
    → settled ≤ w.time
    → IsCalmFor (span_over m) w
calm_for p m settled w claimed calm late = record {
  pace = p;
  set = λ place station here. (claimed.world.known.set place station here).starts;
  quiet = calm.quiet;
  late = let passed = calm.passed in omega (arith, passed, late);
}

-- so it is settled since that time, and its ports have measured right
pub settled_from : (p : SettlingParams) (m settled : ℕ) (w : WorldState) → KeepsAll p w → IsCalmBy p m settled w
    → settled ≤ w.time → w.time ≤ 10 ^ 18 → IsSettledFrom p settled p.params.threshold w
settled_from p m settled w claimed calm late shown =
    claimed_is_settled_from p settled w claimed calm.quiet.links
    (settled_by_paths m w (record { pace = p; is = claimed }) calm.bounded (calm_for p m settled w claimed calm late))
    (let passed = calm.passed in omega (arith, passed)) late shown

-- what was in flight has arrived by then
arrive_then : (p : SettlingParams) (m settled : ℕ) (w : WorldState) → KeepsAll p w → IsCalmBy p m settled w
    → ArriveBy settled w
arrive_then p m settled w claimed calm =
    known_arrive p settled w claimed.world.known (let passed = calm.passed in omega (arith, passed))

right_from : (p : SettlingParams) (m settled : ℕ) (w : WorldState) → KeepsAll p w → IsCalmBy p m settled w
    → settled ≤ w.time
    → w.time ≤ 10 ^ 18 → AllMeasureRight p.params w
unfolding calm_for
right_from p m settled w claimed calm late shown =
    let passed = calm.passed in
    let whole : w.last_change + settling_span_with p (sync_paths_of w) m + window_span p.params ≤ w.time =
    omega (arith, passed, late) in
    measured_right p settled p.params.threshold w (settled_from p m settled w claimed calm late shown)
    (claimed_measured w (record { pace = p; is = claimed })
    (over_measured m w (calm_for p m settled w claimed calm late) whole))

-- ---- as a change happens

-- no world has settled at its last change
at_once : (p : SettlingParams) (w : WorldState) → KeepsAll p w → w.last_change ≡ w.time → CarriesWhereCalm p w
at_once p w claimed now m settled calm late shown =
    let passed = calm.passed in
    let some = interval_positive p.largest claimed.pace.largest in
    absurd (omega (arith, passed, late, now, some))

pub carries_begins : {F : Type 0} (answers : Bounds → ℕ → F → Option ℕ → F → Type 0) (n : NetworkState)
    (fate fate_after : F) (w : WorldState) → IsNetwork n → IsSound (initial n) → Begun answers n fate fate_after w
    → CarriesWhereCalm (pace_of n) w
carries_begins answers n fate fate_after w network sound k =
    at_once (pace_of n) w (claim_begins answers n fate fate_after w network sound k)
    (starts_are_last _ (initial n) k.draws w refl k.starts)

-- ---- as time passes

-- a world that is calm later is so now
calm_earlier : (p : SettlingParams) (m settled : ℕ) (w : WorldState) (time : ℕ) → IsCalmBy p m settled (at time w)
    → IsCalmBy p m settled w
calm_earlier p m settled w time calm = record {
  quiet = earlier_quiet p.params (path_bound (snapshot_of w)) w time calm.quiet;
  bounded = calm.bounded;
  passed = calm.passed;
}

pub carries_later : CarriesLater
carries_later p w time later first claimed before m settled calm late shown =
    by (cases_lt w.time settled)
  where
    by : (w.time < settled) ⊎ (settled ≤ w.time) → CarriesTime p.params settled p.params.threshold (at time w)
    by (inl early) =
        time_begins p settled p.params.threshold w time early claimed.world.known
        (arrive_then p m settled w claimed (calm_earlier p m settled w time calm))
        (settled_from p m settled (at time w) (claim_later p w time later first claimed) calm late shown)
    by (inr already) =
        time_carries p settled p.params.threshold w time later
        (before m settled (calm_earlier p m settled w time calm) already (omega (arith, later, shown)))

-- ---- from act to act

calm_before : (p : SettlingParams) (m settled : ℕ) (w w' : WorldState) → KeepsNetwork w w' → IsCalmBy p m settled w'
    → IsCalmBy p m settled w
calm_before p m settled w w' k calm = record {
  quiet = stays_quiet w' w (kept_back w w' k) p.params calm.quiet;
  bounded = subst (λ g. BoundsPaths g m) (same_snapshot w w' k) calm.bounded;
  passed = let passed = calm.passed in let same = k.change in
      let more : m * step_more p (sync_paths_of w') ≡ m * step_more p (sync_paths_of w) =
      ap (λ paths. m * step_more p paths) (same_paths w w' k) in
      omega (arith, passed, same, more);
}

module _ {F : Type 0} (answers : Bounds → ℕ → F → Option ℕ → F → Type 0) (p : SettlingParams) (timed : Timed)
    (fate fate_after : F) (w w' : WorldState) (done : Done) (fit : IsFitAct timed.act)
    (prompt : DelaysFitIntervals w timed.act) (octet : SetsAnOctet timed.act)
    (k : WasDone answers timed fate fate_after w w' done) (claimed : KeepsAll p w) (before : CarriesWhereCalm p w)
  where
    abbrev then : WorldState
    then = at timed.at w

    claimed_then : KeepsAll p then
    claimed_then = claim_later p w timed.at k.ready.timely.now k.ready.timely.first claimed

    claimed_after : KeepsAll p w'
    claimed_after = claim_kept answers p timed fate fate_after w w' done fit prompt octet k claimed

    -- where nothing changes
    kept_on : IsNoChange timed.act → CarriesWhereCalm p w'
    kept_on none m settled calm late shown =
        let keeps = acts_keep timed.act then k.draws done w' none k.acts in
        let time = acts_time timed.act then k.draws done w' k.acts in
        let calm_then : IsCalmBy p m settled then = calm_before p m settled then w' keeps calm in
        let late_then : settled ≤ timed.at = omega (arith, late, time) in
        let shown_then : timed.at ≤ 10 ^ 18 = omega (arith, shown, time) in
        let now = k.ready.timely.now in
        done_carries answers p settled p.params.threshold timed fate fate_after w w' done none k claimed.world.known
        (arrive_then p m settled w claimed (calm_earlier p m settled w timed.at calm_then))
        (settled_from p m settled then claimed_then calm_then late_then shown_then)
        (right_from p m settled then claimed_then calm_then late_then shown_then)
        (settled_from p m settled w' claimed_after calm late shown)
        (λ already. before m settled (calm_earlier p m settled w timed.at calm_then) already
        (omega (arith, now, shown_then)))

    pub carries_kept : CarriesWhereCalm p w'
    carries_kept = by timed.act refl
      where
        by : (act : Act) → timed.act ≡ act → CarriesWhereCalm p w'
        by (Deliver link direction) same = kept_on (subst IsNoChange (sym same) tt)
        by (Expire number timer) same = kept_on (subst IsNoChange (sym same) tt)
        by (Changing change) same =
            at_once p w' claimed_after
            (change_is_last change then k.draws done w' (subst (λ act. Acts act then k.draws done w') same k.acts))

-- ---- offsets

pub calm_offsets_are_exact : CalmOffsetsAreExact
calm_offsets_are_exact p m settled link direction w draws done w' place f steps port octets root after offset h k
    tells_it are claimed carries calm shown late is_root there left =
    let already : settled ≤ w.time = omega (arith, late) in
    offsets_are_exact p settled p.params.threshold link direction w draws done w' place f steps port octets root after
    offset h k tells_it are (settled_from p m settled w claimed calm already shown)
    (right_from p m settled w claimed calm already shown) (carries m settled calm already shown) late is_root there left
