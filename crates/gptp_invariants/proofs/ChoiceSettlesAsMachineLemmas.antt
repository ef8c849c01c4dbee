-- The claim begins by itself, and is kept.
use Rattle.std.proofs.Common.{◌≡◌, ◌<◌, ◌≤◌, ◌+◌, ◌*◌, ℕ, List, Option, length, refl, sym, ap, subst, ◌∙◌, inl, inr, arith}
use Rattle.std.specs.List.{range_with_len}
use Rattle.gptp_graph.specs.PathBound.{BoundsPaths, path_bound}
use Rattle.gptp_graph.specs.Snapshot.{Snapshot}
use Rattle.gptp_graph.proofs.PathBoundLemmas.{paths_within}
use Rattle.gptp_graph.proofs.PathLemmas.{path_bounded}
use Rattle.gptp_links.specs.declared.bounds.Bounds.{Bounds}
use Rattle.gptp_links.specs.Fate.{Draw}
use Rattle.gptp_setup.specs.Intervals.{IsLog}
use Rattle.gptp_setup.specs.SettlingParams.{SettlingParams, lapse_span, largest_interval, longest_span}
use Rattle.gptp_setup.proofs.IntervalLemmas.{interval_positive}
use Rattle.gptp_scenario.specs.Calm.{NothingLapses as IsOff, SyncsComeInTime}
use Rattle.gptp_scenario.specs.SyncWait.{sync_wait}
use Rattle.gptp_scenario.specs.declared.change.Act.{Act}
use Rattle.gptp_scenario.specs.declared.change.Act.TheVariants.{Deliver, Expire, Change as Changing}
use Rattle.gptp_scenario.specs.declared.change.Change.{Change}
use Rattle.gptp_scenario.specs.declared.change.Timed.{Timed}
use Rattle.gptp_model.specs.declared.done.Done.{Done}
use Rattle.gptp_model.specs.Acts.{Acts, at}
use Rattle.gptp_scenario.specs.Allowed.{IsFitAct}
use Rattle.gptp_model.specs.Course.{Begun, WasDone}
use Rattle.gptp_model.specs.Initial.{initial}
use Rattle.gptp_scenario.specs.Network.{IsNetwork as IsSimulated, NetworkState, pace_of}
use Rattle.gptp_model.specs.Prompt.{DelaysFitIntervals}
use Rattle.gptp_scenario.specs.SettlingTime.{capability_span}
use Rattle.gptp_scenario.proofs.LogLemmas.{largest_log}
use Rattle.gptp_model.specs.World.{WorldState}
use Rattle.gptp_bmca_machine.specs.Acts.{MachineSteps, MomentComes}
use Rattle.gptp_bmca_machine.specs.Calm.{Calm}
use Rattle.gptp_bmca_machine.specs.Lapsing.{NothingNearLapses}
use Rattle.gptp_bmca_machine.specs.Levels.{Invariant}
use Rattle.gptp_bmca_machine.specs.EarlyPorts.{ClaimsWhenReady}
use Rattle.gptp_bmca_machine.specs.CleanInvariant.{TracesAreClean}
use Rattle.gptp_bmca_machine.specs.Network.{BecomesClean, IsSettlingNetwork, Network, network_setting}
use Rattle.gptp_bmca_machine.specs.SyncActs.{SyncSteps}
use Rattle.gptp_bmca_machine.specs.Syncs.{HaveSyncTimers, IsPrompt}
use Rattle.gptp_bmca_machine.proofs.CleanLemmas.{clean_begins, clean_kept}
use Rattle.gptp_bmca_machine.proofs.LevelLemmas.{clean_sound, invariant_begins, invariant_kept, no_early_ports}
use Rattle.gptp_bmca_machine.proofs.SyncActLemmas.{expected_kept}
use Rattle.gptp_bmca_machine.proofs.SyncLemmas.{expected_begins}
use Rattle.gptp_bmca_machine.proofs.SyncRunLemmas.{in_time as lapses_in_time, prompt}
use Rattle.std.proofs.Math.Nat.{mul-le-mul_left}
use Rattle.gptp_invariants.specs.WorldKnown.{IsKnown}
use Rattle.gptp_invariants.proofs.WorldGreatestDelayLemmas.{delay_short}
use Rattle.gptp_invariants.specs.WorldEncodableLaws.{SetsAnOctet}
use Rattle.gptp_invariants.specs.ChoiceSeenLaws.{IsNoChange}
use Rattle.gptp_invariants.specs.ChoiceView.{says_announce, says_sync, view}
use Rattle.gptp_invariants.proofs.ChoiceSeenActLemmas.{acts_seen}
use Rattle.gptp_invariants.specs.ChoiceCalm.{HaveQuietLinks, IsQuietWith, delay_in, SettlingTimes, network_with, at_once, in_turn, network_at_once, network_of, paths_with}
use Rattle.gptp_invariants.proofs.ChoiceCalmFactLemmas.{facts}
use Rattle.gptp_invariants.proofs.ChoiceCalmLemmas.{calm, network, network_quick, none_expected, nothing_lapses}
use Rattle.gptp_invariants.proofs.ChoiceCalmKeptLemmas.{KeepsNetwork, acts_keep, earlier_quiet, same_at_once, same_network, stays_quiet_with}
use Rattle.gptp_invariants.specs.WorldStanding.{snapshot_of}
use Rattle.gptp_invariants.proofs.WorldStandsLemmas.{stands_well}
use Rattle.gptp_invariants.specs.ChoiceSettlesAsMachine.{BecomeCapable, SettlesAsMachine, IsSettling, IsWorld, quick_network, settling_network, start_of}
use Rattle.gptp_invariants.proofs.WorldOutlineLemmas.{change_is_last, starts_are_last}
use Rattle.gptp_invariants.proofs.WorldSettledLemmas.{done_stays, ready_stays, still_acts_stay}
use Rattle.gptp_invariants.proofs.SyncActLemmas.{acts_tell, timers_seen}
use Rattle.gptp_invariants.proofs.SyncWaitLemmas.{has_timeout, wait_is}

-- ---- one world

-- so is that at which it settles at once
pub is_quick_network : (p : SettlingParams) (m : ℕ) (w : WorldState) → IsWorld p w → BoundsPaths (snapshot_of w) m
    → IsSettlingNetwork (quick_network p m w)
is_quick_network p m w is bounded =
    network_quick p m (start_of p w) w is.sound is.between is.encodable is.known bounded (omega arith)

-- its network is one of the machine
pub is_network : (p : SettlingParams) (m : ℕ) (w : WorldState) → IsWorld p w → BoundsPaths (snapshot_of w) m
    → IsSettlingNetwork (settling_network p m w)
is_network p m w is bounded =
    network p m (start_of p w) w is.sound is.between is.encodable is.known bounded (omega arith)

-- of which no path has more systems than live
pub systems_bound : (p : SettlingParams) (w : WorldState) → IsWorld p w
    → BoundsPaths (snapshot_of w) (length (snapshot_of w).systems)
systems_bound p w is v u us path =
    path_bounded (snapshot_of w) v u us (stands_well w is.sound is.between is.encodable) path

-- nor more than gptp_graph reads off its links, which are no more than live
pub paths_bound : (p : SettlingParams) (w : WorldState) → IsWorld p w
    → BoundsPaths (snapshot_of w) (path_bound (snapshot_of w))
paths_bound p w is = paths_within (snapshot_of w) (stands_well w is.sound is.between is.encodable)

pub paths_fewer : (g : Snapshot) → path_bound g ≤ length g.systems
paths_fewer g = omega arith

pub is_quick_calm : (p : SettlingParams) (m : ℕ) (w : WorldState) → IsWorld p w → HaveQuietLinks p.params w
    → BecomeCapable p w
    → Calm (quick_network p m w) (view w)
is_quick_calm p m w is quiet capable =
    calm p m (start_of p w) (at_once p w) w is.sound is.encodable is.known quiet
    (facts p m (start_of p w) w is.sound is.encodable is.known) (capable quiet)

-- and one with quiet links is a calm state
pub is_calm : (p : SettlingParams) (m : ℕ) (w : WorldState) → IsWorld p w → HaveQuietLinks p.params w
    → BecomeCapable p w
    → Calm (settling_network p m w) (view w)
is_calm p m w is quiet capable =
    calm p m (start_of p w) (in_turn p (paths_with m w)) w is.sound is.encodable
    is.known quiet (facts p m (start_of p w) w is.sound is.encodable is.known)
    (capable quiet)

-- claims on traces begin later than the change, and what is held is sound from when it is wholly clean
pub becomes_clean : (p : SettlingParams) (m : ℕ) (w : WorldState) → BecomesClean (settling_network p m w)
becomes_clean p m w = record { after = omega arith; begins = omega arith; late = omega arith }

-- claims are made only once ports are capable
pub claims_when_ready : (p : SettlingParams) (m start : ℕ) (w : WorldState) (times : SettlingTimes)
    → ClaimsWhenReady (network_with p m start times w)
claims_when_ready p m start w times d from to joins = omega arith

-- until the largest interval has passed since the last change nothing is claimed
pub begins : (p : SettlingParams) (w : WorldState) → IsWorld p w → w.time < w.last_change + largest_interval p
    → SettlesAsMachine p w
begins p w is early m bounded quiet =
    let state = is_calm p m w is quiet.links (λ still begun. absurd (omega arith)) in
    let before : w.time < (settling_network p m w).sound = omega arith in
    record {
      traces = clean_begins says_announce (network_setting (settling_network p m w)) (view w) state.facts
          (λ j l f at flies late. let near =
          state.facts.near j l f at flies in absurd (omega (arith, early, near, late)))
          (omega arith);
      invariant = invariant_begins says_announce (settling_network p m w) (is_network p m w is bounded) (view w) before;
      at_once = λ off. invariant_begins says_announce (quick_network p m w) (is_quick_network p m w is bounded)
          (view w) before;
      expected = expected_begins says_sync (settling_network p m w) (view w) before;
    }

-- so where no time has passed
fresh_begins : (p : SettlingParams) (w : WorldState) → IsLog p.largest → w.last_change ≡ w.time → IsWorld p w
    → SettlesAsMachine p w
fresh_begins p w largest now is =
    let positive = interval_positive p.largest largest in begins p w is (omega arith)

pub changes_begin : (p : SettlingParams) (change : Change) (w : WorldState) (draws : List Draw) (done : Done)
    (w' : WorldState)
    → IsLog p.largest → Acts (Changing change) w draws done w' → IsWorld p w' → SettlesAsMachine p w'
changes_begin p change w draws done w' largest k = fresh_begins p w' largest (change_is_last change w draws done w' k)

pub first_begins : {F : Type 0} (answers : Bounds → ℕ → F → Option ℕ → F → Type 0) (n : NetworkState)
    (fate fate_after : F) (w : WorldState) → IsSimulated n → Begun answers n fate fate_after w → IsWorld (pace_of n) w
    → SettlesAsMachine (pace_of n) w
first_begins answers n fate fate_after w network k =
    fresh_begins (pace_of n) w (largest_log n network)
    (starts_are_last (range_with_len 0 (length n.systems)) (initial n) k.draws w refl k.starts)

-- a turn takes no longer than one with the largest interval in place of the greatest delay
pub turns_less : (p : SettlingParams) (w : WorldState) → IsKnown p w → (c : ℕ)
    → c * (longest_span p + delay_in w) ≤ c * (longest_span p + largest_interval p)
turns_less p w known c =
    let short : delay_in w ≤ largest_interval p = delay_short p w known in mul-le-mul_left c (omega (arith, short))

-- ---- from one world to the next

-- a step of the machine keeps the claim, where the network and its links stay as they are
module _ (p : SettlingParams) (w w' : WorldState) (is : IsWorld p w) (is' : IsWorld p w') (capable : BecomeCapable p w)
    (capable' : BecomeCapable p w') (same : (m : ℕ) → settling_network p m w' ≡ settling_network p m w)
    (same_quick : (m : ℕ) → quick_network p m w' ≡ quick_network p m w)
    (back : (m : ℕ) → IsQuietWith p.params (paths_with m w') w' → IsQuietWith p.params (paths_with m w) w)
    (step : MachineSteps says_announce (view w) (view w'))
    (told : (m : ℕ) → 0 < p.params.sync_timeout
    → SyncSteps says_announce says_sync (settling_network p m w) (view w) (view w')) where
  module _ (m : ℕ) (bounded : BoundsPaths (snapshot_of w) m) (quiet : IsQuietWith p.params (paths_with m w) w)
      (quiet' : HaveQuietLinks p.params w')
      (settling : IsSettling p (settling_network p m w) (quick_network p m w) (view w)) where
    abbrev n : Network
    n = settling_network p m w

    abbrev quick : Network
    quick = quick_network p m w

    net : IsSettlingNetwork n
    net = is_network p m w is bounded

    before : Calm n (view w)
    before = is_calm p m w is quiet.links capable

    after : Calm n (view w')
    after = subst (λ x. Calm x (view w')) (same m) (is_calm p m w' is' quiet' capable')

    timers_of : (x : WorldState) → IsWorld p x → HaveSyncTimers (settling_network p m x) (view x)
    timers_of x of =
        timers_seen p m (start_of p x) (in_turn p (paths_with m x)) x of.sound
        of.known

    cleans : BecomesClean n
    cleans = becomes_clean p m w

    -- traces are as clean as they must be, so that what is held is sound once it is wholly clean
    traces' : TracesAreClean says_announce (network_setting n) (view w')
    traces' = clean_kept says_announce (network_setting n) cleans.begins (view w)
        (view w') before.facts after.facts step settling.traces

    kept : NothingNearLapses n (view w) → Invariant says_announce n (view w')
    kept nothing =
        invariant_kept says_announce n net (view w) (view w') before after nothing
        (no_early_ports says_announce n (view w) (view w')
        (claims_when_ready p m (start_of p w) w (in_turn p (paths_with m w)))) step
        (clean_sound says_announce n net (view w') after traces' cleans.late) settling.invariant

    kept_at_once : IsOff p.params → Invariant says_announce quick (view w')
    kept_at_once off =
        invariant_kept says_announce quick (is_quick_network p m w is bounded) (view w) (view w')
        (is_quick_calm p m w is quiet.links capable)
        (subst (λ x. Calm x (view w')) (same_quick m) (is_quick_calm p m w' is' quiet' capable'))
        (nothing_lapses p quick w is.known off)
        (no_early_ports says_announce quick (view w) (view w')
        (claims_when_ready p m (start_of p w) w (at_once p w))) step
        (clean_sound says_announce n net (view w') after traces' cleans.late)
        (settling.at_once off)

    -- nothing lapses without a syncReceiptTimeout
    settling_off : IsOff p.params → IsSettling p n quick (view w')
    settling_off off = record {
      traces = traces';
      invariant = kept (nothing_lapses p n w is.known off);
      at_once = kept_at_once;
      expected = none_expected p n w' is'.known off;
    }

    -- nor where Syncs come in time
    settling_on : sync_wait p.params (paths_with m w) < lapse_span p.params → IsSettling p n quick (view w')
    settling_on short =
        let waits : n.sync_wait ≡ sync_wait p.params (paths_with m w) = wait_is p.params (paths_with m w) short in
        let timely : IsPrompt n = prompt n (omega (arith, waits)) (omega (arith, waits, short)) (omega arith)
        (λ d port. omega arith) in
        let timers = timers_of w is in
        let timers' = subst (λ x. HaveSyncTimers x (view w')) (same m) (timers_of w' is') in
        let nothing : NothingNearLapses n (view w) =
        lapses_in_time says_announce says_sync n net
        (view w) before settling.invariant timers timely settling.expected in
        let invariant : Invariant says_announce n (view w') = kept nothing in
        record {
          traces = traces';
          invariant = invariant;
          at_once = kept_at_once;
          expected = expected_kept says_announce says_sync n net timely.bare (view w)
              (view w') before after timers timers'
              (told m (has_timeout p.params (paths_with m w) short)) settling.invariant invariant settling.expected;
        }

    settling_after : SyncsComeInTime p.params (paths_with m w) → IsSettling p n quick (view w')
    settling_after (inl off) = settling_off off
    settling_after (inr short) = settling_on short

  step_keeps : SettlesAsMachine p w → SettlesAsMachine p w'
  step_keeps holds m bounded quiet =
      let bounds : BoundsPaths (snapshot_of w) m =
      subst (λ (n : Network). BoundsPaths n.graph m) (same m) bounded in
      let was = back m quiet in
      subst (λ x. IsSettling p (settling_network p m w') x (view w')) (sym (same_quick m))
      (subst (λ x. IsSettling p x (quick_network p m w) (view w')) (sym (same m))
      (settling_after m bounds was quiet.links (holds m bounds was) was.lapses))

-- what keeps a network is kept by the way back
pub kept_back : (w w' : WorldState) → KeepsNetwork w w' → KeepsNetwork w' w
kept_back w w' k = record {
  systems = sym k.systems;
  places = λ number. sym (k.places number);
  setups = sym k.setups;
  links = sym k.links;
  change = sym k.change;
}

-- so a world has the same network from the same start
same_settling : (p : SettlingParams) (w w' : WorldState) → KeepsNetwork w w' → (m : ℕ)
    → settling_network p m w' ≡ settling_network p m w
same_settling p w w' k m =
    ap (λ change. network_of p m (change + capability_span p) w') k.change
    ∙ same_network w w' k p m (start_of p w)

same_quick_settling : (p : SettlingParams) (w w' : WorldState) → KeepsNetwork w w' → (m : ℕ)
    → quick_network p m w' ≡ quick_network p m w
same_quick_settling p w w' k m =
    ap (λ change. network_at_once p m (change + capability_span p) w') k.change
    ∙ same_at_once w w' k p m (start_of p w)

pub acts_hold : (p : SettlingParams) (act : Act) (w : WorldState) (draws : List Draw) (done : Done) (w' : WorldState)
    → IsNoChange act → Acts act w draws done w' → IsWorld p w → BecomeCapable p w → BecomeCapable p w'
    → SettlesAsMachine p w
    → SettlesAsMachine p w'
acts_hold p act w draws done w' none k is capable capable' =
    let keeps = acts_keep act w draws done w' none k in
    step_keeps p w w' is (still_acts_stay p act w draws done w' none k is) capable capable'
    (same_settling p w w' keeps) (same_quick_settling p w w' keeps)
    (stays_quiet_with w' w (kept_back w w' keeps) p.params)
    (inr (acts_seen act w draws done w' none is.sound is.encodable k))
    (λ m on.
    inr (acts_tell p m (start_of p w) (in_turn p (paths_with m w)) w is.sound
    is.encodable is.known.set is.known.time on act draws done w' none k))

pub later_holds : (p : SettlingParams) (w : WorldState) (time : ℕ) → w.time ≤ time → IsWorld p w → IsWorld p (at time w)
    → BecomeCapable p w → BecomeCapable p (at time w) → SettlesAsMachine p w → SettlesAsMachine p (at time w)
later_holds p w time later is is' capable capable' =
    let waits : MomentComes (view w) (view (at time w)) = record { time = time; later = later; is = refl } in
    step_keeps p w (at time w) is is' capable capable' (λ m. refl) (λ m. refl) (λ m. earlier_quiet p.params m w time)
    (inl waits)
    (λ m on. inl waits)

-- so the claim is kept from act to act
pub done_holds : {F : Type 0} (answers : Bounds → ℕ → F → Option ℕ → F → Type 0) (p : SettlingParams) (timed : Timed)
    (fate fate_after : F) (w w' : WorldState) (done : Done) → IsLog p.largest → IsFitAct timed.act
    → DelaysFitIntervals w timed.act → SetsAnOctet timed.act → WasDone answers timed fate fate_after w w' done
    → IsWorld p w
    → BecomeCapable p w → BecomeCapable p (at timed.at w) → BecomeCapable p w' → SettlesAsMachine p w
    → SettlesAsMachine p w'
done_holds answers p timed fate fate_after w w' done largest fit prompt octet k is capable then capable' holds =
    by timed.act k.acts
  where
    now : IsWorld p (at timed.at w)
    now = ready_stays p timed.act timed.at w k.ready is

    still : (act : Act) → IsNoChange act → Acts act (at timed.at w) k.draws done w' → SettlesAsMachine p w'
    still act none acts =
        acts_hold p act (at timed.at w) k.draws done w' none acts now then capable'
        (later_holds p w timed.at k.ready.timely.now is now capable then holds)

    by : (act : Act) → Acts act (at timed.at w) k.draws done w' → SettlesAsMachine p w'
    by (Deliver link direction) acts = still (Deliver link direction) tt acts
    by (Expire number timer) acts = still (Expire number timer) tt acts
    by (Changing change) acts =
        changes_begin p change (at timed.at w) k.draws done w' largest acts
        (done_stays answers p timed fate fate_after w w' done fit prompt octet k is)
