-- The claim without its parameters: it begins, is kept, and says that a calm world settles.
use Rattle.std.proofs.Common.{◌≡◌, ◌≤◌, ◌<◌, ◌+◌, ◌*◌, ℕ, suc, true, Option, Some, length, slice_get, sym, subst, inl, ◌∙◌, arith}
use native.Mathlib.Decide.{dec_le}
use Rattle.std.proofs.Math.Nat.{mul-le-mul_left, mul-le-mul_right}
use Rattle.gptp_setup.specs.SettlingParams.{SettlingParams}
use Rattle.gptp_graph.specs.Distance.{IsDistance}
use Rattle.gptp_graph.specs.PathBound.{BoundsPaths, path_bound}
use Rattle.gptp_graph.specs.SettledRole.{IsSettledRole}
use Rattle.gptp_graph.specs.Snapshot.{port_of}
use Rattle.gptp_links.specs.declared.bounds.Bounds.{Bounds}
use Rattle.gptp_scenario.specs.declared.change.Timed.{Timed}
use Rattle.gptp_model.specs.declared.done.Done.{Done}
use Rattle.gptp_model.specs.declared.station.Station.{Station}
use Rattle.gptp_scenario.specs.Allowed.{IsFitAct}
use Rattle.gptp_model.specs.Acts.{at as at_time}
use Rattle.gptp_model.specs.Course.{Begun, WasDone}
use Rattle.gptp_model.specs.Initial.{initial}
use Rattle.gptp_scenario.specs.Network.{IsNetwork, NetworkState, pace_of}
use Rattle.gptp_model.specs.Pending.{NothingBefore}
use Rattle.gptp_scenario.specs.SettlingTime.{capability_span, settling_span, settling_span_with, window_span}
use Rattle.gptp_scenario.specs.SyncWait.{step_more}
use Rattle.gptp_scenario.specs.Calm.{NothingLapses}
use Rattle.gptp_scenario.proofs.SyncWaitLemmas.{never_longer}
use Rattle.gptp_model.specs.Sound.{IsSound}
use Rattle.gptp_model.specs.World.{WorldState}
use Rattle.gptp_bmca_machine.specs.Network.{since}
use Rattle.gptp_bmca_machine.specs.Settled.{FollowsBest}
use Rattle.gptp_system.specs.Start.{role_at}
use Rattle.gptp_system.specs.State.{clock}
use Rattle.gptp_system.specs.Steps.{HasPortNumber}
use Rattle.gptp_model.specs.Prompt.{DelaysFitIntervals, HavePace}
use Rattle.gptp_invariants.specs.WorldEncodableLaws.{SetsAnOctet}
use Rattle.gptp_invariants.specs.ChoiceCalm.{HaveQuietLinks, IsQuietWith, IsQuietWorld, delay_in, paths_with, sync_paths_of}
use Rattle.gptp_invariants.specs.ChoiceSettlesAsMachine.{IsWorld, settling_network}
use Rattle.gptp_invariants.specs.WorldStanding.{snapshot_of}
use Rattle.gptp_invariants.specs.ChoiceSettled.{Settled, graph_role}
use Rattle.gptp_invariants.specs.WorldShown.{distance_span}
use Rattle.gptp_invariants.specs.ChoiceTraces.{turn_of}
use Rattle.gptp_invariants.specs.ChoiceView.{station_view}
use Rattle.gptp_invariants.proofs.ChoiceSettledLemmas.{follows_by_distance, roles_by_distance, settles, settles_at_once, settles_by_paths}
use Rattle.gptp_invariants.proofs.ChoiceSettlesAsMachineLemmas.{paths_bound, turns_less}
use Rattle.gptp_invariants.proofs.SyncWaitLemmas.{in_time_less, more_less}
use Rattle.gptp_invariants.specs.WorldCalmFor.{ArePortsSettled, IsCalmFor, at_once_span, capable_span, span_over, measured_span}
use Rattle.gptp_invariants.specs.WorldSettlingInvariant.{SettlingInvariant, KeepsAll}
use Rattle.gptp_invariants.proofs.DelayClaimedCapableLemmas.{ports_settled}
use Rattle.gptp_invariants.proofs.WorldClaimLemmas.{claim_begins, claim_capable, claim_kept, claim_later}

-- ---- it begins, and is kept

pub claimed_begins : {F : Type 0} (answers : Bounds → ℕ → F → Option ℕ → F → Type 0) (n : NetworkState)
    (fate fate_after : F) (w : WorldState) → IsNetwork n → IsSound (initial n)
    → Begun answers n fate fate_after w → SettlingInvariant w
claimed_begins answers n fate fate_after w network sound k = record {
  pace = pace_of n;
  is = claim_begins answers n fate fate_after w network sound k;
}

pub claimed_later : (w : WorldState) (time : ℕ) → w.time ≤ time → NothingBefore time w.net.pending → SettlingInvariant w
    → SettlingInvariant (at_time time w)
claimed_later w time later first claimed = record {
  pace = claimed.pace;
  is = claim_later claimed.pace w time later first claimed.is;
}

pub claimed_kept : {F : Type 0} (answers : Bounds → ℕ → F → Option ℕ → F → Type 0) (timed : Timed)
    (fate fate_after : F) (w w' : WorldState) (done : Done) → IsFitAct timed.act → DelaysFitIntervals w timed.act
    → SetsAnOctet timed.act → WasDone answers timed fate fate_after w w' done → SettlingInvariant w
    → SettlingInvariant w'
claimed_kept answers timed fate fate_after w w' done fit prompt octet k claimed =
    record {
      pace = claimed.pace;
      is = claim_kept answers claimed.pace timed fate fate_after w w' done fit prompt octet k claimed.is;
    }

-- ---- what it promises

-- a world with a system has the parameters and the largest interval that its systems start with
pub set_alike : (w : WorldState) (claimed : SettlingInvariant w) (p : SettlingParams) → HavePace p w
    → (place : ℕ) (station : Station)
    → slice_get w.stations place ≡ Some station → KeepsAll p w
set_alike w claimed p have place station here =
    let known = (claimed.is.world.known.set place station here).starts in
    let is = have place station here in
    let params = sym known.params ∙ is.params in
    let largest = sym known.largest ∙ is.largest in
    subst (λ q. KeepsAll q w) (λ i. record { params = params i; largest = largest i }) claimed.is

pub claimed_capable : (w : WorldState) → SettlingInvariant w → IsCalmFor capable_span w → ArePortsSettled w
claimed_capable w claimed calm place station here =
    let is = set_alike w claimed calm.pace calm.set place station here in
    ports_settled calm.pace w is.pace is.world is.watched is.silent calm.quiet.links calm.late place station here

pub claimed_settled : (w : WorldState) → SettlingInvariant w → IsCalmFor settling_span_with w → Settled w
claimed_settled w claimed calm place station here =
    let is = set_alike w claimed calm.pace calm.set place station here in
    settles calm.pace w is.world calm.quiet (claim_capable calm.pace w is) is.settling calm.late place station
    here

-- A number that bounds the systems of paths and is no more than m, nor than what is read off the links: a world that is
-- quiet by its own paths is quiet by it, and no step takes longer.
pub record IsReach (p : SettlingParams) (m : ℕ) (w : WorldState) : Type 0 where
  pub reach : ℕ
  pub bounded : BoundsPaths (snapshot_of w) reach
  pub within : reach ≤ m
  pub quiet : IsQuietWith p.params (paths_with reach w) w
  pub more : step_more p (paths_with reach w) ≤ step_more p (sync_paths_of w)

pub reach_of : (p : SettlingParams) (m : ℕ) (w : WorldState) → IsWorld p w → BoundsPaths (snapshot_of w) m
    → IsQuietWorld p.params w → IsReach p m w
reach_of p m w is bounded quiet = elim (dec_le m (path_bound (snapshot_of w))) [
  | yes fewer ↦ record {
    reach = m;
    bounded = bounded;
    within = omega arith;
    quiet = record {
      links = quiet.links;
      lapses = in_time_less p m (path_bound (snapshot_of w)) (delay_in w) fewer quiet.lapses;
    };
    more = more_less p m (path_bound (snapshot_of w)) (delay_in w) fewer quiet.lapses;
  }
  | no more ↦ record {
    reach = path_bound (snapshot_of w);
    bounded = paths_bound p w is;
    within = omega arith;
    quiet = quiet;
    more = omega arith;
  }
]

-- the spans end sooner by it
pub span_within : (p : SettlingParams) (m : ℕ) (w : WorldState)
    → w.last_change + settling_span_with p (sync_paths_of w) m ≤ w.time
    → (r : IsReach p m w)
    → w.last_change + settling_span_with p (paths_with r.reach w) m ≤ w.time
span_within p m w late r =
    let steps : m * step_more p (paths_with r.reach w) ≤ m * step_more p (sync_paths_of w) =
    mul-le-mul_left m r.more in
    omega (arith, late, steps)

since_within : (p : SettlingParams) (m : ℕ) (w : WorldState) (d : ℕ) → IsWorld p w
    → w.last_change + distance_span m d p (sync_paths_of w) (length (snapshot_of w).systems) ≤ w.time
    → (r : IsReach p m w)
    → since (settling_network p r.reach w) d ≤ w.time
since_within p m w d is late r =
    let shorter = turns_less p w is.known r.reach in
    let turns : r.reach * turn_of p ≤ m * turn_of p = mul-le-mul_right (turn_of p) r.within in
    let steps : d * step_more p (paths_with r.reach w) ≤ d * step_more p (sync_paths_of w) =
    mul-le-mul_left d r.more in
    omega (arith, late, turns, steps, shorter)

-- and where no path of the snapshot has more than m systems, for the settling span of m
pub settled_by_paths : (m : ℕ) (w : WorldState) → SettlingInvariant w → BoundsPaths (snapshot_of w) m
    → IsCalmFor (span_over m) w → Settled w
settled_by_paths m w claimed bounded calm place station here =
    let is = set_alike w claimed calm.pace calm.set place station here in
    let r = reach_of calm.pace m w is.world bounded calm.quiet in
    settles_by_paths calm.pace w is.world (claim_capable calm.pace w is) is.settling r.reach r.bounded r.quiet m
    r.within (span_within calm.pace m w calm.late r) place station here

-- and sooner where nothing lapses
pub settled_at_once : (m : ℕ) (w : WorldState) → SettlingInvariant w → BoundsPaths (snapshot_of w) m
    → (calm : IsCalmFor (at_once_span m) w) → NothingLapses calm.pace.params → Settled w
settled_at_once m w claimed bounded calm off place station here =
    let is = set_alike w claimed calm.pace calm.set place station here in
    let late = calm.late in
    settles_at_once calm.pace w is.world (claim_capable calm.pace w is) is.settling m bounded
    (record { links = calm.quiet.links; lapses = inl off }) off (omega (arith, late)) place station here

-- ---- by distance

-- a near live system at distance d of a calm world in which no path has more than m systems
module _ (m d : ℕ) (w : WorldState) (claimed : SettlingInvariant w) (bounded : BoundsPaths (snapshot_of w) m)
    (place : ℕ)
    (station : Station) (here : slice_get w.stations place ≡ Some station) (live : station.live ≡ true)
    (distance : IsDistance (snapshot_of w) (clock station.system) d) (near : d < 255) where
  pub distance_follows : IsCalmFor (distance_span m d) w → FollowsBest (snapshot_of w) (station_view station)
  distance_follows calm =
      let is = set_alike w claimed calm.pace calm.set place station here in
      let r = reach_of calm.pace m w is.world bounded calm.quiet in
      follows_by_distance calm.pace w is.world (claim_capable calm.pace w is) is.settling r.reach r.bounded r.quiet
      place station here live d distance near (since_within calm.pace m w d is.world calm.late r)

  pub distance_plays : IsCalmFor (distance_span m (suc d)) w → (port : ℕ) → HasPortNumber station.system port
      → IsSettledRole (snapshot_of w) (port_of (clock station.system) port) (graph_role (role_at station.system port))
  distance_plays calm =
      let is = set_alike w claimed calm.pace calm.set place station here in
      let r = reach_of calm.pace m w is.world bounded calm.quiet in
      roles_by_distance calm.pace w is.world (claim_capable calm.pace w is) is.settling r.reach r.bounded r.quiet
      place station here live d distance near (since_within calm.pace m w (suc d) is.world calm.late r)

-- ---- by neighbours

pub settled_by_neighbours : (w : WorldState) → SettlingInvariant w
    → IsCalmFor (span_over (path_bound (snapshot_of w))) w
    → Settled w
settled_by_neighbours w claimed =
    settled_by_paths (path_bound (snapshot_of w)) w claimed (paths_bound claimed.pace w claimed.is.world)

-- where there is no syncReceiptTimeout no step takes longer
pub calm_without : (p : SettlingParams) (m : ℕ) (w : WorldState) → NothingLapses p.params → HavePace p w
    → HaveQuietLinks p.params w → w.last_change + settling_span p m ≤ w.time → IsCalmFor (span_over m) w
calm_without p m w off set quiet late =
    let same : settling_span p m ≡ settling_span_with p (sync_paths_of w) m = never_longer p (sync_paths_of w) m off in
    record { pace = p; set = set; quiet = record { links = quiet; lapses = inl off }; late = rw same at late }

pub settled_capable : (w : WorldState) → IsCalmFor settling_span_with w → IsCalmFor capable_span w
settled_capable w calm =
    let passed = calm.late in
    let sooner : w.last_change + capability_span calm.pace ≤ w.time = omega arith in
    record { pace = calm.pace; set = calm.set; quiet = calm.quiet; late = sooner }

pub over_capable : (m : ℕ) (w : WorldState) → IsCalmFor (span_over m) w → IsCalmFor capable_span w
over_capable m w calm =
    let passed = calm.late in
    let sooner : w.last_change + capability_span calm.pace ≤ w.time = omega arith in
    record { pace = calm.pace; set = calm.set; quiet = calm.quiet; late = sooner }

-- with what a whole window takes more, the links are measured
pub over_measured : (m : ℕ) (w : WorldState) (calm : IsCalmFor (span_over m) w)
    → w.last_change + settling_span_with calm.pace (sync_paths_of w) m + window_span calm.pace.params ≤ w.time
    → IsCalmFor measured_span w
over_measured m w calm passed =
    let sooner : w.last_change + (capability_span calm.pace + window_span calm.pace.params) ≤ w.time =
    omega (arith, passed) in
    record { pace = calm.pace; set = calm.set; quiet = calm.quiet; late = sooner }
