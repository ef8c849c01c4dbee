-- In a settled world what a system knows of time isn't older than the wait for the next Sync.
use Rattle.std.proofs.Common.{◌≡◌, ◌<◌, ◌≤◌, ◌+◌, ◌*◌, ℕ, zero, suc, pred, true, Some, slice_get, sym, ap, subst, ◌∙◌, inl, inr, arith}
use Rattle.std.proofs.Math.Nat.{mul-le-mul_right}
use Rattle.std.proofs.lemmas.Option.{none-some}
use Rattle.gptp_graph.specs.Distance.{IsDistance, IsNear}
use Rattle.gptp_graph.specs.Parent.{IsParent, ParentLink}
use Rattle.gptp_graph.specs.PathBound.{BoundsPaths, path_bound}
use Rattle.gptp_graph.specs.Snapshot.{IsWellFormed, PortIdentity, Snapshot, port_of}
use Rattle.gptp_graph.proofs.DistanceLemmas.{IsDistance-unique}
use Rattle.gptp_graph.proofs.LinkLemmas.{Joins-sym}
use Rattle.gptp_graph.proofs.PathBoundLemmas.{IsDistance-within}
use Rattle.gptp_setup.specs.SettlingParams.{SettlingParams, lapse_span}
use Rattle.gptp_scenario.specs.Calm.{SyncsComeInTime}
use Rattle.gptp_scenario.specs.SettlingTime.{settling_span_with}
use Rattle.gptp_scenario.specs.SyncWait.{sync_wait}
use Rattle.gptp_system.specs.State.{SystemState, clock}
use Rattle.gptp_model.specs.declared.station.Station.{Station}
use Rattle.gptp_model.specs.World.{WorldState}
use Rattle.gptp_bmca_machine.specs.Calm.{Calm}
use Rattle.gptp_bmca_machine.specs.Frame.{SaysSync}
use Rattle.gptp_bmca_machine.specs.Lapsing.{FollowsFarther}
use Rattle.gptp_bmca_machine.specs.Network.{IsSettlingNetwork, Network, settled_from, since}
use Rattle.gptp_bmca_machine.specs.Settled.{IsSlaveOf}
use Rattle.gptp_bmca_machine.specs.Sound.{RunIsSound}
use Rattle.gptp_bmca_machine.specs.Station.{MachineState}
use Rattle.gptp_bmca_machine.specs.Station as seen
use Rattle.gptp_bmca_machine.specs.Syncs.{HaveSyncTimers, HearsBy, IsPrompt, SyncsAreExpected, TellsBy, wait}
use Rattle.gptp_bmca_machine.proofs.SyncLemmas.{flight_left, known_station, parent_there}
use Rattle.gptp_bmca_machine.proofs.SyncRunLemmas.{prompt}
use Rattle.gptp_invariants.specs.ChoiceCalm.{IsQuietWorld, in_turn, paths_with, sync_paths_of}
use Rattle.gptp_invariants.specs.WorldCalmFor.{IsCalmFor, span_over}
use Rattle.gptp_invariants.specs.WorldSettlingInvariant.{SettlingInvariant, KeepsAll}
use Rattle.gptp_invariants.specs.ChoiceSettlesAsMachine.{BecomeCapable, IsSettling, IsWorld, quick_network, settling_network, start_of}
use Rattle.gptp_invariants.specs.ChoiceSettled.{Settled}
use Rattle.gptp_invariants.specs.WorldStanding.{snapshot_of}
use Rattle.gptp_invariants.specs.ChoiceView.{says_sync, station_view, view}
use Rattle.gptp_invariants.proofs.WorldSettlingInvariantLemmas.{settled_by_paths}
use Rattle.gptp_invariants.proofs.WorldClaimLemmas.{claim_capable}
use Rattle.gptp_invariants.proofs.WorldGreatestDelayLemmas.{delay_short}
use Rattle.gptp_invariants.proofs.ChoiceSettlesAsMachineLemmas.{is_calm, is_network, paths_bound}
use Rattle.gptp_invariants.proofs.ChoicePlaceLemmas.{station_there}
use Rattle.gptp_invariants.proofs.ChoiceSettledLemmas.{span_ends}
use Rattle.gptp_invariants.proofs.WorldStandsLemmas.{stands_well}
use Rattle.gptp_invariants.proofs.SyncActLemmas.{timers_seen}
use Rattle.gptp_invariants.proofs.SyncWaitLemmas.{step_long, wait_is}
use Rattle.gptp_theorem.specs.Headline.{WorldIsCalm}
use Rattle.gptp_theorem.proofs.HeadlineLemmas.{quiet_as}
use Rattle.gptp_reading.specs.Age.{WorldsAreRecent}

-- ---- Syncs that are expected

module _ (tells : SaysSync) (n : Network) (net : IsSettlingNetwork n) (w : MachineState) (calm : Calm n w)
    (sound : RunIsSound n w)
    (facts : HaveSyncTimers n w) where
  -- when a system tells time by some time, that hasn't passed
  tells_later : (d v by : ℕ) → IsDistance n.graph v d → TellsBy tells n w.stations w.lanes d v by → w.time ≤ by
  tells_later zero v by here (s, at, h) =
      let left : w.time ≤ s.sync = (known_station tells n net w calm sound facts v s 0 here at).sync.0 in
      omega arith
  tells_later (suc d) v by here (inl (s, at, (due, runs, h))) =
      let left : w.time ≤ due = ((known_station tells n net w calm sound facts v s (suc d) here at).relay due runs).0
      in
      omega arith
  tells_later (suc d) v by here (inr (l, parent, (come, inl (due, at, h), relayed))) =
      let left : w.time ≤ due =
      flight_left tells n net w calm sound facts (n.lane (port_of l.clock l.port)) due at in
      omega arith
  tells_later (suc d) v by here (inr (l, parent, (come, inr (sent, told, h), relayed))) =
      let left : w.time ≤ sent = tells_later d l.clock sent (parent_there n.graph v d l net.graph here parent) told in
      omega arith

  -- nor when one comes
  hears_later : (d : ℕ) (from : PortIdentity) (by : ℕ) → IsDistance n.graph from.clock d
      → HearsBy tells n w.stations w.lanes d from by → w.time ≤ by
  hears_later d from by there (inl (due, at, h)) =
      let left : w.time ≤ due = flight_left tells n net w calm sound facts (n.lane from) due at in
      omega arith
  hears_later d from by there (inr (sent, told, h)) =
      let left : w.time ≤ sent = tells_later d from.clock sent there told in
      omega arith

  -- so a Lapse timer that runs was started within the wait, once the system before has settled and that wait is over
  pub started_within : IsPrompt n → SyncsAreExpected tells n w → (i : ℕ) (s : seen.Station) (d due : ℕ)
      → slice_get w.stations i ≡ Some s → s.live ≡ true → d < 255 → FollowsFarther n.graph s d
      → since n d + n.sync_wait ≤ w.time → s.lapse ≡ Some due → w.time + n.syncs.span ≤ due + n.sync_wait
  started_within timely expected i s d due at live near nearer late lapse =
      let e = expected i s d due at live near nearer (omega (arith, late)) lapse in
      let left : w.time ≤ e.by = hears_later d nearer.follows.from e.by nearer.follows.there e.hears in
      let short : wait n d ≤ n.sync_wait =
      timely.covers d (IsDistance-within n.graph n.reach s.clock (suc d) net.paths nearer.here) in
      elim e.soon [ inl soon ↦ omega arith | inr early ↦ absurd (omega arith) ]

-- ---- a calm world

le_pred : (a b : ℕ) → a < b → a ≤ pred b
le_pred a zero h = absurd (omega arith)
le_pred a (suc b) h = omega arith

module _ (p : SettlingParams) (w : WorldState) (claimed : KeepsAll p w) (quiet : IsQuietWorld p.params w)
    (passed : w.last_change + settling_span_with p (sync_paths_of w) (path_bound (snapshot_of w)) ≤ w.time) where
  abbrev g : Snapshot
  g = snapshot_of w

  abbrev m : ℕ
  m = path_bound g

  abbrev n : Network
  n = settling_network p m w

  is : IsWorld p w
  is = claimed.world

  wf : IsWellFormed g
  wf = stands_well w is.sound is.between is.encodable

  bounded : BoundsPaths g m
  bounded = paths_bound p w is

  capable : BecomeCapable p w
  capable = claim_capable p w claimed

  state : Calm n (view w)
  state = is_calm p m w is quiet.links capable

  settling : IsSettling p n (quick_network p m w) (view w)
  settling = claimed.settling m bounded quiet

  timers : HaveSyncTimers n (view w)
  timers = timers_seen p m (start_of p w) (in_turn p (paths_with m w)) w is.sound is.known

  settled_late : settled_from n ≤ w.time
  settled_late = span_ends p w is capable claimed.settling m bounded quiet m (omega arith) passed

  choice : Settled w
  choice =
      let calm : IsCalmFor (span_over m) w = record {
        pace = p;
        set = λ place station here. (is.known.set place station here).starts;
        quiet = quiet;
        late = passed;
      } in
      settled_by_paths m w (record { pace = p; is = claimed }) bounded calm

  module _ (place port due : ℕ) (station : Station) (here : slice_get w.stations place ≡ Some station)
      (live : station.live ≡ true) (near : IsNear g (clock station.system))
      (slave : station.system.slave ≡ Some port) (lapse : station.system.lapse ≡ Some due) where
    abbrev v : ℕ
    v = clock station.system

    -- the parent that it follows
    parent : (l : ParentLink) × IsParent g v l × (l.own_port ≡ port)
    parent = subst (IsSlaveOf g v) slave (choice place station here live near).slave

    abbrev d : ℕ
    d = parent.1.nearer.distance

    nearer : FollowsFarther g (station_view station) d
    nearer =
        let l = parent.0 in
        record {
          here = parent.1.nearer.here;
          follows = record {
            port = l.own_port;
            slave = slave ∙ ap Some (sym parent.2);
            from = port_of l.clock l.port;
            joins = Joins-sym g (port_of v l.own_port) (port_of l.clock l.port) parent.1.nearer.joins;
            there = parent.1.nearer.there;
          };
        }

    near_above : d < 255
    near_above =
        let same = IsDistance-unique g v (suc d) near.0 wf parent.1.nearer.here near.1 in
        let less = near.2 in
        omega (arith, same, less)

    late : since n d + n.sync_wait ≤ w.time
    late =
        let long = step_long p (paths_with m w) (delay_short p w is.known) in
        let within = IsDistance-within g m v (suc d) bounded parent.1.nearer.here in
        let steps : suc d * n.step ≤ pred m * n.step = mul-le-mul_right n.step (le_pred (suc d) m within) in
        let all = settled_late in
        omega (arith, long, steps, all)

    started_lately : sync_wait p.params (paths_with m w) < lapse_span p.params
        → w.time + lapse_span p.params ≤ due + sync_wait p.params (paths_with m w)
    started_lately short =
        let waits : n.sync_wait ≡ sync_wait p.params (paths_with m w) = wait_is p.params (paths_with m w) short in
        let timely : IsPrompt n = prompt n (omega (arith, waits)) (omega (arith, waits, short)) (omega arith)
        (λ e q. omega arith) in
        let lately = started_within says_sync n (is_network p m w is bounded) (view w) state settling.invariant.sound
        timers timely settling.expected place (station_view station) d due
        (station_there w.stations place station here) live near_above nearer late lapse in
        omega (arith, lately, waits)

    pub lapse_lately : w.time + lapse_span p.params ≤ due + sync_wait p.params (sync_paths_of w)
    lapse_lately = by quiet.lapses
      where
        by : SyncsComeInTime p.params (sync_paths_of w)
            → w.time + lapse_span p.params ≤ due + sync_wait p.params (sync_paths_of w)
        by (inl off) = absurd (none-some due (sym ((is.known.set place station here).lapses off) ∙ lapse))
        by (inr short) = started_lately short

-- a world with a system has the parameters and the largest interval that its systems start with
pub claimed_alike : (w : WorldState) (claimed : SettlingInvariant w) (p : SettlingParams) → WorldIsCalm p w
    → (place : ℕ) (station : Station)
    → slice_get w.stations place ≡ Some station → KeepsAll p w
claimed_alike w claimed p calm place station here =
    let known = (claimed.is.world.known.set place station here).starts in
    let starts = calm.of place station here in
    let params = sym known.params ∙ starts.params in
    let largest = sym known.largest ∙ starts.largest in
    subst (λ q. KeepsAll q w) (λ i. record { params = params i; largest = largest i }) claimed.is

pub worlds_are_recent : WorldsAreRecent
worlds_are_recent w claimed p number port due s calm passed near shows slave lapse =
    let is_claimed = claimed_alike w claimed p calm shows.place shows.station shows.is.here in
    lapse_lately p w is_claimed (quiet_as p w calm) passed shows.place port due shows.station shows.is.here shows.live
    (subst (IsNear (snapshot_of w)) (sym shows.is.named) near)
    (ap (λ (x : SystemState). x.slave) (sym shows.state) ∙ slave)
    (ap (λ (x : SystemState). x.lapse) (sym shows.state) ∙ lapse)
