-- What a call does to Syncs, as the machine sees it, where something can lapse.
use Rattle.std.proofs.Common.{◌≡◌, ◌⊎◌, ◌<◌, ◌+◌, ◌/◌, ◌^◌, ℕ, suc, true, false, List, length, Option, Some, None, slice_get, refl, sym, ap, subst, ◌∙◌, inl, inr, arith}
use Rattle.std.proofs.lemmas.Bool.Decides.{nat_tests}
use Rattle.std.proofs.lemmas.Bool.{eq-eqb}
use Rattle.std.proofs.lemmas.Option.{none-some, same_Some, slice_get_within}
use Rattle.std.specs.Prelude.{◌==◌, ◌&&◌, ◌*◌, Bool, if◌then◌else◌}
use Rattle.std.specs.Option.{option_map, option_map_or}
use Rattle.gptp_graph.specs.Snapshot.{PortIdentity}
use Rattle.gptp_links.specs.Fate.{Draw}
use Rattle.gptp_lists.proofs.PlaceLemmas.{member_there}
use Rattle.gptp_messages.specs.Head.{message_type}
use Rattle.gptp_pdelay.specs.Peer.{is_capable}
use Rattle.gptp_receipt.specs.declared.held.Held.{Held}
use Rattle.gptp_receipt.specs.declared.held.Held.TheVariants as helds
use Rattle.gptp_receipt.specs.declared.held.Reception.{Reception}
use Rattle.gptp_receipt.specs.Held.{received}
use Rattle.gptp_correction.specs.declared.sync_in.SyncInfo.{SyncInfo}
use Rattle.gptp_setup.specs.SettlingParams.{has_sync_timeout, lapse_span}
use Rattle.gptp_setup.specs.declared.timer.Timer.TheVariants as timers
use Rattle.gptp_system.specs.declared.answer.Answer.{Answer}
use Rattle.gptp_system.specs.declared.port.Port.{Port}
use Rattle.gptp_system.specs.declared.sending.Sending.{Sending}
use Rattle.gptp_system.specs.Facts.{AreShown}
use Rattle.gptp_system.specs.Follows.{SystemIsRoot, SystemFollowsPort}
use Rattle.gptp_system.specs.Input.{Input, IsTimely, Steps, PortUp, PortDown, Frame as FrameHeard, Expires, Priority}
use Rattle.gptp_system.specs.Reach.{is_touched, may_select, stops_at}
use Rattle.gptp_system.specs.Selection.{kept_if}
use Rattle.gptp_system.specs.State.{SystemState, can_lead, is_capable_at}
use Rattle.gptp_system.specs.Syncing.{RelaysBy, RelaysIf, SyncsIf, is_leading}
use Rattle.gptp_system.specs.Times.{LapseRunsOn, WaitsAnew}
use Rattle.gptp_system.proofs.FollowLemmas.{follows}
use Rattle.gptp_system.proofs.ReachLemmas.{steps_reach}
use Rattle.gptp_system.proofs.TimeLemmas.{steps_run_on}
use Rattle.gptp_model.specs.declared.station.Station.{Station}
use Rattle.gptp_model.specs.Act.{Calls, all_timers, in_state}
use Rattle.gptp_model.specs.Ahead.{IsSteady}
use Rattle.gptp_model.specs.Sound.{IsItsSetup}
use Rattle.gptp_model.specs.World.{WorldState}
use Rattle.gptp_model.proofs.SteadyLemmas.{same_clock}
use Rattle.gptp_bmca_machine.specs.Frame.{SyncId}
use Rattle.gptp_bmca_machine.specs.Network.{Network}
use Rattle.gptp_bmca_machine.specs.Station.{Reception as SeenReception}
use Rattle.gptp_bmca_machine.specs.SyncActs.{FollowsOn, IsFollowed, SendsPairs, TimerStep}
use Rattle.gptp_bmca_machine.specs.Syncs.{MayLead}
use Rattle.gptp_invariants.specs.SyncLaws.{TellsTime}
use Rattle.gptp_invariants.specs.SyncView.{KnowsTime, TakesTime}
use Rattle.gptp_invariants.specs.ChoiceView.{port_identity_number, kept_view, lanes_view, reception_view, says_sync, span_at, station_view, system_view, view}
use Rattle.gptp_invariants.proofs.ChoicePortLemmas.{held_from, holds_there}
use Rattle.gptp_invariants.proofs.SyncHeardLemmas.{id_of}
use Rattle.gptp_invariants.proofs.SyncLaneLemmas.{pairs_enter}
use Rattle.gptp_invariants.proofs.SyncSaidLemmas.{leaders_tell, relays_tell}
use Rattle.gptp_invariants.proofs.ChoiceTakeUpLemmas.{BeginApart}
use Rattle.gptp_invariants.proofs.SyncTimeStepLemmas.{KeepsSync, TimeStep, can_lapse, time_steps}

-- ---- timers

and_false : (b : Bool) → (b && false) ≡ false
and_false true = refl
and_false false = refl

-- an input that isn't its expiry doesn't touch the Sync timer
untouched : (input : Input) (s : SystemState)
    → (is_touched input s timers.Sync ≡ false) ⊎ (input ≡ Expires timers.Sync)
untouched (PortUp p) s = inl (and_false (is_capable_at s p))
untouched (PortDown p) s = inl refl
untouched (FrameHeard p octets) s = inl (by (message_type octets == 0x2) (message_type octets == 0x8))
  where
    by : (asks follows : Bool)
        → (if asks then false else if follows then false else may_select (message_type octets) && false) ≡ false
    by true follows = refl
    by false true = refl
    by false false = and_false (may_select (message_type octets))
untouched (Expires (timers.Announce p)) s = inl refl
untouched (Expires (timers.Age p)) s = inl refl
untouched (Expires (timers.Pdelay p)) s = inl (and_false (stops_at p s))
untouched (Expires (timers.Respond p)) s = inl refl
untouched (Expires timers.Sync) s = inr refl
untouched (Expires timers.Relay) s = inl refl
untouched (Expires timers.Lapse) s = inl refl
untouched (Priority value) s = inl refl

-- so that stays
sync_stays : (input : Input) (now : ℕ) (s s' : SystemState) (sends : List Sending) (answer : Answer)
    → Steps input now s s' sends answer → (s'.sync ≡ s.sync) ⊎ (input ≡ Expires timers.Sync)
sync_stays input now s s' sends answer k = by (untouched input s)
  where
    by : (is_touched input s timers.Sync ≡ false) ⊎ (input ≡ Expires timers.Sync)
        → (s'.sync ≡ s.sync) ⊎ (input ≡ Expires timers.Sync)
    by (inl off) =
        inl (same_Some s'.sync s.sync ((steps_reach input now s s' sends answer k).leaves timers.Sync off))
    by (inr is) = inr is

-- a system that tells time holds what it held
leads_held : (b : Bool) (now : ℕ) (s s' : SystemState) (sends : List Sending) → SyncsIf b now s s' sends
    → s'.held ≡ s.held
leads_held true now s s' sends k = ap (λ (x : SystemState). x.held) k.state
leads_held false now s s' sends k = ap (λ (x : SystemState). x.held) k.state

relays_held_by : (b : Bool) (info : SyncInfo) (now : ℕ) (s s' : SystemState) (sends : List Sending)
    → RelaysBy b info now s s' sends → s'.held ≡ s.held
relays_held_by true info now s s' sends k = ap (λ (x : SystemState). x.held) k.state
relays_held_by false info now s s' sends (inl k) = ap (λ (x : SystemState). x.held) k.state
relays_held_by false info now s s' sends (inr k) = ap (λ (x : SystemState). x.held) k.becomes.state

relays_held : (known : Option SyncInfo) (now : ℕ) (s s' : SystemState) (sends : List Sending)
    → RelaysIf known now s s' sends → s'.held ≡ s.held
relays_held None now s s' sends k = ap (λ (x : SystemState). x.held) k.state
relays_held (Some info) now s s' sends k = relays_held_by (has_sync_timeout s.params) info now s s' sends k

-- ---- what a system follows

-- one without a Slave port follows itself, and leads where it may
leads_itself : (s : SystemState) → IsSteady s → s.slave ≡ None → MayLead s.root → is_leading s ≡ true
leads_itself s steady none may = by (follows s steady.held steady.rest)
  where
    by : SystemIsRoot s ⊎ SystemFollowsPort s → is_leading s ≡ true
    by (inl k) =
        let root = k.root in
        let most : s.identity < 255 * 2 ^ 104 = subst MayLead root may in
        let low : s.identity / 2 ^ 104 < 255 = omega arith in
        let same : (s.root == s.identity) ≡ true = eq-eqb s.root s.identity root in
        let can : can_lead s.identity ≡ true = grind (arith, nat_tests) in
        rw (same, can) refl
    by (inr k) = absurd (none-some (suc k.place) (sym none ∙ k.slave))

-- a port that received something is capable
capable_where : (s : SystemState) → AreShown s → (i : ℕ) (h : Held) (r : Reception) → slice_get s.held i ≡ Some h
    → received h ≡ Some r → is_capable_at s (suc i) ≡ true
capable_where s shown i h r stands holds =
    let places = shown.places in
    let within = slice_get_within s.held i h stands in
    let (q, there) = member_there s.ports i (omega arith) in
    ap (λ o. option_map_or (λ (x : Port). is_capable x.peer) o false) there ∙ by q there (is_capable q.peer) refl
  where
    by : (q : Port) → slice_get s.ports i ≡ Some q → (b : Bool) → is_capable q.peer ≡ b → b ≡ true
    by q there true is = refl
    by q there false is =
        absurd (none-some r (sym (ap received ((shown.each i h q stands there).off is)) ∙ holds))

-- One with a Slave port takes its time there, from where its Announce came; so the Syncs that are followed are those
-- from there.
pub record TakesSyncs (s : SystemState) (i : ℕ) : Type 0 where
  pub source : PortIdentity
  pub takes : TakesTime s (suc i) source
  pub from : (live : Bool) (id : SyncId) → IsFollowed (system_view live s) i id → id.source ≡ source
  pub followed : (live : Bool) (id : SyncId) → id.source ≡ source → IsFollowed (system_view live s) i id

pub slave_takes : (s : SystemState) → IsSteady s → (i : ℕ) → s.slave ≡ Some (suc i) → TakesSyncs s i
slave_takes s steady i slave = by (follows s steady.held steady.rest)
  where
    by : SystemIsRoot s ⊎ SystemFollowsPort s → TakesSyncs s i
    by (inl k) = absurd (none-some (suc i) (sym k.slave ∙ slave))
    by (inr k) =
        let same : suc k.place ≡ suc i = same_Some (suc k.place) (suc i) (sym k.slave ∙ slave) in
        let place : k.place ≡ i = omega arith in
        let stands : slice_get s.held i ≡ Some k.held = ap (slice_get s.held) (sym place) ∙ k.there in
        record {
          source = port_identity_number k.reception.vector.source;
          takes = record {
            capable = capable_where s steady.shown i k.held k.reception stands k.holds;
            slave = slave;
            reception = k.reception;
            holds = ap (λ o. received (option_map_or (λ h. h) o helds.Disabled)) stands ∙ k.holds;
            came = refl;
          };
          from = λ live id followed.
              sym (followed (reception_view (span_at s) k.reception)
              (holds_there live s steady.shown i k.held k.reception stands k.holds));
          followed = λ live id is r holds.
              let at = held_from live s i r holds in
              let held = same_Some k.held at.held (sym stands ∙ at.stands) in
              let reception = same_Some k.reception at.reception (sym k.holds ∙ ap received held ∙ at.got) in
              ap (λ (x : SeenReception). x.said.source) at.is
              ∙ ap (λ (x : Reception). port_identity_number x.vector.source) (sym reception) ∙ sym is;
        }

-- ---- a call

module _ (place : ℕ) (input : Input) (w : WorldState) (draws : List Draw) (answer : Answer) (w' : WorldState)
    (k : Calls place input w draws answer w') (steady : IsSteady k.station.system) (its : IsItsSetup k.station)
    (timely : IsTimely k.station.system w.time input) (knows : KnowsTime k.station.system)
    (on : 0 < k.station.system.params.sync_timeout) (apart : BeginApart (lanes_view w.net.channels))
    (n : Network) (span : n.syncs.span ≡ lapse_span k.station.system.params) where
  abbrev s : SystemState
  s = k.station.system

  abbrev called : Station
  called = in_state k.after k.station

  -- where each Master port tells time, pairs enter the lanes
  sends_pairs : TellsTime s k.after k.sends → k.after.held ≡ s.held
      → SendsPairs says_sync (view w) (view w') (station_view called)
  sends_pairs tells held i j q l l' root steps there mine here now_here =
      pairs_enter w.time s k.after k.sends draws (all_timers place called w.net) k.net k.sent apart tells
      (same_clock input w.time s k.after k.sends answer k.steps) held
      (ap length held ∙ steady.shown.places)
      (let count = its.ports in let most = its.few in omega arith) k.station.live i j q l l' root steps there mine here
      (subst (λ (v : WorldState). slice_get (lanes_view v.net.channels) j ≡ Some l') k.is now_here)

  ends_pairs : input ≡ Expires timers.Sync → is_leading s ≡ true
      → SendsPairs says_sync (view w) (view w') (station_view called)
  ends_pairs is leading =
      let steps = subst (λ one. Steps one w.time s k.after k.sends answer) is k.steps in
      sends_pairs (leaders_tell w.time s k.after k.sends answer leading steps)
      (leads_held (is_leading s) w.time s k.after k.sends steps)

  relays_pairs : input ≡ Expires timers.Relay → SendsPairs says_sync (view w) (view w') (station_view called)
  relays_pairs is =
      let steps = subst (λ one. Steps one w.time s k.after k.sends answer) is k.steps in
      sends_pairs
      (relays_tell w.time s k.after k.sends answer on (subst (IsTimely s w.time) is timely) knows steps)
      (relays_held s.known w.time s k.after k.sends steps)

  pub timers_step : TimerStep says_sync n (view w) (view w') (station_view k.station) (station_view called)
  timers_step = record {
    sync = λ none may still. by_sync (leads_itself s steady none may)
        (sync_stays input w.time s k.after k.sends answer k.steps);
    relay = λ due runs still. by_relay due runs still (time_steps input w.time s k.after k.sends answer k.steps);
    lapse = λ due runs. by_lapse due ((steps_run_on input w.time s k.after k.sends answer k.steps).lapse due runs);
  }
    where
      has : has_sync_timeout s.params ≡ true
      has = can_lapse s.params on

      by_sync : is_leading s ≡ true → (k.after.sync ≡ s.sync) ⊎ (input ≡ Expires timers.Sync)
          → (k.after.sync ≡ s.sync) ⊎ SendsPairs says_sync (view w) (view w') (station_view called)
      by_sync leading (inl stays) = inl stays
      by_sync leading (inr is) = inr (ends_pairs is leading)

      by_relay : (due : ℕ) → s.relay ≡ Some due → FollowsOn (station_view k.station) (station_view called)
          → TimeStep input s k.after
          → (k.after.relay ≡ Some due) ⊎ SendsPairs says_sync (view w) (view w') (station_view called)
      by_relay due runs still (inl stays) =
          inl (stays.relay ∙ ap (λ b. kept_if b s.relay) (stays.still still.root still.slave) ∙ runs)
      by_relay due runs still (inr (inl kept)) = inl (kept.relay ∙ runs)
      by_relay due runs still (inr (inr (inl learned))) = inl (learned.relay due has runs)
      by_relay due runs still (inr (inr (inr stopped))) = inr (relays_pairs stopped.expired)

      by_lapse : (due : ℕ) → LapseRunsOn s k.after due ⊎ WaitsAnew s w.time due
          → ((s.lapse ≡ Some due) × FollowsOn (station_view k.station) (station_view called))
          ⊎ (due ≡ w.time + n.syncs.span)
      by_lapse due (inl waits) = inl (waits.before, record { root = waits.root; slave = waits.slave })
      by_lapse due (inr anew) = inr (anew.moment ∙ ap (λ t. w.time + t) (sym span))

  -- ---- what is kept

  abbrev FollowsStill : Type 0
  FollowsStill = FollowsOn (station_view k.station) (station_view called)

  -- what is kept stays while the system follows on, unless a Sync is kept
  pub kept_stays : FollowsStill → (KeepsSync input s k.after → ⊥) → kept_view k.after ≡ kept_view s
  kept_stays still none =
      ap (option_map id_of) (by (time_steps input w.time s k.after k.sends answer k.steps))
    where
      has : has_sync_timeout s.params ≡ true
      has = can_lapse s.params on

      by : TimeStep input s k.after → k.after.sync_in ≡ s.sync_in
      by (inl stays) = stays.sync_in ∙ ap (λ b. kept_if b s.sync_in) (stays.still still.root still.slave)
      by (inr (inl kept)) = absurd (none kept)
      by (inr (inr (inl learned))) = learned.sync_in has
      by (inr (inr (inr stopped))) = stopped.sync_in
