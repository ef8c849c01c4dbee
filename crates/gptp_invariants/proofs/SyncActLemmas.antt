-- Every act that changes nothing of the network is a step of the machine by which Syncs are told and heard.
use Rattle.std.proofs.Common.{◌≡◌, ◌≢◌, ◌⊎◌, ◌<◌, ◌≤◌, ◌+◌, ◌/◌, ◌^◌, ℕ, suc, true, List, Option, Some, None, slice_get, refl, sym, ap, subst, ◌∙◌, inl, inr, arith}
use Rattle.std.proofs.lemmas.Bool.Decides.{nat_tests}
use Rattle.gptp_links.specs.declared.link.Direction.{Direction}
use Rattle.gptp_links.specs.Fate.{Draw}
use Rattle.gptp_setup.specs.SettlingParams.{SettlingParams, lapse_span}
use Rattle.gptp_setup.specs.declared.setup.Params.{Params}
use Rattle.gptp_setup.specs.Intervals.{interval_of}
use Rattle.gptp_setup.specs.declared.timer.Timer.{Timer}
use Rattle.gptp_setup.specs.declared.timer.Timer.TheVariants as timers
use Rattle.gptp_system.specs.declared.answer.Answer.{Answer}
use Rattle.gptp_system.specs.Input.{Frame as FrameHeard, Expires as TimerExpires}
use Rattle.gptp_system.specs.State.{SystemState, can_lead}
use Rattle.gptp_system.proofs.LapseLemmas.{lapse_begins}
use Rattle.gptp_model.specs.declared.station.Station.{Station}
use Rattle.gptp_model.specs.Act.{Calls, Delivers, TimerRunsOut, Hears, in_state}
use Rattle.gptp_model.specs.Agrees.{stopped}
use Rattle.gptp_model.specs.Sound.{IsSound}
use Rattle.gptp_model.specs.World.{WorldState, receiver}
use Rattle.gptp_scenario.specs.declared.change.Act.{Act}
use Rattle.gptp_scenario.specs.declared.change.Act.TheVariants.{Deliver, Expire, Change as Changing}
use Rattle.gptp_model.specs.declared.done.Done.{Done}
use Rattle.gptp_model.specs.Acts.{Acts}
use Rattle.gptp_model.specs.Ahead.{IsSteady}
use Rattle.gptp_messages.specs.declared.message.Message.TheVariants as messages
use Rattle.gptp_messages.specs.Grammar.{Reads}
use Rattle.gptp_bmca_machine.specs.Acts.{Arrives, Drops, Runs}
use Rattle.gptp_bmca_machine.specs.Frame.{Sync, SyncId}
use Rattle.gptp_bmca_machine.specs.Network.{Network}
use Rattle.gptp_bmca_machine.specs.Station.{MachineState, Station as SeenStation}
use Rattle.gptp_bmca_machine.specs.SyncActs.{FollowsOn, HearsFollowedSync, IsFollowed, SyncActs, SyncArrives, SyncDrops, SyncRuns, TimerStep}
use Rattle.gptp_invariants.specs.ChoiceCalm.{SettlingTimes, network_with}
use Rattle.gptp_invariants.specs.WorldKnown.{AreSet, IsKnown}
use Rattle.gptp_invariants.specs.WorldEncodable.{IsEncodable}
use Rattle.gptp_invariants.specs.ChoiceSeenLaws.{IsNoChange}
use Rattle.gptp_invariants.specs.SyncView.{KnowTime, TakesTime}
use Rattle.gptp_invariants.specs.ChoiceView.{kept_view, says_announce, says_sync, station_view, sync_id, view}
use Rattle.gptp_bmca_machine.specs.Syncs.{HasSyncTimers, HaveSyncTimers, MayLead}
use Rattle.gptp_invariants.proofs.ChoicePlaceLemmas.{station_from}
use Rattle.gptp_invariants.proofs.ChoiceSeenDeliveryLemmas.{IsArrivalAt, emptied_apart, failed_drops, receiver_arrives}
use Rattle.gptp_invariants.proofs.ChoiceSeenExpiryLemmas.{expires_at}
use Rattle.gptp_invariants.proofs.ChoiceSendLemmas.{world_apart}
use Rattle.gptp_invariants.proofs.SyncCallLemmas.{TakesSyncs, kept_stays, slave_takes, timers_step}
use Rattle.gptp_invariants.proofs.SyncHeardLemmas.{follow_ups_are_used, followed_here, syncs_are_kept}
use Rattle.gptp_invariants.proofs.SyncTimeStepLemmas.{KeepsSync}
use Rattle.gptp_model.proofs.ActsByLemmas.{expires_timely, reached_up}

module _ (p : SettlingParams) (m start : ℕ) (times : SettlingTimes) (w : WorldState) (sound : IsSound w)
    (encodable : IsEncodable w)
    (set : AreSet p w) (knows : KnowTime w) (above : 0 < p.params.sync_timeout) where
  abbrev n : Network
  n = network_with p m start times w

  on : (place : ℕ) (station : Station) → slice_get w.stations place ≡ Some station
      → 0 < station.system.params.sync_timeout
  on place station here =
      subst (λ (x : Params). 0 < x.sync_timeout) (sym (set place station here).params) above

  span : (place : ℕ) (station : Station) → slice_get w.stations place ≡ Some station
      → n.syncs.span ≡ lapse_span station.system.params
  span place station here = ap lapse_span (sym (set place station here).params)

  -- ---- an expiry

  -- what is asked of what isn't a delivery
  abbrev RunsSo : SeenStation → SeenStation → MachineState → Type 0
  RunsSo s s' w' = TimerStep says_sync n (view w) w' s s' × (FollowsOn s s' → s'.kept ≡ s.kept)

  pub expiries_tell : (place : ℕ) (timer : Timer) (draws : List Draw) (w' : WorldState)
      → TimerRunsOut place timer w draws w'
      → (act : Runs says_announce (view w) (view w')) × SyncRuns says_announce says_sync n (view w) (view w') act
  expiries_tell place timer draws w' k =
      let c = k.calls in
      let steady = (sound.on_time.stations place c.station c.here).steady in
      let its = sound.wired.setups place c.station c.here in
      let timely = expires_timely place timer w draws w' k in
      let time = knows place c.station c.here c.live in
      let apart = world_apart w sound encodable in
      let run = expires_at place timer w draws w' sound encodable k in
      let so : RunsSo (station_view c.station) (station_view (in_state c.after c.station)) (view w') = (
        timers_step place (TimerExpires timer) (stopped place timer w) draws k.answer w' c steady its timely time
            (on place c.station c.here) apart n (span place c.station c.here),
        λ still. kept_stays place (TimerExpires timer) (stopped place timer w) draws k.answer w' c steady its timely
            time (on place c.station c.here) apart n (span place c.station c.here) still
            (λ (kept : KeepsSync (TimerExpires timer) c.station.system c.after). let is = kept.heard in absurd cc),
      ) in
      let seen : RunsSo run.act.call.s run.act.call.s' (view w') =
      subst (λ s. RunsSo s run.act.call.s' (view w')) (sym run.station_is)
      (subst (λ s'. RunsSo (station_view c.station) s' (view w')) (sym run.after_is) so) in
      (run.act, record { timers = seen.0; keeps = seen.1 })

  -- ---- a delivery

  module _ (link : ℕ) (direction : Direction) (octets : List ℕ) (draws : List Draw) (answer : Option Answer)
      (w' : WorldState) (k : Delivers link direction octets w draws answer w') where
    abbrev emptied : WorldState
    emptied = record w { net = k.net }

    abbrev port : ℕ
    port = (receiver direction k.channel).port

    -- what is asked of a frame that arrives at a port
    abbrev Heard : MachineState → SeenStation → SeenStation → ℕ → List ℕ → Type 0
    Heard mid s s' at said = TimerStep says_sync n mid (view w') s s'
        × (((i : ℕ) → s.slave ≡ Some (suc i) → at ≡ suc i → FollowsOn s s'
        → HearsFollowedSync says_sync n w.time i said s s')
        × ((i : ℕ) → s.slave ≡ Some (suc i) → at ≢ suc i → FollowsOn s s' → s'.kept ≡ s.kept))

    module _ (one : Answer) (c : Calls k.place (FrameHeard port octets) emptied draws one w') where
      abbrev s : SystemState
      s = c.station.system

      abbrev called : Station
      called = in_state c.after c.station

      arrival : IsArrivalAt c.station c.after emptied port octets w w'
      arrival = receiver_arrives link direction octets w draws answer w' sound encodable k one c

      steady : IsSteady s
      steady = (sound.on_time.stations k.place c.station c.here).steady

      timer_steps : TimerStep says_sync n (view emptied) (view w') (station_view c.station) (station_view called)
      timer_steps =
          timers_step k.place (FrameHeard port octets) emptied draws one w' c steady
          (sound.wired.setups k.place c.station c.here)
          (reached_up link direction octets w draws answer w' k sound.wired c.station c.here c.live)
          (knows k.place c.station c.here c.live) (on k.place c.station c.here)
          (emptied_apart link direction octets w draws answer w' sound encodable k) n (span k.place c.station c.here)

      stays : FollowsOn (station_view c.station) (station_view called)
          → (KeepsSync (FrameHeard port octets) s c.after → ⊥) → kept_view c.after ≡ kept_view s
      stays still none =
          kept_stays k.place (FrameHeard port octets) emptied draws one w' c steady
          (sound.wired.setups k.place c.station c.here)
          (reached_up link direction octets w draws answer w' k sound.wired c.station c.here c.live)
          (knows k.place c.station c.here c.live) (on k.place c.station c.here)
          (emptied_apart link direction octets w draws answer w' sound encodable k) n (span k.place c.station c.here)
          still none

      same_frame : (n p : ℕ) (x y : List ℕ) → FrameHeard n x ≡ FrameHeard p y → (n ≡ p) × (x ≡ y)
      same_frame n p x y e = (cc, cc)

      -- at the Slave port
      hears : (i : ℕ) → s.slave ≡ Some (suc i) → port ≡ suc i
          → FollowsOn (station_view c.station) (station_view called)
          → HearsFollowedSync says_sync n w.time i octets (station_view c.station) (station_view called)
      hears i slave here still =
          let t = slave_takes s steady i slave in
          let takes : TakesTime s port t.source = subst (λ q. TakesTime s q t.source) (sym here) t.takes in
          record {
            sync = λ id said followed.
                syncs_are_kept port octets w.time s c.after c.sends one id c.steps
                (subst (TakesTime s port) (sym (t.from c.station.live id followed)) takes) said;
            follow_up = λ id said kept.
                let heard = follow_ups_are_used port octets w.time s c.after c.sends one t.source id c.steps
                (on k.place c.station c.here) takes kept said in
                record {
                  relay = (_, heard.relay);
                  lapse = λ due runs.
                      (lapse_begins s s.root s.slave w.time due (sym heard.lapse ∙ runs)).moment
                      ∙ ap (λ x. w.time + x) (sym (span k.place c.station c.here));
                };
            other = λ none. stays still (λ kept. another t none kept);
          }
        where
          another : (t : TakesSyncs s i)
              → ((id : SyncId) → says_sync octets (Sync id) → IsFollowed (station_view c.station) i id → ⊥)
              → KeepsSync (FrameHeard port octets) s c.after → ⊥
          another t none kept =
              let frame = same_frame port kept.port octets kept.octets kept.heard in
              let (at, two_step, from) = followed_here s (suc i) t.source t.takes kept.port kept.head kept.followed in
              none (sync_id kept.head) (
                kept.head,
                subst (λ o. Reads o (messages.Sync kept.head)) (sym frame.1) kept.reads,
                two_step,
                refl,
              )
              (t.followed c.station.live (sync_id kept.head) from)

      -- at any other
      keeps : (i : ℕ) → s.slave ≡ Some (suc i) → port ≢ suc i
          → FollowsOn (station_view c.station) (station_view called) → kept_view c.after ≡ kept_view s
      keeps i slave other still = stays still another
        where
          another : KeepsSync (FrameHeard port octets) s c.after → ⊥
          another kept =
              let t = slave_takes s steady i slave in
              let frame = same_frame port kept.port octets kept.octets kept.heard in
              let (at, two_step, from) = followed_here s (suc i) t.source t.takes kept.port kept.head kept.followed in
              other (frame.0 ∙ at)

      arrives_so : SyncArrives says_announce says_sync n (view w) (view w') arrival.act
      arrives_so =
          let so : Heard (view emptied) (station_view c.station) (station_view called) port octets =
          (timer_steps, (hears, keeps)) in
          let same : Heard (view emptied) (station_view c.station) (station_view called) port octets
          ≡ Heard arrival.act.mid arrival.act.call.s arrival.act.call.s' arrival.act.l.to.port arrival.act.f.octets =
          λ i. Heard (sym arrival.mid_is i) (sym arrival.station_is i) (sym arrival.after_is i) (sym arrival.port_is i)
          (sym arrival.octets_is i) in
          let seen = subst (λ X. X) same so in
          record { timers = seen.0; hears = seen.1.0; keeps = seen.1.1 }

    pub deliveries_tell : ((act : Arrives says_announce (view w) (view w'))
        × SyncArrives says_announce says_sync n (view w) (view w') act)
        ⊎ ((act : Drops says_announce (view w) (view w')) × SyncDrops says_announce says_sync (view w) (view w') act)
    deliveries_tell = by answer k.hears
      where
        by : (o : Option Answer) → Hears k.place port octets emptied draws o w'
            → ((act : Arrives says_announce (view w) (view w'))
            × SyncArrives says_announce says_sync n (view w) (view w') act)
            ⊎ ((act : Drops says_announce (view w) (view w'))
            × SyncDrops says_announce says_sync (view w) (view w') act)
        by None hears =
            let drop = failed_drops link direction octets w draws answer w' sound encodable k hears in
            inr (drop.act, λ i m x at named live said. drop.failed i m at named live)
        by (Some one) hears = inl ((arrival one hears).act, arrives_so one hears)

  -- ---- every act

  pub acts_tell : (act : Act) (draws : List Draw) (done : Done) (w' : WorldState) → IsNoChange act
      → Acts act w draws done w' → SyncActs says_announce says_sync n (view w) (view w')
  acts_tell (Deliver link direction) draws done w' none k =
      by (deliveries_tell link direction k.octets draws k.answer w' k.delivers)
    where
      by : ((act : Arrives says_announce (view w) (view w'))
          × SyncArrives says_announce says_sync n (view w) (view w') act)
          ⊎ ((act : Drops says_announce (view w) (view w')) × SyncDrops says_announce says_sync (view w) (view w') act)
          → SyncActs says_announce says_sync n (view w) (view w')
      by (inl arrives) = inl arrives
      by (inr drops) = inr (inl drops)
  acts_tell (Expire number timer) draws done w' none (told, k) =
      inr (inr (expiries_tell k.place timer draws w' k.so))
  acts_tell (Changing change) draws done w' none k = absurd none

-- ---- each state

-- a system whose priority1 is below 255 may lead
may_lead : (identity : ℕ) → can_lead identity ≡ true → MayLead identity
may_lead identity can =
    let low : identity / 2 ^ 104 < 255 = grind (arith, nat_tests) in omega arith

pub timers_seen : (p : SettlingParams) (m start : ℕ) (times : SettlingTimes) (w : WorldState) → IsSound w → IsKnown p w
    → HaveSyncTimers (network_with p m start times w) (view w)
timers_seen p m start times w sound known i seen there live =
    let at = station_from w.stations i seen there in
    let lives = ap (λ (x : SeenStation). x.live) (sym at.is) ∙ live in
    let s = at.station.system in
    let late = (sound.on_time.stations i at.station at.here).timers lives in
    let soon = known.in_time i at.station at.here lives in
    let params = (known.set i at.station at.here).params in
    subst (HasSyncTimers (network_with p m start times w) w.time) (sym at.is)
    (record {
      sync = (
        late timers.Sync s.sync refl,
        subst (λ (x : Params). s.sync ≤ w.time + interval_of x.sync) params soon.sync,
      );
      relay = λ due runs. (
        late timers.Relay due runs,
        subst (λ (x : Params). due ≤ w.time + x.residence) params (soon.relay due runs),
      );
      lapse = λ due runs. may_lead s.root ((known.time i at.station at.here lives).lapses due runs);
    })
