-- An expiry in a settled world keeps what is claimed of the time that is carried in it.
use Rattle.std.proofs.Common.{◌≡◌, ◌≢◌, ◌⊎◌, ◌<◌, ◌+◌, ℕ, Bool, true, false, List, [], Some, refl, sym, ap, subst, ◌∙◌, inl, inr, zero, suc, arith}
use Rattle.std.proofs.lemmas.Option.{none-some}
use Rattle.std.specs.List.{list_any}
use Rattle.gptp_lists.specs.Members.{In}
use Rattle.gptp_graph.specs.Distance.{IsDistance}
use Rattle.gptp_graph.specs.Best.{IsBest}
use Rattle.gptp_graph.specs.Snapshot.{System}
use Rattle.gptp_graph.specs.Parent.{ParentLink}
use Rattle.gptp_graph.proofs.ParentLemmas.{IsParent-unique}
use Rattle.gptp_vector.specs.declared.port.PortId.{PortId}
use Rattle.gptp_links.specs.Fate.{Draw}
use Rattle.gptp_setup.specs.declared.setup.Params.{Params}
use Rattle.gptp_setup.specs.declared.timer.Timer.{Timer}
use Rattle.gptp_setup.specs.declared.timer.Timer.TheVariants as timers
use Rattle.gptp_setup.specs.SettlingParams.{SettlingParams}
use Rattle.gptp_system.specs.declared.answer.Answer.{Answer}
use Rattle.gptp_system.specs.Input.{Input, Steps, Expires as TimerExpires}
use Rattle.gptp_system.specs.Messages.{AreSent}
use Rattle.gptp_system.specs.Selection.{kept_if}
use Rattle.gptp_system.specs.State.{SystemState, clock, due, is_mine}
use Rattle.gptp_system.specs.Syncing.{LeadsTime, is_leading, own_time}
use Rattle.gptp_system.proofs.SentLemmas.{steps_send}
use Rattle.gptp_model.proofs.SteadyLemmas.{same_clock}
use Rattle.gptp_model.specs.Act.{Calls, TimerRunsOut, in_state}
use Rattle.gptp_model.specs.Agrees.{stopped}
use Rattle.gptp_model.specs.declared.station.Station.{Station}
use Rattle.gptp_model.specs.World.{WorldState, sender}
use Rattle.gptp_sync_machine.specs.Follower.{FollowerSetting}
use Rattle.gptp_sync_machine.specs.Invariant.{FollowerInvariant}
use Rattle.gptp_invariants.specs.SyncFollowView.{tells}
use Rattle.gptp_invariants.specs.SyncFollowers.{HasWay, IsFollower, follower, follower_setting, state_above, base_at, follower_clock, parent_link, told_base}
use Rattle.gptp_invariants.specs.DelayLinkView.{LinkPlace}
use Rattle.gptp_invariants.specs.ChoiceSaid.{said_at}
use Rattle.gptp_invariants.specs.WorldStanding.{snapshot_of}
use Rattle.gptp_invariants.specs.SyncTimed.{AllMeasureRight, CarriesTime, IsSettledFrom, RootsAreFresh}
use Rattle.gptp_invariants.proofs.ChoiceCalmKeptLemmas.{KeepsNetwork, calls_keep, expires_keep, same_snapshot}
use Rattle.gptp_invariants.proofs.SyncFollowCallLemmas.{CallSeen, call_seen}
use Rattle.gptp_invariants.proofs.SyncFollowHearLemmas.{StaysPut, stays_put}
use Rattle.gptp_invariants.proofs.SyncFollowBaseLemmas.{GoesOn, base_above, calls_go_on, none_told}
use Rattle.gptp_invariants.proofs.SyncFollowRightLemmas.{TellsRight, leader_right, relay_right, tells_goes_on}
use Rattle.gptp_invariants.proofs.SyncFollowSayLemmas.{NoneTells, SendsOn, relays_send, syncs_tell, timer_tells_none}
use Rattle.gptp_invariants.proofs.SyncFollowStepLemmas.{RelayStops, base_goes_on, inv_on, k as next_setting, step_seen, way_was}
use Rattle.gptp_invariants.proofs.SyncFollowTreeLemmas.{WasBefore, was_before}
use Rattle.gptp_model.proofs.ActsByLemmas.{expires_due, expires_timely}
use Rattle.gptp_invariants.proofs.SyncTimeStepLemmas.{StaysKnown, Stops, expires}

-- ---- roots

-- A call by which the Relay timer of a root isn't set keeps roots fresh.
pub roots_kept : (p : Params) (settled place : ℕ) (input : Input) (w : WorldState) (draws : List Draw)
    (answer : Answer) (w' : WorldState) (k : Calls place input w draws answer w') → KeepsNetwork w w'
    → (IsDistance (snapshot_of w) (clock k.station.system) 0 → (t : ℕ) → k.after.relay ≡ Some t
    → k.station.system.relay ≡ Some t)
    → RootsAreFresh p settled w → RootsAreFresh p settled w'
roots_kept p settled place input w draws answer w' k keeps ran fresh other station t here live root runs =
    by was.which
  where
    was : WasBefore place input w draws answer w' k other (clock station.system)
        (record { station = station; here = here; live = live; named = refl })
    was =
        was_before place input w draws answer w' k other (clock station.system)
        (record { station = station; here = here; live = live; named = refl })

    there : IsDistance (snapshot_of w) (clock station.system) 0
    there = subst (λ g. IsDistance g (clock station.system) 0) (same_snapshot w w' keeps) root

    by : ((other ≡ place) × (was.before.station ≡ k.station) × (station ≡ in_state k.after k.station))
        ⊎ ((other ≢ place) × (station ≡ was.before.station)) → t < settled + p.residence
    by (inl (same, was_it, is_it)) =
        let named : clock station.system ≡ clock k.station.system =
        ap (λ (y : Station). clock y.system) is_it
        ∙ same_clock input w.time k.station.system k.after k.sends answer k.steps in
        let ran_then = ran (subst (λ n. IsDistance (snapshot_of w) n 0) named there) t
        (ap (λ (y : Station). y.system.relay) (sym is_it) ∙ runs) in
        fresh place k.station t k.here k.live (subst (λ n. IsDistance (snapshot_of w) n 0) named there) ran_then
    by (inr (apart, is_it)) =
        fresh other was.before.station t was.before.here was.before.live
        (subst (λ (y : Station). IsDistance (snapshot_of w) (clock y.system) 0) is_it there)
        (ap (λ (y : Station). y.system.relay) (sym is_it) ∙ runs)

-- what stays known sets no Relay timer
pub known_ran : (s s' : SystemState) (t : ℕ) → StaysKnown s s' → s'.relay ≡ Some t → s.relay ≡ Some t
known_ran s s' t k runs = by k.same k.relay
  where
    by : (same : Bool) → s'.relay ≡ kept_if same s.relay → s.relay ≡ Some t
    by true is = sym is ∙ runs
    by false is = absurd (none-some t (sym is ∙ runs))

-- ---- an expiry

module _ (p : SettlingParams) (settled longest : ℕ) (w w' : WorldState) (is : IsSettledFrom p settled longest w)
    (is' : IsSettledFrom p settled longest w') (right : AllMeasureRight p.params w)
    (carries : CarriesTime p.params settled longest w) (place : ℕ) (timer : Timer) (draws : List Draw)
    (e : TimerRunsOut place timer w draws w') where
  abbrev at_rest : WorldState
  at_rest = stopped place timer w

  abbrev s : SystemState
  s = e.calls.station.system

  abbrev s' : SystemState
  s' = e.calls.after

  keeps_rest : KeepsNetwork at_rest w'
  keeps_rest = calls_keep place (TimerExpires timer) at_rest draws e.answer w' (λ value q. cc) e.calls

  keeps : KeepsNetwork w w'
  keeps = expires_keep place timer w draws w' e

  time : w'.time ≡ w.time
  time = ap (λ (v : WorldState). v.time) e.calls.is

  same : clock s' ≡ clock s
  same = same_clock (TimerExpires timer) w.time s s' e.calls.sends e.answer e.calls.steps

  sent : AreSent s w.time (TimerExpires timer) e.calls.sends
  sent =
      steps_send (TimerExpires timer) w.time s s' e.calls.sends e.answer (expires_timely place timer w draws w' e)
      e.calls.steps

  same_timer : (one other : Timer) → TimerExpires one ≡ TimerExpires other → one ≡ other
  same_timer one other q = cc

  -- the best of each component goes on to tell the same
  goes : (number : ℕ) (best : System) → IsBest (snapshot_of w) number best
      → GoesOn (base_at w.stations best.clock) (base_at w'.stations best.clock)
  goes number best is_best =
      calls_go_on p settled longest place (TimerExpires timer) w at_rest draws e.answer w' is refl e.calls keeps_rest
      number best is_best

  -- what it makes of the system that is called
  moves : s'.root ≡ s.root → s'.slave ≡ s.slave → StaysPut s s' ⊎ RelayStops w.time s s'
  moves root slave = by (expires timer w.time s s' e.calls.sends e.calls.steps)
    where
      by : StaysKnown s s' ⊎ Stops (TimerExpires timer) s s' → StaysPut s s' ⊎ RelayStops w.time s s'
      by (inl stays) = inl (stays_put s s' root slave stays)
      by (inr stops) =
          inr (record {
            runs = ap (λ t. due t s) (sym (same_timer timer timers.Relay stops.expired))
                ∙ expires_due place timer w draws w' e;
            sync_in = stops.sync_in;
            relay = stops.relay;
          })

  module _ (at : LinkPlace) (f' : IsFollower at w') (steps : ℕ) (h' : HasWay p.params at w' f' steps) where
    seen : CallSeen at at_rest w' f' place s s' e.calls.sends
    seen =
        call_seen place (TimerExpires timer) at_rest draws e.answer w' e.calls keeps_rest is.world.sound.wired.clocks
        is.world.sound.wired.apart at f' (is'.world.encodable.links at.link f'.channel f'.here).ends

    -- it follows in the world before
    abbrev f : IsFollower at w
    f = record {
      channel = seen.before.channel;
      here = seen.before.here;
      used = seen.before.used;
      lossless = seen.before.lossless;
      above = record {
        station = seen.before.above.station;
        here = seen.before.above.here;
        live = seen.before.above.live;
        named = seen.before.above.named;
      };
      own = record {
        station = seen.before.own.station;
        here = seen.before.own.here;
        live = seen.before.own.live;
        named = seen.before.own.named;
      };
      near = seen.before.near;
      parent = seen.before.parent;
    }

    abbrev h : HasWay p.params at w f steps
    h = way_was p settled longest w w' is is' keeps time goes at f f' seen.a seen.b seen.bounds steps h'

    abbrev kset : FollowerSetting
    kset = next_setting p settled longest w w' is is' keeps time goes at f f' seen.a seen.b seen.bounds steps h'

    abbrev port : PortId
    port = sender at.direction f.channel

    -- what the parent tells
    speaks : at.asking ≡ place → NoneTells (said_at s' port e.calls.sends) ⊎ TellsRight kset w.time s e.calls.sends
    speaks here = by timer e.calls.steps sent (expires_due place timer w draws w' e)
      where
        above : state_above at w f ≡ s
        above = seen.above here

        none_sent : e.calls.sends ≡ [] → NoneTells (said_at s' port e.calls.sends)
        none_sent none octets member =
            absurd (subst (λ xs. In octets (said_at s' port xs)) none member)

        -- where it is the root, the base is the one that it has afterwards
        its_base : steps ≡ 0 → kset.base ≡ told_base s'
        its_base none = by_zero steps h' none
          where
            was : WasBefore place (TimerExpires timer) at_rest draws e.answer w' e.calls at.asking
                (sender at.direction f'.channel).clock f'.above
            was =
                was_before place (TimerExpires timer) at_rest draws e.answer w' e.calls at.asking
                (sender at.direction f'.channel).clock f'.above

            after : f'.above.station.system ≡ s'
            after = elim was.which [
              | inl (same, before, now) ↦ ap (λ (y : Station). y.system) now
              | inr (other, still) ↦ absurd (other here)
            ]

            by_zero : (n : ℕ) → HasWay p.params at w' f' n → n ≡ 0 → kset.base ≡ told_base s'
            by_zero zero way is_zero =
                let (parent, up, follows, there, way_is, phase_is) = way.is in
                let one = IsParent-unique (snapshot_of w') (follower_clock at w' f') parent
                (parent_link at.direction f'.channel) follows f'.parent in
                base_above p settled longest w' is' at f'
                (subst (λ (l : ParentLink). IsDistance (snapshot_of w') l.clock 0) one there.0) ∙ ap told_base after
            by_zero (suc n) way is_zero = absurd (omega (arith, is_zero))

        leading : (is_leading s ≡ true) × LeadsTime w.time s s' e.calls.sends
            → NoneTells (said_at s' port e.calls.sends) ⊎ TellsRight kset w.time s e.calls.sends
        leading (leads_it, told) = by_master (list_any is_mine s.held) refl
          where
            by_master : (b : Bool) → list_any is_mine s.held ≡ b
                → NoneTells (said_at s' port e.calls.sends) ⊎ TellsRight kset w.time s e.calls.sends
            by_master true master =
                inr (subst (λ y. TellsRight kset w.time y e.calls.sends) above
                (leader_right p settled longest w is at f steps h kset.base s' e.calls.sends its_base
                (subst (λ y. is_leading y ≡ true) (sym above) leads_it)
                (subst (λ (y : SystemState). list_any is_mine y.held ≡ true) (sym above) master)
                (subst (λ y. LeadsTime w.time y s' e.calls.sends) (sym above) told)))
            by_master false none =
                inl (none_sent (told.sends_are
                ∙ none_told (clock s) s.params.sync (own_time told.stamp told.rest) 1 s.held s.ports none))

        sending : s.relay ≡ Some w.time → SendsOn w.time s s' e.calls.sends → TellsRight kset w.time s e.calls.sends
        sending runs told =
            subst (λ y. TellsRight kset w.time y e.calls.sends) above
            (tells_goes_on (follower_setting p.params settled longest at w f steps h) kset.base w.time
            (state_above at w f) e.calls.sends
            (base_goes_on p settled longest w w' is is' keeps time goes at f f' seen.a seen.b seen.bounds)
            (relay_right p settled longest w is right carries at f steps h s' e.calls.sends
            (subst (λ (y : SystemState). y.relay ≡ Some w.time) (sym above) runs)
            (subst (λ y. SendsOn w.time y s' e.calls.sends) (sym above) told)))

        by : (t : Timer) → Steps (TimerExpires t) w.time s s' e.calls.sends e.answer
            → AreSent s w.time (TimerExpires t) e.calls.sends → due t s ≡ Some w.time
            → NoneTells (said_at s' port e.calls.sends) ⊎ TellsRight kset w.time s e.calls.sends
        by timers.Sync k all runs = elim (syncs_tell w.time s s' e.calls.sends e.answer k) [
          | inl told ↦ leading told
          | inr none ↦ inl (none_sent none)
        ]
        by timers.Relay k all runs = elim (relays_send w.time s s' e.calls.sends e.answer k) [
          | inl told ↦ inr (sending runs told)
          | inr none ↦ inl (none_sent none)
        ]
        by (timers.Announce n) k all runs =
            inl (timer_tells_none (timers.Announce n) w.time s s' e.calls.sends port (λ q. cc) (λ q. cc) all)
        by (timers.Age n) k all runs =
            inl (timer_tells_none (timers.Age n) w.time s s' e.calls.sends port (λ q. cc) (λ q. cc) all)
        by (timers.Pdelay n) k all runs =
            inl (timer_tells_none (timers.Pdelay n) w.time s s' e.calls.sends port (λ q. cc) (λ q. cc) all)
        by (timers.Respond n) k all runs =
            inl (timer_tells_none (timers.Respond n) w.time s s' e.calls.sends port (λ q. cc) (λ q. cc) all)
        by timers.Lapse k all runs =
            inl (timer_tells_none timers.Lapse w.time s s' e.calls.sends port (λ q. cc) (λ q. cc) all)

    follows_on : FollowerInvariant (follower_setting p.params settled longest at w' f' steps h') tells
        (follower at w' f')
    follows_on =
        inv_on p settled longest w w' is is' keeps time goes at f f' seen.a seen.b seen.bounds steps h' carries
        (step_seen p settled longest w w' is is' keeps time goes at f f' seen.a seen.b seen.bounds steps h' place s s'
        e.calls.sends seen.news seen.queue_is seen.late seen.said seen.quiet same seen.own seen.above
        (λ here. moves) speaks)

  pub expiry_carries : CarriesTime p.params settled longest w'
  expiry_carries = record {
    follow = follows_on;
    roots = roots_kept p.params settled place (TimerExpires timer) at_rest draws e.answer w' e.calls keeps_rest
        (λ root t runs. ran t runs (expires timer w.time s s' e.calls.sends e.calls.steps)) carries.roots;
  }
    where
      ran : (t : ℕ) → s'.relay ≡ Some t → StaysKnown s s' ⊎ Stops (TimerExpires timer) s s' → s.relay ≡ Some t
      ran t runs (inl stays) = known_ran s s' t stays runs
      ran t runs (inr stops) = absurd (none-some t (sym stops.relay ∙ runs))
