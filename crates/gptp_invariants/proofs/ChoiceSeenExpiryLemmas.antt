-- A timer that runs out is something that happens at a live system of the machine.
use Rattle.std.proofs.Common.{◌≡◌, ◌⊎◌, ◌≤◌, ◌+◌, ℕ, suc, List, Some, slice_get, sym, ap, subst, ◌∙◌, inl, inr, arith}
use Rattle.std.specs.Option.{option_and_then, option_map, option_map_or}
use Rattle.std.proofs.lemmas.Option.{same_Some}
use Rattle.gptp_links.specs.Fate.{Draw}
use Rattle.gptp_messages.specs.declared.announce.AnnounceView.{AnnounceView}
use Rattle.gptp_receipt.specs.declared.held.Held.{Held}
use Rattle.gptp_receipt.specs.declared.held.Held.TheVariants as helds
use Rattle.gptp_receipt.specs.declared.held.Reception.{Reception}
use Rattle.gptp_receipt.specs.Held.{received}
use Rattle.gptp_system.specs.declared.port.Port.{Port}
use Rattle.gptp_setup.specs.declared.timer.Timer.{Timer}
use Rattle.gptp_setup.specs.declared.timer.Timer.TheVariants as timers
use Rattle.gptp_system.specs.Input.{Expires as TimerExpires}
use Rattle.gptp_system.specs.State.{SystemState, age_due, due, held_at}
use Rattle.gptp_system.specs.Touch.{Hear, Grow}
use Rattle.gptp_model.specs.declared.station.Station.{Station}
use Rattle.gptp_model.specs.Act.{TimerRunsOut, in_state}
use Rattle.gptp_model.specs.Agrees.{stopped}
use Rattle.gptp_model.specs.Sound.{IsSound}
use Rattle.gptp_model.specs.World.{WorldState}
use Rattle.gptp_bmca_machine.specs.Acts.{Lapses, Runs}
use Rattle.gptp_bmca_machine.specs.Frame.{Announce}
use Rattle.gptp_bmca_machine.specs.Station.{Received, Reception as SeenReception, Port as SeenPort, Station as SeenStation}
use Rattle.gptp_invariants.specs.WorldEncodable.{IsEncodable}
use Rattle.gptp_invariants.specs.ChoiceView.{held_view, reception_view, said, says_announce, span_at, station_view, touch_view, view}
use Rattle.gptp_invariants.proofs.ChoiceSeenCallLemmas.{IsCallSeen, calls_seen}
use Rattle.gptp_invariants.proofs.ChoicePlaceLemmas.{IsPortAt, port_from}
use Rattle.gptp_invariants.proofs.ChoiceReactLemmas.{received_back}
use Rattle.gptp_invariants.proofs.ChoiceTouchLemmas.{Ages, grow_back, grown_by, hear_back, heard_in}
use Rattle.gptp_invariants.proofs.ChoiceSendLemmas.{world_apart}
use Rattle.gptp_model.proofs.ActsByLemmas.{expires_due, expires_timely}

-- what is seen as received at a port is too old where its Age timer is due
age_passed : (s : SystemState) (i : ℕ) (h : Held) (q : Port) (now : ℕ) (x : SeenReception) → slice_get s.held i ≡ Some h
    → slice_get s.ports i ≡ Some q → due (timers.Age (suc i)) s ≡ Some now
    → held_view (span_at s) h ≡ Received x → x.at + x.span ≤ now
age_passed s i h q now x held there is holds = go (received_back (span_at s) h x holds)
  where
    due_is : age_due s.params s.largest h ≡ Some now
    due_is =
        ap (λ o. age_due s.params s.largest (option_map_or (λ y. y) o helds.Disabled)) (sym held)
        ∙ ap (λ o. option_and_then (λ p. age_due s.params s.largest (held_at s (suc i))) o) (sym there)
        ∙ is

    go : (r : Reception) × (received h ≡ Some r) × (x ≡ reception_view (span_at s) r) → x.at + x.span ≤ now
    go (r, got, same) =
        let time : r.at + span_at s r.interval ≡ now =
        same_Some (r.at + span_at s r.interval) now
        (ap (λ o. option_map (λ (y : Reception). y.at + span_at s y.interval) o) (sym got) ∙ due_is) in
        subst (λ (y : SeenReception). y.at + y.span ≤ now) (sym same) (omega arith)

-- something that is no delivery happens at this system, and leaves it in this state
pub record IsRunAt (station : Station) (after : SystemState) (w w' : WorldState) : Type 0 where
  pub act : Runs says_announce (view w) (view w')
  pub station_is : act.call.s ≡ station_view station
  pub after_is : act.call.s' ≡ station_view (in_state after station)

module _ (place : ℕ) (timer : Timer) (w : WorldState) (draws : List Draw) (w' : WorldState) (sound : IsSound w)
    (encodable : IsEncodable w) (k : TimerRunsOut place timer w draws w') where
  abbrev station : Station
  station = k.calls.station

  expiry_call : IsCallSeen (TimerExpires timer) station k.calls.after w w'
  expiry_call =
      let steady = (sound.on_time.stations place station k.calls.here).steady in
      let its = sound.wired.setups place station k.calls.here in
      let c = calls_seen place (TimerExpires timer) (stopped place timer w) draws k.answer w' k.calls steady its
      (expires_timely place timer w draws w' k) (encodable.stations place station k.calls.here).system tt
      (world_apart w sound encodable) in
      record { touch = c.touch; seen = c.seen; call = c.call; station_is = c.station_is; after_is = c.after_is }

  -- it is a step of the machine at that system
  pub expires_at : IsRunAt station k.calls.after w w'
  expires_at =
      let c = expiry_call in
      record {
        act = record {
          touch = touch_view c.touch;
          call = c.call;
          deaf = λ n a heard. deaf c n a (hear_back c.touch n a heard);
          ages = λ i q x grown there holds.
              subst (λ (m : SeenStation). (x.at + x.span ≤ w.time) ⊎ Lapses m i w.time) (sym c.station_is)
              (ages c i q x (grow_back c.touch (suc i) grown)
              (subst (λ (m : SeenStation). slice_get m.ports i ≡ Some q) c.station_is there) holds);
        };
        station_is = c.station_is;
        after_is = c.after_is;
      }
    where
      deaf : (c : IsCallSeen (TimerExpires timer) station k.calls.after w w') (n : ℕ) (a : Announce)
          → (b : AnnounceView) × (c.touch ≡ Hear n b) × (a ≡ said b) → ⊥
      deaf c n a (b, heard, same) =
          let (octets, is, reads) = heard_in station.system (TimerExpires timer) c.touch c.seen n b heard in cc

      same_timer : (one other : Timer) → TimerExpires one ≡ TimerExpires other → one ≡ other
      same_timer one other e = cc

      -- a port whose Age timer expires received what its span has passed of, and the Lapse timer is the system's
      ages : (c : IsCallSeen (TimerExpires timer) station k.calls.after w w') (i : ℕ) (q : SeenPort) (x : SeenReception)
          → c.touch ≡ Grow (suc i) → slice_get (station_view station).ports i ≡ Some q → q.held ≡ Received x
          → (x.at + x.span ≤ w.time) ⊎ Lapses (station_view station) i w.time
      ages c i q x grown there holds =
          go (port_from (span_at station.system) station.system.held station.system.ports i q there)
          (grown_by station.system (TimerExpires timer) c.touch c.seen (suc i) grown)
        where
          out : (one : Timer) → TimerExpires timer ≡ TimerExpires one → due one station.system ≡ Some w.time
          out one is = ap (λ t. due t station.system) (sym (same_timer timer one is))
              ∙ expires_due place timer w draws w' k

          go : IsPortAt (span_at station.system) station.system.held station.system.ports i q
              → Ages station.system (TimerExpires timer) (suc i)
              → (x.at + x.span ≤ w.time) ⊎ Lapses (station_view station) i w.time
          go p (inl is) =
              inl (age_passed station.system i p.held p.port w.time x p.held_there p.port_there
              (out (timers.Age (suc i)) is) (ap (λ (y : SeenPort). y.held) (sym p.is) ∙ holds))
          go p (inr (is, slave)) = inr (record { slave = slave; due = out timers.Lapse is })

  pub expires_seen : Runs says_announce (view w) (view w')
  expires_seen = expires_at.act
