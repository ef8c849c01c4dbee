-- An expiry: the port's Pdelay timer asks in vain, and any other leaves its measuring.
use Rattle.std.proofs.Common.{◌≡◌, ◌≢◌, ◌⊎◌, ◌+◌, ℕ, List, Some, slice_get, sym, ap, subst, ◌∙◌, inl, inr, arith}
use Rattle.std.specs.Option.{option_and_then}
use Rattle.gptp_vector.specs.declared.port.PortId.{PortId}
use Rattle.gptp_links.specs.Fate.{Draw}
use Rattle.gptp_pdelay.specs.Peer.{after_interval}
use Rattle.gptp_system.specs.declared.port.Port.{Port}
use Rattle.gptp_setup.specs.declared.setup.Params.{Params}
use Rattle.gptp_setup.specs.declared.timer.Timer.{Timer}
use Rattle.gptp_setup.specs.declared.timer.Timer.TheVariants as timers
use Rattle.gptp_system.specs.Input.{Expires as TimerExpires}
use Rattle.gptp_setup.specs.Intervals.{interval_of}
use Rattle.gptp_system.specs.Measures.{Part, part_asked, measure_at}
use Rattle.gptp_system.specs.State.{SystemState, due, stamp_time}
use Rattle.gptp_model.specs.Act.{TimerRunsOut}
use Rattle.gptp_model.specs.Agrees.{stopped}
use Rattle.gptp_model.specs.Sound.{IsSound}
use Rattle.gptp_model.specs.World.{WorldState, sender}
use Rattle.gptp_lists.proofs.MappedLemmas.{same_there}
use Rattle.gptp_pdelay_machine.specs.Asker.{asks_now, asker_after_interval as gives_up}
use Rattle.gptp_pdelay_machine.specs.Silence.{ActsInVain, AsksInVain}
use Rattle.gptp_invariants.specs.DelayLinkView.{LinkPlace, asked_at, asker_view, progress_view}
use Rattle.gptp_invariants.proofs.DelayLinkCallLemmas.{asker_timer}
use Rattle.gptp_model.proofs.ActsByLemmas.{expires_due}
use Rattle.gptp_invariants.proofs.DelayPartLemmas.{asked_seen}
use Rattle.gptp_invariants.specs.FailedUnanswered.{IsOldBy, IsSeenUnanswered, IsUnansweredAt, silent_setting, silent_view}
use Rattle.gptp_invariants.proofs.FailedUnansweredCallLemmas.{CallStep, asker_is, call_seen, view_stays}

module _ (gone : ℕ) (at : LinkPlace) (place : ℕ) (timer : Timer) (w : WorldState) (draws : List Draw) (w' : WorldState)
    (k : TimerRunsOut place timer w draws w') (sound : IsSound w) (l : IsUnansweredAt at w)
    (old : IsOldBy gone at w l) where
  step : CallStep place (TimerExpires timer) gone at (stopped place timer w) w' l
  step =
      call_seen gone at place (TimerExpires timer) (stopped place timer w) draws k.answer w' k.calls sound.wired.clocks
      l old (λ same. tt)

  abbrev port : PortId
  port = sender at.direction l.channel

  abbrev period : ℕ
  period = interval_of l.asking.station.setup.params.pdelay

  abbrev s : SystemState
  s = l.asking.station.system

  abbrev x : Part
  x = measure_at l.asking.state

  abbrev x' : Part
  x' = measure_at step.after.asking.state

  -- ---- the port's Pdelay timer

  module _ (here : at.asking ≡ place) (timer_is : timer ≡ timers.Pdelay port.port)
      (part : x' ≡ part_asked s w.time after_interval x) where
    due_then : l.asking.state.pdelay ≡ Some w.time
    due_then =
        let one : k.calls.station ≡ l.asking.station =
        same_there w.stations place k.calls.station l.asking.station k.calls.here
        (ap (slice_get w.stations) (sym here) ∙ l.asking.here) in
        sym (ap (option_and_then (λ (q : Port). q.pdelay)) l.asking.there)
        ∙ sym (λ i. due (timer_is i) (one i).system) ∙ expires_due place timer w draws w' k

    request_now : asked_at period l.asking.state.pdelay + period ≡ w.time
    request_now =
        let least = l.asking.measures.asks w.time due_then in
        ap (λ d. asked_at period d + period) due_then ∙ omega (arith, least)

    -- as its system asks, by the parameters of its setup
    asks_next : asker_view period (part_asked s w.time after_interval x)
        ≡ asks_now w.time x.peer.next (stamp_time s w.time)
        (gives_up l.asking.station.setup.params.lost (progress_view x.peer.progress) (asker_view period x))
    asks_next =
        subst (λ (p : Params). asker_view (interval_of p.pdelay) (part_asked s w.time after_interval x)
        ≡ asks_now w.time x.peer.next (stamp_time s w.time)
        (gives_up x.peer.allowed (progress_view x.peer.progress) (asker_view (interval_of p.pdelay) x)))
        l.asking.set_up.params (asked_seen s w.time x)
        ∙ ap (λ n. asks_now w.time x.peer.next (stamp_time s w.time)
        (gives_up n (progress_view x.peer.progress) (asker_view period x))) l.asking.measures.allowed

    asks_in_vain : AsksInVain (silent_setting at w l) (silent_view at w l) (silent_view at w' step.after)
    asks_in_vain = record {
      time = step.time;
      now = request_now;
      sequence = x.peer.next;
      t1 = stamp_time s w.time;
      asker = asker_is step ∙ ap (asker_view period) part ∙ asks_next;
    }

  -- ---- any timer

  same_timer : (t : Timer) → TimerExpires timer ≡ TimerExpires t → timer ≡ t
  same_timer t e = cc

  -- what becomes of the port
  becomes : ((at.asking ≡ place) × (timer ≡ timers.Pdelay port.port) × (x' ≡ part_asked s w.time after_interval x))
      ⊎ ((at.asking ≡ place → timer ≢ timers.Pdelay port.port) × (asker_view period x' ≡ asker_view period x))
  becomes = elim step.part [
    | inl called ↦ elim (asker_timer s w.time period timer port.port x x' called.1) [
      | inl own_timer ↦ inl (called.0, own_timer.0, own_timer.1)
      | inr other ↦ inr (λ same. other.0, other.1.0)
    ]
    | inr left ↦ inr (λ same. absurd (left.0 same), ap (asker_view period) left.1)
  ]

  one_act : ActsInVain (silent_setting at w l) gone (silent_view at w l) (silent_view at w' step.after)
  one_act = elim becomes [
    | inl asks ↦ inl (asks_in_vain asks.0 asks.1 asks.2)
    | inr stays ↦ inr (inr (view_stays step stays.1))
  ]

  pub expires_seen : IsSeenUnanswered (λ k s s'. ActsInVain k gone s s') gone at w w' l
  expires_seen = record { after = step.after; settled = step.settled; old = step.old; so = one_act }

  -- its own timer is seen as itself
  pub request_timer_seen : at.asking ≡ place → timer ≡ timers.Pdelay port.port
      → IsSeenUnanswered (λ k s s'. AsksInVain k s s') gone at w w' l
  request_timer_seen here own_timer = elim becomes [
    | inl asks ↦ record {
      after = step.after;
      settled = step.settled;
      old = step.old;
      so = asks_in_vain asks.0 asks.1 asks.2;
    }
    | inr other ↦ absurd (other.0 here own_timer)
  ]
