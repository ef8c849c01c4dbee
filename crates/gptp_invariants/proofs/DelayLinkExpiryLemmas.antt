-- An expiry, seen at a link: a request is sent, an answer is sent, or others send.
use Rattle.std.proofs.Common.{◌≡◌, ◌≢◌, ◌⊎◌, ◌+◌, ℕ, ℤ, List, map, Option, Some, None, slice_get, refl, sym, ap, subst, ◌∙◌, inl, inr, arith}
use Rattle.std.specs.Option.{option_and_then, option_map_or}
use Rattle.gptp_vector.specs.declared.port.PortId.{PortId}
use Rattle.gptp_messages.specs.Frame.{PortFits}
use Rattle.gptp_links.specs.Fate.{Draw}
use Rattle.gptp_pdelay.specs.declared.answer.Answer.{Answer as Owed}
use Rattle.gptp_pdelay.specs.Peer.{after_interval}
use Rattle.gptp_system.specs.declared.port.Port.{Port}
use Rattle.gptp_system.specs.declared.sending.Sending.{Sending}
use Rattle.gptp_setup.specs.declared.setup.Params.{Params}
use Rattle.gptp_setup.specs.declared.timer.Timer.{Timer}
use Rattle.gptp_setup.specs.declared.timer.Timer.TheVariants as timers
use Rattle.gptp_system.specs.Input.{Expires as TimerExpires}
use Rattle.gptp_setup.specs.Intervals.{interval_of}
use Rattle.gptp_system.specs.Measures.{Part, part_answered, part_asked, measure_at}
use Rattle.gptp_system.specs.Measuring.{Responds, RespondsIf, owed_at}
use Rattle.gptp_system.specs.Messages.{AreSent}
use Rattle.gptp_system.specs.State.{SystemState, clock, due, number, own, stamp_time}
use Rattle.gptp_model.specs.declared.station.Station.{Station}
use Rattle.gptp_model.specs.Act.{TimerRunsOut}
use Rattle.gptp_model.specs.Agrees.{stopped}
use Rattle.gptp_model.specs.Sound.{IsSound}
use Rattle.gptp_model.specs.World.{WorldState, receiver, sender}
use Rattle.gptp_lists.proofs.MappedLemmas.{same_there}
use Rattle.gptp_model.proofs.SteadyLemmas.{same_clock}
use Rattle.gptp_pdelay_machine.specs.Answerer.{Waiting}
use Rattle.gptp_pdelay_machine.specs.Acts.{SendsAnswer, RequestTimerExpires, AnswerTimerExpires}
use Rattle.gptp_pdelay_machine.specs.Asker.{Closed, asks_now, asker_after_interval as gives_up}
use Rattle.gptp_pdelay_machine.specs.Meter.{MeterActs, meter_answered, meter_asks}
use Rattle.gptp_pdelay_machine.specs.Lanes.{LaneFrame as SeenFrame, AreMute, FirstIs}
use Rattle.gptp_pdelay_machine.specs.Messages.{Request, Response, FollowUp}
use Rattle.gptp_invariants.specs.DelayLinkView.{IsEndOf, IsLinkOf, LinkPlace, RequestFits, asked_at, asker_view, reads_as_request, link_frame_view, link_identity, meter, other_direction, pair, progress_view, reads_as_reply, request_from, link_setting, waits_by, waits_view, setup_stamps, kept_view}
use Rattle.gptp_invariants.specs.DelayLinkActs.{IsOneAct, IsSeenAtLink}
use Rattle.gptp_invariants.proofs.DelayLinkCallLemmas.{answerer_timer, asker_is, asker_timer, back_in_time, back_is, back_late, back_mute, back_stays, others_send as others_seen, out_in_time, out_is, out_late, out_mute, out_stays}
use Rattle.gptp_invariants.specs.ChoiceSaid.{said_at}
use Rattle.gptp_invariants.proofs.DelayLinkLemmas.{IsOrderly, LinkStep, end_fits, end_named, end_next, end_request, link_called, sender_opposite, sound_orderly, stamped_as_set_up}
use Rattle.gptp_invariants.proofs.DelayPartLemmas.{AsksAsBefore, asked_measured, asked_seen, asks_still}
use Rattle.gptp_invariants.proofs.DelaySentLemmas.{next_of, sends_answer, sends_request}
use Rattle.gptp_model.proofs.ActsByLemmas.{expires_due, expires_timely}

-- ---- the ends

-- what a port stamps is what its system does
pub clock_is : (place : ℕ) (port : PortId) (w : WorldState) (e : IsEndOf place port w) (t : ℕ)
    → setup_stamps e.station.setup t ≡ stamp_time e.station.system t
clock_is place port w e t = sym (stamped_as_set_up e.station e.set_up t)

module _ (at : LinkPlace) (place : ℕ) (timer : Timer) (w : WorldState) (draws : List Draw) (w' : WorldState)
    (k : TimerRunsOut place timer w draws w') (sound : IsSound w) (l : IsLinkOf at w) where
  abbrev s : SystemState
  s = k.calls.station.system

  abbrev s' : SystemState
  s' = k.calls.after

  abbrev sends : List Sending
  sends = k.calls.sends

  orderly : IsOrderly w
  orderly = sound_orderly w sound

  pub step : LinkStep at place (TimerExpires timer) (stopped place timer w) w' l s s' sends
  step =
      link_called at place (TimerExpires timer) (stopped place timer w) draws k.answer w' k.calls
      (expires_timely place timer w draws w' k)
      (record {
        setups = orderly.setups;
        clocks = orderly.clocks;
        apart = orderly.apart;
        params = orderly.params;
      })
      l (λ same. tt) (λ same. tt)

  same_clocks : clock s' ≡ clock s
  same_clocks = same_clock (TimerExpires timer) w.time s s' sends k.answer k.calls.steps

  abbrev period : ℕ
  period = interval_of l.asking.station.setup.params.pdelay

  abbrev asker_port : PortId
  asker_port = sender at.direction l.channel

  abbrev answerer_port : PortId
  answerer_port = receiver at.direction l.channel

  -- the port of an end at this place, in the state of the system that is called
  one_system : (port : PortId) (other : ℕ) (e : IsEndOf other port w) → other ≡ place → s ≡ e.station.system
  one_system port other e same =
      ap (λ (x : Station). x.system)
      (same_there w.stations place k.calls.station e.station k.calls.here
      (ap (slice_get w.stations) (sym same) ∙ e.here))

  own_before : (port : PortId) (other : ℕ) (e : IsEndOf other port w) → other ≡ place → own s port.port ≡ port
  own_before port other e same =
      ap (λ x. own x port.port) (one_system port other e same) ∙ end_named other port w e

  own_kept : (p : ℕ) → own s' p ≡ own s p
  own_kept p = λ i. record { clock = same_clocks i; port = p }

  -- when its timer is due, by what it reads off the port
  port_due : (f : Port → Option ℕ) (port : PortId) (other : ℕ) (e : IsEndOf other port w) → other ≡ place
      → due timer s ≡ option_and_then f (number s.ports port.port) → f e.state ≡ Some w.time
  port_due f port other e same is =
      sym (is ∙ ap (λ (x : SystemState). option_and_then f (number x.ports port.port)) (one_system port other e same)
      ∙ ap (option_and_then f) e.there) ∙ expires_due place timer w draws w' k

  -- ---- the Pdelay timer of the port that asks

  module _ (here : at.asking ≡ place) (timer_is : timer ≡ timers.Pdelay asker_port.port)
      (part : measure_at step.after.asking.state
      ≡ part_asked l.asking.station.system w.time after_interval (measure_at l.asking.state)) where
    others_still : at.answering ≢ place
    others_still same = l.apart (here ∙ sym same)

    waits_still : waits_view (measure_at step.after.answering.state) ≡ waits_view (measure_at l.answering.state)
    waits_still = elim step.answering [
      | inl called ↦ absurd (others_still called.0)
      | inr left ↦ ap waits_view left.1
    ]

    due_then : l.asking.state.pdelay ≡ Some w.time
    due_then =
        port_due (λ q. q.pdelay) asker_port at.asking l.asking here (ap (λ t. due t s) timer_is)

    request_now : asked_at period l.asking.state.pdelay + period ≡ w.time
    request_now =
        let least = l.asking.measures.asks w.time due_then in
        ap (λ d. asked_at period d + period) due_then ∙ omega (arith, least)

    asks_next : (pair at w' step.after).asker
        ≡ asks_now w.time l.asking.state.peer.next
        (setup_stamps l.asking.station.setup w.time)
        (gives_up l.asking.station.setup.params.lost (progress_view l.asking.state.peer.progress)
        (asker_view period (measure_at l.asking.state)))
    asks_next =
        let x : Part = measure_at l.asking.state in
        let old : SystemState = l.asking.station.system in
        let seen : asker_view period (part_asked old w.time after_interval x)
        ≡ asks_now w.time x.peer.next (stamp_time old w.time)
        (gives_up x.peer.allowed (progress_view x.peer.progress) (asker_view period x)) =
        subst (λ (p : Params). asker_view (interval_of p.pdelay) (part_asked old w.time after_interval x)
        ≡ asks_now w.time x.peer.next (stamp_time old w.time)
        (gives_up x.peer.allowed (progress_view x.peer.progress) (asker_view (interval_of p.pdelay) x)))
        l.asking.set_up.params (asked_seen old w.time x) in
        asker_is step
        ∙ ap (asker_view period) part ∙ seen
        ∙ ap (λ t. asks_now w.time x.peer.next t
        (gives_up x.peer.allowed (progress_view x.peer.progress) (asker_view period x)))
        (sym (clock_is at.asking asker_port w l.asking w.time))
        ∙ ap (λ n. asks_now w.time x.peer.next
        (setup_stamps l.asking.station.setup w.time)
        (gives_up n (progress_view x.peer.progress) (asker_view period x)))
        l.asking.measures.allowed

    request_goes : FirstIs reads_as_request
        (λ (f : SeenFrame). reads_as_request f.octets (request_from asker_port l.asking.state.peer.next))
        (AreMute reads_as_request)
        (map link_frame_view (step.grows.news at.direction))
    request_goes =
        let p = asker_port.port in
        let system = one_system asker_port at.asking l.asking here in
        let mine = own_before asker_port at.asking l.asking here in
        let sent = subst (λ t. AreSent s w.time (TimerExpires t) sends) timer_is step.sent in
        let fits = subst (λ (x : SystemState). RequestFits (own x p) (next_of x p)) (sym system)
        (end_request at.asking asker_port w orderly.setups l.asking) in
        let number_is : next_of s p ≡ l.asking.state.peer.next =
        ap (λ x. next_of x p) system ∙ end_next at.asking asker_port w l.asking in
        let said = step.grows.said at.direction ∙ ap (λ port. said_at s' port sends) (sym mine) in
        subst (λ (r : Request). FirstIs reads_as_request (λ (f : SeenFrame). reads_as_request f.octets r)
        (AreMute reads_as_request)
        (map link_frame_view (step.grows.news at.direction)))
        (λ i. request_from (mine i) (number_is i))
        (sends_request s s' p sends sent (orderly.params place k.calls.station k.calls.here).pdelay fits (own_kept p)
        (step.grows.news at.direction) said)

    pub request_seen : RequestTimerExpires (link_setting at w l) reads_as_request reads_as_reply (pair at w l)
        (pair at w' step.after)
    request_seen = record {
      time = step.time;
      waits = waits_still;
      back = back_stays step others_still;
      now = request_now;
      sequence = l.asking.state.peer.next;
      asker = asks_next;
      news = map link_frame_view (step.grows.news at.direction);
      out = out_is step;
      sent = request_goes;
    }

    -- where no request was open what was measured stays
    measured_still : progress_view l.asking.state.peer.progress ≡ Closed
        → kept_view step.after.asking.state.peer ≡ kept_view l.asking.state.peer
    measured_still shut =
        ap (λ (x : Part). kept_view x.peer) part
        ∙ asked_measured l.asking.station.system w.time (measure_at l.asking.state) shut

  -- ---- the Respond timer of the port that answers

  module _ (here : at.answering ≡ place) (timer_is : timer ≡ timers.Respond answerer_port.port)
      (part : measure_at step.after.answering.state ≡ part_answered (measure_at l.answering.state)) where
    asker_apart : at.asking ≢ place
    asker_apart same = l.apart (same ∙ sym here)

    asker_still : AsksAsBefore period (measure_at l.asking.state) (measure_at step.after.asking.state)
    asker_still = elim step.asking [
      | inl called ↦ absurd (asker_apart called.0)
      | inr left ↦ asks_still period (measure_at l.asking.state) (measure_at step.after.asking.state) left.1
    ]

    answers_then : l.answering.state.respond ≡ Some w.time
    answers_then =
        port_due (λ q. q.respond) answerer_port at.answering l.answering here (ap (λ t. due t s) timer_is)

    abbrev owed : Owed
    owed = (l.answering.measures.owes w.time answers_then).0

    waiting_is : l.answering.state.peer.waiting ≡ Some owed
    waiting_is = (l.answering.measures.owes w.time answers_then).1

    responds : Responds answerer_port.port w.time s owed sends
    responds =
        let p = answerer_port.port in
        let sent : RespondsIf (owed_at s p) p w.time s sends =
        subst (λ t. AreSent s w.time (TimerExpires t) sends) timer_is step.sent in
        let owes : owed_at s p ≡ Some owed =
        ap (λ x. owed_at x p) (one_system answerer_port at.answering l.answering here)
        ∙ ap (λ o. option_map_or (λ (q : Port). q.peer.waiting) o None) l.answering.there ∙ waiting_is in
        subst (λ o. RespondsIf o p w.time s sends) owes sent

    abbrev waiting : Waiting
    waiting = record { request = request_from owed.requester owed.sequence; t2 = owed.t2; due = w.time }

    answer_goes : SendsAnswer (link_setting at w l) reads_as_reply waiting w.time
        (map link_frame_view (step.grows.news (other_direction at.direction)))
    answer_goes =
        let p = answerer_port.port in
        let system = one_system answerer_port at.answering l.answering here in
        let mine = own_before answerer_port at.answering l.answering here in
        let fits = (l.answering.measures.owes w.time answers_then).2 in
        let own_fits = subst PortFits (sym mine) (end_fits at.answering answerer_port w orderly.setups l.answering) in
        let said = step.grows.said (other_direction at.direction)
        ∙ ap (λ port. said_at s' port sends) (sender_opposite at.direction l.channel ∙ sym mine) in
        let shows : stamp_time s w.time
        ≡ setup_stamps l.answering.station.setup w.time =
        ap (λ x. stamp_time x w.time) system ∙ sym (clock_is at.answering answerer_port w l.answering w.time) in
        subst (λ (t : ℤ). FirstIs reads_as_reply
        (λ (f : SeenFrame). reads_as_reply f.octets (Response (link_identity answerer_port) waiting.request owed.t2))
        (FirstIs reads_as_reply
        (λ (f : SeenFrame). reads_as_reply f.octets (FollowUp (link_identity answerer_port) waiting.request t))
        (AreMute reads_as_reply)) (map link_frame_view (step.grows.news (other_direction at.direction)))) shows
        (subst (λ (port : PortId). FirstIs reads_as_reply
        (λ (f : SeenFrame). reads_as_reply f.octets (Response (link_identity port) waiting.request owed.t2))
        (FirstIs reads_as_reply
        (λ (f : SeenFrame). reads_as_reply f.octets
        (FollowUp (link_identity port) waiting.request (stamp_time s w.time)))
        (AreMute reads_as_reply)) (map link_frame_view (step.grows.news (other_direction at.direction)))) mine
        (sends_answer s s' p w.time owed sends responds own_fits fits (own_kept p)
        (step.grows.news (other_direction at.direction)) said))

    pub answer_seen : AnswerTimerExpires (link_setting at w l) reads_as_request reads_as_reply (pair at w l)
        (pair at w' step.after)
    answer_seen = record {
      time = step.time;
      asker = asker_is step ∙ asker_still.0;
      out = out_stays step asker_apart;
      waiting = waiting;
      was = λ i. waits_by (answers_then i) (waiting_is i);
      now = refl;
      waits = ap waits_view part;
      news = map link_frame_view (step.grows.news (other_direction at.direction));
      back = back_is step;
      sent = answer_goes;
    }

  -- ---- any timer

  -- what becomes of the port that asks
  asker_becomes : ((at.asking ≡ place) × (timer ≡ timers.Pdelay asker_port.port)
      × (measure_at step.after.asking.state
      ≡ part_asked l.asking.station.system w.time after_interval (measure_at l.asking.state)))
      ⊎ ((at.asking ≡ place → timer ≢ timers.Pdelay asker_port.port)
      × AsksAsBefore period (measure_at l.asking.state) (measure_at step.after.asking.state))
  asker_becomes = elim step.asking [
    | inl called ↦ elim (asker_timer l.asking.station.system w.time period timer asker_port.port
        (measure_at l.asking.state) (measure_at step.after.asking.state) called.1) [
          | inl own_timer ↦ inl (called.0, own_timer.0, own_timer.1)
          | inr other ↦ inr (λ same. other.0, other.1)
        ]
    | inr left ↦ inr (
      λ same. absurd (left.0 same),
      asks_still period (measure_at l.asking.state) (measure_at step.after.asking.state) left.1,
    )
  ]

  answerer_becomes : ((at.answering ≡ place) × (timer ≡ timers.Respond answerer_port.port)
      × (measure_at step.after.answering.state ≡ part_answered (measure_at l.answering.state)))
      ⊎ ((at.answering ≡ place → timer ≢ timers.Respond answerer_port.port)
      × (waits_view (measure_at step.after.answering.state) ≡ waits_view (measure_at l.answering.state)))
  answerer_becomes = elim step.answering [
    | inl called ↦ elim (answerer_timer l.answering.station.system w.time timer answerer_port.port
        (measure_at l.answering.state) (measure_at step.after.answering.state) called.1) [
          | inl own_timer ↦ inl (called.0, own_timer.0, own_timer.1)
          | inr other ↦ inr (λ same. other.0, other.1)
        ]
    | inr left ↦ inr (λ same. absurd (left.0 same), ap waits_view left.1)
  ]

  same_timer : (t : Timer) → TimerExpires timer ≡ TimerExpires t → timer ≡ t
  same_timer t e = cc

  one_act : MeterActs (link_setting at w l) reads_as_request reads_as_reply (meter at w l) (meter at w' step.after)
  one_act = elim asker_becomes [
    | inl asks_next ↦ meter_asks (request_seen asks_next.0 asks_next.1 asks_next.2)
        (measured_still asks_next.0 asks_next.1 asks_next.2)
    | inr asks_on ↦ elim answerer_becomes [
      | inl answers_now ↦ meter_answered (answer_seen answers_now.0 answers_now.1 answers_now.2) asks_on.1.1
      | inr waits_on ↦ others_seen step asks_on.1 waits_on.1
          (out_mute step (λ same e. asks_on.0 same (same_timer _ e)) (λ p e. absurd cc))
          (back_mute step (λ same e. waits_on.0 same (same_timer _ e)))
    ]
  ]

  pub expires_seen : IsOneAct at w w' l
  expires_seen = record {
    after = step.after;
    settled = step.settled;
    bounds = step.grows.bounds;
    so = record {
      acts = one_act;
      out = out_in_time step;
      back = back_in_time step;
      out_late = out_late step;
      back_late = back_late step;
    };
  }

  -- the own timers are seen as themselves
  pub request_timer_seen : at.asking ≡ place → timer ≡ timers.Pdelay asker_port.port
      → IsSeenAtLink (λ k m m'. RequestTimerExpires k reads_as_request reads_as_reply m.pair m'.pair) at w w' l
  request_timer_seen here own_timer = elim asker_becomes [
    | inl a ↦ record {
      after = step.after;
      settled = step.settled;
      bounds = step.grows.bounds;
      so = request_seen a.0 a.1 a.2;
    }
    | inr other ↦ absurd (other.0 here own_timer)
  ]

  pub answer_timer_seen : at.answering ≡ place → timer ≡ timers.Respond answerer_port.port
      → IsSeenAtLink (λ k m m'. AnswerTimerExpires k reads_as_request reads_as_reply m.pair m'.pair) at w w' l
  answer_timer_seen here own_timer = elim answerer_becomes [
    | inl a ↦ record {
      after = step.after;
      settled = step.settled;
      bounds = step.grows.bounds;
      so = answer_seen a.0 a.1 a.2;
    }
    | inr other ↦ absurd (other.0 here own_timer)
  ]
