-- What is pending at a link is due neither too early nor too late.
use Rattle.std.proofs.Common.{◌≡◌, ◌+◌, ◌≤◌, ℕ, zero, suc, List, [], ◌∷◌, map, Option, Some, None, slice_get, refl, sym, ap, subst, ◌∙◌, inl, inr, arith}
use Rattle.std.specs.Prelude.{IsSome}
use Rattle.std.specs.List.{AllByRecursion}
use Rattle.std.specs.Option.{option_and_then}
use Rattle.std.proofs.lemmas.Option.{none-some, same_Some, slice_get_within}
use Rattle.gptp_lists.specs.Members.{In}
use Rattle.gptp_vector.specs.declared.port.PortId.{PortId}
use Rattle.gptp_links.specs.declared.link.Direction.{Direction}
use Rattle.gptp_links.specs.Queue.{Frame}
use Rattle.gptp_pdelay.specs.declared.answer.Answer.{Answer as Owed}
use Rattle.gptp_system.specs.declared.port.Port.{Port}
use Rattle.gptp_setup.specs.declared.setup.Params.{Params}
use Rattle.gptp_setup.specs.declared.timer.Timer.TheVariants as timers
use Rattle.gptp_setup.specs.Intervals.{interval_of}
use Rattle.gptp_system.specs.State.{SystemState, number}
use Rattle.gptp_system.specs.Times.{IsPortInTime}
use Rattle.gptp_model.specs.declared.item.Item.TheVariants.{Arrival}
use Rattle.gptp_model.specs.Ahead.{NoneLate}
use Rattle.gptp_model.specs.Pending.{NothingBefore, timer_time}
use Rattle.gptp_model.specs.Sound.{IsSound}
use Rattle.gptp_model.specs.World.{Channel, WorldState, world_queue, receiver, sender}
use Rattle.gptp_model.proofs.AheadLemmas.{live_due, pending_none_late}
use Rattle.gptp_model.proofs.MomentLemmas.{times-all}
use Rattle.gptp_lists.proofs.PlaceLemmas.{member_there}
use Rattle.gptp_model.proofs.SoundLemmas.{agrees_arrivals, agrees_pending}
use Rattle.gptp_pdelay_machine.specs.Answerer.{Waiting}
use Rattle.gptp_pdelay_machine.specs.Lanes.{LaneFrame as SeenFrame}
use Rattle.gptp_invariants.specs.DelayLinkLaws.{FactsBegin, LinksAreFresh, NothingIsLate}
use Rattle.gptp_invariants.specs.DelayMeasured.{LinkIsMeasured}
use Rattle.gptp_invariants.specs.DelayLinkView.{IsEndOf, IsLinkOf, LinkPlace, asked_at, link_frame_view, other_direction, waits_by}

-- ---- nothing is late

-- an answer that waits is due when its timer is
waits_due : (runs : Option ℕ) (owed : Option Owed) (x : Waiting) → waits_by runs owed ≡ Some x → runs ≡ Some x.due
waits_due None owed x is = absurd (none-some x is)
waits_due (Some then_due) None x is = absurd (none-some x is)
waits_due (Some then_due) (Some owed) x is = ap (λ (y : Waiting). Some y.due) (same_Some _ x is)

all_dues : (time : ℕ) (fs : List Frame) → AllByRecursion (λ u. time ≤ u) (map (λ (f : Frame). f.due) fs)
    → (g : SeenFrame) → In g (map link_frame_view fs) → time ≤ g.due
all_dues time [] all g member = absurd member
all_dues time (f ∷ fs) all g (inl here) = subst (λ (x : SeenFrame). time ≤ x.due) (sym here) all.0
all_dues time (f ∷ fs) all g (inr later) = all_dues time fs all.1 g later

some_of : (o : Option ℕ) → IsSome o → (t : ℕ) × (o ≡ Some t)
some_of None is = absurd cc
some_of (Some t) is = (t, refl)

-- the last request went one period before the next
asked_back : (period then_due : ℕ) → period ≤ then_due → asked_at period (Some then_due) + period ≡ then_due
asked_back period then_due least = omega arith

module _ (w : WorldState) (sound : IsSound w) (time : ℕ) (first : NothingBefore time w.net.pending) where
  end_none_late : (place : ℕ) (port : PortId) (e : IsEndOf place port w) → NoneLate time e.station.system
  end_none_late place port e =
      pending_none_late time place e.station.system w.net.pending first
      (λ timer. agrees_pending w sound.agrees place e.station e.here timer
      ∙ ap timer_time (live_due e.station timer e.live))

  lane_late : (link : ℕ) (direction : Direction) (channel : Channel) → slice_get w.net.channels link ≡ Some channel
      → (g : SeenFrame) → In g (map link_frame_view (world_queue direction channel)) → time ≤ g.due
  lane_late link direction channel here =
      all_dues time (world_queue direction channel)
      (subst (AllByRecursion (λ u. time ≤ u)) (agrees_arrivals w sound.agrees link direction channel here)
      (times-all (λ u. time ≤ u) (Arrival link direction) w.net.pending first))

-- a port at a link that is up has a Pdelay timer that runs
pdelay_runs : (at : LinkPlace) (w : WorldState) (l : IsLinkOf at w) → IsSound w
    → (t : ℕ) × (l.asking.state.pdelay ≡ Some t)
pdelay_runs at w l sound =
    let up = sound.wired.linked at.link at.asking at.direction l.channel l.asking.station l.here l.up l.asking.here
    l.asking.live l.asking.named in
    some_of l.asking.state.pdelay
    (subst IsSome (ap (option_and_then (λ (q : Port). q.pdelay)) l.asking.there) up)

pub nothing_late : NothingIsLate
nothing_late at time w l sound first =
    let (t, runs) = pdelay_runs at w l sound in
    let period = interval_of l.asking.station.setup.params.pdelay in
    let asks_late = end_none_late w sound time first at.asking (sender at.direction l.channel) l.asking
    (timers.Pdelay (sender at.direction l.channel).port) t
    (ap (option_and_then (λ (q : Port). q.pdelay)) l.asking.there ∙ runs) in
    let back = asked_back period t (l.asking.measures.asks t runs) in
    let seen : asked_at period l.asking.state.pdelay ≡ asked_at period (Some t) = ap (asked_at period) runs in
    record {
      request_timer = omega (arith, asks_late, back, seen);
      answer_timer = λ x waits.
          end_none_late w sound time first at.answering (receiver at.direction l.channel) l.answering
          (timers.Respond (receiver at.direction l.channel).port) x.due
          (ap (option_and_then (λ (q : Port). q.respond)) l.answering.there
          ∙ waits_due l.answering.state.respond l.answering.state.peer.waiting x waits);
      out = lane_late w sound time first at.link at.direction l.channel l.here;
      back = lane_late w sound time first at.link (other_direction at.direction) l.channel l.here;
    }

-- ---- nothing is due too late

-- the timers of an end are in time
port_in_time : (place : ℕ) (port : PortId) (w : WorldState) → IsSound w → LinkIsMeasured w → (e : IsEndOf place port w)
    → ((t : ℕ) → e.state.pdelay ≡ Some t → t ≤ w.time + interval_of e.station.setup.params.pdelay)
    × ((t : ℕ) → e.state.respond ≡ Some t → t ≤ w.time + e.station.setup.params.turnaround)
port_in_time place port w sound measured e = go port.port e.there
  where
    s : SystemState
    s = e.station.system

    go : (n : ℕ) → number e.station.system.ports n ≡ Some e.state
        → ((t : ℕ) → e.state.pdelay ≡ Some t → t ≤ w.time + interval_of e.station.setup.params.pdelay)
        × ((t : ℕ) → e.state.respond ≡ Some t → t ≤ w.time + e.station.setup.params.turnaround)
    go zero there = absurd (none-some e.state there)
    go (suc i) there =
        let places = (sound.on_time.stations place e.station e.here).steady.shown.places in
        let inside = slice_get_within e.station.system.ports i e.state there in
        let (h, held) = member_there e.station.system.held i (omega arith) in
        let all = (measured.stations place e.station e.here).in_time in
        let one : IsPortInTime e.station.setup.params w.time h e.state =
        subst (λ (p : Params). IsPortInTime p w.time h e.state) e.set_up.params (all.each i h e.state held there) in
        (one.pdelay, one.respond)

-- the last request isn't in the future
asked_before : (at : LinkPlace) (w : WorldState) (l : IsLinkOf at w) → IsSound w → LinkIsMeasured w
    → asked_at (interval_of l.asking.station.setup.params.pdelay) l.asking.state.pdelay ≤ w.time
asked_before at w l sound measured =
    let (t, runs) = pdelay_runs at w l sound in
    let period = interval_of l.asking.station.setup.params.pdelay in
    let latest = (port_in_time at.asking (sender at.direction l.channel) w sound measured l.asking).0 t runs in
    let seen : asked_at period l.asking.state.pdelay ≡ asked_at period (Some t) = ap (asked_at period) runs in
    omega (arith, latest, seen)

-- a frame that is seen is due when it is in flight
seen_gone : (gone : ℕ) (fs : List Frame) → ((f : Frame) → In f fs → f.due ≤ gone) → (g : SeenFrame)
    → In g (map link_frame_view fs)
    → g.due ≤ gone
seen_gone gone [] all g member = absurd member
seen_gone gone (f ∷ fs) all g (inl here) = subst (λ (x : SeenFrame). x.due ≤ gone) (sym here) (all f (inl refl))
seen_gone gone (f ∷ fs) all g (inr later) = seen_gone gone fs (λ x member. all x (inr member)) g later

pub facts_begin : FactsBegin
facts_begin at gone w l sound measured flight =
    let late = nothing_late at w.time w l sound sound.on_time.pending in
    record {
      asked = asked_before at w l sound measured;
      request_timer = late.request_timer;
      answer_timer = late.answer_timer;
      out = λ g member.
          let by = seen_gone gone (world_queue at.direction l.channel) (flight at.direction) g member in
          record { earliest = late.out g member; latest = omega arith };
      back = λ g member.
          let by = seen_gone gone (world_queue (other_direction at.direction) l.channel)
          (flight (other_direction at.direction)) g member in
          record { earliest = late.back g member; latest = omega arith };
    }

pub links_fresh : LinksAreFresh
links_fresh at gone calm w l sound measured flight past before =
    let asked = asked_before at w l sound measured in
    let answer = (port_in_time at.answering (receiver at.direction l.channel) w sound measured l.answering).1 in
    record {
      asked = omega arith;
      out = seen_gone gone (world_queue at.direction l.channel) (flight at.direction);
      waiting = λ x waits.
          let latest = answer x.due (waits_due l.answering.state.respond l.answering.state.peer.waiting x waits) in
          omega arith;
      back = seen_gone gone (world_queue (other_direction at.direction) l.channel)
          (flight (other_direction at.direction));
    }
