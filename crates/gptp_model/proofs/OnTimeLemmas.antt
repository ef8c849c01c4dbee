-- Every act leaves a world on time, and less to do by then.
use Rattle.std.proofs.Common.{◌≡◌, ◌≢◌, ℕ, ◌+◌, ◌<◌, Bool, true, false, List, [], map, Option, Some, None, slice_get, refl, sym, ap, subst, ◌∙◌, arith}
use Rattle.gptp_links.specs.declared.link.Direction.{Direction}
use Rattle.gptp_links.specs.Fate.{Draw}
use Rattle.gptp_links.specs.Queue.{Frame}
use Rattle.gptp_system.specs.declared.answer.Answer.{Answer}
use Rattle.gptp_setup.specs.declared.timer.Timer.{Timer}
use Rattle.gptp_system.specs.Input.{Input, Frame as FrameHeard, Expires as TimerExpires}
use Rattle.gptp_system.specs.State.{due}
use Rattle.gptp_system.specs.Steps.{IsUp}
use Rattle.gptp_model.specs.declared.item.Item.TheVariants.{Arrival, Expiry}
use Rattle.gptp_model.specs.declared.station.Station.{Station}
use Rattle.gptp_model.specs.Act.{Calls, Delivers, TimerRunsOut, Hears, TakesFrame}
use Rattle.gptp_model.specs.Ahead.{AllArePending, AreFit, ArePending, IsSteady, IsWorldOnTime, due_by}
use Rattle.gptp_model.specs.Changing.{failed}
use Rattle.gptp_model.specs.Item.{same_item}
use Rattle.gptp_model.specs.Pending.{Entry, NothingBefore, timer_time, times_of_item, without_first_entry}
use Rattle.gptp_model.specs.World.{Net, WorldState, world_queue, receiver, station_due, Channel}
use Rattle.gptp_model.proofs.AheadLemmas.{calls_due_by, live_due, pending_none_late, requeued_fit}
use Rattle.gptp_model.proofs.DueByLemmas.{due_by-taken}
use Rattle.gptp_lists.proofs.MappedLemmas.{same_there}
use Rattle.gptp_model.proofs.MomentLemmas.{nothing_before-without_first}
use Rattle.gptp_model.proofs.PendingLemmas.{times-without_first_other}
use Rattle.gptp_model.proofs.TimerLemmas.{no_arrival, same_timer}
use Rattle.gptp_model.proofs.ActsByLemmas.{expires_timely}

-- ---- time that passes

-- A world is on time at any time before which nothing is pending, where the timers of all systems are pending when due.
pub passes_on_time : (w w' : WorldState) → w'.stations ≡ w.stations → w'.net ≡ w.net → IsWorldOnTime w
    → AllArePending w → NothingBefore w'.time w.net.pending → IsWorldOnTime w'
passes_on_time w w' stations net on pending none = record {
  stations = λ place station there.
      let here : slice_get w.stations place ≡ Some station = ap (λ xs. slice_get xs place) (sym stations) ∙ there in
      let old = on.stations place station here in
      record {
        setup = old.setup;
        steady = old.steady;
        timers = λ live. pending_none_late w'.time place station.system w.net.pending none
            (λ timer. pending place station here timer ∙ ap timer_time (live_due station timer live));
      };
  links = subst (λ (n : Net). AreFit n.channels) (sym net) on.links;
  pending = subst (λ (n : Net). NothingBefore w'.time n.pending) (sym net) none;
}

-- ---- an expiry

-- another timer is another item
other_item : (place : ℕ) (out timer : Timer) → TimerExpires out ≢ TimerExpires timer → (b : Bool)
    → same_item (Expiry place timer) (Expiry place out) ≡ b → same_item (Expiry place timer) (Expiry place out) ≡ false
other_item place out timer other true b =
    absurd (other (ap TimerExpires (sym (same_timer place place timer out b).1)))
other_item place out timer other false b = b

module _ (place : ℕ) (timer : Timer) (w : WorldState) (draws : List Draw) (w' : WorldState)
    (k : TimerRunsOut place timer w draws w') where
  -- the world without the entry of the timer
  abbrev left : List Entry
  left = without_first_entry (Expiry place timer) w.net.pending

  abbrev between : WorldState
  between = record w { net = record w.net { pending = left } }

  one_station : k.calls.station ≡ k.station
  one_station = same_there w.stations place k.calls.station k.station k.calls.here k.here

  station_dues : (t : Timer) → station_due t k.station ≡ due t k.calls.station.system
  station_dues t = ap (station_due t) (sym one_station) ∙ live_due k.calls.station t k.calls.live

  -- the system is the one that agrees, and all its other timers are pending still
  out_steady : IsSteady k.station.system → IsSteady k.calls.station.system
  out_steady = subst (λ (x : Station). IsSteady x.system) (sym one_station)

  out_pending : ((t : Timer) → times_of_item (Expiry place t) w.net.pending ≡ timer_time (station_due t k.station))
      → ArePending place (TimerExpires timer) k.calls.station.system left
  out_pending agree t other =
      times-without_first_other (Expiry place timer) (Expiry place t) w.net.pending
      (other_item place timer t other (same_item (Expiry place t) (Expiry place timer)) refl)
      ∙ agree t ∙ ap timer_time (station_dues t)

  -- Where each timer of the system is pending when it is due, an expiry leaves less to do by now.
  pub expires_due_by : IsSteady k.station.system → AreFit w.net.channels
      → ((t : Timer) → times_of_item (Expiry place t) w.net.pending ≡ timer_time (station_due t k.station))
      → due_by w.time w'.net.pending < due_by w.time w.net.pending
  expires_due_by steady fit agree =
      let less : due_by w.time left + 1 ≡ due_by w.time w.net.pending =
      due_by-taken w.time (Expiry place timer) w.net.pending w.time [] (agree timer ∙ ap timer_time k.now_due)
      (omega arith) in
      let call = calls_due_by place (TimerExpires timer) between draws k.answer w' k.calls (out_steady steady)
      (expires_timely place timer w draws w' k) fit (out_pending agree) in
      omega arith

-- ---- a delivery

module _ (link : ℕ) (direction : Direction) (octets : List ℕ) (channel : Channel) (w : WorldState) (net : Net)
    (k : TakesFrame link direction w.time octets channel w.net net) where
  taken_pending : net.pending ≡ without_first_entry (Arrival link direction) w.net.pending
  taken_pending = ap (λ (n : Net). n.pending) k.is

  taken_fit : AreFit w.net.channels → AreFit net.channels
  taken_fit fit =
      subst (λ (n : Net). AreFit n.channels) (sym k.is)
      (requeued_fit w.net.channels link direction k.rest channel k.here fit)

  pub taken_on_time : IsWorldOnTime w → IsWorldOnTime (record w { net = net })
  taken_on_time on = record {
    stations = on.stations;
    links = taken_fit on.links;
    pending = subst (NothingBefore w.time) (sym taken_pending)
        (nothing_before-without_first w.time (Arrival link direction) w.net.pending on.pending);
  }

module _ (link : ℕ) (direction : Direction) (octets : List ℕ) (w : WorldState) (draws : List Draw)
    (answer : Option Answer) (w' : WorldState) (k : Delivers link direction octets w draws answer w') where
  -- the world without the frame, and what the receiver is given
  abbrev emptied : WorldState
  emptied = record w { net = k.net }

  abbrev heard : Input
  heard = FrameHeard (receiver direction k.channel).port octets

  left_is : k.net.pending ≡ without_first_entry (Arrival link direction) w.net.pending
  left_is = taken_pending link direction octets k.channel w k.net k.takes

  -- the frame is timely where the receiver's port is up
  heard_timely : (k.station.live ≡ true → IsUp k.station.system (receiver direction k.channel).port) → (one : Answer)
      → (c : Calls k.place heard emptied draws one w')
      → (k.station ≡ c.station) × IsUp c.station.system (receiver direction k.channel).port
  heard_timely up one c =
      let same : k.station ≡ c.station = same_there w.stations k.place k.station c.station k.there c.here in (
        same,
        subst (λ (x : Station). IsUp x.system (receiver direction k.channel).port) same
            (up (ap (λ (x : Station). x.live) same ∙ c.live)),
      )

  -- the timers of the receiver are pending still
  heard_pending : (one : Answer) (c : Calls k.place heard emptied draws one w') → k.station ≡ c.station
      → ((t : Timer) → times_of_item (Expiry k.place t) w.net.pending ≡ timer_time (station_due t k.station))
      → ArePending k.place heard c.station.system k.net.pending
  heard_pending one c same agree t other =
      ap (times_of_item (Expiry k.place t)) left_is
      ∙ times-without_first_other (Arrival link direction) (Expiry k.place t) w.net.pending
      (no_arrival k.place t link direction)
      ∙ agree t ∙ ap timer_time (ap (station_due t) same ∙ live_due c.station t c.live)

  -- Where each timer of the receiver is pending when it is due, and what is pending agrees with the link, a delivery
  -- leaves less to do by now.
  pub delivers_due_by : IsSteady k.station.system
      → (k.station.live ≡ true → IsUp k.station.system (receiver direction k.channel).port) → AreFit w.net.channels
      → ((t : Timer) → times_of_item (Expiry k.place t) w.net.pending ≡ timer_time (station_due t k.station))
      → times_of_item (Arrival link direction) w.net.pending ≡ map (λ (f : Frame). f.due)
      (world_queue direction k.channel)
      → due_by w.time w'.net.pending < due_by w.time w.net.pending
  delivers_due_by steady up fit agree arrivals = by answer k.hears
    where
      less : due_by w.time k.net.pending + 1 ≡ due_by w.time w.net.pending
      less =
          ap (λ es. due_by w.time es + 1) left_is
          ∙ due_by-taken w.time (Arrival link direction) w.net.pending w.time (map (λ (f : Frame). f.due) k.takes.rest)
          (arrivals ∙ ap (map (λ (f : Frame). f.due)) k.takes.front) (omega arith)

      by : (a : Option Answer) → Hears k.place (receiver direction k.channel).port octets emptied draws a w'
          → due_by w.time w'.net.pending < due_by w.time w.net.pending
      by (Some one) c =
          let timely = heard_timely up one c in
          let call = calls_due_by k.place heard emptied draws one w' c
          (subst (λ (x : Station). IsSteady x.system) timely.0 steady) timely.1
          (taken_fit link direction octets k.channel w k.net k.takes fit)
          (heard_pending one c timely.0 agree) in
          let first = less in
          omega arith
      by None (failed, none, is) =
          let same : due_by w.time w'.net.pending ≡ due_by w.time k.net.pending =
          ap (λ (x : WorldState). due_by w.time x.net.pending) is in
          let first = less in
          omega arith
