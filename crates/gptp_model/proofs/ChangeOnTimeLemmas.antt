-- Every act leaves a world on time.
use Rattle.std.proofs.Common.{◌≡◌, ℕ, true, false, List, Some, slice_get, sym, subst}
use Rattle.std.proofs.lemmas.Option.{none-some}
use Rattle.std.specs.Prelude.{⊤}
use Rattle.gptp_vector.specs.declared.port.PortId.{PortId}
use Rattle.gptp_links.specs.declared.bounds.Bounds.{Bounds}
use Rattle.gptp_links.specs.declared.link.Direction.TheVariants.{FromA, FromB}
use Rattle.gptp_links.specs.Bounds.{Fit}
use Rattle.gptp_links.specs.Fate.{Draw}
use Rattle.gptp_model.specs.declared.item.Item.TheVariants.{Arrival, Expiry}
use Rattle.gptp_model.specs.declared.station.Station.{Station}
use Rattle.gptp_model.specs.Ahead.{IsOnTime, IsWorldOnTime}
use Rattle.gptp_model.specs.Changing.{Injects, StartsAll, brought_up, failed, fresh, lost, taken_down, with_bounds, with_channel, with_setup, with_station}
use Rattle.gptp_model.specs.Pending.{without}
use Rattle.gptp_model.specs.Sound.{HaveTheirSetups, IsWired}
use Rattle.gptp_model.specs.World.{Channel, WorldState, timers_from, port_id}
use Rattle.gptp_model.proofs.AheadLemmas.{calls_on_time, nothing_before-set_timers, relinked_fit, sent_later}
use Rattle.gptp_model.proofs.MomentLemmas.{nothing_before-without, nothing_before-without_first}
use Rattle.gptp_lists.proofs.PlaceLemmas.{get-set_all}
use Rattle.gptp_model.proofs.OnTimeLemmas.{taken_on_time}
use Rattle.gptp_model.proofs.StayLemmas.{Stays, calls_stay, same_stays, stay_kept, stays_on, stays_setups}
use Rattle.gptp_model.proofs.SteadyLemmas.{started_none_late, started_steady}
use Rattle.gptp_scenario.specs.declared.change.Act.{Act}
use Rattle.gptp_model.specs.Acts.{Acts, set_to}
use Rattle.gptp_model.specs.declared.done.Done.{Done}
use Rattle.gptp_model.proofs.ActsByLemmas.{Elementary, acts_by, starts_by}
use Rattle.gptp_scenario.specs.Allowed.{IsFitAct}
use Rattle.gptp_model.proofs.AgreeLemmas.{replaced}

-- ---- starts

-- A system starts, or starts again.
fresh_on_time : (place : ℕ) (station : Station) (w : WorldState) → slice_get w.stations place ≡ Some station
    → HaveTheirSetups w → IsWorldOnTime w → IsWorldOnTime (replaced place (fresh w.time station) w)
fresh_on_time place station w here setups on =
    let new : Station = fresh w.time station in
    let old = on.stations place station here in
    record {
      stations = get-set_all (IsOnTime w.time) w.stations place station new here (record {
        setup = old.setup;
        steady = started_steady station.setup w.time old.setup (setups place station here).intervals;
        timers = λ live. started_none_late station.setup w.time;
      }) on.stations;
      links = on.links;
      pending = nothing_before-set_timers w.time place new (started_none_late station.setup w.time)
          (timers_from 1 new.system.ports) w.net.pending on.pending;
    }

-- ---- failures

-- A system fails.
failed_on_time : (place : ℕ) (station : Station) (w : WorldState) → slice_get w.stations place ≡ Some station
    → IsWorldOnTime w → IsWorldOnTime (failed place station w)
failed_on_time place station w here on =
    let off : Station = record station { live = false } in
    let old = on.stations place station here in
    record {
      stations = get-set_all (IsOnTime w.time) w.stations place station off here
          (record { setup = old.setup; steady = old.steady; timers = λ live. absurd cc }) on.stations;
      links = on.links;
      pending = nothing_before-set_timers w.time place off (λ timer t is. absurd (none-some t is))
          (timers_from 1 station.system.ports) w.net.pending on.pending;
    }

-- A system is set up with another priority1.
reset_on_time : (value place : ℕ) (station : Station) (w : WorldState) → slice_get w.stations place ≡ Some station
    → IsWorldOnTime w → IsWorldOnTime (with_station place (with_setup value station) w)
reset_on_time value place station w here on =
    let old = on.stations place station here in
    record {
      stations = get-set_all (IsOnTime w.time) w.stations place station (with_setup value station) here
          (record { setup = old.setup; steady = old.steady; timers = old.timers }) on.stations;
      links = on.links;
      pending = on.pending;
    }

-- ---- links

module _ (place : ℕ) (channel : Channel) (w : WorldState) (here : slice_get w.net.channels place ≡ Some channel)
    (on : IsWorldOnTime w) where
  -- another link stands at its place
  linked : (new : Channel) → Fit new.bounds → IsWorldOnTime (record w { net = with_channel place new w.net })
  linked new fit = record {
    stations = on.stations;
    links = relinked_fit w.net.channels place channel new here fit on.links;
    pending = on.pending;
  }

  -- It goes down, and all its frames are lost.
  taken_down_on_time : IsWorldOnTime (record w { net = taken_down place channel w.net })
  taken_down_on_time = record {
    stations = on.stations;
    links = relinked_fit w.net.channels place channel (lost channel) here (on.links place channel here) on.links;
    pending = nothing_before-without w.time (Arrival place FromB) (without (Arrival place FromA) w.net.pending)
        (nothing_before-without w.time (Arrival place FromA) w.net.pending on.pending);
  }

  -- It comes up.
  brought_up_on_time : IsWorldOnTime (record w { net = brought_up place channel w.net })
  brought_up_on_time = linked (record channel { up = true }) (on.links place channel here)

  -- It has other bounds.
  with_bounds_on_time : (bounds : Bounds) → Fit bounds
      → IsWorldOnTime (record w { net = with_bounds bounds place channel w.net })
  with_bounds_on_time bounds fit = linked (record channel { bounds = bounds }) fit

-- Octets enter a link.
injects_on_time : (from : PortId) (octets : List ℕ) (w : WorldState) (draws : List Draw) (w' : WorldState)
    → IsWorldOnTime w → Injects from octets w draws w' → IsWorldOnTime w'
injects_on_time from octets w draws w' on k =
    let later = sent_later w.time from octets k.draw w.net k.net on.links k.sent in
    subst IsWorldOnTime (sym k.is) (record {
      stations = on.stations;
      links = later.links;
      pending = later.pending on.pending;
    })

-- ---- all acts

-- Every act leaves a world on time whose systems have their setups.
on_time_kept : (first : WorldState) → Elementary ⊤ IsFitAct (λ octets. ⊤) (λ w. IsWorldOnTime w × Stays first w)
on_time_kept first = let stay = stay_kept first in record {
  system_called = λ place input w draws answer w' k given is. (
    calls_on_time place input w draws answer w' k is.0 (given.timely tt),
    stays_on first w w' is.1 (calls_stay place input w draws answer w' (stays_setups first w is.1) k),
  );
  frame_taken = λ link direction octets channel w net k is. (
    (
      taken_on_time link direction octets channel w net k is.0,
      (stay.frame_taken link direction octets channel w net k is.1).0,
    ),
    tt,
  );
  timer_stopped = λ place timer w is. (
    record {
      stations = is.0.stations;
      links = is.0.links;
      pending = nothing_before-without_first w.time (Expiry place timer) w.net.pending is.0.pending;
    },
    stay.timer_stopped place timer w is.1,
  );
  link_down = λ place channel w here is.
      (taken_down_on_time place channel w here is.0, stay.link_down place channel w here is.1);
  link_up = λ place channel w here is.
      (brought_up_on_time place channel w here is.0, stay.link_up place channel w here is.1);
  link_set = λ number port min max loss place channel w here fit now is. (
    with_bounds_on_time place channel w here is.0 (set_to min max loss channel)
        (record { positive = fit.positive; ordered = fit.ordered; short = fit.short; share = fit.share }),
    stay.link_set number port min max loss place channel w here tt now is.1,
  );
  system_failed = λ place station w here is.
      (failed_on_time place station w here is.0, stay.system_failed place station w here is.1);
  system_started = λ place station w here is. (
    fresh_on_time place station w here (stays_setups first w is.1) is.0,
    stay.system_started place station w here is.1,
  );
  priority_set = λ number value place station w here allowed is.
      (reset_on_time value place station w here is.0, stay.priority_set number value place station w here tt is.1);
  octets_injected = λ number port octets w draws w' allowed k is. (
    injects_on_time (port_id number port) octets w draws w' is.0 k,
    stay.octets_injected number port octets w draws w' tt k is.1,
  );
  change_counted = λ w is. (
    record { stations = is.0.stations; links = is.0.links; pending = is.0.pending },
    stay.change_counted w is.1,
  );
}

pub acts_on_time : (act : Act) (w : WorldState) (draws : List Draw) (done : Done) (w' : WorldState) → IsWired w
    → IsFitAct act → IsWorldOnTime w → Acts act w draws done w' → IsWorldOnTime w'
acts_on_time act w draws done w' wired fit on k =
    (acts_by (on_time_kept w) act w draws done w' (λ known. wired) fit k (on, same_stays w wired.setups)).0

pub starts_all_on_time : (places : List ℕ) (w : WorldState) (draws : List Draw) (w' : WorldState) → HaveTheirSetups w
    → IsWorldOnTime w → StartsAll places w draws w' → IsWorldOnTime w'
starts_all_on_time places w draws w' setups on k =
    (starts_by (on_time_kept w) places w draws w' k (on, same_stays w setups)).0
