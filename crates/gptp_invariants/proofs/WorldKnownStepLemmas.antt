-- Every elementary step of an act, and of a start, keeps what is known.
use Rattle.std.proofs.Common.{◌≡◌, ℕ, ℤ, ◌≤◌, Bool, true, false, Some, slice_get, refl, sym, ap, subst, ◌∙◌, arith}
use Rattle.std.specs.Prelude.{⊤}
use Rattle.gptp_links.specs.declared.bounds.Bounds.{Bounds}
use Rattle.gptp_roles.specs.Selection.{clock_of}
use Rattle.gptp_system.specs.declared.port.Port.{Port}
use Rattle.gptp_setup.specs.SettlingParams.{SettlingParams}
use Rattle.gptp_setup.specs.declared.setup.Setup.{Setup}
use Rattle.gptp_setup.specs.Intervals.{AreIntervals, interval_of}
use Rattle.gptp_scenario.specs.declared.change.Act.{Act}
use Rattle.gptp_system.specs.Start.{started}
use Rattle.gptp_system.proofs.SpanLemmas.{starts_in_time}
use Rattle.gptp_system.proofs.StartLemmas.{new_port_at}
use Rattle.gptp_model.specs.declared.station.Station.{Station}
use Rattle.gptp_model.specs.Act.{all_timers}
use Rattle.gptp_model.specs.Acts.{set_to}
use Rattle.gptp_model.specs.Agrees.{stopped}
use Rattle.gptp_model.specs.Changing.{brought_up, fresh, taken_down, with_bounds, with_setup, with_station}
use Rattle.gptp_model.specs.Prompt.{HasPace}
use Rattle.gptp_model.specs.World.{Channel, WorldState, port_id}
use Rattle.gptp_scenario.specs.Prompt.{DelayFitsInterval}
use Rattle.gptp_lists.proofs.PlaceLemmas.{get-set_all}
use Rattle.gptp_model.proofs.SteadyLemmas.{started_steady}
use Rattle.gptp_invariants.specs.WorldKnown.{IsSetTo}
use Rattle.gptp_invariants.proofs.DelayLimitLemmas.{IsLimited, keep_all, lost_keep, sends_one_keep, takes_keep, up_keep}
use Rattle.gptp_invariants.proofs.DelayMeasuringLemmas.{started_measure}
use Rattle.gptp_invariants.proofs.SyncTimeStepLemmas.{knows_at_start}
use Rattle.gptp_model.proofs.ActsByLemmas.{Elementary}
use Rattle.gptp_invariants.proofs.WorldKnownKeptLemmas.{IsKept, IsKeptStation, calls_kept, fresh_limit, net_kept, station_kept}
use Rattle.gptp_invariants.proofs.WorldShortLemmas.{within}

-- ---- systems

-- a system that starts has the parameters and the intervals of its setup
pub started_set : (p : SettlingParams) (setup : Setup) (now : ℕ) (live : Bool) → setup.params ≡ p.params
    → setup.largest ≡ p.largest → AreIntervals setup
    → IsSetTo p (record { setup = setup; system = started setup now; live = live })
started_set p setup now live params largest intervals = record {
  starts = record { params = params; largest = largest };
  params = params;
  largest = largest;
  intervals = intervals;
  logs = λ i q there.
      let (log, here, is) = new_port_at (clock_of setup.identity) setup.params setup.intervals.items i q there in
      here ∙ ap (λ (x : Port). Some x.log_interval) (sym is);
  lapses = λ nothing. refl;
}

-- a station becomes another that starts with the same but perhaps for its identity, and with the same system
same_system : (p : SettlingParams) (So : ℤ → Type 0) (now : ℕ) (old new : Station) → IsKeptStation p So now old
    → new.system ≡ old.system → HasPace p new → AreIntervals new.setup
    → new.setup.intervals.items ≡ old.setup.intervals.items → (new.live ≡ true → old.live ≡ true)
    → IsKeptStation p So now new
same_system p So now old new is system starts intervals same live = record {
  setup = rw (starts.params, sym is.set.starts.params) is.setup;
  steady = rw system is.steady;
  set = record {
    starts = starts;
    params = rw system is.set.params;
    largest = rw system is.set.largest;
    intervals = intervals;
    logs = rw (system, same) is.set.logs;
    lapses = λ nothing. rw system (is.set.lapses nothing);
  };
  logs = rw same is.logs;
  in_time = λ now_live. rw system (is.in_time (live now_live));
  measuring = λ now_live. rw system (is.measuring (live now_live));
  time = λ now_live. rw system (is.time (live now_live));
}

-- ---- the last change

-- At the time of the last change the frames in flight are due within every announce interval, whatever the bounds
-- become.
bounds_kept : (p : SettlingParams) (So : ℤ → Type 0) (bounds : Bounds) (place : ℕ) (channel : Channel) (w : WorldState)
    → slice_get w.net.channels place ≡ Some channel → w.last_change ≡ w.time
    → ((log : ℤ) → So log → bounds.max ≤ interval_of log) → IsKept p So w
    → IsKept p So (record w { net = with_bounds bounds place channel w.net })
bounds_kept p So bounds place channel w here now prompt kept = record {
  change = kept.change;
  stations = kept.stations;
  largest = kept.largest;
  near = λ log so.
      let near = kept.near log so place channel here in
      let most = prompt log so in
      get-set_all (IsLimited (within (interval_of log) w.time) w.time) w.net.channels place channel new here (record {
        room = omega arith;
        from_a = near.from_a;
        from_b = near.from_b;
      }) (kept.near log so);
  fresh = get-set_all (IsLimited (fresh_limit p w.time w.last_change) w.time) w.net.channels place channel new here
      (record {
        room = omega arith;
        from_a = λ f among. let soon = near.from_a f among in omega arith;
        from_b = λ f among. let soon = near.from_b f among in omega arith;
      }) kept.fresh;
}
  where
    new : Channel
    new = record channel { bounds = bounds }

    near : IsLimited (within (interval_of p.largest) w.time) w.time channel
    near = kept.near p.largest kept.largest place channel here

-- A change is the last one from then on: all frames are due within the largest announce interval of it.
changed_kept : (p : SettlingParams) (So : ℤ → Type 0) (w : WorldState) → IsKept p So w
    → IsKept p So (record w { last_change = w.time })
changed_kept p So w kept = record {
  change = omega arith;
  stations = kept.stations;
  largest = kept.largest;
  near = kept.near;
  fresh = λ link channel here.
      let near = kept.near p.largest kept.largest link channel here in
      record {
        room = omega arith;
        from_a = λ f among. let soon = near.from_a f among in omega arith;
        from_b = λ f among. let soon = near.from_b f among in omega arith;
      };
}

-- ---- every step

-- an act sets no link to a delay above any of these intervals
abbrev pub IsPromptFor : (ℤ → Type 0) → Act → Type 0
IsPromptFor So act = (log : ℤ) → So log → DelayFitsInterval (interval_of log) act

pub keeps : (p : SettlingParams) (So : ℤ → Type 0) → Elementary ⊤ (IsPromptFor So) (λ octets. ⊤) (IsKept p So)
keeps p So = record {
  system_called = λ place input w draws answer w' k given.
      calls_kept p So place input w draws answer w' k (given.timely tt);
  frame_taken = λ link direction octets channel w net k kept.
      (net_kept p So w net (takes_keep link direction w.time octets channel w.net net k) kept, tt);
  timer_stopped = λ place timer w. net_kept p So w (stopped place timer w).net (keep_all w.time w.net.channels);
  link_down = λ place channel w here.
      net_kept p So w (taken_down place channel w.net) (lost_keep w.time w.net.channels place channel here);
  link_up = λ place channel w here.
      net_kept p So w (brought_up place channel w.net) (up_keep w.time w.net.channels place channel here);
  link_set = λ number port least greatest loss place channel w here prompt now.
      bounds_kept p So (set_to least greatest loss channel) place channel w here now prompt;
  system_failed = λ place station w here kept.
      let off : Station = record station { live = false } in
      let old = kept.stations place station here in
      let starts = old.set.starts in
      net_kept p So (with_station place off w) (all_timers place off w.net) (keep_all w.time w.net.channels)
      (station_kept p So place station off w here
      (same_system p So w.time station off old refl (record { params = starts.params; largest = starts.largest })
      old.set.intervals refl (λ live. absurd cc)) kept);
  system_started = λ place station w here kept.
      let new : Station = fresh w.time station in
      let old = kept.stations place station here in
      net_kept p So (with_station place new w) (all_timers place new w.net) (keep_all w.time w.net.channels)
      (station_kept p So place station new w here (record {
        setup = old.setup;
        steady = started_steady station.setup w.time old.setup old.set.intervals;
        set = started_set p station.setup w.time true old.set.starts.params old.set.starts.largest old.set.intervals;
        logs = old.logs;
        in_time = λ live. starts_in_time station.setup w.time;
        time = λ live. knows_at_start station.setup w.time;
        measuring = λ live. started_measure p.params station.setup w.time old.set.starts.params;
      }) kept);
  priority_set = λ number value place station w here allowed kept.
      let new : Station = with_setup value station in
      let old = kept.stations place station here in
      let starts = old.set.starts in
      let intervals = old.set.intervals in
      station_kept p So place station new w here
      (same_system p So w.time station new old refl (record { params = starts.params; largest = starts.largest })
      (record { many = intervals.many; each = intervals.each; largest = intervals.largest }) refl (λ live. live)) kept;
  octets_injected = λ number port octets w draws w' allowed k kept.
      subst (IsKept p So) (sym k.is)
      (net_kept p So w k.net (sends_one_keep w.time (port_id number port) octets k.draw w.net k.net k.sent) kept);
  change_counted = λ w. changed_kept p So w;
}
