-- What is known of a world, with what every act asks of its systems: item by item, and kept by every call.
use Rattle.std.proofs.Common.{◌≡◌, ◌⊎◌, ℕ, ◌+◌, ◌≤◌, max, ℤ, true, List, Option, Some, None, slice_get, slice_set, refl, sym, ap, subst, ◌∙◌, inl, inr, arith}
use Rattle.std.proofs.lemmas.Option.{none-some}
use Rattle.gptp_lists.specs.Members.{In}
use Rattle.gptp_links.specs.declared.bounds.Bounds.{Bounds}
use Rattle.gptp_links.specs.declared.link.Direction.TheVariants.{FromA, FromB}
use Rattle.gptp_links.specs.Fate.{Draw}
use Rattle.gptp_system.specs.declared.answer.Answer.{Answer}
use Rattle.gptp_system.specs.declared.port.Port.{Port}
use Rattle.gptp_system.specs.declared.sending.Sending.{Sending}
use Rattle.gptp_setup.specs.declared.setup.Params.{Params}
use Rattle.gptp_system.specs.Facts.{Keeps}
use Rattle.gptp_system.specs.Input.{Input, IsTimely, Steps}
use Rattle.gptp_setup.specs.Intervals.{AreParams, interval_of}
use Rattle.gptp_setup.specs.SettlingParams.{SettlingParams, largest_interval}
use Rattle.gptp_system.specs.State.{SystemState}
use Rattle.gptp_system.specs.Times.{IsInTime, RunsOn, LapseRunsOn, WaitsAnew}
use Rattle.gptp_system.proofs.InTimeLemmas.{stays_in_time}
use Rattle.gptp_system.proofs.StepLemmas.{steps_sound}
use Rattle.gptp_system.proofs.TimeLemmas.{steps_run_on}
use Rattle.gptp_scenario.specs.Calm.{NothingLapses}
use Rattle.gptp_model.specs.declared.station.Station.{Station}
use Rattle.gptp_model.specs.Act.{Calls, all_timers, in_state}
use Rattle.gptp_model.specs.Ahead.{IsSteady, IsWorldOnTime}
use Rattle.gptp_model.specs.World.{Net, WorldState}
use Rattle.gptp_lists.proofs.MappedLemmas.{alike}
use Rattle.gptp_lists.proofs.PlaceLemmas.{get-set_all}
use Rattle.gptp_model.proofs.SteadyLemmas.{steps_steady}
use Rattle.gptp_invariants.specs.WorldKnown.{IsKnown, IsLogAmong, IsSetTo}
use Rattle.gptp_invariants.specs.DelayLinked.{MeasureLinks}
use Rattle.gptp_invariants.specs.DelayMeasuring.{PortsMeasure}
use Rattle.gptp_invariants.specs.WorldShort.{IsShort}
use Rattle.gptp_invariants.specs.SyncView.{KnowsTime}
use Rattle.gptp_invariants.proofs.DelayLimitLemmas.{AreLimited, KeepLimits, in_queue, sends_keep}
use Rattle.gptp_invariants.proofs.DelayMeasuringLemmas.{ports_measure}
use Rattle.gptp_invariants.proofs.SyncTimeStepLemmas.{knows_on}
use Rattle.gptp_invariants.proofs.WorldShortLemmas.{short_within, within, within_short}

-- ---- the items

-- A station can start, for ports with such intervals alone, and its system is steady and has the network's parameters.
-- Where it is live its timers run out in time, its ports measure by those parameters, and the time that it knows is in
-- order.
pub record IsKeptStation (p : SettlingParams) (So : ℤ → Type 0) (now : ℕ) (station : Station) : Type 0 where
  pub setup : AreParams station.setup.params
  pub steady : IsSteady station.system
  pub set : IsSetTo p station
  pub logs : (log : ℤ) → In log station.setup.intervals.items → So log
  pub in_time : station.live ≡ true → IsInTime station.system now
  pub measuring : station.live ≡ true → PortsMeasure p.params station.system
  pub time : station.live ≡ true → KnowsTime station.system

abbrev pub AreKeptStations : SettlingParams → (ℤ → Type 0) → ℕ → List Station → Type 0
AreKeptStations p So now stations =
    (place : ℕ) (station : Station) → slice_get stations place ≡ Some station → IsKeptStation p So now station

-- the limit for frames since the last change: the greatest delay from now, or the largest interval after that change
abbrev pub fresh_limit : SettlingParams → ℕ → ℕ → Bounds → ℕ
fresh_limit p now last_change bounds = max (now + bounds.max) (last_change + largest_interval p)

pub record IsKept (p : SettlingParams) (So : ℤ → Type 0) (w : WorldState) : Type 0 where
  pub change : w.last_change ≤ w.time
  pub stations : AreKeptStations p So w.time w.stations
  pub largest : So p.largest
  pub near : (log : ℤ) → So log → AreLimited (within (interval_of log) w.time) w.time w.net.channels
  pub fresh : AreLimited (fresh_limit p w.time w.last_change) w.time w.net.channels

-- the intervals that count in a network: the largest, and those of its ports
abbrev pub IsCounted : SettlingParams → List Station → ℤ → Type 0
IsCounted p stations log = (log ≡ p.largest) ⊎ IsLogAmong stations log

-- what is known, item by item
pub known_kept : (p : SettlingParams) (w : WorldState) → IsWorldOnTime w → IsKnown p w
    → IsKept p (IsCounted p w.stations) w
known_kept p w on known = record {
  change = known.fresh.change;
  stations = λ place station here.
      record {
        setup = (on.stations place station here).setup;
        steady = (on.stations place station here).steady;
        set = known.set place station here;
        logs = λ log among. inr (record { place = place; station = station; here = here; among = among });
        in_time = known.in_time place station here;
        measuring = known.measuring place station here;
        time = known.time place station here;
      };
  largest = inl refl;
  near = near;
  fresh = λ link channel here.
      record {
        room = omega arith;
        from_a = λ f. known.fresh.frames link FromA channel f here;
        from_b = λ f. known.fresh.frames link FromB channel f here;
      };
}
  where
    near : (log : ℤ) → IsCounted p w.stations log → AreLimited (within (interval_of log) w.time) w.time w.net.channels
    near log (inl same) =
        short_within (interval_of log) w (subst (λ l. IsShort (interval_of l) w) (sym same) known.near)
    near log (inr among) = short_within (interval_of log) w (known.prompt log among)

-- and so it is known, where ports measure only at links that are up
pub kept_known : (p : SettlingParams) (So : ℤ → Type 0) (w : WorldState) → IsKept p So w → MeasureLinks w → IsKnown p w
kept_known p So w kept links = record {
  set = λ place station here. (kept.stations place station here).set;
  prompt = λ log at.
      within_short (interval_of log) w (kept.near log ((kept.stations at.place at.station at.here).logs log at.among));
  in_time = λ place station here. (kept.stations place station here).in_time;
  measuring = λ place station here. (kept.stations place station here).measuring;
  time = λ place station here. (kept.stations place station here).time;
  links = links;
  near = within_short (interval_of p.largest) w (kept.near p.largest kept.largest);
  fresh = record {
    change = kept.change;
    frames = λ link direction channel f here.
        in_queue (fresh_limit p w.time w.last_change) w.time direction channel (kept.fresh link channel here) f;
  };
}

-- ---- what becomes other

-- the links alone
pub net_kept : (p : SettlingParams) (So : ℤ → Type 0) (w : WorldState) (net : Net)
    → KeepLimits w.time w.net.channels net.channels → IsKept p So w → IsKept p So (record w { net = net })
net_kept p So w net keep kept = record {
  change = kept.change;
  stations = kept.stations;
  largest = kept.largest;
  near = λ log so. keep (within (interval_of log) w.time) (kept.near log so);
  fresh = keep (fresh_limit p w.time w.last_change) kept.fresh;
}

-- one station
pub station_kept : (p : SettlingParams) (So : ℤ → Type 0) (place : ℕ) (old new : Station) (w : WorldState)
    → slice_get w.stations place ≡ Some old → IsKeptStation p So w.time new → IsKept p So w
    → IsKept p So (record w { stations = slice_set w.stations place new })
station_kept p So place old new w here is kept = record {
  change = kept.change;
  stations = get-set_all (IsKeptStation p So w.time) w.stations place old new here is kept.stations;
  largest = kept.largest;
  near = kept.near;
  fresh = kept.fresh;
}

-- ---- a call

-- the intervals at which the ports announce stay
logs_kept : (station : Station) (s' : SystemState) → Keeps station.system s'
    → ((i : ℕ) (q : Port) → slice_get station.system.ports i ≡ Some q
    → slice_get station.setup.intervals.items i ≡ Some q.log_interval)
    → (i : ℕ) (q' : Port) → slice_get s'.ports i ≡ Some q'
    → slice_get station.setup.intervals.items i ≡ Some q'.log_interval
logs_kept station s' kept logs i q' there =
    let log : Port → ℤ = λ q. q.log_interval in
    let old = alike log log station.system.ports s'.ports (sym kept.logs) i q' there in
    logs i old.0 old.1 ∙ ap Some old.2

-- no step starts the Lapse timer where nothing can lapse
stays_off : (input : Input) (now : ℕ) (s s' : SystemState) (sends : List Sending) (answer : Answer)
    → Steps input now s s' sends answer → NothingLapses s.params → s.lapse ≡ None → s'.lapse ≡ None
stays_off input now s s' sends answer steps nothing off = by s'.lapse refl
  where
    runs : RunsOn s now s'
    runs = steps_run_on input now s s' sends answer steps

    ran : (t : ℕ) → LapseRunsOn s s' t ⊎ WaitsAnew s now t → ⊥
    ran t (inl waits) = none-some t (sym off ∙ waits.before)
    ran t (inr anew) = let on = anew.on in omega (arith, nothing)

    by : (o : Option ℕ) → s'.lapse ≡ o → s'.lapse ≡ None
    by None is = is
    by (Some t) is = absurd (ran t (runs.lapse t is))

module _ (p : SettlingParams) (So : ℤ → Type 0) (place : ℕ) (input : Input) (w : WorldState) (draws : List Draw)
    (answer : Answer)
    (w' : WorldState) (calls : Calls place input w draws answer w') where
  -- the system as the call leaves it
  called_station : IsTimely calls.station.system w.time input → IsKeptStation p So w.time calls.station
      → IsKeptStation p So w.time (in_state calls.after calls.station)
  called_station timely is =
      let old = is.steady in
      let sound = steps_sound input w.time calls.station.system calls.after calls.sends answer calls.steps in
      record {
        setup = is.setup;
        steady = steps_steady input w.time calls.station.system calls.after calls.sends answer old calls.steps;
        set = record {
          starts = record { params = is.set.starts.params; largest = is.set.starts.largest };
          params = sound.kept.params ∙ is.set.params;
          largest = sound.kept.largest ∙ is.set.largest;
          intervals = is.set.intervals;
          logs = logs_kept calls.station calls.after sound.kept is.set.logs;
          lapses = λ nothing.
              stays_off input w.time calls.station.system calls.after calls.sends answer calls.steps
              (ap (λ (x : Params). x.sync_timeout) is.set.params ∙ nothing) (is.set.lapses nothing);
        };
        logs = is.logs;
        in_time = λ live.
            stays_in_time input w.time calls.station.system calls.after calls.sends answer timely old.shown old.rest
            (is.in_time live) calls.steps;
        measuring = λ live.
            ports_measure p.params input w.time calls.station.system calls.after calls.sends answer timely calls.steps
            (is.measuring live);
        time = λ live.
            knows_on input w.time calls.station.system calls.after calls.sends answer calls.steps (is.time live);
      }

  pub calls_kept : IsTimely calls.station.system w.time input → IsKept p So w → IsKept p So w'
  calls_kept timely kept =
      let new : Station = in_state calls.after calls.station in
      let called : WorldState = record w { stations = slice_set w.stations place new } in
      subst (IsKept p So) (sym calls.is)
      (net_kept p So called calls.net
      (sends_keep w.time calls.after calls.sends draws (all_timers place new w.net) calls.net calls.sent)
      (station_kept p So place calls.station new w calls.here
      (called_station timely (kept.stations place calls.station calls.here)) kept))
