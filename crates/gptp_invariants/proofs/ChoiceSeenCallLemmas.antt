-- A call of one system is a call of the machine.
use Rattle.std.proofs.Common.{◌≡◌, ◌≢◌, ◌⊎◌, ◌≤◌, ℕ, List, length, map, Some, slice_get, slice_set, refl, sym, ap, subst, ◌∙◌, inl, inr, arith}
use Rattle.std.proofs.lemmas.Option.{same_Some}
use Rattle.gptp_setup.specs.declared.limits.TheConstants.{MOST_PORTS}
use Rattle.gptp_lists.specs.Members.{In}
use Rattle.gptp_links.specs.Fate.{Draw}
use Rattle.gptp_system.specs.declared.answer.Answer.{Answer}
use Rattle.gptp_system.specs.declared.sending.Sending.{Sending}
use Rattle.gptp_system.specs.Input.{Input, IsTimely}
use Rattle.gptp_system.specs.State.{SystemState, clock}
use Rattle.gptp_system.specs.Touch.{Touch, IsSeenAs}
use Rattle.gptp_system.proofs.AnswerLemmas.{steps_react}
use Rattle.gptp_system.proofs.ReactLemmas.{Answers}
use Rattle.gptp_system.proofs.StepLemmas.{steps_sound}
use Rattle.gptp_model.specs.declared.station.Station.{Station}
use Rattle.gptp_model.specs.Act.{Calls, all_timers, in_state}
use Rattle.gptp_model.specs.Sends.{written}
use Rattle.gptp_model.specs.Ahead.{IsSteady}
use Rattle.gptp_model.specs.Sound.{IsItsSetup}
use Rattle.gptp_model.specs.World.{WorldState}
use Rattle.gptp_lists.proofs.PlaceLemmas.{get-set_other, get-set_same, same_place}
use Rattle.gptp_model.proofs.SteadyLemmas.{same_clock, same_ports, steps_steady}
use Rattle.gptp_bmca_machine.specs.Acts.{StationAnswers as SeenCalls}
use Rattle.gptp_bmca_machine.specs.Reacts.{StationReacts as SeenReacts}
use Rattle.gptp_bmca_machine.specs.Station.{Station as SeenStation}
use Rattle.gptp_invariants.specs.WorldEncodable.{SayWhatFits, SystemFits}
use Rattle.gptp_invariants.specs.ChoiceView.{lanes_view, says_announce, send_view, station_view, touch_view, view}
use Rattle.gptp_invariants.proofs.WorldFitLemmas.{reacts_fit, rest_fits}
use Rattle.gptp_invariants.proofs.ChoicePlaceLemmas.{IsStationAt, station_from, station_there}
use Rattle.gptp_invariants.proofs.ChoiceReactLemmas.{reacts_seen}
use Rattle.gptp_invariants.proofs.ChoiceSendLemmas.{sends_step}
use Rattle.gptp_invariants.proofs.ChoiceTakeUpLemmas.{BeginApart, LanesStep}
use Rattle.gptp_invariants.proofs.ChoiceTellLemmas.{are_own, are_read, sends_fit}
use Rattle.gptp_invariants.proofs.ChoiceTouchLemmas.{InputFits, heard_fits, identity_fits}

-- what the machine sees of the call of the system at a place, which leaves it in this state
pub record IsCallSeen (input : Input) (station : Station) (after : SystemState) (w w' : WorldState) : Type 0 where
  pub touch : Touch
  pub seen : IsSeenAs station.system input touch
  pub call : SeenCalls says_announce (touch_view touch) (view w) (view w')
  pub station_is : call.s ≡ station_view station
  pub after_is : call.s' ≡ station_view (in_state after station)

module _ (place : ℕ) (input : Input) (w : WorldState) (draws : List Draw) (answer : Answer) (w' : WorldState)
    (k : Calls place input w draws answer w') (steady : IsSteady k.station.system) (its : IsItsSetup k.station)
    (timely : IsTimely k.station.system w.time input) (fits : SystemFits k.station.system)
    (input-fits : InputFits input) where
  abbrev s : SystemState
  s = k.station.system

  abbrev called : Station
  called = in_state k.after k.station

  abbrev answered : WorldState
  answered = record w { stations = slice_set w.stations place called; net = k.net }

  answers : Answers (IsSeenAs s input) s w.time k.after k.sends
  answers = steps_react input w.time s k.after k.sends answer timely steady.shown steady.rest k.steps

  after_steady : IsSteady k.after
  after_steady = steps_steady input w.time s k.after k.sends answer steady k.steps

  pub after_fits : SystemFits k.after
  after_fits =
      reacts_fit s k.after answers.touch w.time k.sends fits
      (heard_fits s input answers.touch input-fits answers.seen) answers.reacts
      (identity_fits input w.time s k.after k.sends answer input-fits fits k.steps) after_steady.shown

  few_ports : length k.after.ports ≤ MOST_PORTS
  few_ports =
      let kept = same_ports input w.time s k.after k.sends answer k.steps in
      let count = its.ports in
      let most = its.few in
      omega arith

  -- what it sends says what fits
  pub call_sends_fit : (x : Sending) → In x k.sends → SayWhatFits (written k.after x)
  call_sends_fit =
      sends_fit k.after (rest_fits k.after after_fits after_steady.held after_steady.rest) few_ports after_steady.shown
      after_steady.logs k.sends answers.reacts.tells

  answer_seen : SeenReacts says_announce (station_view k.station) (touch_view answers.touch) w.time
      (station_view called)
      (map (send_view k.after) k.sends)
  answer_seen =
      let told = rest_fits k.after after_fits after_steady.held after_steady.rest in
      let tells = answers.reacts.tells in
      let kept = (steps_sound input w.time s k.after k.sends answer k.steps).kept in
      reacts_seen k.station.live s k.after answers.touch w.time k.sends steady.held
      kept.params kept.largest
      (are_read k.after told few_ports after_steady.shown after_steady.logs k.sends tells)
      (are_own k.after told few_ports after_steady.shown after_steady.logs k.sends tells k.station.live) answers.reacts

  -- the one system answers, and the others stand
  others_stand : (j : ℕ) (m : SeenStation) → slice_get (map station_view answered.stations) j ≡ Some m
      → ((j ≡ place) × (m ≡ station_view called))
      ⊎ ((j ≢ place) × (slice_get (map station_view w.stations) j ≡ Some m))
  others_stand j m there = go (station_from answered.stations j m there) (same_place j place)
    where
      go : IsStationAt answered.stations j m → (j ≡ place) ⊎ (j ≢ place)
          → ((j ≡ place) × (m ≡ station_view called))
          ⊎ ((j ≢ place) × (slice_get (map station_view w.stations) j ≡ Some m))
      go x (inl same) =
          let now = get-set_same w.stations place k.station called k.here in
          let here = ap (slice_get answered.stations) (sym same) ∙ x.here in
          let one = same_Some called x.station (sym now ∙ here) in
          inl (same, x.is ∙ ap station_view (sym one))
      go x (inr other) =
          let before = sym (get-set_other w.stations place j called other) ∙ x.here in
          inr (other, station_there w.stations j x.station before ∙ ap (λ y. Some y) (sym x.is))

  -- where no two lanes begin at one port, each takes up what is sent there
  module _ (apart : BeginApart (lanes_view w.net.channels)) where
    lanes_step : LanesStep (clock s) (map (send_view k.after) k.sends) (lanes_view w.net.channels)
        (lanes_view k.net.channels)
    lanes_step =
        subst
        (λ c. LanesStep c (map (send_view k.after) k.sends) (lanes_view w.net.channels) (lanes_view k.net.channels))
        (same_clock input w.time s k.after k.sends answer k.steps)
        (sends_step w.time k.after k.sends draws (all_timers place called w.net) k.net apart k.sent)

    pub calls_seen : IsCallSeen input k.station k.after w w'
    calls_seen =
        subst (IsCallSeen input k.station k.after w) (sym k.is)
        (record {
          touch = answers.touch;
          seen = answers.seen;
          call = record {
            place = place;
            s = station_view k.station;
            s' = station_view called;
            sends = map (send_view k.after) k.sends;
            live = k.live;
            time = refl;
            here = station_there w.stations place k.station k.here;
            there = station_there answered.stations place called
                (get-set_same w.stations place k.station called k.here);
            stations = others_stand;
            reacts = answer_seen;
            lanes = lanes_step;
          };
          station_is = refl;
          after_is = refl;
        })
