-- A system whose priority1 is set reacts, as the machine sees it, and the links stand as they did.
use Rattle.std.proofs.Common.{◌≡◌, ◌⊎◌, ◌≤◌, ◌<◌, ◌+◌, ◌*◌, ◌^◌, ◌%◌, ℕ, zero, suc, pos, Bool, true, false, List, [], ◌∷◌, map, Some, slice_get, slice_set, refl, sym, ap, subst, ◌∙◌, inl, inr, arith}
use Rattle.std.specs.Option.{option_map_or}
use Rattle.std.specs.Prelude.{◌==◌, ◌||◌, if◌then◌else◌}
use Rattle.std.proofs.lemmas.Option.{same_Some}
use Rattle.gptp_lists.specs.Members.{In}
use Rattle.gptp_lists.proofs.MappedLemmas.{alike, same_there}
use Rattle.gptp_lists.proofs.PlaceLemmas.{get-set_other, get-set_same, map-set_same, same_place}
use Rattle.gptp_graph.specs.Snapshot.{IsWellFormed, PortIdentity, System}
use Rattle.gptp_links.specs.Fate.{Draw}
use Rattle.gptp_setup.specs.SettlingParams.{SettlingParams}
use Rattle.gptp_scenario.specs.declared.change.Act.TheVariants.{Change as Changing}
use Rattle.gptp_scenario.specs.declared.change.Change.TheVariants.{Priority1}
use Rattle.gptp_system.specs.declared.answer.Answer.{Answer}
use Rattle.gptp_system.specs.Input.{Priority}
use Rattle.gptp_system.specs.State.{SystemState, clock}
use Rattle.gptp_model.specs.declared.done.Done.{Done}
use Rattle.gptp_model.specs.declared.station.Station.{Station}
use Rattle.gptp_model.specs.Act.{Calls, in_state}
use Rattle.gptp_model.specs.Acts.{Acts, AtSystem}
use Rattle.gptp_model.specs.Changing.{CallsIfLive, with_setup, with_station}
use Rattle.gptp_model.specs.World.{Channel, WorldState}
use Rattle.gptp_model.proofs.BareLemmas.{DifferInFlight, bare, calls_bare}
use Rattle.gptp_model.proofs.StayLemmas.{stays_apart, with_setup_stays}
use Rattle.gptp_model.proofs.SteadyLemmas.{same_clock}
use Rattle.gptp_bmca_machine.specs.Acts.{StationAnswers}
use Rattle.gptp_bmca_machine.specs.SoundEverywhere.{IsSoundEverywhere}
use Rattle.gptp_bmca_machine.specs.SoundLaws.{HasNews}
use Rattle.gptp_bmca_machine.specs.Station.{MachineState, Station as SeenStation}
use Rattle.gptp_bmca_machine.specs.Touch.{Other, StationTouch}
use Rattle.gptp_invariants.specs.ChoiceCalm.{clock_place, log_at, log_of, setups_of}
use Rattle.gptp_invariants.specs.ChoiceSettlesAsMachine.{IsWorld}
use Rattle.gptp_invariants.specs.ChoiceView.{lanes_view, says_announce, station_view, touch_view, view}
use Rattle.gptp_invariants.specs.WorldSound.{IsGain, IsSoundWorld}
use Rattle.gptp_invariants.specs.WorldStanding.{live_stations, snapshot_of, standing_system, stations_have_clock}
use Rattle.gptp_invariants.proofs.ChoiceSeenCallLemmas.{IsCallSeen, calls_seen}
use Rattle.gptp_invariants.proofs.ChoiceTakeUpLemmas.{BeginApart}
use Rattle.gptp_invariants.proofs.ChoiceSendLemmas.{lanes_apart}
use Rattle.gptp_invariants.proofs.WorldActEncodableLemmas.{answering_kept}
use Rattle.gptp_invariants.proofs.WorldAnsweringLemmas.{IsAnswering, sound_answers}
use Rattle.gptp_invariants.proofs.WorldSoundCallLemmas.{IsThereToo, call_sound, links_more}
use Rattle.gptp_invariants.proofs.WorldSystemLemmas.{IsLiveAt, live_from, live_there}
use Rattle.gptp_invariants.proofs.ChoiceCalmKeptLemmas.{places_kept}
use Rattle.gptp_settling_time.specs.Idle.{Lives}

-- ---- one system becomes another of its clock

lives_set : (stations : List Station) (place : ℕ) (old new : Station) → slice_get stations place ≡ Some old
    → new.live ≡ old.live → clock new.system ≡ clock old.system → (number : ℕ)
    → stations_have_clock (live_stations (slice_set stations place new)) number
    ≡ stations_have_clock (live_stations stations) number
lives_set [] place old new here live same number = refl
lives_set (first ∷ stations) zero old new here live same number =
    let one = same_Some first old here in
    let lives : new.live ≡ first.live = live ∙ ap (λ (x : Station). x.live) (sym one) in
    let named : clock new.system ≡ clock first.system = same ∙ ap (λ (x : Station). clock x.system) (sym one) in
    rw lives (by first.live named)
  where
    by : (b : Bool) → clock new.system ≡ clock first.system
        → stations_have_clock (if b then standing_system new ∷ live_stations stations else live_stations stations)
        number
        ≡ stations_have_clock (if b then standing_system first ∷ live_stations stations else live_stations stations)
        number
    by true named = rw named refl
    by false named = refl
lives_set (first ∷ stations) (suc place) old new here live same number =
    by first.live (lives_set stations place old new here live same number)
  where
    by : (b : Bool) → stations_have_clock (live_stations (slice_set stations place new)) number
        ≡ stations_have_clock (live_stations stations) number
        → stations_have_clock (if b then standing_system first ∷ live_stations (slice_set stations place new)
        else live_stations (slice_set stations place new)) number
        ≡ stations_have_clock (if b then standing_system first ∷ live_stations stations else live_stations stations)
        number
    by true rest = ap (λ r. (clock first.system == number) || r) rest
    by false rest = rest

pub logs_set : (stations : List Station) (place : ℕ) (old new : Station) → slice_get stations place ≡ Some old
    → ((k : ℕ) → log_at new.setup k ≡ log_at old.setup k) → (i k : ℕ)
    → option_map_or (λ setup. log_at setup k) (slice_get (setups_of (slice_set stations place new)) i) (pos 0)
    ≡ option_map_or (λ setup. log_at setup k) (slice_get (setups_of stations) i) (pos 0)
logs_set [] place old new here same i k = refl
logs_set (first ∷ stations) zero old new here same zero k =
    same k ∙ ap (λ (x : Station). log_at x.setup k) (sym (same_Some first old here))
logs_set (first ∷ stations) zero old new here same (suc i) k = refl
logs_set (first ∷ stations) (suc place) old new here same zero k = refl
logs_set (first ∷ stations) (suc place) old new here same (suc i) k = logs_set stations place old new here same i k

-- ---- the reaction

-- whether a station lives, and its clock
abbrev pub lives_as : Station → Bool × ℕ
lives_as station = (station.live, clock station.system)

-- the system with this clock answers to the touch
pub record AnswersAs (owner : ℕ) (touch : StationTouch) (u u' : MachineState) : Type 0 where
  pub call : StationAnswers says_announce touch u u'
  pub named : call.s.clock ≡ owner

pub record Reacts (w w' : WorldState) : Type 0 where
  pub call : StationAnswers says_announce Other (view w) (view w')
  pub time : w'.time ≡ w.time
  pub change : w'.last_change ≡ w.time
  pub places : (number : ℕ) → clock_place w'.stations number ≡ clock_place w.stations number
  pub logs : (port : PortIdentity) → log_of w'.stations port ≡ log_of w.stations port
  pub lives : (number : ℕ) → stations_have_clock (live_stations w'.stations) number
      ≡ stations_have_clock (live_stations w.stations) number
  pub stand : map lives_as w'.stations ≡ map lives_as w.stations
  pub links : DifferInFlight w.net.channels w'.net.channels

module _ (p : SettlingParams) (w : WorldState) (is : IsWorld p w) (owner value : ℕ) (live : Lives owner w)
    (octet : value < 256) (draws : List Draw) (done : Done) (w' : WorldState)
    (acts : Acts (Changing (Priority1 owner value)) w draws done w') where
  abbrev now : WorldState
  now = record w { last_change = w.time }

  abbrev k : AtSystem owner now (λ place station.
      CallsIfLive place (Priority value) (with_station place (with_setup value station) now) draws w')
  k = acts.1

  abbrev place : ℕ
  place = k.place

  abbrev station : Station
  station = k.station

  abbrev new : Station
  new = with_setup value station

  abbrev v : WorldState
  v = with_station place new now

  here : slice_get w.stations place ≡ Some station
  here = k.is.here

  there : slice_get v.stations place ≡ Some new
  there = get-set_same w.stations place station new k.is.here

  answering : IsAnswering v
  answering =
      answering_kept.priority_set owner value place station now here octet
      (answering_kept.change_counted w (sound_answers w is.sound is.encodable))

  apart : BeginApart (lanes_view v.net.channels)
  apart =
      lanes_apart v
      (stays_apart w (with_station place new w)
      (with_setup_stays value place station w here is.sound.wired.setups) is.sound.wired.apart)
      (λ link other at. (answering.encodable.links link other at).ends)

  seen_v : view v ≡ view w
  seen_v = λ i. record {
    time = w.time;
    stations = map-set_same station_view w.stations place station new here refl i;
    lanes = lanes_view w.net.channels;
  }

  module _ (answer : Answer) (c : Calls place (Priority value) v draws answer w') where
    after : Station
    after = in_state c.after c.station

    one : new ≡ c.station
    one = same_there v.stations place new c.station there c.here

    stations_are : w'.stations ≡ slice_set v.stations place (in_state c.after c.station)
    stations_are = ap (λ (x : WorldState). x.stations) c.is

    named : clock c.after ≡ clock c.station.system
    named = same_clock (Priority value) v.time c.station.system c.after c.sends answer c.steps

    seen : IsCallSeen (Priority value) c.station c.after v w'
    seen =
        let old = answering.stations place c.station c.here in
        calls_seen place (Priority value) v draws answer w' c old.steady old.its tt
        (answering.encodable.stations place c.station c.here).system octet apart

    -- it lives with its new identity
    pub identity_is : c.after.identity ≡ value * 2 ^ 104 + station.system.identity % 2 ^ 104
    identity_is =
        ap (λ (x : SystemState). x.identity) c.steps.state
        ∙ ap (λ (x : SystemState). value * 2 ^ 104 + x.identity % 2 ^ 104) (ap (λ (x : Station). x.system) (sym one))

    pub known : In (standing_system (in_state c.after c.station)) (live_stations w'.stations)
    known =
        live_there w'.stations place (in_state c.after c.station)
        (ap (λ (x : WorldState). slice_get x.stations place) c.is
        ∙ get-set_same v.stations place c.station (in_state c.after c.station) c.here) c.live

    still : IsGain (Priority1 owner value) w → (s : System) → In s (live_stations w.stations)
        → (t : System) × In t (live_stations w'.stations) × (t.clock ≡ s.clock) × (t.identity ≤ s.identity)
    unfolding after
    still gain s member = elim (same_place at.place place) [
      | inl same ↦ (let was : at.station ≡ station = same_there w.stations place at.station station
          (ap (slice_get w.stations) (sym same) ∙ at.here) here in
          let system : c.station.system ≡ at.station.system =
          ap (λ (x : Station). x.system) (sym one) ∙ ap (λ (x : Station). x.system) (sym was) in
          let names : clock c.after ≡ s.clock =
          named ∙ ap clock system ∙ ap (λ (x : System). x.clock) (sym at.is) in
          let given = identity_is in
          let before : s.identity ≡ station.system.identity =
          ap (λ (x : System). x.identity) at.is ∙ ap (λ (x : Station). x.system.identity) was in
          let better = gain place station (record { here = here; named = k.is.named }) in
          (standing_system after, known, names, omega (arith, given, before, better)))
      | inr other ↦ (
        s,
        subst (λ x. In x (live_stations w'.stations)) (sym at.is)
            (live_there w'.stations at.place at.station
            (ap (λ (x : WorldState). slice_get x.stations at.place) c.is
            ∙ get-set_other v.stations place at.place after other
            ∙ get-set_other w.stations place at.place new other ∙ at.here) at.live),
        refl,
        omega arith,
      )
    ]
      where
        at : IsLiveAt w.stations s
        at = live_from w.stations s member

    links_there : (link : ℕ) (channel : Channel) → slice_get w.net.channels link ≡ Some channel
        → IsThereToo w'.net.channels link channel
    links_there link channel stood =
        let bares = calls_bare place (Priority value) v draws answer w' c in
        let (x, x_there, same) = alike bare bare c.net.channels w.net.channels bares link channel stood in
        record {
          new = x;
          here = ap (λ (y : WorldState). slice_get y.net.channels link) c.is ∙ x_there;
          a = ap (λ (y : Channel). y.a) same;
          b = ap (λ (y : Channel). y.b) same;
          up = λ on. ap (λ (y : Channel). y.up) same ∙ on;
        }

    place_kept : (number : ℕ) → clock_place w'.stations number ≡ clock_place w.stations number
    place_kept number =
        ap (λ stations. clock_place stations number) stations_are
        ∙ places_kept v.stations place c.station (in_state c.after c.station) c.here named number
        ∙ places_kept w.stations place station new here refl number

    -- its clock
    owner_is : clock c.station.system ≡ owner
    owner_is = sym (ap (λ (x : Station). clock x.system) one) ∙ k.is.named

    pub called_as : AnswersAs owner Other (view w) (view w')
    called_as =
        subst (λ seen_as. AnswersAs owner Other seen_as (view w')) seen_v
        (subst (λ t. AnswersAs owner t (view v) (view w')) (ap touch_view seen.seen)
        (record { call = seen.call; named = ap (λ (z : SeenStation). z.clock) seen.station_is ∙ owner_is }))

    -- any other system stands as it did
    pub stood_before : (s : System) → In s (live_stations w'.stations)
        → In s (live_stations w.stations) ⊎ (s.clock ≡ owner)
    stood_before s member = elim (same_place at.place place) [
      | inl same ↦
          let there_now : slice_get w'.stations place ≡ Some (in_state c.after c.station) =
          ap (λ (x : WorldState). slice_get x.stations place) c.is
          ∙ get-set_same v.stations place c.station (in_state c.after c.station) c.here in
          let is_it : at.station ≡ in_state c.after c.station =
          same_there w'.stations place at.station (in_state c.after c.station)
          (ap (slice_get w'.stations) (sym same) ∙ at.here) there_now in
          inr (ap (λ (x : System). x.clock) at.is ∙ ap (λ (x : Station). clock x.system) is_it ∙ named ∙ owner_is)
      | inr other ↦ inl (subst (λ x. In x (live_stations w.stations)) (sym at.is)
          (live_there w.stations at.place at.station
          (sym (get-set_other w.stations place at.place new other)
          ∙ sym (get-set_other v.stations place at.place (in_state c.after c.station) other)
          ∙ sym (ap (λ (x : WorldState). slice_get x.stations at.place) c.is) ∙ at.here) at.live))
    ]
      where
        at : IsLiveAt w'.stations s
        at = live_from w'.stations s member

    pub stands_after : (s : System) → In s (live_stations w.stations)
        → In s (live_stations w'.stations) ⊎ (s.clock ≡ owner)
    stands_after s member = elim (same_place at.place place) [
      | inl same ↦
          let is_it : at.station ≡ station =
          same_there w.stations place at.station station (ap (slice_get w.stations) (sym same) ∙ at.here) here in
          inr (ap (λ (x : System). x.clock) at.is ∙ ap (λ (x : Station). clock x.system) is_it ∙ k.is.named)
      | inr other ↦ inl (subst (λ x. In x (live_stations w'.stations)) (sym at.is)
          (live_there w'.stations at.place at.station
          (ap (λ (x : WorldState). slice_get x.stations at.place) c.is
          ∙ get-set_other v.stations place at.place (in_state c.after c.station) other
          ∙ get-set_other w.stations place at.place new other ∙ at.here) at.live))
    ]
      where
        at : IsLiveAt w.stations s
        at = live_from w.stations s member

    called : Reacts w w'
    called = record {
      call = called_as.call;
      time = ap (λ (x : WorldState). x.time) c.is;
      change = ap (λ (x : WorldState). x.last_change) c.is;
      places = place_kept;
      logs = λ port.
          ap (λ stations. log_of stations port) stations_are
          ∙ (λ i. option_map_or (λ setup. log_at setup port.port)
          (slice_get (setups_of (slice_set v.stations place (in_state c.after c.station)))
          ((ap (λ stations. clock_place stations port.clock) (sym stations_are) ∙ place_kept port.clock) i)) (pos 0))
          ∙ logs_set v.stations place c.station (in_state c.after c.station) c.here (λ at. refl)
          (clock_place w.stations port.clock) port.port
          ∙ logs_set w.stations place station new here (λ at. refl) (clock_place w.stations port.clock) port.port;
      lives = λ number.
          ap (λ stations. stations_have_clock (live_stations stations) number) stations_are
          ∙ lives_set v.stations place c.station (in_state c.after c.station) c.here refl named number
          ∙ lives_set w.stations place station new here refl refl number;
      stand = ap (map lives_as) stations_are
          ∙ map-set_same lives_as v.stations place c.station (in_state c.after c.station) c.here
          (λ i. (c.station.live, named i))
          ∙ map-set_same lives_as w.stations place station new here refl;
      links = subst (λ (x : WorldState). DifferInFlight w.net.channels x.net.channels) (sym c.is)
          (calls_bare place (Priority value) v draws answer w' c);
    }

    called_news : IsGain (Priority1 owner value) w → HasNews (snapshot_of w) (snapshot_of w')
    called_news gain = record {
      systems = still gain;
      links = links_more w w' (λ s member. let (t, stands, same, less) = still gain s member in (t, stands, same))
          links_there;
    }

    called_sound : IsWellFormed (snapshot_of w') → IsSoundEverywhere says_announce (snapshot_of w') (view w)
        → IsSoundWorld w'
    called_sound well all =
        call_sound (snapshot_of w') well place (Priority value) v draws answer w' c answering
        (stays_apart w (with_station place new w)
        (with_setup_stays value place station w here is.sound.wired.setups) is.sound.wired.apart) tt
        (record { deaf = λ n octets same. absurd cc; fits = octet }) known
        (subst (IsSoundEverywhere says_announce (snapshot_of w')) (sym seen_v) all)

  pub answered : (answer : Answer) × Calls place (Priority value) v draws answer w'
  answered = by k.so
    where
      by : CallsIfLive place (Priority value) v draws w'
          → (answer : Answer) × Calls place (Priority value) v draws answer w'
      by (inl called) = called
      by (inr (failed, none, same)) =
          let it = same_there v.stations place failed.station new failed.here there in
          let on : station.live ≡ true = live place station (record { here = here; named = k.is.named }) in
          let off : station.live ≡ false = ap (λ (x : Station). x.live) (sym it) ∙ failed.failed in
          absurd (let both = sym on ∙ off in cc)

  pub reacts : Reacts w w'
  reacts = called answered.0 answered.1

  pub reacts_as : AnswersAs owner Other (view w) (view w')
  reacts_as = called_as answered.0 answered.1

  pub reacts_before : (s : System) → In s (live_stations w'.stations)
      → In s (live_stations w.stations) ⊎ (s.clock ≡ owner)
  reacts_before = stood_before answered.0 answered.1

  pub reacts_after : (s : System) → In s (live_stations w.stations)
      → In s (live_stations w'.stations) ⊎ (s.clock ≡ owner)
  reacts_after = stands_after answered.0 answered.1

  pub reacts_news : IsGain (Priority1 owner value) w → HasNews (snapshot_of w) (snapshot_of w')
  reacts_news = called_news answered.0 answered.1

  -- what is sound by the new identity stays so
  pub reacts_sound : IsWellFormed (snapshot_of w') → IsSoundEverywhere says_announce (snapshot_of w') (view w)
      → IsSoundWorld w'
  reacts_sound = called_sound answered.0 answered.1
