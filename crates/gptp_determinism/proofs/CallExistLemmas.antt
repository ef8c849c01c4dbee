-- Systems are called and started with some draws of a fate.
use Rattle.std.proofs.Common.{◌≡◌, ◌≤◌, ◌<◌, ℕ, Bool, true, false, List, [], ◌∷◌, ◌++◌, map, length, Option, Some, slice_get, slice_set, refl, sym, ap, subst, ◌∙◌, inl, inr}
use Rattle.std.specs.List.{AllByRecursion}
use Rattle.std.proofs.lemmas.List.{length-set}
use Rattle.gptp_lists.specs.Members.{In}
use Rattle.gptp_lists.proofs.MappedLemmas.{same_there}
use Rattle.gptp_lists.proofs.PlaceLemmas.{get-set_all, get-set_same, member_there}
use Rattle.gptp_links.specs.declared.bounds.Bounds.{Bounds}
use Rattle.gptp_links.specs.Fate.{Draw}
use Rattle.gptp_pdelay.specs.Clock.{IsDrift}
use Rattle.gptp_setup.specs.declared.limits.TheConstants.{MOST_PORTS}
use Rattle.gptp_setup.specs.declared.setup.Setup.{Setup}
use Rattle.gptp_setup.specs.Intervals.{AreIntervals, AreParams}
use Rattle.gptp_system.specs.declared.answer.Answer.{Answer}
use Rattle.gptp_system.specs.Facts.{IsSystem}
use Rattle.gptp_system.specs.Input.{Input, IsTimely, PortUp}
use Rattle.gptp_system.specs.Start.{started}
use Rattle.gptp_system.specs.State.{SystemState}
use Rattle.gptp_system.specs.Steps.{HasPortNumber}
use Rattle.gptp_system.proofs.ReadyLemmas.{started_ready}
use Rattle.gptp_system.proofs.SystemLemmas.{starts_system}
use Rattle.gptp_model.specs.declared.station.Station.{Station}
use Rattle.gptp_model.specs.Act.{all_timers, in_state, Calls}
use Rattle.gptp_model.specs.Changing.{fresh, up_ports, CallsAll, CallsIfLive, Starts, StartsAll, TellsEnds}
use Rattle.gptp_model.specs.World.{Channel, Net, WorldState}
use Rattle.gptp_model.proofs.AgreeLemmas.{replaced}
use Rattle.gptp_model.proofs.AheadLemmas.{sends_later}
use Rattle.gptp_model.proofs.SteadyLemmas.{same_ports}
use Rattle.gptp_model.proofs.StayLemmas.{calls_stay, refreshed_stays, stays_setups, Stays}
use Rattle.gptp_model.proofs.UpLemmas.{brought_ports}
use Rattle.gptp_determinism.specs.ExistenceLaws.{StepsExist}
use Rattle.gptp_determinism.specs.GoingOn.{AnswersAll, HearsOctets}
use Rattle.gptp_determinism.proofs.ComeLemmas.{comes_from, comes_in_turn, comes_so, comes_without, itself_on, port_still, stands_still, station_on, CanCall, Comes, GoesOn, HasEnd, IsRunning}
use Rattle.gptp_determinism.proofs.SendExistLemmas.{all_is_sent, sends_frames}
use Rattle.gptp_determinism.proofs.StepFrameLemmas.{steps_frames}

-- ---- calls

-- a system is called
abbrev pub IsCalled : ℕ → Input → WorldState → List Draw → WorldState → Type 0
IsCalled place input w draws v = (answer : Answer) × Calls place input w draws answer v

-- it stands at its place then
called_there : (place : ℕ) (input : Input) (w : WorldState) (draws : List Draw) (answer : Answer) (v : WorldState)
    → (call : Calls place input w draws answer v)
    → slice_get v.stations place ≡ Some (in_state call.after call.station)
called_there place input w draws answer v call =
    ap (λ (x : WorldState). slice_get x.stations place) call.is
    ∙ get-set_same w.stations place call.station (in_state call.after call.station) call.here

-- a system that starts is a system
pub started_system : (setup : Setup) (now : ℕ) → setup.ports ≤ MOST_PORTS → AreParams setup.params → AreIntervals setup
    → setup.phase ≤ 1000000000000000000 → IsDrift setup.drift → IsSystem (started setup now)
started_system setup now few params intervals phase drift =
    starts_system setup now (started_ready setup now few params intervals phase drift)

module _ {F : Type 0} (answers : Bounds → ℕ → F → Option ℕ → F → Type 0) (all : AnswersAll answers)
    (steps : StepsExist) where
  -- a live system that is given an input in time is called
  pub calls_exist : (place : ℕ) (input : Input) (w : WorldState) (station : Station) (fate : F)
      → slice_get w.stations place ≡ Some station → station.live ≡ true → IsTimely station.system w.time input
      → HearsOctets input → CanCall w → Comes answers w fate (IsCalled place input w)
  calls_exist place input w station fate here live timely octets can =
      let running = can.stations place station here in
      let (t, sends, answer, k, is) =
      steps input w.time station.system running.system can.moment timely octets in
      let called : Station = in_state t station in
      let net : Net = all_timers place called w.net in
      let sent = all_is_sent answers w.time t sends net fate all can.links in
      let v : WorldState = record w { stations = slice_set w.stations place called; net = sent.after } in
      let call : Calls place input w sent.draws answer v = record {
        station = station;
        after = t;
        sends = sends;
        net = sent.after;
        here = here;
        live = live;
        steps = k;
        sent = sent.sent;
        is = refl;
      } in
      let stays : Stays w v = calls_stay place input w sent.draws answer v can.setups call in
      let frames = steps_frames input w.time station.system t sends answer running.system is timely k in
      record {
        draws = sent.draws;
        fate_after = sent.fate_after;
        after = v;
        drawn = sent.drawn;
        so = (answer, call);
        on = record {
          can = record {
            moment = can.moment;
            stations = get-set_all IsRunning w.stations place station called here
                (record { system = is; params = running.params }) can.stations;
            setups = stays_setups w v stays;
            links = (sends_later w.time t sends sent.draws net sent.after can.links sent.sent).links;
            frames = sends_frames w.time t sends sent.draws net sent.after frames can.frames sent.sent;
          };
          stays = stays;
          count = length-set w.stations place called;
        };
      }

  -- and one that has failed is passed over
  pub calls_if_live_exist : (place : ℕ) (input : Input) (w : WorldState) (station : Station) (fate : F)
      → slice_get w.stations place ≡ Some station → IsTimely station.system w.time input → HearsOctets input
      → CanCall w → Comes answers w fate (CallsIfLive place input w)
  calls_if_live_exist place input w station fate here timely octets can = by station.live refl
    where
      by : (live : Bool) → station.live ≡ live → Comes answers w fate (CallsIfLive place input w)
      by true live =
          comes_so answers w fate (IsCalled place input w) (CallsIfLive place input w) (λ draws v called. inl called)
          (calls_exist place input w station fate here live timely octets can)
      by false failed =
          comes_without answers w w fate (CallsIfLive place input w)
          (inr (record { station = station; here = here; failed = failed }, refl, refl)) (itself_on w can)

  -- both ends of a link are told
  pub tells_ends_exist : (input : ℕ → Input) (channel : Channel) (w : WorldState) (fate : F)
      → ((s : SystemState) (now p : ℕ) → HasPortNumber s p → IsTimely s now (input p))
      → ((p : ℕ) → HearsOctets (input p)) → CanCall w → HasEnd channel.a w.stations → HasEnd channel.b w.stations
      → Comes answers w fate (TellsEnds input channel w)
  tells_ends_exist input channel w fate timely octets can a b =
      let a-input : Input = input channel.a.port in
      let b-input : Input = input channel.b.port in
      let one = calls_if_live_exist a.place a-input w a.station fate a.here
      (timely a.station.system w.time channel.a.port a.port_of) (octets channel.a.port) can in
      let still = stands_still w one.after b.place b.station one.on b.here in
      let port = port_still b.station.system still.new.system channel.b.port still.same.count b.port_of in
      let two = calls_if_live_exist b.place b-input one.after still.new one.fate_after still.here
      (timely still.new.system one.after.time channel.b.port port) (octets channel.b.port) one.on.can in
      comes_in_turn answers w fate (CallsIfLive a.place a-input w) (TellsEnds input channel w) one
      (CallsIfLive b.place b-input one.after) two
      (record {
        place_a = a.place;
        place_b = b.place;
        station_a = a.station;
        station_b = b.station;
        first = one.draws;
        second = two.draws;
        between = one.after;
        is_a = record { here = a.here; named = a.named };
        is_b = record { here = b.here; named = b.named };
        draws_are = refl {a = one.draws ++ two.draws};
        at_a = one.so;
        at_b = two.so;
      })

  -- the ports of a live system come up, one after another
  calls_all_exist : (place : ℕ) (ps : List ℕ) (w : WorldState) (station : Station) (fate : F)
      → slice_get w.stations place ≡ Some station → station.live ≡ true
      → ((p : ℕ) → In p ps → HasPortNumber station.system p) → CanCall w
      → Comes answers w fate (CallsAll place (map PortUp ps) w)
  calls_all_exist place [] w station fate here live ports can =
      comes_without answers w w fate (CallsAll place [] w) (refl, refl) (itself_on w can)
  calls_all_exist place (p ∷ ps) w station fate here live ports can =
      let one = calls_exist place (PortUp p) w station fate here live (ports p (inl refl)) tt can in
      let (answer, call) = one.so in
      let same : call.station ≡ station = same_there w.stations place call.station station call.here here in
      let count : length call.after.ports ≡ length station.system.ports =
      same_ports (PortUp p) w.time call.station.system call.after call.sends answer call.steps
      ∙ ap (λ (x : Station). length x.system.ports) same in
      let there = called_there place (PortUp p) w one.draws answer one.after call in
      let two = calls_all_exist place ps one.after (in_state call.after call.station) one.fate_after there call.live
      (λ q among. port_still station.system call.after q count (ports q (inr among))) one.on.can in
      comes_in_turn answers w fate (IsCalled place (PortUp p) w) (CallsAll place (map PortUp (p ∷ ps)) w) one
      (CallsAll place (map PortUp ps) one.after) two
      (one.draws, two.draws, one.after, answer, refl, call, two.so)

  -- ---- starts

  -- a system starts, and its ports come up
  pub starts_exist : (place : ℕ) (w : WorldState) (station : Station) (fate : F)
      → slice_get w.stations place ≡ Some station → CanCall w → Comes answers w fate (Starts place w)
  starts_exist place w station fate here can =
      let new : Station = fresh w.time station in
      let begun : WorldState = replaced place new w in
      let its = can.setups place station here in
      let params = (can.stations place station here).params in
      let system =
      started_system station.setup w.time its.few params its.intervals its.phase its.drift in
      let ready : GoesOn w begun =
      station_on place station new w (all_timers place new w.net).pending here
      (record { system = system; params = params }) (refreshed_stays place station w here can.setups) can in
      let Up : List Draw → WorldState → Type 0 = CallsAll place (map PortUp (up_ports new w.net)) begun in
      comes_from answers w begun fate (Starts place w) ready
      (comes_so answers begun fate Up (Starts place w)
      (λ draws v calls. record { station = station; here = here; calls = calls })
      (calls_all_exist place (up_ports new w.net) begun new fate (get-set_same w.stations place station new here) refl
      (λ p among. brought_ports new w.net p among) ready.can))

  -- all systems start, one after another
  pub starts_all_exist : (places : List ℕ) (w : WorldState) (fate : F)
      → AllByRecursion (λ place. place < length w.stations) places → CanCall w
      → Comes answers w fate (StartsAll places w)
  starts_all_exist [] w fate within can =
      comes_without answers w w fate (StartsAll [] w) (refl, refl) (itself_on w can)
  starts_all_exist (place ∷ places) w fate within can =
      let (station, here) = member_there w.stations place within.0 in
      let one = starts_exist place w station fate here can in
      let inside = subst (λ (n : ℕ). AllByRecursion (λ place. place < n) places) (sym one.on.count) within.1 in
      let two = starts_all_exist places one.after one.fate_after inside one.on.can in
      comes_in_turn answers w fate (Starts place w) (StartsAll (place ∷ places) w) one
      (StartsAll places one.after) two (one.draws, two.draws, one.after, refl, one.so, two.so)
