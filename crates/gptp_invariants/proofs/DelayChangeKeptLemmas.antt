-- Every act, a change too, keeps what must be known of the measuring.
use Rattle.std.proofs.Common.{◌≡◌, ℕ, true, false, List, Some, slice_get, slice_set, refl, sym, subst, ◌∙◌, inl, inr}
use Rattle.std.specs.Prelude.{⊤}
use Rattle.gptp_lists.specs.Members.{In}
use Rattle.gptp_links.specs.declared.link.Direction.{Direction}
use Rattle.gptp_links.specs.declared.link.Direction.TheVariants.{FromA, FromB}
use Rattle.gptp_links.specs.Queue.{Frame, frame}
use Rattle.gptp_setup.specs.Intervals.{AreParams}
use Rattle.gptp_system.specs.Input.{Input, Expires, Frame as FrameHeard, PortDown, PortUp, Priority}
use Rattle.gptp_system.proofs.InTimeLemmas.{later_in_time}
use Rattle.gptp_scenario.specs.declared.network.LinkSpec.{LinkSpec}
use Rattle.gptp_model.specs.declared.station.Station.{Station}
use Rattle.gptp_model.specs.Act.{all_timers}
use Rattle.gptp_model.specs.Acts.{set_to}
use Rattle.gptp_model.specs.Agrees.{stopped}
use Rattle.gptp_model.specs.Ahead.{IsSteady}
use Rattle.gptp_model.specs.Changing.{brought_up, failed, fresh, lost, taken_down, with_bounds, with_setup, with_station}
use Rattle.gptp_model.specs.Initial.{channel_from, setup_of, station_of}
use Rattle.gptp_model.specs.Sound.{HaveTheirSetups}
use Rattle.gptp_model.specs.World.{Channel, Net, WorldState, world_queue}
use Rattle.gptp_lists.proofs.MappedLemmas.{mapped}
use Rattle.gptp_lists.proofs.PlaceLemmas.{get-set_all}
use Rattle.gptp_model.proofs.AgreeLemmas.{replaced}
use Rattle.gptp_model.proofs.StayLemmas.{failed_stays, refreshed_stays, stays_setups, with_setup_stays}
use Rattle.gptp_model.proofs.SteadyLemmas.{started_steady}
use Rattle.gptp_invariants.specs.WorldEncodableLaws.{SetsAnOctet}
use Rattle.gptp_invariants.specs.DelayLinkLaws.{InitiallyMeasured, MeasuredHoldsLater, MeasuredIsKept, StartsMeasured}
use Rattle.gptp_invariants.specs.DelayMeasured.{AllFit, IsStationMeasured}
use Rattle.gptp_invariants.specs.DelayLinkView.{RequestSaysWhatFits}
use Rattle.gptp_invariants.proofs.ChoiceSeenOctetLemmas.{octets_fit}
use Rattle.gptp_system.proofs.TimersChangedLemmas.{priority_clock}
use Rattle.gptp_system.specs.Start.{started}
use Rattle.gptp_invariants.proofs.DelayEndLemmas.{HearsWhatFits}
use Rattle.gptp_invariants.proofs.DelayLinkKeptLemmas.{started_measured}
use Rattle.gptp_invariants.proofs.DelayMeasuredLemmas.{IsKept, calls_kept, entered_fits, queue_fits, sound_kept}
use Rattle.gptp_model.proofs.ActsByLemmas.{Elementary, SaysWhatIsKnown, acts_by, starts_by}

-- ---- what is between the systems

-- other links, on which all fits
net_kept : (w : WorldState) (net : Net) → AllFit net.channels → IsKept w → IsKept (record w { net = net })
net_kept w net fit is = record {
  steady = is.steady;
  setups = is.setups;
  measured = record { stations = is.measured.stations; frames = fit };
}

-- one link becomes another on which all fits
channel_fits : (channels : List Channel) (link : ℕ) (channel new : Channel) → slice_get channels link ≡ Some channel
    → ((direction : Direction) (f : Frame) → In f (world_queue direction new) → RequestSaysWhatFits f.octets)
    → AllFit channels
    → AllFit (slice_set channels link new)
channel_fits channels link channel new here fits all =
    get-set_all (λ (c : Channel). (way : Direction) (f : Frame) → In f (world_queue way c)
    → RequestSaysWhatFits f.octets)
    channels link
    channel new here fits all

lost_fits : (channel : Channel) (direction : Direction) (f : Frame) → In f (world_queue direction (lost channel))
    → RequestSaysWhatFits f.octets
lost_fits channel FromA f member = absurd member
lost_fits channel FromB f member = absurd member

same_fits : (channel new : Channel) → new.from_a ≡ channel.from_a → new.from_b ≡ channel.from_b
    → ((direction : Direction) (f : Frame) → In f (world_queue direction channel) → RequestSaysWhatFits f.octets)
    → (direction : Direction) (f : Frame) → In f (world_queue direction new) → RequestSaysWhatFits f.octets
same_fits channel new a b fits FromA f member = fits FromA f (subst (In f) a member)
same_fits channel new a b fits FromB f member = fits FromB f (subst (In f) b member)

-- ---- every elementary step

hears_fits : (input : Input) → SaysWhatIsKnown SetsAnOctet RequestSaysWhatFits input → (n : ℕ) → HearsWhatFits n input
hears_fits (PortUp p) says n = tt
hears_fits (PortDown p) says n = tt
hears_fits (FrameHeard p octets) says n = λ here. says
hears_fits (Expires timer) says n = tt
hears_fits (Priority value) says n = tt

-- a station becomes another that measures
station_kept : (place : ℕ) (old new : Station) (w : WorldState) (net : Net) → slice_get w.stations place ≡ Some old
    → net.channels ≡ w.net.channels → IsSteady new.system → IsStationMeasured w.time new
    → HaveTheirSetups (with_station place new w) → IsKept w
    → IsKept (record (with_station place new w) { net = net })
station_kept place old new w net here channels steady measured setups is = record {
  steady = get-set_all (λ (x : Station). IsSteady x.system) w.stations place old new here steady is.steady;
  setups = setups;
  measured = record {
    stations = get-set_all (IsStationMeasured w.time) w.stations place old new here measured is.measured.stations;
    frames = subst AllFit (sym channels) is.measured.frames;
  };
}

measured_kept : Elementary ⊤ SetsAnOctet RequestSaysWhatFits IsKept
measured_kept = record {
  system_called = λ place input w draws answer w' k given.
      calls_kept place input w draws answer w' k (given.timely tt) (hears_fits input given.says);
  frame_taken = λ link direction octets channel w net k is. (
    net_kept w net
        (subst (λ (n : Net). AllFit n.channels) (sym k.is)
        (queue_fits w.net.channels link direction channel k.rest k.here
        (λ f member. is.measured.frames link channel k.here direction f (subst (In f) (sym k.front) (inr member)))
        is.measured.frames)) is,
    is.measured.frames link channel k.here direction (frame w.time octets)
        (subst (In (frame w.time octets)) (sym k.front) (inl refl)),
  );
  timer_stopped = λ place timer w is. net_kept w (stopped place timer w).net is.measured.frames is;
  link_down = λ place channel w here is.
      net_kept w (taken_down place channel w.net)
      (channel_fits w.net.channels place channel (lost channel) here (lost_fits channel) is.measured.frames) is;
  link_up = λ place channel w here is.
      let new : Channel = record channel { up = true } in
      net_kept w (brought_up place channel w.net)
      (channel_fits w.net.channels place channel new here
      (same_fits channel new refl refl (is.measured.frames place channel here)) is.measured.frames) is;
  link_set = λ number port min max loss place channel w here octet now is.
      let bounds = set_to min max loss channel in
      let new : Channel = record channel { bounds = bounds } in
      net_kept w (with_bounds bounds place channel w.net)
      (channel_fits w.net.channels place channel new here
      (same_fits channel new refl refl (is.measured.frames place channel here)) is.measured.frames) is;
  system_failed = λ place station w here is.
      let off : Station = record station { live = false } in
      let old = is.measured.stations place station here in
      station_kept place station off w (all_timers place off w.net) here refl (is.steady place station here)
      (record {
        set_up = record {
          params = old.set_up.params;
          phase = old.set_up.phase;
          drift = old.set_up.drift;
          seed = old.set_up.seed;
          named = old.set_up.named;
        };
        in_time = old.in_time;
        ports = old.ports;
      })
      (stays_setups w (failed place station w) (failed_stays place station w here is.setups)) is;
  system_started = λ place station w here is.
      let new : Station = fresh w.time station in
      let params : AreParams station.setup.params =
      subst AreParams (is.measured.stations place station here).set_up.params (is.steady place station here).params in
      station_kept place station new w (all_timers place new w.net) here refl
      (started_steady station.setup w.time params (is.setups place station here).intervals)
      (started_measured station.setup w.time true)
      (stays_setups w (replaced place new w) (refreshed_stays place station w here is.setups)) is;
  priority_set = λ number value place station w here octet is.
      let new : Station = with_setup value station in
      let old = is.measured.stations place station here in
      station_kept place station new w w.net here refl (is.steady place station here)
      (record {
        set_up = record {
          params = old.set_up.params;
          phase = old.set_up.phase;
          drift = old.set_up.drift;
          seed = old.set_up.seed;
          named = old.set_up.named ∙ sym (priority_clock value (started station.setup 0));
        };
        in_time = old.in_time;
        ports = old.ports;
      })
      (stays_setups w (with_station place new w) (with_setup_stays value place station w here is.setups)) is;
  octets_injected = λ number port octets w draws w' octet k is.
      let one = k.sent in
      subst IsKept (sym k.is)
      (net_kept w k.net
      (subst (λ (n : Net). AllFit n.channels) (sym one.after)
      (entered_fits one.place one.direction one.channel w.time octets k.draw.answer w.net one.here
      (octets_fit octets octet) is.measured.frames)) is);
  change_counted = λ w is. record {
    steady = is.steady;
    setups = is.setups;
    measured = record { stations = is.measured.stations; frames = is.measured.frames };
  };
}

-- ---- all acts

pub acts_measured : MeasuredIsKept
acts_measured act w w' draws done sound is octet k =
    (acts_by measured_kept act w draws done w' (λ known. sound.wired) octet k (sound_kept w sound is)).measured

pub later_measured : MeasuredHoldsLater
later_measured time w later is = record {
  stations = λ place station here.
      let old = is.stations place station here in
      record {
        set_up = old.set_up;
        in_time = later_in_time station.system w.time time later old.in_time;
        ports = old.ports;
      };
  frames = is.frames;
}

-- ---- the beginning

pub starts_measured : StartsMeasured
starts_measured places w w' draws sound is k =
    (starts_by measured_kept places w draws w' k (sound_kept w sound is)).measured

pub initially_measured : InitiallyMeasured
initially_measured n = record {
  stations = λ place station here.
      let (member, at, made) = mapped (station_of n) n.systems place station here in
      subst (IsStationMeasured 0) made (started_measured (setup_of n member) 0 false);
  frames = λ link channel here.
      let (wire, at, made) = mapped channel_from n.links link channel here in
      subst (λ (c : Channel). (direction : Direction) (f : Frame) → In f (world_queue direction c)
      → RequestSaysWhatFits f.octets)
      made
      (still wire);
}
  where
    still : (wire : LinkSpec) (direction : Direction) (f : Frame) → In f (world_queue direction (channel_from wire))
        → RequestSaysWhatFits f.octets
    still wire FromA f member = absurd member
    still wire FromB f member = absurd member
