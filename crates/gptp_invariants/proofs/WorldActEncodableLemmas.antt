-- The world that a network makes is encodable, and every act leaves it so.
use Rattle.std.proofs.Common.{◌≡◌, ◌≢◌, ◌<◌, ℕ, true, false, List, Some, slice_get, slice_set, refl, sym, ap, subst, ◌∙◌, inl, arith}
use Rattle.std.specs.Prelude.{⊤}
use Rattle.gptp_lists.specs.Members.{In}
use Rattle.gptp_vector.specs.declared.port.PortId.{PortId}
use Rattle.gptp_links.specs.declared.link.Direction.{Direction}
use Rattle.gptp_links.specs.declared.link.Direction.TheVariants.{FromA, FromB}
use Rattle.gptp_links.specs.Fate.{Draw}
use Rattle.gptp_links.specs.Queue.{Frame, frame}
use Rattle.gptp_scenario.specs.declared.change.Act.{Act}
use Rattle.gptp_scenario.specs.declared.network.LinkSpec.{LinkSpec}
use Rattle.gptp_scenario.specs.Network.{IsNetwork, NetworkState}
use Rattle.gptp_system.specs.Input.{Input, Expires, Frame as FrameHeard, PortDown, PortUp, Priority}
use Rattle.gptp_system.specs.Start.{started}
use Rattle.gptp_system.proofs.TimersChangedLemmas.{priority_clock}
use Rattle.gptp_model.specs.declared.done.Done.{Done}
use Rattle.gptp_model.specs.declared.station.Station.{Station}
use Rattle.gptp_model.specs.Act.{all_timers}
use Rattle.gptp_model.specs.Acts.{Acts, set_to}
use Rattle.gptp_model.specs.Agrees.{stopped}
use Rattle.gptp_model.specs.Changing.{StartsAll, brought_up, fresh, lost, taken_down, with_bounds, with_setup, with_station}
use Rattle.gptp_model.specs.Initial.{channel_from, channels_of, initial, setup_of, station_of, stations_of}
use Rattle.gptp_model.specs.Sound.{IsSound}
use Rattle.gptp_model.specs.World.{Channel, Net, WorldState, world_queue}
use Rattle.gptp_lists.proofs.MappedLemmas.{mapped}
use Rattle.gptp_lists.proofs.PlaceLemmas.{get-set_all}
use Rattle.gptp_model.proofs.StayLemmas.{fresh_same}
use Rattle.gptp_model.proofs.SteadyLemmas.{started_steady}
use Rattle.gptp_invariants.specs.WorldEncodable.{ChannelFits, IsEncodable, SayWhatFits, StationFits}
use Rattle.gptp_invariants.specs.WorldEncodableLaws.{SetsAnOctet}
use Rattle.gptp_invariants.proofs.ChoiceSeenOctetLemmas.{octets_say_what_fits}
use Rattle.gptp_invariants.proofs.ChoiceTouchLemmas.{InputFits}
use Rattle.gptp_model.proofs.ActsByLemmas.{Elementary, SaysWhatIsKnown, acts_by, starts_by}
use Rattle.gptp_invariants.proofs.WorldAnsweringLemmas.{CanAnswer, IsAnswering, calls_answering, new_fits, sound_answers}
use Rattle.gptp_invariants.proofs.WorldEncodableLemmas.{LinksFit, entered_fits, flight_fits, lost_fits, set_fits, takes_fits}

-- ---- elementary steps

input_fits : (input : Input) → SaysWhatIsKnown SetsAnOctet SayWhatFits input → InputFits input
input_fits (PortUp p) says = tt
input_fits (PortDown p) says = tt
input_fits (FrameHeard p octets) says = says
input_fits (Expires timer) says = tt
input_fits (Priority value) (number, octet) = octet

-- the links are others
net_answering : (w : WorldState) (net : Net) → LinksFit net.channels → IsAnswering w
    → IsAnswering (record w { net = net })
net_answering w net fit is =
    record { stations = is.stations; encodable = record { stations = is.encodable.stations; links = fit } }

-- one link becomes another
relinked : (place : ℕ) (old new : Channel) (w : WorldState) → slice_get w.net.channels place ≡ Some old
    → (ChannelFits old → ChannelFits new) → IsAnswering w → LinksFit (slice_set w.net.channels place new)
relinked place old new w here fits is =
    set_fits w.net.channels place old new here (fits (is.encodable.links place old here)) is.encodable.links

-- one system becomes another
station_answering : (place : ℕ) (old new : Station) (w : WorldState) → slice_get w.stations place ≡ Some old
    → CanAnswer new → StationFits new → IsAnswering w → IsAnswering (with_station place new w)
station_answering place old new w here can fits is = record {
  stations = get-set_all CanAnswer w.stations place old new here can is.stations;
  encodable = record {
    stations = get-set_all StationFits w.stations place old new here fits is.encodable.stations;
    links = is.encodable.links;
  };
}

pub answering_kept : Elementary ⊤ SetsAnOctet SayWhatFits IsAnswering
answering_kept = record {
  system_called = λ place input w draws answer w' k given is.
      calls_answering place input w draws answer w' is k (given.timely tt) (input_fits input given.says);
  frame_taken = λ link direction octets channel w net k is. (
    net_answering w net (takes_fits link direction w.time octets channel w.net net is.encodable.links k) is,
    (is.encodable.links link channel k.here).frames direction (frame w.time octets)
        (subst (In (frame w.time octets)) (sym k.front) (inl refl)),
  );
  timer_stopped = λ place timer w is. net_answering w (stopped place timer w).net is.encodable.links is;
  link_down = λ place channel w here is.
      net_answering w (taken_down place channel w.net)
      (relinked place channel (lost channel) w here (lost_fits channel) is) is;
  link_up = λ place channel w here is.
      net_answering w (brought_up place channel w.net)
      (relinked place channel (record channel { up = true }) w here (flight_fits channel.bounds true channel) is) is;
  link_set = λ number port min max loss place channel w here octet now is.
      let bounds = set_to min max loss channel in
      net_answering w (with_bounds bounds place channel w.net)
      (relinked place channel (record channel { bounds = bounds }) w here (flight_fits bounds channel.up channel) is)
      is;
  system_failed = λ place station w here is.
      let off : Station = record station { live = false } in
      let old = is.stations place station here in
      let its = old.its in
      let fits = is.encodable.stations place station here in
      net_answering (with_station place off w) (all_timers place off w.net) is.encodable.links
      (station_answering place station off w here
      (record {
        params = old.params;
        steady = old.steady;
        its = record {
          ports = its.ports;
          few = its.few;
          phase = its.phase;
          drift = its.drift;
          intervals = its.intervals;
          named = its.named;
          windows = its.windows;
        };
      })
      (record { system = fits.system; setup = fits.setup }) is);
  system_started = λ place station w here is.
      let new : Station = fresh w.time station in
      let old = is.stations place station here in
      net_answering (with_station place new w) (all_timers place new w.net) is.encodable.links
      (station_answering place station new w here
      (record {
        params = old.params;
        steady = started_steady station.setup w.time old.params old.its.intervals;
        its = (fresh_same w.time station old.its).its;
      })
      (new_fits w.time station.setup true (is.encodable.stations place station here).setup) is);
  priority_set = λ number value place station w here octet is.
      let old = is.stations place station here in
      let its = old.its in
      let intervals = its.intervals in
      let fits = is.encodable.stations place station here in
      let below : value < 256 = octet in
      station_answering place station (with_setup value station) w here
      (record {
        params = old.params;
        steady = old.steady;
        its = record {
          ports = its.ports;
          few = its.few;
          phase = its.phase;
          drift = its.drift;
          intervals = record { many = intervals.many; each = intervals.each; largest = intervals.largest };
          named = priority_clock value (started station.setup 0) ∙ its.named;
          windows = its.windows;
        };
      })
      (record { system = fits.system; setup = let small = fits.setup in omega (arith, small, below) }) is;
  octets_injected = λ number port octets w draws w' octet k is.
      let one = k.sent in
      subst IsAnswering (sym k.is)
      (net_answering w k.net
      (subst (λ (n : Net). LinksFit n.channels) (sym one.after)
      (entered_fits w.time one.place one.direction one.channel octets k.draw.answer w.net one.here
      (octets_say_what_fits octets octet) is.encodable.links)) is);
  change_counted = λ w is. record {
    stations = is.stations;
    encodable = record { stations = is.encodable.stations; links = is.encodable.links };
  };
}

-- ---- acts and starts

pub acts_encodable : (act : Act) (w : WorldState) (draws : List Draw) (done : Done) (w' : WorldState) → IsSound w
    → IsEncodable w → SetsAnOctet act → Acts act w draws done w' → IsEncodable w'
acts_encodable act w draws done w' sound encodable octet k =
    (acts_by answering_kept act w draws done w' (λ known. sound.wired) octet k
    (sound_answers w sound encodable)).encodable

pub starts_encodable : (places : List ℕ) (w : WorldState) (draws : List Draw) (w' : WorldState) → IsSound w
    → IsEncodable w → StartsAll places w draws w' → IsEncodable w'
starts_encodable places w draws w' sound encodable k =
    (starts_by answering_kept places w draws w' k (sound_answers w sound encodable)).encodable

-- ---- the world that a network makes

pub initial_encodable : (n : NetworkState) → IsNetwork n → IsEncodable (initial n)
initial_encodable n is = record { stations = stations; links = links }
  where
    stations : (place : ℕ) (station : Station) → slice_get (stations_of n) place ≡ Some station → StationFits station
    stations place station there =
        let (m, stands, same) = mapped (station_of n) n.systems place station there in
        subst StationFits same (new_fits 0 (setup_of n m) false (is.identities place m stands))

    links : (link : ℕ) (channel : Channel) → slice_get (channels_of n) link ≡ Some channel → ChannelFits channel
    links link channel there =
        let (wire, stands, same) = mapped channel_from n.links link channel there in
        subst ChannelFits same (wire_fits wire (is.links link wire stands).apart)
      where
        wire_fits : (wire : LinkSpec) → wire.a.clock ≢ wire.b.clock → ChannelFits (channel_from wire)
        wire_fits wire apart = record { ends = λ e. apart (ap (λ (p : PortId). p.clock) e); frames = by }
          where
            by : (direction : Direction) (f : Frame) → In f (world_queue direction (channel_from wire))
                → SayWhatFits f.octets
            by FromA f member = absurd member
            by FromB f member = absurd member
