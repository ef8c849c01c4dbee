-- The link of a way between two live systems: where it stands, and that its port is on exactly where it is capable.
use Rattle.std.proofs.Common.{◌≡◌, ◌≢◌, ℕ, suc, true, Some, slice_get, refl, sym, ap, subst, ◌∙◌}
use Rattle.gptp_lists.proofs.MappedLemmas.{same_there, some_same}
use Rattle.gptp_graph.specs.Snapshot.{Joins, PortIdentity, port_of}
use Rattle.gptp_vector.specs.declared.port.PortId.{PortId}
use Rattle.gptp_pdelay.specs.Peer.{is_capable}
use Rattle.gptp_setup.specs.SettlingParams.{SettlingParams}
use Rattle.gptp_system.specs.declared.port.Port.{Port}
use Rattle.gptp_system.specs.Facts.{IsShown}
use Rattle.gptp_system.specs.State.{clock, number}
use Rattle.gptp_model.specs.declared.station.Station.{Station}
use Rattle.gptp_model.specs.World.{Channel, WorldState, receiver, sender}
use Rattle.gptp_bmca_machine.specs.Station.{Disabled, Port as SeenPort, Station as SeenStation}
use Rattle.gptp_invariants.specs.ChoiceCalm.{HaveQuietLinks, clock_place, lane_of}
use Rattle.gptp_invariants.specs.ChoiceSettlesAsMachine.{IsWorld}
use Rattle.gptp_invariants.specs.ChoiceView.{lane_place, held_view, port_identity_number, span_at, view}
use Rattle.gptp_invariants.specs.DelayLinkView.{IsLinkOf, LinkPlace, other_direction}
use Rattle.gptp_invariants.specs.DelayMeasured.{LinkStandsAt}
use Rattle.gptp_invariants.specs.WorldStanding.{live_stations, snapshot_of}
use Rattle.gptp_invariants.proofs.ChoiceFoundLemmas.{lane_is, place_is}
use Rattle.gptp_invariants.proofs.ChoiceMidLemmas.{seen_on}
use Rattle.gptp_invariants.proofs.ChoicePlaceLemmas.{port_from, station_from}
use Rattle.gptp_invariants.proofs.DelayLinkLemmas.{sender_opposite, good_between}
use Rattle.gptp_invariants.proofs.WorldStandsLemmas.{stands_well}
use Rattle.gptp_invariants.proofs.WorldWayLemmas.{IsWay}
use Rattle.gptp_invariants.proofs.ChoicePlaceLemmas.{IsPortAt, IsStationAt}
use Rattle.gptp_invariants.proofs.WorldStandsLemmas.{used_up}
use Rattle.gptp_settling_time.proofs.MasterLemmas.{on_capable}
use Rattle.gptp_invariants.proofs.DelayUsedLinkLemmas.{LivesSomewhere, receiver_lives}
use Rattle.gptp_invariants.proofs.DelayPoppedLemmas.{receiver_opposite}

-- ---- where the link of a way stands

module _ (p : SettlingParams) (w : WorldState) (is : IsWorld p w) (quiet : HaveQuietLinks p.params w)
    (from to : PortIdentity) (way : IsWay w from to) where
  pub asks : LivesSomewhere (sender way.direction way.channel).clock w
  asks =
      subst (λ (q : PortId). LivesSomewhere q.clock w) (receiver_opposite way.direction way.channel)
      (receiver_lives w (other_direction way.direction) way.channel
      way.used)

  pub answers : LivesSomewhere (receiver way.direction way.channel).clock w
  answers = receiver_lives w way.direction way.channel way.used

  abbrev pub place_of_way : LinkPlace
  place_of_way = record {
    link = way.link;
    direction = way.direction;
    asking = asks.place;
    answering = answers.place;
  }

  pub way_stands : Joins (snapshot_of w) from to → LinkStandsAt place_of_way w
  way_stands joins =
      let links = quiet way.link way.channel way.here way.used in
      let one = asks.at in
      let other = answers.at in
      let asking = (is.known.set asks.place one.station one.here).starts.params in
      let answering = (is.known.set answers.place other.station other.here).starts.params in
      record {
        channel = way.channel;
        here = way.here;
        up = used_up (live_stations w.stations) way.channel way.used;
        lossless = links.lossless;
        asking = one;
        answering = other;
        apart = λ same.
            let alike : one.station ≡ other.station =
            same_there w.stations asks.place one.station other.station one.here
            (subst (λ at. slice_get w.stations at ≡ Some other.station) (sym same) other.here) in
            (stands_well w is.sound is.between is.encodable).apart from to joins
            (ap (λ (x : PortIdentity). x.clock) (sym way.from) ∙ sym one.named
            ∙ ap (λ (x : Station). clock x.system) alike ∙ other.named
            ∙ ap (λ (x : PortIdentity). x.clock) way.to);
        good = good_between way.channel.bounds.max p.params one.station.setup.params other.station.setup.params asking
            answering links.good;
      }

-- the way back
unfoldable pub way_back : (w : WorldState) (from to : PortIdentity) → IsWay w from to → IsWay w to from
way_back w from to way = record {
  link = way.link;
  direction = other_direction way.direction;
  channel = way.channel;
  here = way.here;
  used = way.used;
  from = ap port_identity_number (sender_opposite way.direction way.channel) ∙ way.to;
  to = ap port_identity_number (receiver_opposite way.direction way.channel) ∙ way.from;
}

-- the port at its end asks
pub asks_back : (w : WorldState) (from to : PortIdentity) (way : IsWay w from to) (channel : Channel)
    → channel ≡ way.channel → port_identity_number (sender (other_direction way.direction) channel) ≡ to
asks_back w from to way channel same =
    subst (λ c. port_identity_number (sender (other_direction way.direction) c) ≡ to) (sym same)
    (ap port_identity_number (sender_opposite way.direction way.channel) ∙ way.to)

-- its lane stands where that of the port does
pub lane_at : {p : SettlingParams} (w : WorldState) → IsWorld p w → (from to : PortIdentity) (way : IsWay w from to)
    → lane_place way.link way.direction ≡ lane_of w.net.channels from
lane_at w is from to way =
    subst (λ port. lane_place way.link way.direction ≡ lane_of w.net.channels port) way.from
    (lane_is w is.sound is.encodable way.link way.direction way.channel way.here)

-- ---- the port that asks is on exactly where it is capable

module _ (p : SettlingParams) (w : WorldState) (is : IsWorld p w) (at : LinkPlace) (l : IsLinkOf at w) (u i : ℕ)
    (asks_there : port_identity_number (sender at.direction l.channel) ≡ port_of u (suc i)) (s : SeenStation)
    (q : SeenPort)
    (here : slice_get (view w).stations (clock_place w.stations u) ≡ Some s)
    (there : slice_get s.ports i ≡ Some q) where
  at_place : at.asking ≡ clock_place w.stations u
  at_place =
      place_is w is.sound.wired.clocks at.asking l.asking.station l.asking.here
      ∙ ap (clock_place w.stations) (l.asking.named ∙ ap (λ (x : PortIdentity). x.clock) asks_there)

  seen : IsStationAt w.stations (clock_place w.stations u) s
  seen = station_from w.stations (clock_place w.stations u) s here

  same_station : seen.station ≡ l.asking.station
  same_station =
      same_there w.stations (clock_place w.stations u) seen.station l.asking.station seen.here
      (ap (slice_get w.stations) (sym at_place) ∙ l.asking.here)

  port : IsPortAt (span_at seen.station.system) seen.station.system.held seen.station.system.ports i q
  port =
      port_from (span_at seen.station.system) seen.station.system.held seen.station.system.ports i q
      (subst (λ (x : SeenStation). slice_get x.ports i ≡ Some q) seen.is there)

  state_is : port.port ≡ l.asking.state
  state_is =
      some_same port.port l.asking.state
      (sym port.port_there
      ∙ ap (λ (x : Station). slice_get x.system.ports i) same_station
      ∙ ap (number l.asking.station.system.ports) (ap (λ (x : PortIdentity). x.port) (sym asks_there))
      ∙ l.asking.there)

  shown : IsShown port.held port.port
  shown =
      (is.sound.on_time.stations (clock_place w.stations u) seen.station seen.here).steady.shown.each i port.held
      port.port port.held_there port.port_there

  held_is : q.held ≡ held_view (span_at seen.station.system) port.held
  held_is = ap (λ (x : SeenPort). x.held) port.is

  pub on_is_capable : q.held ≢ Disabled → is_capable l.asking.state.peer ≡ true
  on_is_capable on =
      ap (λ (x : Port). is_capable x.peer) (sym state_is)
      ∙ on_capable port.port port.held (is_capable port.port.peer) refl shown
      (λ off. on (held_is ∙ ap (held_view (span_at seen.station.system)) off))

  pub capable_is_on : is_capable l.asking.state.peer ≡ true → q.held ≢ Disabled
  capable_is_on capable off =
      seen_on (span_at seen.station.system) port.held
      (shown.on (ap (λ (x : Port). is_capable x.peer) state_is ∙ capable)) (sym held_is ∙ off)
