-- From their start on the ports of a world since news have measured the links of the snapshot.
use Rattle.std.proofs.Common.{◌≡◌, ◌≤◌, ◌+◌, ◌-◌, ◌*◌, ℕ, zero, suc, true, Some, slice_get, sym, ap, subst, ◌∙◌, inl, inr, arith}
use Rattle.gptp_lists.proofs.MappedLemmas.{same_there, some_same}
use Rattle.gptp_graph.specs.Snapshot.{Joins, PortIdentity}
use Rattle.gptp_setup.specs.declared.setup.Params.{Params}
use Rattle.gptp_setup.specs.Intervals.{interval_of}
use Rattle.gptp_setup.specs.SettlingParams.{SettlingParams}
use Rattle.gptp_scenario.specs.SettlingTime.{window_span}
use Rattle.gptp_system.specs.declared.port.Port.{Port}
use Rattle.gptp_system.specs.State.{clock, number, own}
use Rattle.gptp_model.specs.declared.station.Station.{Station}
use Rattle.gptp_model.specs.World.{WorldState, receiver, sender}
use Rattle.gptp_pdelay_machine.specs.Measured.{HasMeasured}
use Rattle.gptp_invariants.specs.ChoiceCalm.{HaveQuietLinks}
use Rattle.gptp_invariants.specs.ChoiceSettlesAsMachine.{IsWorld}
use Rattle.gptp_invariants.specs.WorldKnown.{IsKnown}
use Rattle.gptp_invariants.specs.DelayLinkView.{IsLinkOf, LinkPlace, least_delay, link_setting}
use Rattle.gptp_invariants.specs.DelayMeasured.{LinkStandsAt}
use Rattle.gptp_invariants.specs.DelayMeasuredLinks.{HasMeasuredLink, HaveMeasuredLinks}
use Rattle.gptp_invariants.specs.WorldNews.{AreReadyBy, IsNews, IsReadyBy}
use Rattle.gptp_invariants.specs.WorldStanding.{live_stations, snapshot_of}
use Rattle.gptp_invariants.specs.ChoiceView.{port_identity_number}
use Rattle.gptp_invariants.proofs.DelayElsewhereLemmas.{watched_stay_measured}
use Rattle.gptp_invariants.proofs.DelayFirstAtLemmas.{first_measured}
use Rattle.gptp_invariants.proofs.WorldStandsLemmas.{stands_well, used_up}
use Rattle.gptp_invariants.proofs.WorldWayLemmas.{IsWay, way_of}
use Rattle.gptp_invariants.proofs.DelayUsedLinkLemmas.{receiver_lives}
use Rattle.gptp_invariants.proofs.DelayLinkLemmas.{good_between}

-- ---- a link that is ready

-- the intervals of a window are one and those of its other exchanges
whole_window : (window period : ℕ) → window * period ≤ (window - 1) * period + period
whole_window zero period = omega arith
whole_window (suc n) period = let e : suc n - 1 ≡ n = omega arith in rw e (omega arith)

-- the port that asks has measured the link by two exchanges, a window apart
record HasMeasuredAt (at : LinkPlace) (w : WorldState) : Type 0 where
  link : IsLinkOf at w
  measured : HasMeasured (link_setting at w link) (least_delay at w link) link.asking.state.peer.last

ready_measured : (p : SettlingParams) (start : ℕ) (at : LinkPlace) (w : WorldState) → IsKnown p w
    → IsReadyBy p start at w
    → start + window_span p.params ≤ w.time → HasMeasuredAt at w
ready_measured p start at w known (inl (first, (l, by))) late =
    let k = link_setting at w l.link in
    let span : (k.window - 1) * k.period ≡ window_span p.params =
    ap window_span (known.set at.asking l.link.asking.station l.link.asking.here).starts.params in
    let more = whole_window k.window k.period in
    record { link = l.link; measured = first_measured at first w l (omega (arith, by, late, span, more)) }
ready_measured p start at w known (inr (gone, since, l, past, by)) late =
    let asks = (known.set at.asking l.link.asking.station l.link.asking.here).starts.params in
    let period : (link_setting at w l.link).period ≡ interval_of p.params.pdelay =
    ap (λ (x : Params). interval_of x.pdelay) asks in
    let k = link_setting at w l.link in
    let span : (k.window - 1) * k.period ≡ window_span p.params = ap window_span asks in
    let more = whole_window k.window k.period in
    record {
      link = l.link;
      measured = watched_stay_measured at gone since w l (omega (arith, by, late, period, span, more));
    }

-- ---- where a link of the snapshot stands

module _ (p : SettlingParams) (start : ℕ) (w : WorldState) (is : IsWorld p w) (ready : AreReadyBy p start w)
    (quiet : HaveQuietLinks p.params w) (late : start + window_span p.params ≤ w.time) (place : ℕ) (station : Station)
    (here : slice_get w.stations place ≡ Some station) (live : station.live ≡ true) where
  -- where a way from a port of the system stands
  abbrev place_of_way : (n : ℕ) (to : PortIdentity) → IsWay w (port_identity_number (own station.system n)) to
      → LinkPlace
  place_of_way n to way = record {
    link = way.link;
    direction = way.direction;
    asking = place;
    answering = (receiver_lives w way.direction way.channel way.used).place;
  }

  -- it is good, and its ends are two live systems
  way_stands : (n : ℕ) (to : PortIdentity) → Joins (snapshot_of w) (port_identity_number (own station.system n)) to
      → (way : IsWay w (port_identity_number (own station.system n)) to) → LinkStandsAt (place_of_way n to way) w
  way_stands n to joins way =
      let links = quiet way.link way.channel way.here way.used in
      let other = receiver_lives w way.direction way.channel way.used in
      let asking = (is.known.set place station here).starts.params in
      let answering = (is.known.set other.place other.at.station other.at.here).starts.params in
      record {
        channel = way.channel;
        here = way.here;
        up = used_up (live_stations w.stations) way.channel way.used;
        lossless = links.lossless;
        asking = record {
          station = station;
          here = here;
          live = live;
          named = ap (λ (x : PortIdentity). x.clock) (sym way.from);
        };
        answering = other.at;
        apart = λ same.
            let alike : station ≡ other.at.station =
            same_there w.stations place station other.at.station here
            (subst (λ at. slice_get w.stations at ≡ Some other.at.station) (sym same) other.at.here) in
            (stands_well w is.sound is.between is.encodable).apart
            (port_identity_number (own station.system n)) to joins
            (ap (λ (x : Station). clock x.system) alike
            ∙ other.at.named
            ∙ ap (λ (x : PortIdentity). x.clock) way.to);
        good = good_between way.channel.bounds.max p.params station.setup.params other.at.station.setup.params asking
            answering links.good;
      }

  -- so it is measured, where the way from the port stands
  way_measured : (i : ℕ) (q : Port) (to : PortIdentity) → slice_get station.system.ports i ≡ Some q
      → Joins (snapshot_of w) (port_identity_number (own station.system (suc i))) to
      → IsWay w (port_identity_number (own station.system (suc i))) to
      → HasMeasuredLink w (port_identity_number (own station.system (suc i))) to q
  way_measured i q to there joins way =
      let at = place_of_way (suc i) to way in
      let x = ready_measured p start at w is.known (ready at (way_stands (suc i) to joins way)) late in
      let l = x.link in
      let asking = l.asking in
      let same_station = same_there w.stations place asking.station station asking.here here in
      let same_channel = same_there w.net.channels way.link l.channel way.channel l.here way.here in
      let port : (sender way.direction l.channel).port ≡ suc i =
      ap (λ c. (sender way.direction c).port) same_channel ∙ ap (λ (x : PortIdentity). x.port) way.from in
      let found : Some asking.state ≡ Some q =
      sym asking.there
      ∙ ap (number asking.station.system.ports) port
      ∙ ap (λ (x : Station). slice_get x.system.ports i) same_station
      ∙ there in
      let state : asking.state ≡ q = some_same asking.state q found in
      record {
        at = at;
        link = l;
        from_is = ap (λ c. port_identity_number (sender way.direction c)) same_channel ∙ way.from;
        to_is = ap (λ c. port_identity_number (receiver way.direction c)) same_channel ∙ way.to;
        state = state;
        measured = subst (λ (one : Port). HasMeasured (link_setting at w l) (least_delay at w l) one.peer.last) state
            x.measured;
      }

-- so all links are measured
pub ready_measures : (p : SettlingParams) (start : ℕ) (w : WorldState) → IsWorld p w → AreReadyBy p start w
    → HaveQuietLinks p.params w → start + window_span p.params ≤ w.time → HaveMeasuredLinks w
ready_measures p start w is ready quiet late place station here live i h q holds there to joins =
    way_measured p start w is ready quiet late place station here live i q to there joins
    (way_of w (port_identity_number (own station.system (suc i))) to joins)

pub news_measured : (p : SettlingParams) (start : ℕ) (w : WorldState) → IsNews p start w → HaveQuietLinks p.params w
    → start + window_span p.params ≤ w.time → HaveMeasuredLinks w
news_measured p start w news = ready_measures p start w news.world news.ready
