-- Each link of the snapshot, from a port of a live system to another, is watched.
use Rattle.std.proofs.Common.{◌≡◌, ◌≤◌, ◌+◌, ◌-◌, ◌*◌, ℕ, suc, true, Some, slice_get, refl, sym, ap, subst, ◌∙◌}
use Rattle.gptp_graph.specs.Snapshot.{Joins, PortIdentity, System}
use Rattle.gptp_vector.specs.declared.port.PortId.{PortId}
use Rattle.gptp_links.specs.declared.link.Direction.{Direction}
use Rattle.gptp_system.specs.declared.port.Port.{Port}
use Rattle.gptp_setup.specs.SettlingParams.{SettlingParams, largest_interval}
use Rattle.gptp_system.specs.State.{clock, number, own}
use Rattle.gptp_model.specs.declared.station.Station.{Station}
use Rattle.gptp_scenario.specs.Params.{KeepPace}
use Rattle.gptp_scenario.specs.SettlingTime.{window_span}
use Rattle.gptp_model.specs.World.{Channel, WorldState, receiver, sender}
use Rattle.gptp_lists.proofs.MappedLemmas.{same_there, some_same}
use Rattle.gptp_invariants.specs.DelayMeasured.{StationIsLiveAt, LinkStandsAt}
use Rattle.gptp_invariants.specs.DelayLinkView.{LinkPlace, other_direction, link_setting}
use Rattle.gptp_invariants.specs.DelayWatched.{IsWatched}
use Rattle.gptp_invariants.proofs.DelayLinkLemmas.{sender_opposite, good_between}
use Rattle.gptp_invariants.specs.ChoiceView.{port_identity_number}
use Rattle.gptp_invariants.specs.ChoiceCalm.{HaveQuietLinks}
use Rattle.gptp_invariants.specs.WorldStanding.{stations_have_clock, channel_is_used, live_stations, snapshot_of}
use Rattle.gptp_invariants.proofs.WorldStandsLemmas.{sender_lives, stands_well, used_up}
use Rattle.gptp_invariants.proofs.WorldSystemLemmas.{clock_lives, live_from}
use Rattle.gptp_invariants.proofs.WorldWayLemmas.{IsWay, way_of}
use Rattle.gptp_invariants.specs.ChoiceSettlesAsMachine.{IsWorld}
use Rattle.gptp_invariants.specs.DelayWatch.{GoodLinksMeasure}

-- ---- the other end

-- a live system with the clock stands somewhere
pub record LivesSomewhere (number : ℕ) (w : WorldState) : Type 0 where
  pub place : ℕ
  pub at : StationIsLiveAt place number w

-- so it is where a used link leads to
pub receiver_lives : (w : WorldState) (direction : Direction) (channel : Channel)
    → channel_is_used (live_stations w.stations) channel ≡ true → LivesSomewhere (receiver direction channel).clock w
receiver_lives w direction channel used =
    let has = subst (λ (q : PortId). stations_have_clock (live_stations w.stations) q.clock ≡ true)
    (sender_opposite direction channel) (sender_lives (live_stations w.stations)
    (other_direction direction) channel used) in
    let (s, member, same) = clock_lives w.stations (receiver direction channel).clock has in
    let there = live_from w.stations s member in
    record {
      place = there.place;
      at = record {
        station = there.station;
        here = there.here;
        live = there.live;
        named = ap (λ (x : System). x.clock) (sym there.is) ∙ same;
      };
    }

-- ---- a link of the snapshot from a port of a live system to another

-- The link from the one port to the other is watched; the one is in this state, and asks once in a largest announce
-- interval or more often.
pub record IsWatchedLink (p : SettlingParams) (w : WorldState) (from to : PortIdentity) (q : Port) : Type 0 where
  pub at : LinkPlace
  pub watched : IsWatched (w.last_change + largest_interval p) (w.last_change + 2 * largest_interval p) at w
  pub from_is : (link_setting at w watched.link).asking ≡ from
  pub to_is : (link_setting at w watched.link).answering ≡ to
  pub state : watched.link.asking.state ≡ q
  pub period : (link_setting at w watched.link).period ≤ largest_interval p
  pub allowed : (link_setting at w watched.link).allowed ≡ p.params.lost
  pub span : ((link_setting at w watched.link).window - 1) * (link_setting at w watched.link).period
      ≡ window_span p.params

module _ (p : SettlingParams) (w : WorldState) (pace : KeepPace p) (is : IsWorld p w)
    (quiet : HaveQuietLinks p.params w)
    (watches : GoodLinksMeasure p w) (place : ℕ) (station : Station) (here : slice_get w.stations place ≡ Some station)
    (live : station.live ≡ true) where
  -- where a way from a port of the system stands
  abbrev place_of_way : (n : ℕ) (to : PortIdentity) → IsWay w (port_identity_number (own station.system n)) to
      → LinkPlace
  place_of_way n to way = record {
    link = way.link;
    direction = way.direction;
    asking = place;
    answering = (receiver_lives w way.direction way.channel way.used).place;
  }

  -- it is good, and its ends are two live systems
  way_stands : (n : ℕ) (to : PortIdentity) → Joins (snapshot_of w) (port_identity_number (own station.system n)) to
      → (way : IsWay w (port_identity_number (own station.system n)) to) → LinkStandsAt (place_of_way n to way) w
  way_stands n to joins way =
      let links = quiet way.link way.channel way.here way.used in
      let other = receiver_lives w way.direction way.channel way.used in
      let asking = (is.known.set place station here).starts.params in
      let answering = (is.known.set other.place other.at.station other.at.here).starts.params in
      record {
        channel = way.channel;
        here = way.here;
        up = used_up (live_stations w.stations) way.channel way.used;
        lossless = links.lossless;
        asking = record {
          station = station;
          here = here;
          live = live;
          named = ap (λ (x : PortIdentity). x.clock) (sym way.from);
        };
        answering = other.at;
        apart = λ same.
            let alike : station ≡ other.at.station =
            same_there w.stations place station other.at.station here
            (subst (λ at. slice_get w.stations at ≡ Some other.at.station) (sym same) other.at.here) in
            (stands_well w is.sound is.between is.encodable).apart
            (port_identity_number (own station.system n)) to joins
            (ap (λ (x : Station). clock x.system) alike
            ∙ other.at.named
            ∙ ap (λ (x : PortIdentity). x.clock) way.to);
        good = good_between way.channel.bounds.max p.params station.setup.params other.at.station.setup.params asking
            answering links.good;
      }

  -- so it is watched, where the way from the port stands
  way_watched : (i : ℕ) (q : Port) (to : PortIdentity) → slice_get station.system.ports i ≡ Some q
      → Joins (snapshot_of w) (port_identity_number (own station.system (suc i))) to
      → IsWay w (port_identity_number (own station.system (suc i))) to
      → IsWatchedLink p w (port_identity_number (own station.system (suc i))) to q
  way_watched i q to there joins way =
      let at = place_of_way (suc i) to way in
      let l = watches at (way_stands (suc i) to joins way) in
      let asking = l.link.asking in
      let set = (is.known.set place asking.station asking.here).starts.params in
      let same_station = same_there w.stations place asking.station station asking.here here in
      let same_channel = same_there w.net.channels way.link l.link.channel way.channel l.link.here way.here in
      let port : (sender way.direction l.link.channel).port ≡ suc i =
      ap (λ c. (sender way.direction c).port) same_channel ∙ ap (λ (x : PortIdentity). x.port) way.from in
      let found : Some asking.state ≡ Some q =
      sym asking.there
      ∙ ap (number asking.station.system.ports) port
      ∙ ap (λ (x : Station). slice_get x.system.ports i) same_station
      ∙ there in
      record {
        at = at;
        watched = l;
        from_is = ap (λ c. port_identity_number (sender way.direction c)) same_channel ∙ way.from;
        to_is = ap (λ c. port_identity_number (receiver way.direction c)) same_channel ∙ way.to;
        state = some_same asking.state q found;
        period = rw set pace.requests;
        allowed = rw set refl;
        span = ap window_span set;
      }

  pub used_watched : (i : ℕ) (q : Port) (to : PortIdentity) → slice_get station.system.ports i ≡ Some q
      → Joins (snapshot_of w) (port_identity_number (own station.system (suc i))) to
      → IsWatchedLink p w (port_identity_number (own station.system (suc i))) to q
  used_watched i q to there joins =
      way_watched i q to there joins (way_of w (port_identity_number (own station.system (suc i))) to joins)
