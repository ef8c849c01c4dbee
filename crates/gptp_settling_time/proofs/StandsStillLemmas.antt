-- What is claimed of a world stays so in one that differs from it in nothing but what failed systems and those that
-- recover start with, what is pending, and when the last change was.
use Rattle.std.proofs.Common.{◌≡◌, ◌<◌, ◌+◌, ◌*◌, ℕ, ℤ, pos, zero, suc, List, [], ◌∷◌, map, Some, slice_get, refl, sym, ap, subst, ◌∙◌, inl, inr, arith, false}
use Rattle.std.specs.Option.{option_map_or}
use Rattle.std.specs.Prelude.{◌==◌, if◌then◌else◌}
use Rattle.gptp_lists.proofs.MappedLemmas.{alike}
use Rattle.gptp_lists.proofs.PlaceLemmas.{map-set_same}
use Rattle.gptp_graph.specs.Snapshot.{PortIdentity}
use Rattle.gptp_vector.specs.declared.port.PortId.{PortId}
use Rattle.gptp_links.specs.declared.link.Direction.{Direction}
use Rattle.gptp_pdelay.specs.Clock.{clock_stamp}
use Rattle.gptp_pdelay.specs.Peer.{is_capable}
use Rattle.gptp_roles.specs.Selection.{clock_of}
use Rattle.gptp_scenario.specs.SyncWait.{sync_wait}
use Rattle.gptp_setup.specs.declared.setup.Params.{Params}
use Rattle.gptp_setup.specs.declared.setup.Setup.{Setup}
use Rattle.gptp_setup.specs.Intervals.{interval_of}
use Rattle.gptp_setup.specs.SettlingParams.{SettlingParams, lapse_span, largest_interval}
use Rattle.gptp_system.specs.Measures.{measure_at}
use Rattle.gptp_system.specs.Start.{started}
use Rattle.gptp_system.specs.State.{clock, number}
use Rattle.gptp_system.proofs.TimersChangedLemmas.{priority_clock}
use Rattle.gptp_model.specs.Changing.{with_setup, with_station}
use Rattle.gptp_model.specs.declared.station.Station.{Station}
use Rattle.gptp_model.specs.World.{Channel, WorldState, receiver, sender}
use Rattle.gptp_pdelay_machine.specs.Setting.{Setting}
use Rattle.gptp_bmca_machine.specs.Frame.{Lane}
use Rattle.gptp_bmca_machine.specs.Network.{Network}
use Rattle.gptp_bmca_machine.specs.SoundEverywhere.{IsSoundEverywhere}
use Rattle.gptp_bmca_machine.specs.Station.{MachineState, Station as SeenStation}
use Rattle.gptp_bmca_machine.specs.Syncs.{SyncsAreExpected, TellsBy}
use Rattle.gptp_invariants.specs.ChoiceCalm.{HaveQuietLinks, clock_place, delay_in, greatest_channel_delay, lane_of, log_at, log_of, paths_with, setups_of}
use Rattle.gptp_invariants.specs.ChoiceSettlesAsMachine.{IsWorld}
use Rattle.gptp_invariants.specs.ChoiceView.{lanes_view, says_announce, says_sync, station_view, view}
use Rattle.gptp_invariants.specs.DelayLinkView.{IsEndAmong, IsLinkOf, IsMeasuring, LinkPlace, asker_view, pair_view, setting_view, setup_stamping, kept_view}
use Rattle.gptp_invariants.specs.DelayMeasured.{LinkIsMeasured, LinkStandsAt, StationIsLiveAt}
use Rattle.gptp_invariants.specs.FailedUnanswered.{IsFailedAmong, IsLastAnswered, IsOff, IsUnansweredAt, StandsUnanswered, silent_setting, silent_view}
use Rattle.gptp_invariants.specs.WorldNews.{AreSilentBy, IsNews, turn_network}
use Rattle.gptp_invariants.specs.WorldSound.{IsSoundWorld}
use Rattle.gptp_invariants.specs.WorldStanding.{channel_is_used, live_stations, snapshot_of, standing_system, used_channels}
use Rattle.gptp_system.specs.declared.port.Port.{Port}
use Rattle.gptp_settling_time.proofs.AskedInTimeLemmas.{AreAskedInTime}
use Rattle.gptp_settling_time.proofs.BetweenFailedLemmas.{AreGoneBetween}
use Rattle.gptp_settling_time.proofs.AlwaysClaimedLemmas.{IsClaimedAlways}
use Rattle.gptp_settling_time.proofs.SameLinkLemmas.{StaysSameLink}
use Rattle.gptp_settling_time.proofs.NewsSoonLemmas.{IsNewsFrom, from_silent, from_sound}
use Rattle.gptp_settling_time.proofs.StandsLikeLemmas.{StandsLike, claims_like, from_like, news_like, turn_like_network}
use Rattle.gptp_invariants.proofs.FailedLastAnsweredLemmas.{last_stays}
use Rattle.gptp_settling_time.proofs.StaySilentLemmas.{AllStaySilent, stay_silent}

-- a station but for the priority1 that it starts with
abbrev pub plain : Station → Station
plain station = record station { setup = record station.setup { identity = clock_of station.setup.identity } }

-- nothing that is claimed of is another
pub record StandsStill (w w' : WorldState) : Type 0 where
  pub time : w'.time ≡ w.time
  pub stations : map plain w'.stations ≡ map plain w.stations
  pub channels : w'.net.channels ≡ w.net.channels

-- the time of the last change is another
pub changed_still : (w w' : WorldState) → w' ≡ record w { last_change = w.time } → StandsStill w w'
changed_still w w' same = subst (StandsStill w) (sym same) (record { time = refl; stations = refl; channels = refl })

-- the priority1 that a system starts with is another, and the time of the last change
pub set_still : (value place : ℕ) (station : Station) (w : WorldState) → slice_get w.stations place ≡ Some station
    → StandsStill w (with_station place (with_setup value station) (record w { last_change = w.time }))
set_still value place station w here = record {
  time = refl;
  stations = map-set_same plain w.stations place station (with_setup value station) here
      (ap (λ clock. record station { setup = record station.setup { identity = clock } })
      (priority_clock value (started station.setup 0)));
  channels = refl;
}

-- ---- what doesn't look at the priority1 that systems start with

seen_plain : (stations : List Station) → map station_view (map plain stations) ≡ map station_view stations
seen_plain [] = refl
seen_plain (first ∷ stations) = ap (λ rest. station_view first ∷ rest) (seen_plain stations)

live_plain : (stations : List Station) → live_stations (map plain stations) ≡ live_stations stations
live_plain [] = refl
live_plain (first ∷ stations) =
    ap (λ rest. if first.live then standing_system first ∷ rest else rest) (live_plain stations)

place_plain : (number : ℕ) (stations : List Station)
    → clock_place (map plain stations) number ≡ clock_place stations number
place_plain number [] = refl
place_plain number (first ∷ stations) =
    ap (λ rest. if clock first.system == number then 0 else suc rest) (place_plain number stations)

-- the announce interval of a port, by the place of its station
abbrev log_in : ℕ → ℕ → List Station → ℤ
log_in port place stations =
    option_map_or (λ (setup : Setup). log_at setup port) (slice_get (setups_of stations) place) (pos 0)

log_plain : (port place : ℕ) (stations : List Station) → log_in port place (map plain stations)
    ≡ log_in port place stations
log_plain port place [] = refl
log_plain port zero (first ∷ stations) = refl
log_plain port (suc place) (first ∷ stations) = log_plain port place stations

-- so it is the same of stations that are alike
of_plain : {X : Type 0} (f : List Station → X) → ((stations : List Station) → f (map plain stations) ≡ f stations)
    → (before after : List Station) → map plain after ≡ map plain before → f after ≡ f before
of_plain f each before after same = sym (each after) ∙ ap f same ∙ each before

-- ---- when frames of before are gone doesn't matter to Syncs

module _ (n : Network) (gone : ℕ) where
  abbrev other : Network
  other = record n { gone = gone }

  tells_same : (stations : List SeenStation) (lanes : List Lane) (d v by : ℕ)
      → TellsBy says_sync n stations lanes d v by → TellsBy says_sync other stations lanes d v by
  tells_same stations lanes zero v by tells = tells
  tells_same stations lanes (suc d) v by (inl runs) = inl runs
  tells_same stations lanes (suc d) v by (inr (l, follows, (come, comes, soon))) =
      inr (
        l,
        follows,
        (
          come,
          elim comes [
            | inl on ↦ inl on
            | inr (sent, tells, early) ↦ inr (sent, tells_same stations lanes d l.clock sent tells, early)
          ],
          soon,
        ),
      )

  expected_same : (w : MachineState) → SyncsAreExpected says_sync n w → SyncsAreExpected says_sync other w
  expected_same w expected i s d due here live near follows late lapse =
      let e = expected i s d due here live near follows late lapse in
      record {
        by = e.by;
        hears = elim e.hears [
          | inl on ↦ inl on
          | inr (sent, tells, early) ↦
              inr (sent, tells_same w.stations w.lanes d follows.follows.from.clock sent tells, early)
        ];
        soon = e.soon;
      }

-- ---- what is set of a link

-- by setups that have a clock for an identity
abbrev setting_named : Direction → Channel → Setup → Setup → Setting
setting_named direction channel asking answering = record (setting_view direction channel asking answering) {
  asking_clock = λ t. clock_stamp (record (setup_stamping asking) { clock = asking.identity }) asking.phase asking.drift
      t;
  answering_clock = λ t. clock_stamp (record (setup_stamping answering) { clock = answering.identity }) answering.phase
      answering.drift t;
}

-- ---- such a world

module _ (w w' : WorldState) (still : StandsStill w w') where
  pub view_still : view w' ≡ view w
  view_still =
      let seen = of_plain (map station_view) seen_plain w.stations w'.stations still.stations in
      let time = still.time in
      let channels = still.channels in
      λ i. record { time = time i; stations = seen i; lanes = lanes_view (channels i) }

  pub systems_still : live_stations w'.stations ≡ live_stations w.stations
  systems_still = of_plain live_stations live_plain w.stations w'.stations still.stations

  pub snapshot_still : snapshot_of w' ≡ snapshot_of w
  snapshot_still =
      let systems = systems_still in
      let channels = still.channels in
      λ i. record { systems = systems i; links = used_channels (systems i) (channels i) }

  delay_still : delay_in w' ≡ delay_in w
  delay_still =
      let systems = systems_still in
      let channels = still.channels in
      λ i. greatest_channel_delay (systems i) (channels i)

  places_still : (number : ℕ) → clock_place w'.stations number ≡ clock_place w.stations number
  places_still number =
      of_plain (λ stations. clock_place stations number) (place_plain number) w.stations w'.stations still.stations

  logs_still : (port : PortIdentity) → log_of w'.stations port ≡ log_of w.stations port
  logs_still port =
      ap (λ place. log_in port.port place w'.stations) (places_still port.clock)
      ∙ of_plain (log_in port.port (clock_place w.stations port.clock))
      (log_plain port.port (clock_place w.stations port.clock)) w.stations w'.stations still.stations

  quiet_still : (p : Params) → HaveQuietLinks p w' → HaveQuietLinks p w
  quiet_still p quiet link channel here used =
      quiet link channel (ap (λ cs. slice_get cs link) still.channels ∙ here)
      (ap (λ systems. channel_is_used systems channel) systems_still ∙ used)

  -- ---- its stations

  record IsStill (old : Station) (place : ℕ) : Type 0 where
    new : Station
    here : slice_get w'.stations place ≡ Some new
    same : plain new ≡ plain old

  station_still : (place : ℕ) (old : Station) → slice_get w.stations place ≡ Some old → IsStill old place
  station_still place old there =
      let (new, here, same) = alike plain plain w'.stations w.stations still.stations place old there in
      record { new = new; here = here; same = same }

  lived : (place number : ℕ) → StationIsLiveAt place number w' → StationIsLiveAt place number w
  lived place number x =
      let (old, here, same) = alike plain plain w.stations w'.stations (sym still.stations) place x.station x.here in
      record {
        station = old;
        here = here;
        live = ap (λ (s : Station). s.live) same ∙ x.live;
        named = ap (λ (s : Station). clock s.system) same ∙ x.named;
      }

  failed_before : (place number : ℕ) → IsFailedAmong place number w'.stations → IsFailedAmong place number w.stations
  failed_before place number x =
      let (old, here, same) = alike plain plain w.stations w'.stations (sym still.stations) place x.station x.here in
      record {
        station = old;
        here = here;
        failed = ap (λ (s : Station). s.live) same ∙ x.failed;
        named = ap (λ (s : Station). clock s.system) same ∙ x.named;
      }

  record IsSameEnd (place : ℕ) (port : PortId) (e : IsEndAmong place port w.stations) : Type 0 where
    end : IsEndAmong place port w'.stations
    state : end.state ≡ e.state
    same : plain end.station ≡ plain e.station

  end_still : (place : ℕ) (port : PortId) (e : IsEndAmong place port w.stations) → IsSameEnd place port e
  end_still place port e =
      let x = station_still place e.station e.here in
      let params = ap (λ (s : Station). s.setup.params) x.same in
      record {
        end = record {
          station = x.new;
          state = e.state;
          here = x.here;
          live = ap (λ (s : Station). s.live) x.same ∙ e.live;
          set_up = record {
            params = ap (λ (s : Station). s.system.params) x.same ∙ e.set_up.params ∙ sym params;
            phase = ap (λ (s : Station). s.system.phase) x.same ∙ e.set_up.phase
                ∙ sym (ap (λ (s : Station). s.setup.phase) x.same);
            drift = ap (λ (s : Station). s.system.drift) x.same ∙ e.set_up.drift
                ∙ sym (ap (λ (s : Station). s.setup.drift) x.same);
            seed = ap (λ (s : Station). s.system.seed) x.same ∙ e.set_up.seed
                ∙ sym (ap (λ (s : Station). s.setup.seed) x.same);
            named = ap (λ (s : Station). clock s.system) x.same ∙ e.set_up.named
                ∙ sym (ap (λ (s : Station). s.setup.identity) x.same);
          };
          named = ap (λ (s : Station). clock s.system) x.same ∙ e.named;
          there = ap (λ (s : Station). number s.system.ports port.port) x.same ∙ e.there;
          measures = subst (λ set. IsMeasuring set port (measure_at e.state)) (sym params) e.measures;
        };
        state = refl;
        same = x.same;
      }

  -- ---- its links

  pub links_still : (at : LinkPlace) → StaysSameLink at w w'
  links_still at l =
      let a = end_still at.asking (sender at.direction l.channel) l.asking in
      let b = end_still at.answering (receiver at.direction l.channel) l.answering in
      let asks = ap (λ (s : Station). s.setup.params) a.same in
      let answers = ap (λ (s : Station). s.setup.params) b.same in
      let time = still.time in
      let after : IsLinkOf at w' = record {
        channel = l.channel;
        here = ap (λ cs. slice_get cs at.link) still.channels ∙ l.here;
        up = l.up;
        lossless = l.lossless;
        asking = a.end;
        answering = b.end;
        apart = l.apart;
        good = rw (answers, asks) l.good;
        fit = l.fit;
      } in
      record {
        after = after;
        settled = λ i. setting_named at.direction l.channel (a.same i).setup (b.same i).setup;
        seen = λ i. record {
          pair = pair_view (time i) (interval_of (a.same i).setup.params.pdelay) at.direction l.channel
              (measure_at (a.state i)) (measure_at (b.state i));
          kept = kept_view (a.state i).peer;
        };
        bounds = refl;
      }

  pub stood_still : (p : SettlingParams) → IsWorld p w → IsWorld p w' → (at : LinkPlace) → LinkStandsAt at w'
      → LinkStandsAt at w
  stood_still p is is' at s =
      let asking = lived at.asking (sender at.direction s.channel).clock s.asking in
      let answering = lived at.answering (receiver at.direction s.channel).clock s.answering in
      let asks = (is.known.set at.asking asking.station asking.here).starts.params
      ∙ sym (is'.known.set at.asking s.asking.station s.asking.here).starts.params in
      let answers = (is.known.set at.answering answering.station answering.here).starts.params
      ∙ sym (is'.known.set at.answering s.answering.station s.answering.here).starts.params in
      record {
        channel = s.channel;
        here = ap (λ cs. slice_get cs at.link) (sym still.channels) ∙ s.here;
        up = s.up;
        lossless = s.lossless;
        asking = asking;
        answering = answering;
        apart = s.apart;
        good = rw (answers, asks) s.good;
      }

  -- ---- ports beside failed systems

  pub unanswered_before : (at : LinkPlace) → StandsUnanswered at w' → StandsUnanswered at w
  unanswered_before at s = record {
    channel = s.channel;
    here = ap (λ cs. slice_get cs at.link) (sym still.channels) ∙ s.here;
    up = s.up;
    asking = lived at.asking (sender at.direction s.channel).clock s.asking;
    answering = failed_before at.answering (receiver at.direction s.channel).clock s.answering;
  }

  abbrev unanswered_still : (at : LinkPlace) → IsUnansweredAt at w → IsUnansweredAt at w'
  unanswered_still at l =
      let a = end_still at.asking (sender at.direction l.channel) l.asking in
      let b = station_still at.answering l.answering.station l.answering.here in
      record {
        channel = l.channel;
        here = ap (λ cs. slice_get cs at.link) still.channels ∙ l.here;
        up = l.up;
        asking = a.end;
        answering = record {
          station = b.new;
          here = b.here;
          failed = ap (λ (s : Station). s.live) b.same ∙ l.answering.failed;
          named = ap (λ (s : Station). clock s.system) b.same ∙ l.answering.named;
        };
      }

  pub last_still : (sent : ℕ) (at : LinkPlace) → IsLastAnswered sent at w → IsLastAnswered sent at w'
  last_still sent at is =
      let l = is.link in
      let a = end_still at.asking (sender at.direction l.channel) l.asking in
      let b = station_still at.answering l.answering.station l.answering.here in
      let after = unanswered_still at l in
      let settled : silent_setting at w' after ≡ silent_setting at w l =
      λ i. setting_named at.direction l.channel (a.same i).setup (b.same i).setup in
      last_stays sent at w w' is after settled (λ f member. member)
      (λ i. asker_view (interval_of (a.same i).setup.params.pdelay) (measure_at (a.state i)))

  pub off_still : (at : LinkPlace) → IsOff at w → IsOff at w'
  off_still at is =
      let a = end_still at.asking (sender at.direction is.link.channel) is.link.asking in
      record {
        link = unanswered_still at is.link;
        mute = is.mute;
        off = subst (λ (q : Port). is_capable q.peer ≡ false) (sym a.state) is.off;
      }

  -- what is in flight beside failed systems and between them is in time still
  pub asked_still : (gone : ℕ) → AreAskedInTime gone w → AreAskedInTime gone w'
  asked_still gone asked at s =
      let is = asked at (unanswered_before at s) in
      let l = is.link in
      let a = end_still at.asking (sender at.direction l.channel) l.asking in
      let time = still.time in
      let after = unanswered_still at l in
      let seen : (silent_view at w' after).asker.asked ≡ (silent_view at w l).asker.asked =
      λ i. (asker_view (interval_of (a.same i).setup.params.pdelay) (measure_at (a.state i))).asked in
      record {
        link = after;
        asked = (let before = is.asked in omega (arith, before, seen, time));
        frames = λ lossless f member. (let due = is.frames lossless f member in omega (arith, due, time));
        requests = λ lossless f r member says.
            (let due = is.requests lossless f r member says in omega (arith, due, seen));
        old = is.old;
      }

  pub between_still : (gone : ℕ) → AreGoneBetween gone w → AreGoneBetween gone w'
  between_still gone all at s =
      all at (record {
        channel = s.channel;
        here = ap (λ cs. slice_get cs at.link) (sym still.channels) ∙ s.here;
        up = s.up;
        asking = failed_before at.asking (sender at.direction s.channel).clock s.asking;
        answering = failed_before at.answering (receiver at.direction s.channel).clock s.answering;
      })

  pub stands_like : StandsLike w w'
  stands_like =
      let channels = still.channels in
      let seen = view_still in
      record {
        time = still.time;
        stations = ap (λ (x : MachineState). x.stations) seen;
        snapshot = snapshot_still;
        delay = delay_still;
        places = places_still;
        logs = logs_still;
        lane_places = λ port. ap (λ cs. lane_of cs port) channels;
        lanes = λ from to joins l there.
            subst (λ (x : MachineState). slice_get x.lanes (lane_of w.net.channels from) ≡ Some l) seen there;
        quiet = quiet_still;
        links = links_still;
        stood = stood_still;
      }

-- ---- the claims

module _ (p : SettlingParams) (start : ℕ) (w w' : WorldState) (still : StandsStill w w') (world : IsWorld p w')
    (measured : LinkIsMeasured w') where
  like : StandsLike w w'
  like = stands_like w w' still

  pub stay_still : AllStaySilent p w w'
  stay_still at s = record {
    stood = unanswered_before w w' still at s;
    silent = λ time is. elim is [
      | inl off ↦ inl (off_still w w' still at off)
      | inr (sent, last, soon) ↦ inr (sent, last_still w w' still sent at last, soon)
    ];
  }

  pub silent_then : AreSilentBy p start w → AreSilentBy p start w'
  silent_then = stay_silent p start w w' stay_still

  sound_then : IsSoundWorld w → IsSoundWorld w'
  sound_then sound =
      subst (IsSoundEverywhere says_announce (snapshot_of w')) (sym (view_still w w' still))
      (subst (λ g. IsSoundEverywhere says_announce g (view w)) (sym (snapshot_still w w' still)) sound)

  expects : (m : ℕ) → SyncsAreExpected says_sync (turn_network p m start w) (view w)
      → sync_wait p.params (paths_with m w') < lapse_span p.params
      → SyncsAreExpected says_sync (turn_network p m start w') (view w')
  expects m is short =
      let n = turn_network p m start w in
      let n' = turn_network p m start w' in
      subst (SyncsAreExpected says_sync n') (sym (view_still w w' still))
      (subst (λ x. SyncsAreExpected says_sync x (view w)) (sym (turn_like_network w w' like p m start))
      (expected_same n (w'.last_change + 2 * largest_interval p) (view w) is))

  pub news_stands : IsNews p start w → IsNews p start w'
  news_stands news =
      news_like p start w w' like world measured (silent_then news.silent) (sound_then news.sound) expects news

  pub from_stands : IsNewsFrom p start w → IsNewsFrom p start w'
  from_stands news =
      from_like p start w w' like world measured (silent_then (from_silent p start w news))
      (sound_then (from_sound p start w news)) expects news

  pub claims_stand : IsClaimedAlways p start w → IsClaimedAlways p start w'
  claims_stand is =
      claims_like p start w w' like world measured (silent_then is.news.silent) (sound_then is.news.sound) expects is
