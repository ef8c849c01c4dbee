-- A calm world is seen as a calm state of the machine.
use Rattle.std.proofs.Common.{◌≡◌, ◌≤◌, ◌<◌, ◌+◌, ◌*◌, ℕ, suc, ℤ, true, Some, None, slice_get, refl, sym, ap, subst, ◌∙◌, inl, inr, arith}
use native.Mathlib.Nat.{mul-zero}
use Rattle.gptp_lists.specs.Members.{In}
use Rattle.gptp_graph.specs.Snapshot.{IsLinked, Joins, PortIdentity, System, port_of}
use Rattle.gptp_graph.specs.PathBound.{BoundsPaths}
use Rattle.gptp_links.specs.declared.link.Direction.{Direction}
use Rattle.gptp_links.specs.declared.link.Direction.TheVariants.{FromA, FromB}
use Rattle.gptp_receipt.specs.declared.held.Held.{Held}
use Rattle.gptp_system.specs.declared.port.Port.{Port}
use Rattle.gptp_setup.specs.Intervals.{AreParams, interval_of}
use Rattle.gptp_setup.specs.SettlingParams.{SettlingParams, largest_interval, span_by}
use Rattle.gptp_system.specs.State.{clock, is_mine}
use Rattle.gptp_model.specs.declared.station.Station.{Station}
use Rattle.gptp_model.specs.Sound.{IsSound}
use Rattle.gptp_model.specs.World.{Channel, WorldState, receiver, sender}
use Rattle.gptp_bmca_machine.specs.Calm.{Calm, HasLane, HasStation, IsCalmPort, IsCalmStation}
use Rattle.gptp_bmca_machine.specs.Frame.{AnnounceFrame as SeenFrame, Lane}
use Rattle.gptp_scenario.specs.Calm.{NothingLapses as IsOff}
use Rattle.gptp_bmca_machine.specs.Lapsing.{NothingNearLapses}
use Rattle.gptp_bmca_machine.specs.Network.{IsSettlingNetwork, Network, network_setting}
use Rattle.gptp_bmca_machine.specs.Station.{Reception as SeenReception, Received, Station as SeenStation}
use Rattle.gptp_bmca_machine.specs.Syncs.{SyncsAreExpected}
use Rattle.gptp_bmca_machine.proofs.TimesLemmas.{times_fit}
use Rattle.gptp_bmca_machine.proofs.SyncLemmas.{none_lapses}
use Rattle.gptp_invariants.specs.WorldKnown.{IsKnown, IsSetTo}
use Rattle.gptp_invariants.proofs.WorldDueLemmas.{frames_not_late, ports_known}
use Rattle.gptp_invariants.specs.WorldEncodable.{IsEncodable}
use Rattle.gptp_invariants.specs.ChoiceView.{held_view, port_identity_number, lane_place, lane_view, lanes_view, port_view, says_sync, span_at, station_view, view}
use Rattle.gptp_invariants.proofs.ChoiceSeenLaneLemmas.{lane_from, lane_there}
use Rattle.gptp_invariants.proofs.ChoiceMidLemmas.{seen_on}
use Rattle.gptp_invariants.proofs.ChoicePlaceLemmas.{port_from, station_from, station_there}
use Rattle.gptp_invariants.proofs.ChoiceReactLemmas.{received_back}
use Rattle.gptp_invariants.specs.ChoiceCalm.{AreCapableFrom, HaveQuietLinks, lane_of, log_of, network_of, SettlingTimes, network_with, paths_with, clock_place, network_at_once}
use Rattle.gptp_invariants.specs.WorldStanding.{AreBetween, live_stations, snapshot_of}
use Rattle.gptp_invariants.proofs.ChoiceCalmAtRestLemmas.{rest_seen}
use Rattle.gptp_invariants.proofs.WorldGreatestDelayLemmas.{delay_short, receipts_stay}
use Rattle.gptp_bmca_machine.specs.Facts.{StationFacts}
use Rattle.gptp_invariants.proofs.ChoiceCalmFactLemmas.{frame_from}
use Rattle.gptp_invariants.proofs.ChoiceFoundLemmas.{lane_is, place_is}
use Rattle.gptp_invariants.proofs.WorldLogLemmas.{linked_log, log_is}
use Rattle.gptp_invariants.proofs.ChoicePortLemmas.{mine_back, same_standing}
use Rattle.gptp_invariants.proofs.WorldSetLemmas.{log_shorter, log_there, span_is}
use Rattle.gptp_invariants.proofs.WorldStandsLemmas.{stands_well, used_up}
use Rattle.gptp_invariants.proofs.WorldSystemLemmas.{live_from}
use Rattle.gptp_invariants.proofs.SyncWaitLemmas.{step_long}
use Rattle.gptp_invariants.proofs.WorldWayLemmas.{IsWay, one_way, way_of}

-- ---- the network

-- the interval of a port at a link is no longer than the largest
pub linked_interval : (p : SettlingParams) (w : WorldState) → IsSound w → IsKnown p w → (port : PortIdentity)
    → IsLinked (snapshot_of w) port → interval_of (log_of w.stations port) ≤ largest_interval p
linked_interval p w sound known port linked =
    log_shorter p w known.set (log_of w.stations port) (linked_log p w sound known.set port linked)

module _ (p : SettlingParams) (m start : ℕ) (w : WorldState) (sound : IsSound w) (between : AreBetween w)
    (encodable : IsEncodable w)
    (known : IsKnown p w) (bounded : BoundsPaths (snapshot_of w) m) where
  -- a step of distance takes long enough for the wait for a Sync, the largest announce interval and the greatest delay
  pub network : w.last_change + 2 * largest_interval p ≤ start → IsSettlingNetwork (network_of p m start w)
  network old =
      let paths = paths_with m w in
      let long = step_long p paths (delay_short p w known) in
      times_fit (network_of p m start w) (stands_well w sound between encodable) bounded (omega arith) (inl (record {
        begun = omega (arith, old);
        ready = λ port linked. omega arith;
        largest = linked_interval p w sound known;
        times = inr (record {
          claimed = λ d port. refl;
          until = λ d port. refl;
          step = omega (arith, long);
        });
      }))

  -- and it settles at once
  pub network_quick : w.last_change + 2 * largest_interval p ≤ start → IsSettlingNetwork (network_at_once p m start w)
  network_quick old =
      times_fit (network_at_once p m start w) (stands_well w sound between encodable) bounded (omega arith)
      (inl (record {
        begun = omega (arith, old);
        ready = λ port linked. omega arith;
        largest = linked_interval p w sound known;
        times = inl (record {
          claimed = λ d port. let none : d * 0 ≡ 0 = mul-zero d in omega (arith, none);
          until = λ d port. let none : d * 0 ≡ 0 = mul-zero d in omega (arith, none);
          slack = omega arith;
          step = omega arith;
        });
      }))

-- ---- directions

abbrev opposite : Direction → Direction
opposite FromA = FromB
opposite FromB = FromA

-- a lane leads to where the other lane of its link begins
hears_there : (direction : Direction) (channel : Channel)
    → receiver direction channel ≡ sender (opposite direction) channel
hears_there FromA channel = refl
hears_there FromB channel = refl

same_direction : (direction way : Direction) → opposite direction ≡ opposite way → direction ≡ way
same_direction FromA FromA same = refl
same_direction FromB FromB same = refl
same_direction FromA FromB same = sym same
same_direction FromB FromA same = sym same

-- ---- the state

module _ (p : SettlingParams) (m start : ℕ) (times : SettlingTimes) (w : WorldState) (sound : IsSound w)
    (encodable : IsEncodable w)
    (known : IsKnown p w) (quiet : HaveQuietLinks p.params w)
    (facts_are : StationFacts (network_setting (network_with p m start times w)) (view w))
    (capable : AreCapableFrom start w) where
  abbrev n : Network
  n = network_with p m start times w

  -- ---- systems

  -- a port is calm
  module _ (place : ℕ) (station : Station) (here : slice_get w.stations place ≡ Some station)
      (live : station.live ≡ true) (i : ℕ) (h : Held) (q : Port) (stands : slice_get station.system.held i ≡ Some h)
      (there : slice_get station.system.ports i ≡ Some q) where
    abbrev keep : ℤ → ℕ
    keep = span_at station.system

    abbrev itself : PortIdentity
    itself = port_of (clock station.system) (suc i)

    set : IsSetTo p station
    set = known.set place station here

    log_seen : q.log_interval ≡ log_of w.stations itself
    log_seen =
        sym (log_is w sound.wired.clocks place station here (suc i) ∙ log_there p station set i q there)

    -- what it received, where that names the other port's interval, stays longer than that and the greatest delay
    stays : (r : SeenReception) (from : PortIdentity) → held_view keep h ≡ Received r
        → Joins (snapshot_of w) from itself → r.said.log ≡ log_of w.stations from
        → n.interval_of from + n.most < r.span
    stays r from holds joins named =
        let params = subst AreParams set.starts.params (sound.on_time.stations place station here).setup in
        let back = received_back keep h r holds in
        let heard : back.0.interval ≡ log_of w.stations from =
        ap (λ (x : SeenReception). x.said.log) (sym back.2) ∙ named in
        let is : r.span ≡ span_by p.params.timeout p.largest (log_of w.stations from) =
        ap (λ (x : SeenReception). x.span) back.2
        ∙ span_is p station set back.0.interval
        ∙ ap (span_by p.params.timeout p.largest) heard in
        subst (λ t. n.interval_of from + n.most < t) (sym is)
        (receipts_stay p w params known (log_of w.stations from)
        (linked_log p w sound known.set from (itself, joins)))

    port_seen : IsCalmPort n w.time itself (port_view keep h q)
    port_seen = record {
      log = log_seen;
      interval = ap interval_of log_seen;
      timer = λ root steps mine.
          let within = (ports_known p w sound known place station here live i h q stands there).announces
          (ap is_mine (mine_back keep h root steps mine)) in
          (within.least, subst (λ log. q.announce ≤ w.time + interval_of log) log_seen within.most);
      capable = λ begun linked.
          seen_on keep h ((capable begun place station here live i h q stands there).capable linked);
      bare = λ begun none r holds.
          let off = ap (held_view keep) ((capable begun place station here live i h q stands there).unlinked none) in
          absurd (let same = sym off ∙ holds in cc);
      unlinked = λ begun none.
          ap (held_view keep) ((capable begun place station here live i h q stands there).unlinked none);
      long = λ r from holds joins source named. stays r from holds joins named;
    }

  station_seen : (place : ℕ) (station : Station) → slice_get w.stations place ≡ Some station → station.live ≡ true
      → IsCalmStation n w.time (station_view station)
  station_seen place station here live =
      let s = station.system in
      let steady = (sound.on_time.stations place station here).steady in
      record {
        at_rest = rest_seen station.live s steady.shown steady.held steady.rest;
        ports = λ i seen there.
            let at = port_from (span_at s) s.held s.ports i seen there in
            subst (IsCalmPort n w.time (port_of (clock s) (suc i))) (sym at.is)
            (port_seen place station here live i at.held at.port at.held_there at.port_there);
      }

  -- a system of the snapshot stands at its place
  system_there : (s : System) → In s (live_stations w.stations) → HasStation n (view w) s
  system_there s member =
      let at = live_from w.stations s member in
      let steady = (sound.on_time.stations at.place at.station at.here).steady in
      let place = place_is w sound.wired.clocks at.place at.station at.here
      ∙ ap (λ (x : System). clock_place w.stations x.clock) (sym at.is) in
      record {
        station = station_view at.station;
        there = subst (λ k. slice_get (view w).stations k ≡ Some (station_view at.station)) place
            (station_there w.stations at.place at.station at.here);
        live = at.live;
        is = sym (same_standing at.station steady.shown) ∙ sym at.is;
      }

  -- ---- links

  -- the lane of a link of the snapshot stands at its place
  lane_of_link : (from to : PortIdentity) → IsWay w from to → HasLane n (view w) from to
  lane_of_link from to way =
      let place = lane_is w sound encodable way.link way.direction way.channel way.here
      ∙ ap (lane_of w.net.channels) way.from in
      let lane = lane_view way.direction way.channel in
      record {
        lane = lane;
        there = subst (λ k. slice_get (lanes_view w.net.channels) k ≡ Some lane) place
            (lane_there w.net.channels way.link way.direction way.channel way.here);
        from = way.from;
        to = way.to;
        loss = (quiet way.link way.channel way.here way.used).lossless;
        is_up = used_up (live_stations w.stations) way.channel way.used;
      }

  -- no two lanes lead to one port
  lead_apart : (i j : ℕ) (l m : Lane) → slice_get (lanes_view w.net.channels) i ≡ Some l
      → slice_get (lanes_view w.net.channels) j ≡ Some m → l.to ≡ m.to → i ≡ j
  lead_apart i j l m at also same =
      let x = lane_from w.net.channels i l at in
      let y = lane_from w.net.channels j m also in
      let lead = ap (λ (z : Lane). z.to) (sym x.is) ∙ same ∙ ap (λ (z : Lane). z.to) y.is in
      let begin = ap port_identity_number (sym (hears_there x.direction x.channel)) ∙ lead
      ∙ ap port_identity_number (hears_there y.direction y.channel) in
      let one = one_way w sound encodable x.link y.link (opposite x.direction)
      (opposite y.direction) x.channel y.channel
      x.here y.here begin in
      x.at
      ∙ ap (λ link. lane_place link x.direction) one.same_link
      ∙ ap (lane_place y.link) (same_direction x.direction y.direction one.same_way)
      ∙ sym y.at

  -- ---- frames

  not_late : (j : ℕ) (l : Lane) (f : SeenFrame) → slice_get (lanes_view w.net.channels) j ≡ Some l → In f l.frames
      → w.time ≤ f.due
  not_late j l f there member =
      let at = frame_from w j l f there member in
      subst (λ (x : SeenFrame). w.time ≤ x.due) (sym at.is)
      (frames_not_late w sound at.link at.direction at.channel at.frame at.here at.among)

  -- ---- the whole state

  pub calm : Calm n (view w)
  calm = record {
    facts = facts_are;
    stations = λ i seen there lives.
        let at = station_from w.stations i seen there in
        let live = ap (λ (x : SeenStation). x.live) (sym at.is) ∙ lives in
        subst (IsCalmStation n w.time) (sym at.is) (station_seen i at.station at.here live);
    placed = λ i seen there.
        let at = station_from w.stations i seen there in
        place_is w sound.wired.clocks i at.station at.here
        ∙ ap (λ (x : SeenStation). clock_place w.stations x.clock) (sym at.is);
    there = system_there;
    lanes = λ from to joins. lane_of_link from to (way_of w from to joins);
    apart = lead_apart;
    left = not_late;
  }

-- where there is no syncReceiptTimeout
module _ (p : SettlingParams) (n : Network) (w : WorldState) (known : IsKnown p w) (off : IsOff p.params) where
  -- no Lapse timer runs
  no_timer : (i : ℕ) (seen : SeenStation) → slice_get (view w).stations i ≡ Some seen → seen.lapse ≡ None
  no_timer i seen there =
      let at = station_from w.stations i seen there in
      ap (λ (x : SeenStation). x.lapse) at.is ∙ (known.set i at.station at.here).lapses off

  -- so nothing lapses
  pub nothing_lapses : NothingNearLapses n (view w)
  nothing_lapses = none_lapses n (view w) (λ i seen there live. no_timer i seen there)

  -- and no Sync is expected
  pub none_expected : SyncsAreExpected says_sync n (view w)
  none_expected i seen d due there live near follows late runs =
      absurd (let same : None ≡ Some due = sym (no_timer i seen there) ∙ runs in cc)
