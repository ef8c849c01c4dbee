-- The view of a sound, encodable and known world has the facts of which the laws of settling speak.
use Rattle.std.proofs.Common.{◌≡◌, ◌⊎◌, ◌<◌, ◌≤◌, ◌+◌, ◌*◌, ℕ, Bool, true, false, List, Some, slice_get, sym, ap, subst, ◌∙◌, inl, inr, arith}
use Rattle.std.specs.Prelude.{if◌then◌else◌}
use Rattle.std.proofs.lemmas.Bool.{and_from}
use Rattle.gptp_lists.specs.Members.{In}
use Rattle.gptp_graph.specs.Snapshot.{Joins, System, clocks}
use Rattle.gptp_lists.proofs.SystemSpecLemmas.{from_map}
use Rattle.gptp_links.specs.declared.link.Direction.{Direction}
use Rattle.gptp_links.specs.declared.link.Direction.TheVariants.{FromA, FromB}
use Rattle.gptp_links.specs.Queue.{Frame}
use Rattle.gptp_setup.specs.Intervals.{IsLog}
use Rattle.gptp_setup.specs.SettlingParams.{SettlingParams, largest_interval, longest_span}
use Rattle.gptp_setup.proofs.SettlingParamsLemmas.{span_longest}
use Rattle.gptp_system.specs.Follows.{SystemIsRoot, SystemFollowsPort}
use Rattle.gptp_system.specs.State.{clock}
use Rattle.gptp_model.specs.Ahead.{IsSteady}
use Rattle.gptp_model.specs.declared.station.Station.{Station}
use Rattle.gptp_model.specs.Sound.{IsSound}
use Rattle.gptp_model.specs.World.{Channel, WorldState, world_queue, receiver, sender}
use Rattle.gptp_bmca_machine.specs.Facts.{StationFacts, FollowsItself as SeenItself, FollowsPort as SeenFollows, HeldIsInTime, IsLiveStationState, NetworkSetting}
use Rattle.gptp_bmca_machine.specs.Frame.{AnnounceFrame as SeenFrame, Lane}
use Rattle.gptp_bmca_machine.specs.Network.{network_setting}
use Rattle.gptp_bmca_machine.specs.Station.{Reception as SeenReception, Station as SeenStation, HoldsAt}
use native.Mathlib.Decide.{dec_le}
use Rattle.gptp_invariants.specs.WorldKnown.{IsKnown}
use Rattle.gptp_invariants.specs.WorldEncodable.{IsEncodable}
use Rattle.gptp_invariants.proofs.WorldGreatestDelayLemmas.{delay_of_used}
use Rattle.gptp_invariants.proofs.ChoiceKnownAtRestLemmas.{systems_follow}
use Rattle.gptp_invariants.proofs.WorldDueLemmas.{frames_on_links, ports_known}
use Rattle.gptp_invariants.specs.ChoiceView.{frame_view, lane_view, lanes_view, reception_view, span_at, station_view, view}
use Rattle.gptp_invariants.proofs.ChoiceSeenLaneLemmas.{lane_from}
use Rattle.gptp_invariants.proofs.WorldOrderLemmas.{in_contains}
use Rattle.gptp_invariants.proofs.ChoicePlaceLemmas.{station_from}
use Rattle.gptp_invariants.specs.ChoiceCalm.{SettlingTimes, delay_in, network_of, network_with}
use Rattle.gptp_invariants.specs.WorldStanding.{stations_have_clock, channel_is_used, live_stations, snapshot_of}
use Rattle.gptp_invariants.proofs.ChoicePortLemmas.{held_from, holds_there, same_standing}
use Rattle.gptp_invariants.proofs.WorldSetLemmas.{span_is}
use Rattle.gptp_invariants.proofs.WorldSystemLemmas.{clock_there, live_there}
use Rattle.gptp_invariants.proofs.WorldWayLemmas.{one_way, used_joins, way_of}

-- ---- frames

-- a frame that is seen on a lane is in flight on a link, in that direction
pub record IsFrameAt (w : WorldState) (lane : Lane) (seen : SeenFrame) : Type 0 where
  pub link : ℕ
  pub direction : Direction
  pub channel : Channel
  pub here : slice_get w.net.channels link ≡ Some channel
  pub lane_is : lane ≡ lane_view direction channel
  pub frame : Frame
  pub among : In frame (world_queue direction channel)
  pub is : seen ≡ frame_view frame

pub frame_from : (w : WorldState) (j : ℕ) (lane : Lane) (seen : SeenFrame)
    → slice_get (lanes_view w.net.channels) j ≡ Some lane → In seen lane.frames → IsFrameAt w lane seen
frame_from w j lane seen there member =
    let at = lane_from w.net.channels j lane there in
    let (frame, among, is) = from_map frame_view seen (world_queue at.direction at.channel)
    (subst (λ (l : Lane). In seen l.frames) at.is member) in
    record {
      link = at.link;
      direction = at.direction;
      channel = at.channel;
      here = at.here;
      lane_is = at.is;
      frame = frame;
      among = among;
      is = sym is;
    }

-- a link that is up between two of the systems is used
pub used_is : (systems : List System) (direction : Direction) (channel : Channel) → channel.up ≡ true
    → stations_have_clock systems (sender direction channel).clock ≡ true
    → stations_have_clock systems (receiver direction channel).clock ≡ true
    → channel_is_used systems channel ≡ true
used_is systems FromA channel up from to = and_from channel.up _ up (and_from _ _ from to)
used_is systems FromB channel up from to = and_from channel.up _ up (and_from _ _ to from)

-- where a frame is in flight from a live system to a live one, the snapshot has that link
linked : (w : WorldState) → IsSound w → (j : ℕ) (lane : Lane) (seen : SeenFrame)
    → slice_get (lanes_view w.net.channels) j ≡ Some lane → In seen lane.frames
    → In lane.from.clock (clocks (snapshot_of w)) → In lane.to.clock (clocks (snapshot_of w))
    → Joins (snapshot_of w) lane.from lane.to
linked w sound j lane seen there member from to =
    let systems = live_stations w.stations in
    let g = snapshot_of w in
    let at = frame_from w j lane seen there member in
    let up = frames_on_links w sound at.link at.direction at.channel at.frame at.here at.among in
    let sends = subst (λ (l : Lane). In l.from.clock (clocks g)) at.lane_is from in
    let hears = subst (λ (l : Lane). In l.to.clock (clocks g)) at.lane_is to in
    let used = used_is systems at.direction at.channel up (clock_there systems _ sends) (clock_there systems _ hears) in
    subst (λ (l : Lane). Joins g l.from l.to) (sym at.lane_is)
    (used_joins w at.link at.direction at.channel at.here used)

-- ---- systems

-- it follows itself, or what one of its ports is seen to hold
pub follows_seen : (station : Station) → IsSteady station.system
    → SystemIsRoot station.system ⊎ SystemFollowsPort station.system
    → SeenItself (station_view station) ⊎ SeenFollows (station_view station)
follows_seen station steady (inl k) = inl (record { root = k.root; steps = k.steps; trace = k.path })
follows_seen station steady (inr k) =
    let holds = holds_there station.live station.system steady.shown k.place k.held k.reception k.there k.holds in
    let more = k.steps in
    inr (record {
      place = k.place;
      r = reception_view (span_at station.system) k.reception;
      holds = holds;
      root = k.root;
      steps = omega arith;
      trace = k.path;
    })

module _ (p : SettlingParams) (m start : ℕ) (w : WorldState) (sound : IsSound w) (encodable : IsEncodable w)
    (known : IsKnown p w)
  where
    abbrev k : NetworkSetting
    k = network_setting (network_of p m start w)

    -- what a port received is in time
    in_time : (place : ℕ) (station : Station) → slice_get w.stations place ≡ Some station → station.live ≡ true
        → (i : ℕ) (seen : SeenReception) → HoldsAt (station_view station) i seen
        → HeldIsInTime k w.time (clock station.system) seen
    in_time place station here live i seen holds =
        let s = station.system in
        let steady = (sound.on_time.stations place station here).steady in
        let at = held_from station.live s i seen holds in
        let set = known.set place station here in
        let span = span_is p station set at.reception.interval in
        let within = (ports_known p w sound known place station here live i at.held at.port at.stands at.there).came
        at.reception at.got in
        subst (HeldIsInTime k w.time (clock s)) (sym at.is)
        (record {
          came = within.least;
          stays = subst (λ n. w.time ≤ at.reception.at + n) (sym span) within.most;
          short = subst (λ n. n ≤ longest_span p) (sym span)
              (span_longest p at.reception.interval (subst IsLog set.largest steady.largest));
          no_loop = λ member.
              (steady.held i at.held at.stands at.reception at.got).no_loop (in_contains (clock s) _ member);
        })

    station_seen : (place : ℕ) (station : Station) → slice_get w.stations place ≡ Some station → station.live ≡ true
        → IsLiveStationState k w.time (station_view station)
    station_seen place station here live =
        let steady = (sound.on_time.stations place station here).steady in
        record {
          known = subst (λ x. In x (live_stations w.stations)) (same_standing station steady.shown)
              (live_there w.stations place station here live);
          follows = follows_seen station steady (systems_follow w sound place station here live);
          held = in_time place station here live;
        }

    -- a frame on a link of the snapshot is due within the greatest delay, or before the start
    due_soon : (j : ℕ) (l : Lane) (f : SeenFrame) → slice_get (lanes_view w.net.channels) j ≡ Some l → In f l.frames
        → Joins (snapshot_of w) l.from l.to
        → (f.due ≤ w.time + delay_in w) ⊎ (f.due < w.last_change + 2 * largest_interval p)
    due_soon j l f there member joins =
        let at = frame_from w j l f there member in
        let way = way_of w l.from l.to joins in
        let one = one_way w sound encodable way.link at.link way.direction at.direction way.channel at.channel way.here
        at.here (way.from ∙ ap (λ (z : Lane). z.from) at.lane_is) in
        let short = subst (λ (c : Channel). c.bounds.max ≤ delay_in w) one.same_channel
        (delay_of_used (live_stations w.stations) w.net.channels way.link way.channel way.here way.used) in
        let soon = known.fresh.frames at.link at.direction at.channel at.frame at.here at.among in
        subst (λ (x : SeenFrame). (x.due ≤ w.time + delay_in w) ⊎ (x.due < w.last_change + 2 * largest_interval p))
        (sym at.is)
        (elim (dec_le at.frame.due (w.time + delay_in w)) [
          | yes within ↦ inl within
          | no more ↦ inr (let since : w.last_change ≤ w.time = known.fresh.change in omega (arith, soon, short))
        ])

    pub facts : StationFacts k (view w)
    facts = record {
      stations = λ i seen there lives.
          let at = station_from w.stations i seen there in
          let live = ap (λ (x : SeenStation). x.live) (sym at.is) ∙ lives in
          subst (IsLiveStationState k w.time) (sym at.is) (station_seen i at.station at.here live);
      near = λ j lane seen there member.
          let at = frame_from w j lane seen there member in
          subst (λ (f : SeenFrame). f.due ≤ w.time + largest_interval p) (sym at.is)
          ((known.near at.link at.channel at.here).dues at.direction at.frame at.among);
      fresh = due_soon;
      linked = linked w sound;
    }

-- so it is at every pace, where frames of before the change are gone by the start
pub facts_with : (p : SettlingParams) (m start : ℕ) (times : SettlingTimes) (w : WorldState) → IsSound w → IsEncodable w
    → IsKnown p w
    → w.last_change + 2 * largest_interval p ≤ start
    → StationFacts (network_setting (network_with p m start times w)) (view w)
facts_with p m start times w sound encodable known old = record {
  stations = λ i s there lives.
      let x = are.stations i s there lives in
      record {
        known = x.known;
        follows = x.follows;
        held = λ place r holds.
            let y = x.held place r holds in
            record { came = y.came; stays = y.stays; short = y.short; no_loop = y.no_loop };
      };
  near = are.near;
  fresh = λ j l f there member joins. by times.past f.due (are.fresh j l f there member joins);
  linked = are.linked;
}
  where
    are : StationFacts (network_setting (network_of p m start w)) (view w)
    are = facts p m start w sound encodable known

    by : (past : Bool) (due : ℕ) → (due ≤ w.time + delay_in w) ⊎ (due < w.last_change + 2 * largest_interval p)
        → (due ≤ w.time + delay_in w) ⊎ (due < (if past then w.last_change + 2 * largest_interval p else start))
    by true due soon = soon
    by false due (inl near) = inl near
    by false due (inr early) = inr (omega (arith, early, old))
