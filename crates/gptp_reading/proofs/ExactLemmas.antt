-- What is read is exact in every world of a network, once it has been calm for long enough.
use Rattle.std.proofs.Common.{◌≡◌, ◌≤◌, ◌+◌, ◌*◌, ◌^◌, ℕ, suc, ℤ, true, false, List, ◌∷◌, Option, Some, None, slice_get, refl, sym, ap, subst, ◌∙◌, arith, eqb-true}
use Rattle.std.specs.Option.{option_map_or}
use Rattle.std.specs.Prelude.{◌==◌, IsSome}
use Rattle.std.proofs.lemmas.Option.{none-some, same_Some}
use Rattle.gptp_graph.specs.Best.{IsBest}
use Rattle.gptp_graph.specs.Distance.{IsNear}
use Rattle.gptp_graph.specs.Parent.{IsParent}
use Rattle.gptp_graph.specs.PathBound.{BoundsPaths}
use Rattle.gptp_graph.specs.Snapshot.{System}
use Rattle.gptp_lists.proofs.MappedLemmas.{same_there}
use Rattle.gptp_lists.proofs.PlaceLemmas.{get-set_same}
use Rattle.gptp_scaled.specs.Counts.{AreWithin}
use Rattle.gptp_error_laws.specs.TimeError.{Way, reading_error_at}
use Rattle.gptp_messages.specs.declared.follow_up.FollowUp.{FollowUp}
use Rattle.gptp_messages.specs.declared.message.Message.TheVariants as messages
use Rattle.gptp_messages.specs.Grammar.{Reads}
use Rattle.gptp_links.specs.declared.bounds.Bounds.{Bounds}
use Rattle.gptp_links.specs.declared.link.Direction.{Direction}
use Rattle.gptp_links.specs.Fate.{Draw}
use Rattle.gptp_links.specs.Queue.{Frame, frame}
use Rattle.gptp_setup.specs.SettlingParams.{SettlingParams}
use Rattle.gptp_scenario.specs.SettlingTime.{settling_span_with, window_span}
use Rattle.gptp_scenario.specs.declared.change.Act.{Act}
use Rattle.gptp_scenario.specs.declared.change.Act.TheVariants.{Deliver, Expire, Change as Changing}
use Rattle.gptp_scenario.specs.declared.change.Timed.{Timed}
use Rattle.gptp_system.specs.declared.answer.Answer.{Answer}
use Rattle.gptp_system.specs.declared.answer.Answer.TheVariants as answers
use Rattle.gptp_system.specs.declared.sending.Sending.{Sending}
use Rattle.gptp_system.specs.Input.{Frame as FrameHeard, Steps}
use Rattle.gptp_system.specs.State.{SystemState, clock}
use Rattle.gptp_system.specs.Takeover.{told_time}
use Rattle.gptp_model.proofs.SteadyLemmas.{same_clock}
use Rattle.gptp_model.specs.Act.{Hears, in_state}
use Rattle.gptp_model.specs.Acts.{Acts, at}
use Rattle.gptp_model.specs.Course.{WasDone}
use Rattle.gptp_model.specs.declared.done.Done.{Done}
use Rattle.gptp_model.specs.declared.done.Done.TheVariants.{Quiet, Heard}
use Rattle.gptp_model.specs.declared.station.Station.{Station}
use Rattle.gptp_model.specs.Sound.{IsSound}
use Rattle.gptp_model.specs.Views.{ShowsLive}
use Rattle.gptp_model.specs.World.{Channel, WorldState, world_queue, receiver}
use Rattle.gptp_sync_machine.specs.Follower.{from}
use Rattle.gptp_sync_machine.specs.Tree.{IsWayTo}
use Rattle.gptp_sync_machine.proofs.TreeLemmas.{way_ends_at_parent}
use Rattle.gptp_invariants.specs.ChoiceCalm.{sync_paths_of}
use Rattle.gptp_invariants.specs.WorldCalmFor.{IsCalmFor, span_over}
use Rattle.gptp_invariants.specs.WorldSettlingInvariant.{KeepsAll}
use Rattle.gptp_invariants.specs.SyncFollowers.{HasWay, IsFollower, base_at, follower_clock, follower_setting, follower_parts, follower_state, stamps_of}
use Rattle.gptp_invariants.specs.DelayLinkView.{LinkPlace, other_direction}
use Rattle.gptp_invariants.specs.WorldStanding.{snapshot_of}
use Rattle.gptp_invariants.specs.SyncTimed.{AllMeasureRight, CarriesTime, IsSettledFrom}
use Rattle.gptp_invariants.specs.SyncTimedClaim.{WorldInvariant, CarriesWhereCalm, IsCalmBy}
use Rattle.gptp_invariants.specs.SyncTimedLaws.{IsRootOf}
use Rattle.gptp_invariants.specs.ChoiceView.{port_identity_number}
use Rattle.gptp_invariants.proofs.WorldSettlingInvariantLemmas.{over_measured}
use Rattle.gptp_invariants.proofs.SyncExactLemmas.{all_later, stood, all_alike}
use Rattle.gptp_invariants.proofs.SyncFollowClaimLemmas.{settled_from}
use Rattle.gptp_invariants.proofs.SyncFollowDeliveryLemmas.{opposite_same}
use Rattle.gptp_invariants.proofs.SyncFollowMeasureLemmas.{measured_right}
use Rattle.gptp_invariants.proofs.SyncFollowTreeLemmas.{slave_is}
use Rattle.gptp_invariants.proofs.SyncFollowWayLemmas.{Follows, follows_parent}
use Rattle.gptp_invariants.proofs.DelayLinkLemmas.{sender_opposite}
use Rattle.gptp_invariants.proofs.DelayMeasuredLinkLemmas.{claimed_measured}
use Rattle.gptp_invariants.proofs.WorldWayLemmas.{one_way}
use Rattle.gptp_theorem.specs.Headline.{HasComeDown, WorldIsCalm, UsesFollowUp}
use Rattle.gptp_theorem.proofs.HeadlineLemmas.{quiet_as}
use Rattle.gptp_reading.specs.Reading.{IsBestsTime, IsReadingErrorOf, reading}
use Rattle.gptp_reading.specs.Readings.{LeavesReading, LeavesTime, WorldsHaveReadings, WorldsLeaveTime, WorldsReadExactly}
use Rattle.gptp_reading.proofs.UsedLemmas.{IsUsedBy, has_base, has_reading, leaves_time, used_by, used_exactly}

-- ---- who uses a Follow_Up

-- The live system with this clock uses a Follow_Up, which is the oldest frame of a link and is due; what it makes of it
-- is one step of it.
record HasUser (direction : Direction) (link : ℕ) (w w' : WorldState) (number : ℕ) : Type 0 where
  channel : Channel
  here : slice_get w.net.channels link ≡ Some channel
  octets : List ℕ
  rest : List Frame
  front : world_queue direction channel ≡ frame w.time octets ∷ rest
  message : FollowUp
  reads : Reads octets (messages.FollowUp message)
  place : ℕ
  station : Station
  there : slice_get w.stations place ≡ Some station
  live : station.live ≡ true
  is_end : (receiver direction channel).clock ≡ number
  named : clock station.system ≡ number
  after : SystemState
  sends : List Sending
  steps : Steps (FrameHeard (receiver direction channel).port octets) w.time station.system after sends answers.Used
  becomes : slice_get w'.stations place ≡ Some (in_state after station)

user : (link : ℕ) (direction : Direction) (w w' : WorldState) (draws : List Draw) (number : ℕ) (done : Done)
    → Acts (Deliver link direction) w draws done w' → UsesFollowUp number done → HasUser direction link w w' number
user link direction w w' draws number Quiet k uses = absurd uses
user link direction w w' draws number (Heard name port answer heard) k (same, used, (m, reads)) =
    by k.answer (sym k.told.2 ∙ used) k.delivers.hears
  where
    channels : k.channel ≡ k.delivers.channel
    channels =
        same_there w.net.channels link k.channel k.delivers.channel k.here k.delivers.takes.here

    is_end : (receiver direction k.delivers.channel).clock ≡ number
    is_end = ap (λ c. (receiver direction c).clock) (sym channels) ∙ sym k.told.0 ∙ same

    by : (o : Option Answer) → o ≡ Some answers.Used
        → Hears k.delivers.place (receiver direction k.delivers.channel).port k.octets
        (record w { net = k.delivers.net }) draws o w'
        → HasUser direction link w w' number
    by None none failed = absurd (none-some answers.Used none)
    by (Some told) is c =
        let d = k.delivers in
        let one : c.station ≡ d.station = same_there w.stations d.place c.station d.station c.here d.there in
        let told_is = same_Some told answers.Used is in
        record {
          channel = d.channel;
          here = d.takes.here;
          octets = k.octets;
          rest = d.takes.rest;
          front = d.takes.front;
          message = m;
          reads = subst (λ o. Reads o (messages.FollowUp m)) k.told.3 reads;
          place = d.place;
          station = c.station;
          there = c.here;
          live = c.live;
          is_end = is_end;
          named = ap (λ (y : Station). clock y.system) one ∙ d.is_end ∙ is_end;
          after = c.after;
          sends = c.sends;
          steps = subst (λ a. Steps (FrameHeard (receiver direction d.channel).port k.octets) w.time c.station.system
              c.after c.sends a) told_is c.steps;
          becomes = ap (λ (v : WorldState). slice_get v.stations d.place) c.is
              ∙ get-set_same w.stations d.place c.station (in_state c.after c.station) c.here;
        }

-- so what the system shows after the act is what the Follow_Up made of it
left_is : (link : ℕ) (direction : Direction) (w w' : WorldState) (draws : List Draw) (number : ℕ) (done : Done)
    → IsSound w → Acts (Deliver link direction) w draws done w' → (u : HasUser direction link w w' number)
    → (s : SystemState) → ShowsLive number w' s → s ≡ u.after
left_is link direction w w' draws number done sound k u s shows =
    let same = stood link direction w draws done w' sound k u.place shows.place u.station shows.station u.there
    shows.is.here (shows.is.named ∙ sym u.named) in
    shows.state
    ∙ ap (λ (y : Station). y.system)
    (same_there w'.stations u.place shows.station (in_state u.after u.station)
    (ap (slice_get w'.stations) (sym same) ∙ shows.is.here) u.becomes)

-- ---- at the system that follows there

-- the Follow_Up is the oldest frame on the lane to the system, which uses it
record IsUsedHere (w : WorldState) (place : LinkPlace) (f : IsFollower place w) (octets : List ℕ) (m : FollowUp)
    (after : SystemState) : Type 0 where
  rest : List Frame
  front : world_queue place.direction f.channel ≡ frame w.time octets ∷ rest
  used : IsUsedBy (receiver place.direction f.channel).port m w.time (follower_state place w f) after

module _ (p : SettlingParams) (settled longest : ℕ) (w : WorldState) (is : IsSettledFrom p settled longest w)
    (place : LinkPlace)
    (f : IsFollower place w) (link : ℕ) (direction : Direction) (w' : WorldState) (number : ℕ)
    (u : HasUser direction link w w' number) (own : f.own.station ≡ u.station)
    (named : follower_clock place w f ≡ number) where
  abbrev port : ℕ
  port = (receiver direction u.channel).port

  used : IsUsedBy port u.message w.time (follower_state place w f) u.after
  used =
      subst (λ (y : Station). IsUsedBy port u.message w.time y.system u.after) (sym own)
      (used_by port u.message u.octets w.time u.station.system u.after u.sends u.reads u.steps)

  ports : (receiver place.direction f.channel).port ≡ port
  ports =
      eqb-true (receiver place.direction f.channel).port port
      (sym (ap (λ o. option_map_or (λ q. q == port) o false) (slave_is p settled longest w is place f)) ∙ used.slave)

  used_here : IsUsedHere w place f u.octets u.message u.after
  used_here =
      let clocks = u.is_end ∙ sym named in
      let same = ports in
      let ends : receiver direction u.channel ≡ receiver place.direction f.channel =
      λ i. record { clock = clocks i; port = sym same i } in
      let lane = one_way w is.world.sound is.world.encodable link place.link (other_direction direction)
      (other_direction place.direction) u.channel f.channel u.here f.here
      (ap port_identity_number (sender_opposite direction u.channel ∙ ends
      ∙ sym (sender_opposite place.direction f.channel)))
      in
      record {
        rest = u.rest;
        front = ap (world_queue place.direction) (sym lane.same_channel)
            ∙ ap (λ way. world_queue way u.channel) (sym (opposite_same direction place.direction lane.same_way))
            ∙ u.front;
        used = subst (λ q. IsUsedBy q u.message w.time (follower_state place w f) u.after) (sym ports) used;
      }

-- ---- where time is carried right

module _ (link : ℕ) (direction : Direction) (w w' : WorldState) (draws : List Draw) (number : ℕ) (done : Done)
    (p : SettlingParams) (settled steps : ℕ) (system : SystemState) (way : Way) (phase : ℕ → ℕ)
    (k : Acts (Deliver link direction) w draws done w') (uses : UsesFollowUp number done)
    (shows : ShowsLive number w' system) (is : IsSettledFrom p settled p.params.threshold w)
    (right : AllMeasureRight p.params w) (carries : CarriesTime p.params settled p.params.threshold w)
    (late : settled + suc steps * (p.params.threshold + p.params.residence) ≤ w.time)
    (near : IsNear (snapshot_of w) number)
    (leads : IsWayTo (follower_parts p.params w) (snapshot_of w) (suc steps) number way phase) where
  by_whom : HasUser direction link w w' number
  by_whom = user link direction w w' draws number done k uses

  followed : Follows w by_whom.place by_whom.station
  followed =
      let parent = leads.0 in
      let named = sym by_whom.named in
      follows_parent p settled p.params.threshold w is by_whom.place by_whom.station by_whom.there by_whom.live
      (subst (IsNear (snapshot_of w)) named near) parent
      (subst (λ n. IsParent (snapshot_of w) n parent) named leads.2)

  named_so : follower_clock followed.at w followed.follower ≡ number
  named_so = followed.named ∙ by_whom.named

  abbrev has_way : HasWay p.params followed.at w followed.follower steps
  has_way = record {
    way = way;
    phase = phase;
    stamps = stamps_of w.stations (follower_clock followed.at w followed.follower);
    stamped = refl;
    is = subst (λ n. IsWayTo (follower_parts p.params w) (snapshot_of w) (suc steps) n way phase) (sym named_so) leads;
  }

  from_then : from (follower_setting p.params settled p.params.threshold followed.at w followed.follower steps has_way)
      ≤ w.time
  from_then =
      let residence = (way_ends_at_parent.common (follower_parts p.params w) (snapshot_of w) (suc steps) number way
      phase leads).2 in
      subst (λ r. settled + suc steps * (p.params.threshold + r) ≤ w.time) (sym residence) late

  here : IsUsedHere w followed.at followed.follower by_whom.octets by_whom.message by_whom.after
  here =
      used_here p settled p.params.threshold w is followed.at followed.follower link direction w' number by_whom
      followed.own_is named_so

  left : system ≡ by_whom.after
  left = left_is link direction w w' draws number done is.world.sound k by_whom system shows

  has_reading_there : (moment : ℕ) → IsSome (reading system moment)
  has_reading_there moment =
      subst (λ (y : SystemState). IsSome (reading y moment)) (sym left)
      (has_reading p settled p.params.threshold w is right carries followed.at followed.follower steps has_way
      by_whom.octets here.rest here.front by_whom.message by_whom.reads by_whom.after here.used from_then moment)

  has_base_there : (best : System) → IsBest (snapshot_of w) number best
      → (ahead : ℤ) × (base_at w.stations best.clock ≡ Some ahead)
  has_base_there best is_best =
      has_base p settled p.params.threshold w is right carries followed.at followed.follower steps has_way
      by_whom.octets here.rest here.front by_whom.message by_whom.reads by_whom.after here.used from_then best
      (subst (λ n. IsBest (snapshot_of w) n best) (sym named_so) is_best)

  module _ (later error : ℕ) (read shown : ℤ) (reads_it : reading system (w.time + later) ≡ Some read)
      (error_is : error ≡ reading_error_at way steps later) (best : IsBestsTime w number (w.time + later) shown) where
    root : IsRootOf w (follower_clock followed.at w followed.follower) best.shows.station
    root = record {
      place = best.shows.place;
      here = best.shows.is.here;
      best = best.best;
      is_best = subst (λ n. IsBest (snapshot_of w) n best.best) (sym named_so) best.is_best;
      named = best.shows.is.named;
    }

    reads_there : AreWithin error read shown
    reads_there =
        let exact = used_exactly p settled p.params.threshold w is right carries followed.at followed.follower steps
        has_way by_whom.octets here.rest here.front by_whom.message by_whom.reads by_whom.after here.used from_then
        later best.shows.station root read
        (subst (λ (y : SystemState). reading y (w.time + later) ≡ Some read) left reads_it) in
        let root_time : told_time best.shows.station.system (w.time + later) ≡ shown =
        sym (best.is ∙ ap (λ (y : SystemState). told_time y (w.time + later)) best.shows.state) in
        subst (λ e. AreWithin e read shown) (sym error_is)
        (subst (AreWithin (reading_error_at way steps later) read) root_time exact)

-- ---- in a calm world

module _ (link : ℕ) (direction : Direction) (w w' : WorldState) (draws : List Draw) (number : ℕ) (done : Done)
    (p : SettlingParams) (m steps : ℕ) (system : SystemState) (way : Way) (phase : ℕ → ℕ)
    (k : Acts (Deliver link direction) w draws done w') (uses : UsesFollowUp number done)
    (shows : ShowsLive number w' system) (claimed : KeepsAll p w) (carries : CarriesWhereCalm p w)
    (calm : WorldIsCalm p w)
    (bounded : BoundsPaths (snapshot_of w) m) (come : HasComeDown p m (suc steps) w.time w)
    (early : w.time ≤ 10 ^ 18) (near : IsNear (snapshot_of w) number)
    (leads : IsWayTo (follower_parts p.params w) (snapshot_of w) (suc steps) number way phase) where
  abbrev settled : ℕ
  settled = w.last_change + settling_span_with p (sync_paths_of w) m + window_span p.params

  come_late : settled + suc steps * (p.params.threshold + p.params.residence) ≤ w.time
  come_late = omega (arith, come)

  already : settled ≤ w.time
  already = let passed = come_late in omega (arith, passed)

  calm_by : IsCalmBy p m settled w
  calm_by = record {
    quiet = quiet_as p w calm;
    bounded = bounded;
    passed = let same : settled ≤ settled = omega arith in same;
  }

  is_settled : IsSettledFrom p settled p.params.threshold w
  is_settled = settled_from p m settled w claimed calm_by already early

  measured : AllMeasureRight p.params w
  measured =
      let set : IsCalmFor (span_over m) w = record {
        pace = p;
        set = calm.of;
        quiet = quiet_as p w calm;
        late = omega (arith, already);
      } in
      measured_right p settled p.params.threshold w is_settled
      (claimed_measured w (record { pace = p; is = claimed }) (over_measured m w set already))

  pub has_reading_here : (moment : ℕ) → IsSome (reading system moment)
  has_reading_here =
      has_reading_there link direction w w' draws number done p settled steps system way phase k uses shows is_settled
      measured (carries m settled calm_by already early) come_late near leads

  pub has_base_here : (best : System) → IsBest (snapshot_of w) number best
      → (ahead : ℤ) × (base_at w.stations best.clock ≡ Some ahead)
  has_base_here =
      has_base_there link direction w w' draws number done p settled steps system way phase k uses shows is_settled
      measured (carries m settled calm_by already early) come_late near leads

  pub reads_exactly : (later error : ℕ) (read shown : ℤ) → reading system (w.time + later) ≡ Some read
      → error ≡ reading_error_at way steps later → IsBestsTime w number (w.time + later) shown
      → AreWithin error read shown
  reads_exactly =
      reads_there link direction w w' draws number done p settled steps system way phase k uses shows is_settled
      measured (carries m settled calm_by already early) come_late near leads

-- ---- every act

-- what shows at one time of a world shows at another
best_then : (w : WorldState) (time number moment : ℕ) (shown : ℤ) → IsBestsTime w number moment shown
    → IsBestsTime (at time w) number moment shown
best_then w time number moment shown is = record {
  best = is.best;
  is_best = is.is_best;
  root = is.root;
  shows = record {
    place = is.shows.place;
    station = is.shows.station;
    is = record { here = is.shows.is.here; named = is.shows.is.named };
    live = is.shows.live;
    state = is.shows.state;
  };
  is = is.is;
}

calm_then : (p : SettlingParams) (w : WorldState) (time : ℕ) → WorldIsCalm p w → WorldIsCalm p (at time w)
calm_then p w time calm = record { of = calm.of; links = calm.links; lapses = calm.lapses }

pub worlds_leave_time : {F : Type 0} (answers : Bounds → ℕ → F → Option ℕ → F → Type 0) → WorldsLeaveTime answers
worlds_leave_time answers timed fate fate_after w w' done number s all k uses shows = by timed.act k.acts
  where
    by : (act : Act) → Acts act (at timed.at w) k.draws done w' → LeavesTime timed.at s
    by (Deliver link direction) acts =
        let now = all_later w timed.at k.ready.timely.now k.ready.timely.first all in
        let u = user link direction (at timed.at w) w' k.draws number done acts uses in
        subst (LeavesTime timed.at)
        (sym (left_is link direction (at timed.at w) w' k.draws number done now.is.world.sound acts u s shows))
        (leaves_time (receiver direction u.channel).port u.message timed.at u.station.system u.after
        (used_by (receiver direction u.channel).port u.message u.octets timed.at u.station.system u.after u.sends
        u.reads u.steps))
    by (Expire name timer) (quiet, rest) = absurd (subst (UsesFollowUp number) quiet uses)
    by (Changing change) (quiet, rest) = absurd (subst (UsesFollowUp number) quiet uses)

pub worlds_read_exactly : {F : Type 0} (answers : Bounds → ℕ → F → Option ℕ → F → Type 0) → WorldsReadExactly answers
worlds_read_exactly answers timed fate fate_after w w' done all k moment p m steps number later error read shown calm
    bounded come leaves near way best =
    by timed.act k.acts
  where
    by : (act : Act) → Acts act (at timed.at w) k.draws done w' → AreWithin error read shown
    by (Deliver link direction) acts =
        let now = all_later w timed.at k.ready.timely.now k.ready.timely.first all in
        let (claimed, carries) = all_alike (at timed.at w) now p calm.of best.shows.place best.shows.station
        best.shows.is.here in
        reads_exactly link direction (at timed.at w) w' k.draws number done p m steps leaves.system way.way way.phase
        acts leaves.uses leaves.shows claimed carries (calm_then p w timed.at calm) bounded come (omega (arith, moment))
        near way.leads later error read shown leaves.is way.is
        (best_then w timed.at number (timed.at + later) shown best)
    by (Expire name timer) (quiet, rest) = absurd (subst (UsesFollowUp number) quiet leaves.uses)
    by (Changing change) (quiet, rest) = absurd (subst (UsesFollowUp number) quiet leaves.uses)

pub worlds_have_readings : {F : Type 0} (answers : Bounds → ℕ → F → Option ℕ → F → Type 0) → WorldsHaveReadings answers
worlds_have_readings answers timed fate fate_after w w' done all k moment p m steps number s way phase calm bounded come
    uses shows near leads time =
    by timed.act k.acts
  where
    by : (act : Act) → Acts act (at timed.at w) k.draws done w' → IsSome (reading s time)
    by (Deliver link direction) acts =
        let now = all_later w timed.at k.ready.timely.now k.ready.timely.first all in
        let u = user link direction (at timed.at w) w' k.draws number done acts uses in
        let (claimed, carries) = all_alike (at timed.at w) now p calm.of u.place u.station u.there in
        has_reading_here link direction (at timed.at w) w' k.draws number done p m steps s way phase acts uses shows
        claimed carries (calm_then p w timed.at calm) bounded come (omega (arith, moment)) near leads time
    by (Expire name timer) (quiet, rest) = absurd (subst (UsesFollowUp number) quiet uses)
    by (Changing change) (quiet, rest) = absurd (subst (UsesFollowUp number) quiet uses)

-- In such a world the best of a system that uses a Follow_Up has taken over, and so has a base.
pub worlds_have_bases : {F : Type 0} (answers : Bounds → ℕ → F → Option ℕ → F → Type 0) (timed : Timed)
    (fate fate_after : F) (w w' : WorldState) (done : Done) → WorldInvariant w
    → WasDone answers timed fate fate_after w w' done → timed.at ≤ 10 ^ 18 → (p : SettlingParams)
    (m steps number : ℕ) (s : SystemState) (way : Way) (phase : ℕ → ℕ) → WorldIsCalm p w
    → BoundsPaths (snapshot_of w) m → HasComeDown p m (suc steps) timed.at w → UsesFollowUp number done
    → ShowsLive number w' s → IsNear (snapshot_of w) number
    → IsWayTo (follower_parts p.params w) (snapshot_of w) (suc steps) number way phase → (best : System)
    → IsBest (snapshot_of w) number best → (ahead : ℤ) × (base_at w.stations best.clock ≡ Some ahead)
worlds_have_bases answers timed fate fate_after w w' done all k moment p m steps number s way phase calm bounded come
    uses shows near leads best is_best =
    by timed.act k.acts
  where
    by : (act : Act) → Acts act (at timed.at w) k.draws done w'
        → (ahead : ℤ) × (base_at w.stations best.clock ≡ Some ahead)
    by (Deliver link direction) acts =
        let now = all_later w timed.at k.ready.timely.now k.ready.timely.first all in
        let u = user link direction (at timed.at w) w' k.draws number done acts uses in
        let (claimed, carries) = all_alike (at timed.at w) now p calm.of u.place u.station u.there in
        has_base_here link direction (at timed.at w) w' k.draws number done p m steps s way phase acts uses shows
        claimed carries (calm_then p w timed.at calm) bounded come (omega (arith, moment)) near leads best is_best
    by (Expire name timer) (quiet, rest) = absurd (subst (UsesFollowUp number) quiet uses)
    by (Changing change) (quiet, rest) = absurd (subst (UsesFollowUp number) quiet uses)

-- each act in a world in which time is carried right leaves exact readings too
module _ {F : Type 0} (answers : Bounds → ℕ → F → Option ℕ → F → Type 0) (timed : Timed) (fate fate_after : F)
    (w w' : WorldState) (done : Done) (k : WasDone answers timed fate fate_after w w' done) (p : SettlingParams)
    (settled steps number : ℕ) (is : IsSettledFrom p settled p.params.threshold (at timed.at w))
    (right : AllMeasureRight p.params (at timed.at w))
    (carries : CarriesTime p.params settled p.params.threshold (at timed.at w))
    (late : settled + suc steps * (p.params.threshold + p.params.residence) ≤ timed.at)
    (near : IsNear (snapshot_of w) number) where
  pub carried_reads : (later error : ℕ) (read shown : ℤ) → LeavesReading number w' done (timed.at + later) read
      → IsReadingErrorOf p.params w number steps later error → IsBestsTime w number (timed.at + later) shown
      → AreWithin error read shown
  carried_reads later error read shown leaves way best = by timed.act k.acts
    where
      by : (act : Act) → Acts act (at timed.at w) k.draws done w' → AreWithin error read shown
      by (Deliver link direction) acts =
          reads_there link direction (at timed.at w) w' k.draws number done p settled steps leaves.system way.way
          way.phase acts leaves.uses leaves.shows is right carries late near way.leads later error read shown leaves.is
          way.is (best_then w timed.at number (timed.at + later) shown best)
      by (Expire name timer) (quiet, rest) = absurd (subst (UsesFollowUp number) quiet leaves.uses)
      by (Changing change) (quiet, rest) = absurd (subst (UsesFollowUp number) quiet leaves.uses)

  pub carried_have_readings : (s : SystemState) (way : Way) (phase : ℕ → ℕ) → UsesFollowUp number done
      → ShowsLive number w' s
      → IsWayTo (follower_parts p.params w) (snapshot_of w) (suc steps) number way phase
      → (moment : ℕ) → IsSome (reading s moment)
  carried_have_readings s way phase uses shows leads moment = by timed.act k.acts
    where
      by : (act : Act) → Acts act (at timed.at w) k.draws done w' → IsSome (reading s moment)
      by (Deliver link direction) acts =
          has_reading_there link direction (at timed.at w) w' k.draws number done p settled steps s way phase acts uses
          shows is right carries late near leads moment
      by (Expire name timer) (quiet, rest) = absurd (subst (UsesFollowUp number) quiet uses)
      by (Changing change) (quiet, rest) = absurd (subst (UsesFollowUp number) quiet uses)

-- a system that uses a Follow_Up is live afterwards, with the same clock
pub used_shows : {F : Type 0} (answers' : Bounds → ℕ → F → Option ℕ → F → Type 0) (timed : Timed) (fate fate_after : F)
    (w w' : WorldState) (done : Done) (number : ℕ) → WasDone answers' timed fate fate_after w w' done
    → UsesFollowUp number done → (s : SystemState) × ShowsLive number w' s
used_shows answers' timed fate fate_after w w' done number k uses = by timed.act k.acts
  where
    by : (act : Act) → Acts act (at timed.at w) k.draws done w' → (s : SystemState) × ShowsLive number w' s
    by (Deliver link direction) acts =
        let u = user link direction (at timed.at w) w' k.draws number done acts uses in
        let heard = FrameHeard (receiver direction u.channel).port u.octets in
        let same = same_clock heard timed.at u.station.system u.after u.sends answers.Used u.steps in (
          u.after,
          record {
            place = u.place;
            station = in_state u.after u.station;
            is = record { here = u.becomes; named = same ∙ u.named };
            live = u.live;
            state = refl;
          },
        )
    by (Expire name timer) (quiet, rest) = absurd (subst (UsesFollowUp number) quiet uses)
    by (Changing change) (quiet, rest) = absurd (subst (UsesFollowUp number) quiet uses)
