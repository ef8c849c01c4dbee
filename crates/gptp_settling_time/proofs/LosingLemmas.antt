-- The events of one time take something away: what a world keeps through each of them, so that the claim after a loss
-- begins once the last is made.
use Rattle.std.proofs.Common.{◌≡◌, ◌≤◌, ◌+◌, ℕ, suc, Bool, true, false, List, [], ◌∷◌, Some, slice_get, refl, sym, ap, subst, ◌∙◌, inl, inr, arith}
use Rattle.std.specs.Prelude.{if◌then◌else◌, max}
use Rattle.std.proofs.Math.Nat.{max-le}
use Rattle.gptp_lists.specs.Members.{In}
use Rattle.gptp_lists.proofs.SystemSpecLemmas.{In-map, from_map}
use Rattle.gptp_graph.specs.Snapshot.{PortIdentity, System, clocks}
use Rattle.gptp_links.specs.Queue.{Frame}
use Rattle.gptp_links.specs.declared.bounds.Bounds.{Bounds}
use Rattle.gptp_links.specs.declared.link.Direction.{Direction}
use Rattle.gptp_scenario.specs.Calm.{NothingLapses}
use Rattle.gptp_scenario.specs.Params.{KeepPace}
use Rattle.gptp_setup.specs.SettlingParams.{SettlingParams}
use Rattle.gptp_model.specs.World.{Channel, WorldState, sender, world_queue}
use Rattle.gptp_bmca_machine.specs.Facts.{NetworkSetting, StationFacts}
use Rattle.gptp_bmca_machine.specs.Frame.{Announce, AnnounceFrame, Lane}
use Rattle.gptp_invariants.specs.ChoiceCalm.{HaveQuietLinks, delay_in, greatest_channel_delay}
use Rattle.gptp_invariants.specs.ChoiceSettlesAsMachine.{IsWorld}
use Rattle.gptp_invariants.specs.ChoiceView.{frame_view, lane_view, port_identity_number, says_announce, view}
use Rattle.gptp_invariants.specs.DelayMeasured.{LinkIsMeasured}
use Rattle.gptp_invariants.specs.WorldNews.{AreReadyBy, AreSilentBy}
use Rattle.gptp_invariants.specs.WorldSound.{IsSoundWorld}
use Rattle.gptp_invariants.specs.WorldStanding.{channel_is_used, live_stations, snapshot_of, stations_have_clock}
use Rattle.gptp_invariants.proofs.ChoiceSeenLaneLemmas.{IsLaneAt, lane_from, lane_there}
use Rattle.gptp_invariants.proofs.DelayLinkLemmas.{receiver_same}
use Rattle.gptp_invariants.proofs.WorldGreatestDelayLemmas.{delay_of_used}
use Rattle.gptp_invariants.proofs.WorldNewsActLemmas.{ready_later}
use Rattle.gptp_invariants.proofs.WorldSystemLemmas.{clock_from, clock_there}
use Rattle.gptp_settling_time.proofs.AlwaysClaimedLemmas.{IsStanding}
use Rattle.gptp_settling_time.proofs.ClearsLemmas.{ready_asked}
use Rattle.gptp_settling_time.proofs.LeftClaimedLemmas.{HaveAskedBy}
use Rattle.gptp_settling_time.proofs.LiveTracesLemmas.{TellersLive}
use Rattle.gptp_settling_time.proofs.LostClaimedLemmas.{IsLostAlways, loss_facts, loss_setting, lost_begins}
use Rattle.gptp_settling_time.proofs.StaySilentLemmas.{GoesSilent}
use Rattle.gptp_invariants.specs.DelayLinkView.{LinkPlace}
use Rattle.gptp_invariants.specs.FailedUnanswered.{StandsUnanswered}

-- ---- a greatest delay

-- it is at most what no link in use exceeds
pub delay_most : (systems : List System) (channels : List Channel) (most : ℕ)
    → ((link : ℕ) (channel : Channel) → slice_get channels link ≡ Some channel
    → channel_is_used systems channel ≡ true → channel.bounds.max ≤ most)
    → greatest_channel_delay systems channels ≤ most
delay_most systems [] most each = omega arith
delay_most systems (first ∷ channels) most each =
    by (channel_is_used systems first) refl
    (delay_most systems channels most (λ link channel there used. each (suc link) channel there used))
  where
    by : (used : Bool) → channel_is_used systems first ≡ used → greatest_channel_delay systems channels ≤ most
        → (if used then max first.bounds.max (greatest_channel_delay systems channels)
        else greatest_channel_delay systems channels) ≤ most
    by true used rest = max-le (each 0 first refl used) rest
    by false unused rest = rest

-- ---- what is left

-- a link that was in use before, with these bounds
pub record WasUsed (w : WorldState) (link : ℕ) (new : Channel) : Type 0 where
  pub old : Channel
  pub here : slice_get w.net.channels link ≡ Some old
  pub used : channel_is_used (live_stations w.stations) old ≡ true
  pub bounds : old.bounds ≡ new.bounds

-- its ends were the same, and all that is in flight from it in this direction was so before
pub record HadFlight (w : WorldState) (link : ℕ) (direction : Direction) (new : Channel) : Type 0 where
  pub old : Channel
  pub here : slice_get w.net.channels link ≡ Some old
  pub a : new.a ≡ old.a
  pub b : new.b ≡ old.b
  pub fewer : (f : Frame) → In f (world_queue direction new) → In f (world_queue direction old)

-- By such an event no system comes to live, and no link to be in use; and who doesn't live then tells nothing more.
-- Ports at links are ready as they were.
pub record TakesAway (p : SettlingParams) (since silent : ℕ) (w w' : WorldState) : Type 0 where
  pub time : w'.time ≡ w.time
  pub world : IsWorld p w'
  pub measured : LinkIsMeasured w'
  pub quiet : AreSilentBy p silent w'
  pub goes : (at : LinkPlace) → StandsUnanswered at w' → GoesSilent p at w w'
  pub ready : AreReadyBy p since w'
  pub lived : (v : ℕ) → In v (clocks (snapshot_of w')) → In v (clocks (snapshot_of w))
  pub used : (link : ℕ) (new : Channel) → slice_get w'.net.channels link ≡ Some new
      → channel_is_used (live_stations w'.stations) new ≡ true → WasUsed w link new
  pub flight : (link : ℕ) (direction : Direction) (new : Channel) → slice_get w'.net.channels link ≡ Some new
      → (In (sender direction new).clock (clocks (snapshot_of w')) → ⊥) → HadFlight w link direction new

-- so no greatest delay gets greater
pub takes_shorter : (p : SettlingParams) (since silent : ℕ) (w w' : WorldState) → TakesAway p since silent w w'
    → delay_in w' ≤ delay_in w
takes_shorter p since silent w w' by =
    delay_most (live_stations w'.stations) w'.net.channels (delay_in w) (λ link channel here used.
    let was = by.used link channel here used in
    let less = delay_of_used (live_stations w.stations) w.net.channels link was.old was.here was.used in
    let same = ap (λ (b : Bounds). b.max) was.bounds in
    omega (arith, less, same))

-- ---- between the events

-- ports that asked before a time asked before each later one
pub asked_by : (start since : ℕ) (w : WorldState) → start ≤ since → HaveAskedBy start w → HaveAskedBy since w
asked_by start since w past asked at stands =
    let (first, by, before, x) = asked at stands in (first, by, omega (arith, before, past), x)

-- What is so of a world at that time, between two of the events. Ports at links asked before a start.
pub record IsLosing (p : SettlingParams) (start since most silent : ℕ) (w : WorldState) : Type 0 where
  pub standing : IsStanding p silent w
  pub asked : HaveAskedBy start w
  pub past : start ≤ since
  pub quiet : HaveQuietLinks p.params w
  pub off : NothingLapses p.params
  pub now : w.time ≡ since
  pub short : delay_in w ≤ most
  pub tellers : TellersLive says_announce (loss_setting p since most (snapshot_of w)) (view w)

-- so it is where all that is held and in flight is sound
pub sound_losing : (p : SettlingParams) (start since most silent : ℕ) (w : WorldState) → KeepPace p → IsWorld p w
    → LinkIsMeasured w → IsSoundWorld w → AreReadyBy p start w → AreSilentBy p start w → HaveQuietLinks p.params w
    → NothingLapses p.params → w.time ≡ since → start ≤ since → since ≤ silent → delay_in w ≤ most
    → IsLosing p start since most silent w
sound_losing p start since most silent w pace world measured sound ready silent_by quiet off now past later short =
    record {
      standing = record {
        pace = pace;
        world = world;
        measured = measured;
        silent = (ready_later p start silent w (omega (arith, past, later)) ready silent_by).1;
      };
      asked = ready_asked p start w world (omega (arith, past, now)) ready;
      past = past;
      quiet = quiet;
      off = off;
      now = now;
      short = short;
      tellers = λ j l f a there flies said known late. (sound.lanes j l there f a flies said).sender;
    }

-- and where something was taken away at that time
pub lost_losing : (p : SettlingParams) (start since most silent : ℕ) (w : WorldState)
    → IsLostAlways p since most silent w → HaveAskedBy start w → start ≤ since → w.time ≡ since
    → IsLosing p start since most silent w
lost_losing p start since most silent w is asked past now = record {
  standing = is.standing;
  asked = asked;
  past = past;
  quiet = is.quiet;
  off = is.off;
  now = now;
  short = is.short;
  tellers = is.told.tellers;
}

-- ---- an event

module _ (p : SettlingParams) (start since most silent : ℕ) (w w' : WorldState)
    (is : IsLosing p start since most silent w) (by : TakesAway p start silent w w') where
  quiet' : HaveQuietLinks p.params w'
  quiet' link channel here used =
      let was = by.used link channel here used in
      let x = is.quiet link was.old was.here was.used in
      let bounds = was.bounds in
      record { lossless = rw⁻¹ bounds x.lossless; good = rw⁻¹ bounds x.good }

  short' : delay_in w' ≤ most
  short' = let short = is.short in let less = takes_shorter p start silent w w' by in omega (arith, short, less)

  now' : w'.time ≡ since
  now' = by.time ∙ is.now

  abbrev k : NetworkSetting
  k = loss_setting p since most (snapshot_of w)

  facts : StationFacts k (view w)
  facts = loss_facts p since most silent w is.standing (asked_by start since w is.past is.asked) is.quiet is.short

  -- what is in flight from a system that doesn't live any more comes in time
  module _ (j : ℕ) (l' : Lane) (f : AnnounceFrame) (a : Announce) (there : slice_get (view w').lanes j ≡ Some l')
      (flies : In f l'.frames) (said : says_announce f.octets a)
      (known : In l'.to.clock (clocks (snapshot_of w'))) (late : since + 1 + most ≤ f.due)
      (dead : In l'.from.clock (clocks (snapshot_of w')) → ⊥) where
    at : IsLaneAt w'.net.channels j l'
    at = lane_from w'.net.channels j l' there

    had : HadFlight w at.link at.direction at.channel
    had = by.flight at.link at.direction at.channel at.here (λ lives. dead
        (subst (λ (x : Lane). In x.from.clock (clocks (snapshot_of w'))) (sym at.is) lives))

    abbrev l : Lane
    l = lane_view at.direction had.old

    stood : slice_get (view w).lanes j ≡ Some l
    stood = ap (slice_get (view w).lanes) at.at ∙ lane_there w.net.channels at.link at.direction had.old had.here

    flew : In f l.frames
    flew =
        let (frame, among, is_frame) = from_map frame_view f (world_queue at.direction at.channel)
        (subst (λ (x : Lane). In f x.frames) at.is flies) in
        subst (λ x. In x l.frames) is_frame
        (In-map frame_view frame (world_queue at.direction had.old) (had.fewer frame among))

    to : l'.to ≡ l.to
    to =
        ap (λ (x : Lane). x.to) at.is
        ∙ ap port_identity_number (receiver_same at.direction had.old at.channel had.a had.b)

    none : ⊥
    none =
        let known_before = by.lived l.to.clock
        (subst (λ (x : PortIdentity). In x.clock (clocks (snapshot_of w'))) to known) in
        let told = is.tellers j l f a stood flew said known_before late in
        let joins = facts.linked j l f stood flew told known_before in
        let now = is.now in
        elim (facts.fresh j l f stood flew joins) [
          | inl soon ↦ omega (arith, soon, late, now)
          | inr early ↦ omega (arith, early, late)
        ]

  tellers' : TellersLive says_announce (loss_setting p since most (snapshot_of w')) (view w')
  tellers' j l' f a there flies said known late =
      go (stations_have_clock (live_stations w'.stations) l'.from.clock) refl
    where
      go : (lives : Bool) → stations_have_clock (live_stations w'.stations) l'.from.clock ≡ lives
          → In l'.from.clock (clocks (snapshot_of w'))
      go true has = clock_from (live_stations w'.stations) l'.from.clock has
      go false hasnt =
          absurd (none j l' f a there flies said known late (λ lives.
          let has = clock_there (live_stations w'.stations) l'.from.clock lives in
          let both : true ≡ false = sym has ∙ hasnt in
          cc))

  -- so it goes on
  pub takes_losing : IsLosing p start since most silent w'
  takes_losing = record {
    standing = record { pace = is.standing.pace; world = by.world; measured = by.measured; silent = by.quiet };
    asked = let now = now' in let past = is.past in ready_asked p start w' by.world (omega (arith, now, past)) by.ready;
    past = is.past;
    quiet = quiet';
    off = is.off;
    now = now';
    short = short';
    tellers = tellers';
  }

-- The claim begins there.
pub losing_lost : (p : SettlingParams) (start since most silent : ℕ) (w : WorldState)
    → IsLosing p start since most silent w → w.last_change ≡ since → IsLostAlways p since most silent w
losing_lost p start since most silent w is change =
    lost_begins p since most silent w is.standing (asked_by start since w is.past is.asked) is.quiet is.off change
    is.now is.short is.tellers
