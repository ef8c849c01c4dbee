-- Offsets are exact in every world of a network, once it has been calm for long enough.
use Rattle.std.proofs.Common.{◌≡◌, ◌≤◌, ◌+◌, ◌*◌, ◌^◌, ℕ, suc, ℤ, ◌-ℤ◌, List, Option, Some, length, slice_get, refl, sym, ap, subst, ◌∙◌, arith}
use Rattle.gptp_graph.specs.Best.{IsBest}
use Rattle.gptp_graph.specs.Distance.{IsNear}
use Rattle.gptp_graph.specs.Parent.{IsParent}
use Rattle.gptp_graph.specs.PathBound.{BoundsPaths}
use Rattle.gptp_scaled.specs.Counts.{AreWithin}
use Rattle.gptp_messages.specs.declared.follow_up.FollowUp.{FollowUp}
use Rattle.gptp_messages.specs.declared.message.Message.TheVariants as messages
use Rattle.gptp_messages.specs.Grammar.{Reads}
use Rattle.gptp_links.specs.declared.bounds.Bounds.{Bounds}
use Rattle.gptp_links.specs.declared.link.Direction.{Direction}
use Rattle.gptp_links.specs.Fate.{Draw}
use Rattle.gptp_setup.specs.declared.setup.Params.{Params}
use Rattle.gptp_setup.specs.SettlingParams.{SettlingParams}
use Rattle.gptp_scenario.specs.Allowed.{IsFitAct}
use Rattle.gptp_scenario.specs.declared.change.Act.{Act}
use Rattle.gptp_scenario.specs.declared.change.Act.TheVariants.{Deliver, Expire, Change as Changing}
use Rattle.gptp_scenario.specs.declared.change.Timed.{Timed}
use Rattle.gptp_scenario.specs.Network.{IsNetwork, NetworkState, pace_of}
use Rattle.gptp_scenario.specs.SettlingTime.{settling_span_with, window_span}
use Rattle.gptp_system.specs.declared.answer.Answer.TheVariants as answers
use Rattle.gptp_system.specs.State.{SystemState, clock, local_time}
use Rattle.gptp_system.specs.Takeover.{told_time}
use Rattle.gptp_error_laws.specs.TimeError.{time_error_at}
use Rattle.gptp_model.proofs.SoundLemmas.{acts_sound}
use Rattle.gptp_model.specs.Acts.{Acts, TellsHearing, at}
use Rattle.gptp_model.specs.Course.{Begun, WasDone}
use Rattle.gptp_model.specs.declared.done.Done.{Done}
use Rattle.gptp_model.specs.declared.done.Done.TheVariants.{Quiet, Heard}
use Rattle.gptp_model.specs.declared.station.Station.{Station}
use Rattle.gptp_model.specs.Initial.{initial}
use Rattle.gptp_model.specs.Pending.{NothingBefore}
use Rattle.gptp_model.specs.Prompt.{HavePace, DelaysFitIntervals}
use Rattle.gptp_model.specs.Sound.{IsSound}
use Rattle.gptp_model.specs.Views.{ShowsLive}
use Rattle.gptp_model.specs.World.{WorldState, port_id}
use Rattle.gptp_sync_machine.proofs.TreeLemmas.{way_ends_at_parent, way_leads_to}
use Rattle.gptp_sync_machine.specs.Follower.{from}
use Rattle.gptp_sync_machine.specs.Tree.{IsWayTo}
use Rattle.gptp_invariants.specs.ChoiceCalm.{IsQuietWorld, clock_place, sync_paths_of}
use Rattle.gptp_invariants.specs.WorldCalmFor.{IsCalmFor}
use Rattle.gptp_invariants.specs.WorldSettlingInvariant.{SettlingInvariant, KeepsAll}
use Rattle.gptp_invariants.specs.SyncExact.{IsAhead, IsWayError, IsHeardExact, exact_span}
use Rattle.gptp_invariants.specs.SyncFollowers.{HasWay, follower_clock, follower_setting, follower_parts, stamps_of}
use Rattle.gptp_invariants.specs.WorldEncodableLaws.{SetsAnOctet}
use Rattle.gptp_invariants.specs.WorldStanding.{snapshot_of}
use Rattle.gptp_invariants.specs.SyncTimedClaim.{WorldInvariant, CarriesWhereCalm, IsCalmBy}
use Rattle.gptp_invariants.specs.SyncTimedLaws.{IsRootOf}
use Rattle.gptp_invariants.proofs.ChoiceCalmKeptLemmas.{acts_keep}
use Rattle.gptp_invariants.proofs.WorldClaimLemmas.{claim_begins, claim_kept, claim_later}
use Rattle.gptp_invariants.proofs.SyncFollowClaimLemmas.{calm_offsets_are_exact, carries_begins, carries_kept, carries_later, settled_from}
use Rattle.gptp_invariants.proofs.SyncOwnClockLemmas.{own_begins, own_kept}
use Rattle.gptp_invariants.proofs.SyncFollowWayLemmas.{Follows, follows_parent}
use Rattle.gptp_invariants.proofs.ChoiceFoundLemmas.{place_is}

-- ---- all that is claimed

pub all_begins : {F : Type 0} (answers : Bounds → ℕ → F → Option ℕ → F → Type 0) (n : NetworkState)
    (fate fate_after : F) (w : WorldState) → IsNetwork n → IsSound (initial n)
    → Begun answers n fate fate_after w → WorldInvariant w
all_begins answers n fate fate_after w network sound k = record {
  pace = pace_of n;
  is = claim_begins answers n fate fate_after w network sound k;
  carries = carries_begins answers n fate fate_after w network sound k;
  own = own_begins answers n fate fate_after w k;
}

pub all_later : (w : WorldState) (time : ℕ) → w.time ≤ time → NothingBefore time w.net.pending → WorldInvariant w
    → WorldInvariant (at time w)
all_later w time later first all = record {
  pace = all.pace;
  is = claim_later all.pace w time later first all.is;
  carries = carries_later all.pace w time later first all.is all.carries;
  own = all.own;
}

pub all_kept : {F : Type 0} (answers : Bounds → ℕ → F → Option ℕ → F → Type 0) (timed : Timed)
    (fate fate_after : F) (w w' : WorldState) (done : Done) → IsFitAct timed.act → DelaysFitIntervals w timed.act
    → SetsAnOctet timed.act → WasDone answers timed fate fate_after w w' done → WorldInvariant w → WorldInvariant w'
all_kept answers timed fate fate_after w w' done fit prompt octet k all = record {
  pace = all.pace;
  is = claim_kept answers all.pace timed fate fate_after w w' done fit prompt octet k all.is;
  carries = carries_kept answers all.pace timed fate fate_after w w' done fit prompt octet k all.is all.carries;
  own = own_kept answers timed fate fate_after w w' done k all.own;
}

-- it holds what every world keeps
pub claimed_of : (w : WorldState) → WorldInvariant w → SettlingInvariant w
claimed_of w all = record { pace = all.pace; is = all.is }

-- a world with a system has the parameters and the largest interval that its systems start with
pub all_alike : (w : WorldState) → WorldInvariant w → (p : SettlingParams) → HavePace p w → (place : ℕ)
    (station : Station)
    → slice_get w.stations place ≡ Some station → KeepsAll p w × CarriesWhereCalm p w
all_alike w all p have place station here =
    let known = (all.is.world.known.set place station here).starts in
    let is = have place station here in
    let params = sym known.params ∙ is.params in
    let largest = sym known.largest ∙ is.largest in
    subst (λ q. KeepsAll q w × CarriesWhereCalm q w)
    (λ i. record { params = params i; largest = largest i }) (all.is, all.carries)

-- ---- at another time

-- a system has the same way at another time
pub error_then : (p : Params) (w : WorldState) (time number steps error : ℕ) → IsWayError p w number steps error
    → IsWayError p (at time w) number steps error
error_then p w time number steps error way =
    record { way = way.way; phase = way.phase; leads = way.leads; is = way.is }

-- and the same state
pub shows_then : (w : WorldState) (time number : ℕ) (s : SystemState) → ShowsLive number w s
    → ShowsLive number (at time w) s
shows_then w time number s shows = record {
  place = shows.place;
  station = shows.station;
  is = record { here = shows.is.here; named = shows.is.named };
  live = shows.live;
  state = shows.state;
}

pub ahead_then : (w : WorldState) (number time : ℕ) (amount : ℤ) → IsAhead w number time amount
    → IsAhead (at time w) number time amount
ahead_then w number time amount is = record {
  own = is.own;
  shows = shows_then w time number is.own is.shows;
  best = is.best;
  is_best = is.is_best;
  root = is.root;
  shows_root = shows_then w time is.best.clock is.root is.shows_root;
  is = is.is;
}

-- ---- a frame that a system uses

-- where a system stands after a delivery it stood before
pub stood : (link : ℕ) (direction : Direction) (w : WorldState) (draws : List Draw) (done : Done) (w' : WorldState)
    → IsSound w → Acts (Deliver link direction) w draws done w' → (place place' : ℕ) (station station' : Station)
    → slice_get w.stations place ≡ Some station → slice_get w'.stations place' ≡ Some station'
    → clock station'.system ≡ clock station.system → place' ≡ place
stood link direction w draws done w' sound k place place' station station' here there same =
    let act = Deliver link direction in
    let keeps = acts_keep act w draws done w' tt k in
    place_is w' (acts_sound act w draws done w' sound tt k).wired.clocks place' station' there
    ∙ ap (clock_place w'.stations) same ∙ keeps.places (clock station.system)
    ∙ sym (place_is w sound.wired.clocks place station here)

module _ (link : ℕ) (direction : Direction) (w w' : WorldState) (draws : List Draw) (number port : ℕ)
    (octets : List ℕ) (done : Done) (p : SettlingParams) (m steps error : ℕ) (ahead offset : ℤ) (s : SystemState)
    (k : Acts (Deliver link direction) w draws done w')
    (tells : TellsHearing (port_id number port) (Some answers.Used) octets done)
    (message : FollowUp) (reads : Reads octets (messages.FollowUp message)) (shows : ShowsLive number w' s)
    (left : s.offset ≡ Some offset) (claimed : KeepsAll p w) (carries : CarriesWhereCalm p w)
    (calm : IsCalmFor (exact_span m (suc steps)) w) (of_pace : calm.pace ≡ p) (early : w.time ≤ 10 ^ 18)
    (bounded : BoundsPaths (snapshot_of w) m) (near : IsNear (snapshot_of w) number)
    (way : IsWayError p.params w number (suc steps) error) (is_ahead : IsAhead w number w.time ahead) where
  abbrev settled : ℕ
  settled = w.last_change + settling_span_with p (sync_paths_of w) m + window_span p.params

  calm_by : IsCalmBy p m settled w
  calm_by = record {
    quiet = subst (λ (q : SettlingParams). IsQuietWorld q.params w) of_pace calm.quiet;
    bounded = bounded;
    passed = let same : settled ≤ settled = omega arith in same;
  }

  late : settled + suc steps * (p.params.threshold + p.params.residence) ≤ w.time
  late =
      let span : SettlingParams → ℕ = λ q. exact_span m (suc steps) q (sync_paths_of w)
      (length (snapshot_of w).systems) in
      let passed = subst (λ q. w.last_change + span q ≤ w.time) of_pace calm.late in
      omega (arith, passed)

  already : settled ≤ w.time
  already = let passed = late in omega (arith, passed)

  followed : Follows w is_ahead.shows.place is_ahead.shows.station
  followed =
      let parent = way.leads.0 in
      let its = is_ahead.shows in
      let named = sym its.is.named in
      follows_parent p settled p.params.threshold w (settled_from p m settled w claimed calm_by already early)
      its.place its.station its.is.here its.live (subst (IsNear (snapshot_of w)) named near) parent
      (subst (λ n. IsParent (snapshot_of w) n parent) named way.leads.2)

  named_so : follower_clock followed.at w followed.follower ≡ number
  named_so = followed.named ∙ is_ahead.shows.is.named

  abbrev has_way : HasWay p.params followed.at w followed.follower steps
  has_way = record {
    way = way.way;
    phase = way.phase;
    stamps = stamps_of w.stations (follower_clock followed.at w followed.follower);
    stamped = refl;
    is = subst (λ n. IsWayTo (follower_parts p.params w) (snapshot_of w) (suc steps) n way.way way.phase) (sym named_so)
        way.leads;
  }

  root : IsRootOf w (follower_clock followed.at w followed.follower) is_ahead.shows_root.station
  root = record {
    place = is_ahead.shows_root.place;
    here = is_ahead.shows_root.is.here;
    best = is_ahead.best;
    is_best = subst (λ n. IsBest (snapshot_of w) n is_ahead.best) (sym named_so) is_ahead.is_best;
    named = is_ahead.shows_root.is.named;
  }

  there : slice_get w'.stations followed.at.answering ≡ Some shows.station
  there =
      let its = is_ahead.shows in
      let same = stood link direction w draws done w' claimed.world.sound k its.place shows.place its.station
      shows.station its.is.here shows.is.here (shows.is.named ∙ sym its.is.named) in
      ap (slice_get w'.stations) (followed.own_place ∙ sym same) ∙ shows.is.here

  from_then : from (follower_setting p.params settled p.params.threshold followed.at w followed.follower steps has_way)
      ≤ w.time
  from_then =
      let residence = (way_ends_at_parent.common (follower_parts p.params w) (snapshot_of w) (suc steps) number way.way
      way.phase way.leads).2 in
      subst (λ r. settled + suc steps * (p.params.threshold + r) ≤ w.time) (sym residence) late

  pub used_exactly : AreWithin error offset ahead
  used_exactly =
      let told : TellsHearing (port_id (follower_clock followed.at w followed.follower) port)
      (Some answers.Used) octets done =
      subst (λ n. TellsHearing (port_id n port) (Some answers.Used) octets done) (sym named_so) tells in
      let exact = calm_offsets_are_exact p m settled link direction w draws done w' followed.at followed.follower steps
      port octets is_ahead.shows_root.station shows.station offset has_way k told (message, reads) claimed carries
      calm_by early from_then root there (ap (λ (x : SystemState). x.offset) (sym shows.state) ∙ left) in
      let long = way_leads_to.long (follower_parts p.params w) (snapshot_of w)
      (suc steps) number way.way way.phase way.leads
      in
      let own : is_ahead.own ≡ followed.follower.own.station.system =
      is_ahead.shows.state ∙ ap (λ (x : Station). x.system) (sym followed.own_is) in
      let clocks : ahead
      ≡ local_time followed.follower.own.station.system w.time
      -ℤ told_time is_ahead.shows_root.station.system w.time =
      is_ahead.is
      ∙ (λ i. local_time (own i) w.time -ℤ told_time (is_ahead.shows_root.state i) w.time) in
      subst (λ e. AreWithin e offset ahead) (ap (time_error_at way.way) (sym long) ∙ sym way.is)
      (subst (AreWithin (time_error_at way.way (suc steps)) offset) (sym clocks) exact)

-- ---- every act

module _ {F : Type 0} (answers : Bounds → ℕ → F → Option ℕ → F → Type 0) (timed : Timed) (fate fate_after : F)
    (w w' : WorldState) (all : WorldInvariant w) (early : timed.at ≤ 10 ^ 18) where
  abbrev then : WorldState
  then = at timed.at w

  delivered : (link : ℕ) (direction : Direction) (draws : List Draw) (done : Done) → WorldInvariant then
      → Acts (Deliver link direction) then draws done w' → IsHeardExact w timed.at w' done
  delivered link direction draws Quiet all k = tt
  delivered link direction draws (Heard number port answer frame) all k = λ message s offset reads used shows left m
      steps error ahead calm bounded near way is_ahead.
      let its = is_ahead.shows in
      let (claimed, carries) = all_alike then all calm.pace calm.set its.place its.station its.is.here in
      used_exactly link direction then w' draws number port frame.items (Heard number port answer frame) calm.pace m
      steps error ahead offset s k (refl, refl, used, refl) message reads shows left claimed carries calm refl early
      bounded near (error_then calm.pace.params w timed.at number (suc steps) error way)
      (ahead_then w number timed.at ahead is_ahead)

  pub receipts_are_exact : (done : Done) → WasDone answers timed fate fate_after w w' done
      → IsHeardExact w timed.at w' done
  receipts_are_exact done k = by timed.act k.acts
    where
      by : (act : Act) → Acts act then k.draws done w' → IsHeardExact w timed.at w' done
      by (Deliver link direction) acts =
          delivered link direction k.draws done
          (all_later w timed.at k.ready.timely.now k.ready.timely.first all) acts
      by (Expire number timer) (quiet, rest) = rw quiet tt
      by (Changing change) (quiet, rest) = rw quiet tt
