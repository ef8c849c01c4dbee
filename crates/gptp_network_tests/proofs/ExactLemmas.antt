-- The offset that the second of two systems is left by a Follow_Up is exact, as each act of their world promises.
use Rattle.std.proofs.Common.{◌≡◌, ◌≤◌, ◌+◌, ◌*◌, ◌-ℤ◌, ℕ, zero, suc, ℤ, pos, true, List, [], ◌∷◌, Option, Some, length, slice_get, refl, sym, ap, subst, ◌∙◌, inl, inr, arith}
use Rattle.std.proofs.lemmas.Int.{ints}
use Rattle.std.proofs.lemmas.Option.{none-some, same_Some}
use Rattle.gptp_error_laws.specs.TimeError.{Way, time_error}
use Rattle.gptp_error_laws.specs.WayLaws.{longer}
use Rattle.gptp_model.specs.Acts.{at}
use Rattle.gptp_model.specs.Advancing.{Advanced, Told}
use Rattle.gptp_model.specs.Course.{WasDone}
use Rattle.gptp_model.specs.declared.done.Done.{Done}
use Rattle.gptp_model.specs.declared.done.Done.TheVariants.{Heard, Quiet}
use Rattle.gptp_model.specs.declared.station.Station.{Station}
use Rattle.gptp_model.specs.Prompt.{HavePace}
use Rattle.gptp_model.specs.Sound.{IsSound}
use Rattle.gptp_model.specs.Views.{IsNextAct, ShowsLive}
use Rattle.gptp_model.specs.World.{WorldState, port_id}
use Rattle.gptp_model.proofs.AdvanceLemmas.{leaves_less}
use Rattle.gptp_model.proofs.SoundLemmas.{later_sound}
use Rattle.gptp_graph.specs.Best.{IsBest}
use Rattle.gptp_graph.specs.Distance.{IsDistance, IsNear}
use Rattle.gptp_graph.specs.Parent.{IsParent, ParentLink}
use Rattle.gptp_graph.specs.PathBound.{BoundsPaths}
use Rattle.gptp_graph.specs.SettledChoice.{IsBestIdentity}
use Rattle.gptp_graph.specs.Snapshot.{Snapshot, System, port_of}
use Rattle.gptp_graph.proofs.LinkLemmas.{Joins-sym}
use Rattle.gptp_invariants.specs.ChoiceCalm.{IsQuietWorld, sync_paths_of}
use Rattle.gptp_invariants.specs.WorldCalmFor.{IsCalmFor}
use Rattle.gptp_invariants.specs.SyncTimedClaim.{WorldInvariant}
use Rattle.gptp_invariants.specs.WorldSettlingInvariant.{SettlingInvariant}
use Rattle.gptp_invariants.specs.SyncExact.{IsAhead, IsWayError, IsExactInTime, IsHeardExact, exact_span}
use Rattle.gptp_invariants.specs.SyncFollowers.{bound_at, follower_parts}
use Rattle.gptp_invariants.specs.WorldStanding.{live_stations, snapshot_of}
use Rattle.gptp_invariants.proofs.SyncFollowPartLemmas.{bound_is, clock_shown, set_up_is}
use Rattle.gptp_invariants.proofs.WorldWayLemmas.{way_of}
use Rattle.gptp_links.specs.declared.bounds.Bounds.{Bounds}
use Rattle.gptp_lists.specs.Members.{In}
use Rattle.gptp_lists.proofs.MappedLemmas.{alike}
use Rattle.gptp_lists.proofs.SystemSpecLemmas.{slice_get-In}
use Rattle.gptp_pdelay.specs.Clock.{local_clock}
use Rattle.gptp_scenario.specs.Change.{link_after}
use Rattle.gptp_scenario.specs.Network.{IsNetwork, NetworkState, pace_of, wire}
use Rattle.gptp_scenario.specs.declared.change.Timed.{Timed}
use Rattle.gptp_scenario.specs.declared.network.LinkSpec.{LinkSpec}
use Rattle.gptp_theorem.specs.Headline.{HeadlineOnTime, WorldIsCalm, LeavesOffset}
use Rattle.gptp_theorem.specs.HeadlineLaws.{RunsAreExact, WorldsAreExact}
use Rattle.gptp_theorem.specs.PlayedLaws.{IsPlayable}
use Rattle.gptp_theorem.specs.Reached.{Shape, shape, shape_after, channel_wire}
use Rattle.gptp_theorem.proofs.CalmKeptLemmas.{no_change}
use Rattle.gptp_theorem.proofs.OwnClockLemmas.{own_told}
use Rattle.gptp_theorem.proofs.CalmLemmas.{quiet_stands, set_stands}
use Rattle.gptp_theorem.proofs.KeptLemmas.{acts_stand, time_stands}
use Rattle.gptp_theorem.proofs.SyncPathLemmas.{paths_stand}
use Rattle.gptp_roles.specs.Selection.{clock_of}
use Rattle.gptp_scaled.specs.Counts.{AreWithin}
use Rattle.gptp_setup.specs.declared.setup.Params.{Params}
use Rattle.gptp_system.specs.State.{clock, local_time}
use Rattle.gptp_system.specs.Takeover.{told_time}
use Rattle.gptp_sync_machine.specs.Tree.{IsWayTo, Parts, last_link, tree_root_way}
use Rattle.gptp_network_tests.specs.Pair.{HasBegunWith, IsPairAt, IsPairWith, IsPairWithin, RunsOfTwoAreExact, WorldsOfTwoAreExact, document_with, end_station, first_member, network_with, pace_with, pair_network, pair_snapshot, pair_way, second_member, stamped_params}
use Rattle.gptp_network_tests.proofs.PairLemmas.{bounded, follows, good_exactly, led, near, pace_is, paths_are, remains, snapshot_is, stamped_calm}

-- ---- what holds of numbers

-- clocks that show the same are not ahead of each other
none_ahead : (x y z : ℤ) → x ≡ z → y ≡ z → pos 0 ≡ x -ℤ y
none_ahead x y z own other = omega (arith, ints, own, other)

-- the link of the pair
abbrev pair_wire : LinkSpec
pair_wire = wire 0 (port_id 1 1) (port_id 2 1) 500 500 0 true

only_link : (place : ℕ) (v : LinkSpec) → slice_get pair_network.links place ≡ Some v → v ≡ pair_wire
only_link zero v there = sym (same_Some pair_wire v there)
only_link (suc place) v there = absurd (none-some v there)

-- ---- an act

-- after the next act it is the same pair
pub goes_on : {F : Type 0} (p : Params) (answers : Bounds → ℕ → F → Option ℕ → F → Type 0) (time : ℕ) (timed : Timed)
    (fate fate_after : F) (w w' : WorldState) (done : Done) → IsPairWith p time w → IsSound w → IsNextAct w timed
    → WasDone answers timed fate fate_after w w' done → IsPairWith p time w'
goes_on p answers time timed fate fate_after w w' done k sound next was =
    let timely = was.ready.timely in
    let now : IsSound (at timed.at w) = later_sound w timed.at w.last_change sound timely.first in
    let left = leaves_less next.item timed.at timed.act w was.draws done w' now next.act was.acts in
    let then : w'.time ≡ timed.at = left.is_time in
    let passed : w.time ≤ timed.at = timely.now in
    let late : time ≤ w.time = k.late in
    record {
      network = k.network;
      stands = acts_stand (network_with p) [] timed.act (at timed.at w) was.draws done w'
          (no_change next.item timed.act w next.act) was.acts (time_stands (network_with p) [] w timed.at k.stands);
      late = omega (arith, then, passed, late);
    }

-- and by the same time stamps
pub goes_on_within : {F : Type 0} (error : ℕ) (answers : Bounds → ℕ → F → Option ℕ → F → Type 0) (time : ℕ)
    (timed : Timed) (fate fate_after : F) (w w' : WorldState) (done : Done) → IsPairWithin error time w → IsSound w
    → IsNextAct w timed → WasDone answers timed fate fate_after w w' done → IsPairWithin error time w'
goes_on_within error answers time timed fate fate_after w w' done k sound next was = record {
  granularity = k.granularity;
  noise = k.noise;
  good = k.good;
  since = goes_on (stamped_params k.granularity k.noise) answers time timed fate fate_after w w' done k.since sound
      next was;
  error_is = k.error_is;
}

-- ---- the pair once all has settled

module _ (granularity noise : ℕ) (good : granularity + 2 * noise ≤ 296) (w : WorldState) (time : ℕ)
    (k : IsPairWith (stamped_params granularity noise) 27000000000 w) (sound : IsSound w)
    (claimed : SettlingInvariant w) (passed : w.time ≤ time) where
  abbrev pub both : Params
  both = stamped_params granularity noise

  abbrev pub network : NetworkState
  network = network_with both

  abbrev pub x : Parts
  x = follower_parts both w

  abbrev pub there : ParentLink
  there = record { own_port = 1; clock = 1; port = 1 }

  snapshot : snapshot_of w ≡ pair_snapshot
  snapshot = snapshot_is both w k.stands sound

  pub of_pair : (P : Snapshot → Type 0) → P pair_snapshot → P (snapshot_of w)
  of_pair P = subst P (sym snapshot)

  quiet : IsQuietWorld both w
  quiet = quiet_stands network [] w k.network k.stands sound (stamped_calm granularity noise good)

  pub late : w.last_change + exact_span 2 1 (pace_with both) (sync_paths_of w) (length (snapshot_of w).systems) ≤ time
  late =
      let since : 27000000000 ≤ w.time = k.late in
      subst (λ paths. w.last_change + exact_span 2 1 (pace_with both) paths (length (snapshot_of w).systems) ≤ time)
      (sym (paths_are both) ∙ paths_stand network [] w k.network k.stands sound)
      (rw k.stands.last (omega (arith, since, passed)))

  have_pace : HavePace (pace_of network) w
  have_pace place station here = (set_stands network [] w k.stands claimed place station here).starts

  abbrev calm : IsCalmFor (exact_span 2 1) (at time w)
  calm = record {
    pace = pace_with both;
    set = subst (λ p. HavePace p w) (pace_is both) have_pace;
    quiet = record { links = quiet.links; lapses = quiet.lapses };
    late = late;
  }

  pub few : BoundsPaths (snapshot_of w) 2
  few = of_pair (λ g. BoundsPaths g 2) bounded

  parent : IsParent (snapshot_of w) 2 there
  parent = of_pair (λ g. IsParent g 2 there) (follows.parent refl)

  -- ---- its numbers

  module _ (place number identity : ℕ) (stands : slice_get network.systems place ≡ Some (end_station identity))
      (is : clock_of identity ≡ number) where
    pub found : (station : Station) × (slice_get w.stations place ≡ Some station)
        × (shape station ≡ shape_after network [] (end_station identity))
    found = alike shape (shape_after network []) w.stations network.systems k.stands.systems place
        (end_station identity) stands

    named : clock found.0.system ≡ number
    named =
        sym (sound.wired.setups place found.0 found.1).named
        ∙ ap (λ (s : Shape). clock_of s.setup.identity) found.2 ∙ is

    pub shows : ShowsLive number w found.0.system
    shows = record {
      place = place;
      station = found.0;
      is = record { here = found.1; named = named };
      live = ap (λ (s : Shape). s.live) found.2;
      state = refl;
    }

    drift_is : x.drift number ≡ pos 0
    drift_is =
        ap x.drift (sym named)
        ∙ set_up_is (λ setup. setup.drift) (pos 0) w sound.wired.clocks place found.0 found.1
        ∙ ap (λ (s : Shape). s.setup.drift) found.2

    phase_is : x.phase number ≡ 0
    phase_is =
        ap x.phase (sym named)
        ∙ set_up_is (λ setup. setup.phase) 0 w sound.wired.clocks place found.0 found.1
        ∙ ap (λ (s : Shape). s.setup.phase) found.2

    pub time_is : (t : ℕ) → local_time found.0.system t ≡ local_clock 0 (pos 0) t
    time_is t =
        clock_shown both w sound claimed.is.measured place found.0 found.1 t
        ∙ ap (λ c. local_clock (x.phase c) (x.drift c) t) named
        ∙ (λ i. local_clock (phase_is i) (drift_is i) t)

  bound_there : (f : Bounds → ℕ)
      → bound_at f (live_stations w.stations) w.net.channels (port_of 2 1) ≡ f pair_wire.bounds
  bound_there f =
      let way = way_of w (port_of 1 1) (port_of 2 1)
      (Joins-sym (snapshot_of w) (port_of 2 1) (port_of 1 1) parent.nearer.joins) in
      let (v, at_place, same) = alike (link_after []) channel_wire network.links w.net.channels
      (sym k.stands.links)
      way.link way.channel way.here in
      ap (bound_at f (live_stations w.stations) w.net.channels) (sym way.to)
      ∙ bound_is f w sound claimed.is.world.encodable way.link way.direction way.channel way.here way.used
      ∙ ap (λ (l : LinkSpec). f l.bounds) (sym same) ∙ ap (λ (l : LinkSpec). f l.bounds) (only_link way.link v at_place)

  -- ---- its way

  abbrev pub way : Way
  way = longer (tree_root_way x 1) (last_link x 2 there)

  pub phases : ℕ → ℕ
  phases zero = x.phase 1
  phases (suc i) = x.phase 2

  pub leads : IsWayTo x (snapshot_of w) 1 2 way phases
  unfolding phases
  leads = (there, tree_root_way x 1, parent, (of_pair (λ g. IsDistance g 1 0) led.steps, refl, refl), refl, refl)

  pub way_is : way ≡ pair_way granularity noise
  way_is =
      let root = drift_is 0 1 first_member refl refl in
      let own = drift_is 1 2 second_member refl refl in
      let least = bound_there (λ b. b.min) in
      let most = bound_there (λ b. b.max) in
      λ i. record {
        drift = root i;
        links = record { least = least i; most = most i; drift = own i } ∷ [];
        blur = granularity + 2 * noise;
        behind = 32768 * granularity;
        interval = 1000000000;
        turnaround = 1000;
        residence = 1000;
      }

  error : IsWayError both w 2 1 (time_error (pair_way granularity noise))
  error = record { way = way; phase = phases; leads = leads; is = sym (ap time_error way_is) }

  -- ---- its clocks

  pub first_is : (best : System) → In best pair_snapshot.systems → first_member ≡ best.identity → 1 ≡ best.clock
  first_is best (inl same) is = sym (ap (λ (s : System). s.clock) same)
  first_is best (inr (inl same)) is =
      let other : first_member ≡ second_member = is ∙ ap (λ (s : System). s.identity) same
      in absurd (omega (arith, other))
  first_is best (inr (inr none)) is = absurd none

  -- what the first tells
  pub first_tells : WorldInvariant w → (t : ℕ)
      → told_time (found 0 1 first_member refl refl).0.system t ≡ local_clock 0 (pos 0) t
  first_tells all t =
      let root = found 0 1 first_member refl refl in
      own_told network [] w 0 (end_station first_member) root.0 t k.stands all refl root.1 refl
      ∙ time_is 0 1 first_member refl refl t

  ahead : WorldInvariant w → IsAhead w 2 time (pos 0)
  ahead all =
      let (best, is_best, is) : IsBestIdentity pair_snapshot 2 first_member = follows.root in
      let own = found 1 2 second_member refl refl in
      let root = found 0 1 first_member refl refl in
      record {
        own = own.0.system;
        shows = shows 1 2 second_member refl refl;
        best = best;
        is_best = of_pair (λ g. IsBest g 2 best) is_best;
        root = root.0.system;
        shows_root = subst (λ c. ShowsLive c w root.0.system) (first_is best is_best.live is)
            (shows 0 1 first_member refl refl);
        is = none_ahead (local_time own.0.system time) (told_time root.0.system time) (local_clock 0 (pos 0) time)
            (time_is 1 2 second_member refl refl time) (first_tells all time);
      }

  -- ---- its offset

  exact : WorldInvariant w → (offset : ℤ) → IsExactInTime 2 w time offset
      → AreWithin (time_error (pair_way granularity noise)) offset (pos 0)
  exact all offset promised =
      promised 2 0 (time_error (pair_way granularity noise)) (pos 0) calm few (of_pair (λ g. IsNear g 2) near) error
      (ahead all)

  -- what the theorem asks
  pub calm_pair : WorldIsCalm (pace_with both) w
  calm_pair = record {
    of = calm.set;
    links = λ link member used.
        let (place, there) = slice_get-In link w.net.channels member in
        let is = quiet.links place link there used in (is.lossless, is.good);
    lapses = quiet.lapses;
  }

  -- so it is by what the theorem says of an act
  exact_by_theorem : WorldInvariant w → (w' : WorldState) (done : Done) (offset : ℤ)
      → HeadlineOnTime w time w' done → LeavesOffset 2 offset w' done
      → AreWithin (time_error (pair_way granularity noise)) offset (pos 0)
  exact_by_theorem all w' done offset promised left =
      promised (pace_with both) 2 0 2 (time_error (pair_way granularity noise)) offset (pos 0) calm_pair few
      (omega (arith, late)) left (of_pair (λ g. IsNear g 2) near) error (ahead all)

pub worlds_exact : {F : Type 0} (granularity noise : ℕ) → granularity + 2 * noise ≤ 296
    → (answers : Bounds → ℕ → F → Option ℕ → F → Type 0) → WorldsAreExact answers
    → WorldsOfTwoAreExact answers (stamped_params granularity noise) (time_error (pair_way granularity noise))
worlds_exact granularity noise good answers theorem timed fate fate_after w w' done offset k all was early left =
    exact_by_theorem granularity noise good w timed.at k all.is.world.sound (record { pace = all.pace; is = all.is })
    was.ready.timely.now all w' done offset
    (theorem timed fate fate_after w w' done all was (omega (arith, early))) left

-- the document of the pair can be played
pub playable : (p : Params) → IsNetwork (network_with p) → IsPlayable (document_with p)
playable p network = record {
  network = network;
  events = record { in_order = tt; each = tt };
  octets = λ place event there. absurd (none-some event there);
}

pub runs_exact : {F : Type 0} (granularity noise : ℕ) → granularity + 2 * noise ≤ 296
    → (answers : Bounds → ℕ → F → Option ℕ → F → Type 0) → RunsAreExact answers
    → RunsOfTwoAreExact answers (stamped_params granularity noise) (time_error (pair_way granularity noise))
runs_exact granularity noise good answers theorem until fate start w ts t offset early unfolds in_ts k all passed left =
    exact_by_theorem granularity noise good t.before t.told.timed.at k all.is.world.sound
    (record { pace = all.pace; is = all.is }) passed all t.after t.told.done offset
    (theorem (document_with (stamped_params granularity noise)) until fate start w ts t
    (playable (stamped_params granularity noise) k.network) (omega (arith, early)) unfolds in_ts)
    left

pub second_is_exact : (most : ℕ) (w : WorldState) (time : ℕ) (w' : WorldState) (done : Done) (offset : ℤ)
    → IsPairWithin most 27000000000 w → WorldInvariant w → w.time ≤ time
    → IsHeardExact w time w' done → LeavesOffset 2 offset w' done → AreWithin most offset (pos 0)
second_is_exact most w time w' Quiet offset k all passed promised left = absurd left.uses
second_is_exact most w time w' (Heard number port answer frame) offset k all passed promised left =
    let (named, used, (message, reads)) = left.uses in
    let shows = subst (λ n. ShowsLive n w' left.system) (sym named) left.shows in
    subst (λ e. AreWithin e offset (pos 0)) (sym k.error_is)
    (exact k.granularity k.noise k.good w time k.since all.is.world.sound (record { pace = all.pace; is = all.is })
    passed all offset
    (subst (λ n. IsExactInTime n w time offset) named (promised message left.system offset reads used shows left.is)))

-- by exact time stamps the error is but rounding
pub exact_pair : (w : WorldState) → IsPairAt 27125000499 w → IsPairWithin 19 27000000000 w
exact_pair w at =
    let late : 27125000499 ≤ w.time = at.since.late in
    record {
      granularity = 0;
      noise = 0;
      good = good_exactly;
      since = record { network = at.since.network; stands = at.since.stands; late = omega (arith, late) };
      error_is = refl;
    }

-- those of 8 ns with 4 ns of noise are good enough
pub good_by_8 : 8 + 2 * 4 ≤ 296
good_by_8 = omega arith

-- by them the error is 2097811 units
pub stamped_pair : {F : Type 0} (answers : Bounds → ℕ → F → Option ℕ → F → Type 0) (fate fate_after : F)
    (told : List Told) (start w : WorldState) → HasBegunWith (stamped_params 8 4) answers fate start
    → Advanced answers 27125000499 told fate fate_after start w → IsPairWithin 2097811 27000000000 w
stamped_pair answers fate fate_after told start w k advanced =
    let at = remains (stamped_params 8 4) answers fate fate_after told 27125000499 start w k advanced in
    let late : 27125000499 ≤ w.time = at.late in
    record {
      granularity = 8;
      noise = 4;
      good = good_by_8;
      since = record { network = at.network; stands = at.stands; late = omega (arith, late) };
      error_is = refl;
    }
