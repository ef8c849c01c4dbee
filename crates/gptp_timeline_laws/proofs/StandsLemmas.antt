-- How a calm network is at a moment of a stretch once it has settled: each near system follows the best of its
-- component.
use Rattle.std.proofs.Common.{◌≡◌, ◌≤◌, ◌+◌, ◌^◌, ℕ, zero, suc, nat_le, Bool, List, [], ◌∷◌, ◌++◌, length, Option, Some, None, refl, sym, ap, subst, ◌∙◌, append-nil, arith}
use Rattle.std.specs.List.{AllByRecursion}
use Rattle.gptp_graph.specs.Best.{IsBest}
use Rattle.gptp_graph.specs.Distance.{IsDistance, IsNear}
use Rattle.gptp_graph.specs.PathBound.{BoundsPaths, path_bound}
use Rattle.gptp_graph.specs.Snapshot.{IsWellFormed, Snapshot, System}
use Rattle.gptp_graph.proofs.BestLemmas.{IsBest-unique}
use Rattle.gptp_graph.proofs.DistanceLemmas.{best_at_zero, IsDistance-clock}
use Rattle.gptp_graph.proofs.ParentLemmas.{parent_exists}
use Rattle.gptp_graph.proofs.SystemLemmas.{system_of}
use Rattle.gptp_bmca_machine.specs.Settled.{IsSlaveOf}
use Rattle.gptp_invariants.specs.ChoiceCalm.{IsQuietWorld, sync_paths_of}
use Rattle.gptp_invariants.specs.ChoiceSettled.{IsSettledSystem, Settled}
use Rattle.gptp_invariants.specs.WorldCalmFor.{IsCalmFor, span_over}
use Rattle.gptp_invariants.specs.WorldStanding.{snapshot_of}
use Rattle.gptp_invariants.proofs.ChoiceSettlesAsMachineLemmas.{paths_bound}
use Rattle.gptp_invariants.proofs.WorldSettlingInvariantLemmas.{settled_by_paths}
use Rattle.gptp_invariants.proofs.WorldStandsLemmas.{stands_well}
use Rattle.gptp_links.specs.declared.bounds.Bounds.{Bounds}
use Rattle.gptp_lists.proofs.SystemSpecLemmas.{slice_get-In}
use Rattle.gptp_model.specs.Acts.{at}
use Rattle.gptp_model.specs.Views.{rising_clocks}
use Rattle.gptp_model.specs.World.{WorldState}
use Rattle.gptp_network.specs.Document.{DocumentState}
use Rattle.gptp_network.specs.Snapshot.{events_by, StandsAfter}
use Rattle.gptp_network.specs.Span.{IsBound}
use Rattle.gptp_network.proofs.InUseLemmas.{paths_are}
use Rattle.gptp_report.specs.Transitions.{Courses, Passes}
use Rattle.gptp_scenario.specs.Calm.{IsCalm, last_change}
use Rattle.gptp_scenario.specs.Network.{pace_of}
use Rattle.gptp_scenario.specs.SettlingTime.{settling_span_with}
use Rattle.gptp_scenario.specs.SyncWait.{sync_paths}
use Rattle.gptp_scenario.specs.declared.change.Timed.{Timed}
use Rattle.gptp_settling_time.proofs.MomentLemmas.{last_by}
use Rattle.gptp_setup.specs.SettlingParams.{SettlingParams}
use Rattle.gptp_system.specs.State.{clock, SystemState}
use Rattle.gptp_theorem.specs.AlikeLaws.{AreAlike}
use Rattle.gptp_theorem.specs.Headline.{HasPassed, WorldIsCalm}
use Rattle.gptp_theorem.specs.PlayedLaws.{IsPlayable}
use Rattle.gptp_theorem.specs.Reached.{StandsAsPlanned}
use Rattle.gptp_theorem.proofs.AlikeLemmas.{best, distance, turned}
use Rattle.gptp_theorem.proofs.CalmLemmas.{quiet_stands}
use Rattle.gptp_theorem.proofs.KeptLemmas.{acts_stand, time_stands}
use Rattle.gptp_theorem.proofs.SnapshotLemmas.{snapshots_stand}
use Rattle.gptp_theorem.proofs.SyncPathLemmas.{paths_stand}
use Rattle.gptp_reading.proofs.HeardLemmas.{AreTimed, timed_act, timed_begins, timed_later}
use Rattle.gptp_timeline.specs.Looks.{events_left}
use Rattle.gptp_timeline.specs.Shown.{live_system}
use Rattle.gptp_timeline.specs.Stretch.{at_of}
use Rattle.gptp_timeline.specs.Timeline.{Carried, none_carried, now_of, StretchTrace, TimelineOf, tracks}
use Rattle.gptp_timeline.specs.declared.timeline.TimelineOptions.{TimelineOptions}
use Rattle.gptp_timeline.proofs.EventLemmas.{Each, filter_each}
use Rattle.gptp_timeline.proofs.RestLemmas.{found_live, lives_there}
use Rattle.gptp_timeline.proofs.SettlingLemmas.{events_then, IsFitEvent, Keeps, no_change}
use Rattle.gptp_timeline_laws.specs.Moments.{BeginsWith, Moment, world_after}
use Rattle.gptp_timeline_laws.proofs.CourseLemmas.{parted, parts, world_on}
use Rattle.gptp_timeline_laws.proofs.MomentLemmas.{timeline_found}
use Rattle.gptp_timeline_laws.proofs.PartLemmas.{EarlyBy, moment_so}
use Rattle.gptp_world.specs.Transitions.{ActTrace}

-- ---- the network at a moment of a stretch

module _ {F : Type 0} (answers : Bounds → ℕ → F → Option ℕ → F → Type 0) (d : DocumentState)
    (playable : IsPlayable d) (names : List ℕ) where
  -- it stands as it did
  passes_stand : (events : List Timed) (until : ℕ) (us vs : List ActTrace) (fate fate_after : F) (w w' : WorldState)
      → Passes answers until (us ++ vs) fate fate_after w w' → StandsAsPlanned d.network events w
      → StandsAsPlanned d.network events (world_after us w)
  passes_stand events until [] vs fate fate_after w w' k stands = stands
  passes_stand events until (t ∷ us) vs fate fate_after w w' (drawn, before, happens, rest) stands =
      passes_stand events until us vs drawn fate_after t.after w' rest
      (acts_stand d.network events t.told.timed.act (at (at_of t) w) happens.was_done.draws t.told.done t.after
      (no_change happens.next.item t.told.timed.act w happens.next.act) happens.was_done.acts
      (time_stands d.network events w (at_of t) stands))

  moment_stands : (before es : List Timed) (to : ℕ) (acts done ahead : List ActTrace) (fate fate_after : F)
      (w after : WorldState) → Each (IsFitEvent answers d playable names) es → Keeps answers d playable names before w
      → Courses answers to es acts fate fate_after w after → acts ≡ done ++ ahead → events_left done (length es) ≡ 0
      → StandsAsPlanned d.network (before ++ es) (world_after done w)
  moment_stands before [] to acts done ahead fate fate_after w after fits keeps k are none =
      passes_stand (before ++ []) to done ahead fate fate_after w k.between
      (subst (λ us. Passes answers to us fate fate_after w k.between) are k.passes)
      (subst (λ es. StandsAsPlanned d.network es w) (sym (append-nil before)) keeps.stands)
  moment_stands before (e ∷ es) to acts done ahead fate fate_after w after fits keeps k are none =
      let p = parts answers d playable names before e es [] to acts fate fate_after w after fits keeps k in
      let b = parted (length (e ∷ es)) p.head p.tail done ahead p.ends (sym p.are ∙ are) none in
      let world : world_after done w ≡ world_after b.more p.middle =
      ap (λ us. world_after us w) b.done_is ∙ world_on p.head b.more w ∙ ap (world_after b.more) (p.leads w) in
      subst (StandsAsPlanned d.network (before ++ e ∷ es)) (sym world)
      (passes_stand (before ++ e ∷ es) to b.more ahead p.drawn fate_after p.middle p.passes.between
      (subst (λ us. Passes answers to us p.drawn fate_after p.middle p.passes.between) b.tail_is p.passes.passes)
      p.keeps.stands)

  -- ---- a calm network

  module _ (events : List Timed) (acts : List ActTrace) (v : WorldState)
      (stands : StandsAsPlanned d.network events v) (timed : AreTimed (pace_of d.network) acts v)
      (calm : IsCalm d.network events) where
    abbrev pace : SettlingParams
    pace = pace_of d.network

    pub same_paths : sync_paths d.network events ≡ sync_paths_of v
    same_paths = paths_stand d.network events v playable.network stands timed.claimed.world.sound

    pub quiet : IsQuietWorld d.network.params v
    quiet = quiet_stands d.network events v playable.network stands timed.claimed.world.sound calm

    pub world_calm : WorldIsCalm pace v
    world_calm = record {
      of = λ place station here. (timed.claimed.world.known.set place station here).starts;
      links = λ link member used.
          (let (place, there) = slice_get-In link v.net.channels member in
          let is = quiet.links place link there used in (is.lossless, is.good));
      lapses = quiet.lapses;
    }

    pub alike : (g : Snapshot) → StandsAfter d.network events g → AreAlike (snapshot_of v) g
    alike g planned =
        let is = snapshots_stand d.network events v g stands timed.claimed.world.sound planned in
        record { systems = is.0; links = is.1 }

    -- the span of the network has passed
    abbrev pub IsOver : Type 0
    IsOver =
        last_change events
        + settling_span_with pace (sync_paths d.network events) (sync_paths d.network events).systems
        ≤ v.time

    pub bounded : BoundsPaths (snapshot_of v) (path_bound (snapshot_of v))
    bounded = paths_bound pace v timed.claimed.world

    pub has_passed : IsOver → HasPassed pace (path_bound (snapshot_of v)) v
    has_passed over =
        subst (λ paths. v.last_change + settling_span_with pace paths paths.systems ≤ v.time) same_paths
        (subst (λ change. change
        + settling_span_with pace (sync_paths d.network events) (sync_paths d.network events).systems
        ≤ v.time) (sym stands.last) over)

    -- so it has settled
    pub settled_then : IsOver → Settled v
    settled_then over =
        let is : IsCalmFor (span_over (path_bound (snapshot_of v))) v = record {
          pace = pace;
          set = λ place station here. (timed.claimed.world.known.set place station here).starts;
          quiet = quiet;
          late = has_passed over;
        } in
        settled_by_paths (path_bound (snapshot_of v)) v (record { pace = pace; is = timed.claimed }) bounded is

    pub well : IsWellFormed (snapshot_of v)
    well = let world = timed.claimed.world in stands_well v world.sound world.between world.encodable

    -- what the snapshot of the document says of a system is so
    module _ (g : Snapshot) (planned : StandsAfter d.network events g) (name : ℕ) (near : IsNear g name) where
      back : AreAlike g (snapshot_of v)
      back = turned (snapshot_of v) g (alike g planned)

      pub near_then : IsNear (snapshot_of v) name
      near_then = (near.0, distance g (snapshot_of v) back name near.0 near.1, near.2)

      pub best_then : (b : System) → IsBest g name b → IsBest (snapshot_of v) name b
      best_then b is_best = best g (snapshot_of v) back name b is_best

      -- it is settled
      pub settles_then : IsOver → (s : SystemState) → live_system name v ≡ Some s
          → IsSettledSystem (snapshot_of v) s × (clock s ≡ name)
      settles_then over s lives =
          let live = found_live name v.stations s lives in (
            subst (IsSettledSystem (snapshot_of v)) live.state
                (settled_then over live.place live.station live.here live.live
                (subst (IsNear (snapshot_of v)) (sym live.is_named) near_then)),
            ap clock (sym live.state) ∙ live.is_named,
          )

      -- and follows the best
      pub root_then : IsOver → (b : System) → IsBest g name b → (s : SystemState) → live_system name v ≡ Some s
          → s.root ≡ b.identity
      root_then over b is_best s lives =
          let (choice, named) = settles_then over s lives in
          let (a, is_a, is) = choice.root in
          let same : a ≡ b =
          IsBest-unique (snapshot_of v) name a b well (subst (λ n. IsBest (snapshot_of v) n a) named is_a)
          (best_then b is_best) in
          is ∙ ap (λ (x : System). x.identity) same

      pub lives_then : (s : SystemState) × (live_system name v ≡ Some s)
      lives_then =
          let (x, member, named) = system_of (snapshot_of v) name
          (IsDistance-clock (snapshot_of v) name near_then.0 well near_then.1) in
          lives_there v name x timed.claimed.world.sound.wired.clocks member named

      -- over a Slave port, where it isn't the best itself
      pub slave_then : IsOver → (b : System) → IsBest g name b → (b.clock ≡ name → ⊥) → (s : SystemState)
          → live_system name v ≡ Some s → (port : ℕ) × (s.slave ≡ Some port)
      slave_then over b is_best other s lives = by s.slave refl near_then.0 near_then.1
        where
          by : (slave : Option ℕ) → s.slave ≡ slave → (steps : ℕ) → IsDistance (snapshot_of v) name steps
              → (port : ℕ) × (s.slave ≡ Some port)
          by (Some port) is steps far = (port, is)
          by None is zero far = absurd (other (best_at_zero (snapshot_of v) name b well (best_then b is_best) far))
          by None is (suc steps) far =
              let (choice, named) = settles_then over s lives in
              let (l, parent) = parent_exists (snapshot_of v) name steps well far in
              absurd (subst (λ n. IsSlaveOf (snapshot_of v) n None) named
              (subst (IsSlaveOf (snapshot_of v) (clock s)) is choice.slave) l parent)

-- ---- a moment of a stretch of a timeline

-- What was done before the stretch; and of all acts by then who was heard, and how the network stands.
pub record StandsSo (d : DocumentState) (p : StretchTrace) (w : WorldState) (time : ℕ) (done : List ActTrace)
    : Type 0 where
  pub before : List ActTrace
  pub early : AllByRecursion (EarlyBy p.from) before
  pub timed : AreTimed (pace_of d.network) (before ++ done) (at time (world_after done w))
  pub stands : StandsAsPlanned d.network (events_by p.from d.events) (at time (world_after done w))

pub stands_so : {F : Type 0} (answers : Bounds → ℕ → F → Option ℕ → F → Type 0) (d : DocumentState) (until : ℕ)
    (options : TimelineOptions) (fate : F) (lines : List (List ℕ)) (exceeded : Bool)
    (t : TimelineOf answers d until options fate lines exceeded) (playable : IsPlayable d) → until ≤ 10 ^ 18
    → (p : StretchTrace) (w : WorldState) (c : Carried) (time : ℕ) (moment : Moment p time)
    → BeginsWith t.passages t.start (none_carried (tracks options) (rising_clocks t.start)) p w c
    → StandsSo d p w time moment.done
stands_so answers d until options fate lines exceeded t playable ends p w c time moment begins =
    let names = rising_clocks t.start in
    let n = d.network in
    let b = timeline_found answers d until options fate lines exceeded t playable p w c begins in
    let k = moment_so answers d until options fate lines exceeded t playable ends (AreTimed (pace_of n))
    (λ acts timed done v v' act so. timed_act answers (pace_of n) acts timed done v v' act so)
    (λ acts v later on first so. timed_later (pace_of n) acts v later on first so)
    (timed_begins answers n fate t.started t.start playable.network t.begun) p w c time moment begins in
    let are = events_then answers d playable names until b.from b.before b.left b.is_left in
    let fits = filter_each (IsFitEvent answers d playable names) (λ (x : Timed). nat_le x.at b.from) b.left
    b.is_left.fits in
    let stood = moment_stands answers d playable names b.before (now_of b.from b.left) p.to p.acts moment.done
    moment.ahead b.fate b.fate_after w p.after fits b.keeps
    (subst (λ es. Courses answers p.to es p.acts b.fate b.fate_after w p.after) b.passage.events_are b.passage.courses)
    moment.are (subst (λ es. events_left moment.done (length es) ≡ 0) b.passage.events_are moment.no_event_left) in
    record {
      before = k.before;
      early = k.early;
      timed = k.so;
      stands = subst (λ es. StandsAsPlanned n es (at time (world_after moment.done w)))
          (sym are ∙ ap (λ from. events_by from d.events) (sym b.passage.from_is))
          (time_stands n (b.before ++ now_of b.from b.left) (world_after moment.done w) time stood);
    }

-- where the bound of the stretch is over, the span has passed
pub span_over_then : (d : DocumentState) (from bound time : ℕ) → IsPlayable d → IsBound d from (Some bound)
    → from + bound ≤ time
    → last_change (events_by from d.events)
    + settling_span_with (pace_of d.network) (sync_paths d.network (events_by from d.events))
    (sync_paths d.network (events_by from d.events)).systems
    ≤ time
span_over_then d from bound time playable bounds late =
    let events = events_by from d.events in
    let paths = sync_paths d.network events in
    let span = bounds.1 in
    let systems : paths.systems ≡ path_bound span.snapshot =
    paths_are d.network playable.network events span.snapshot span.stands in
    let same : settling_span_with (pace_of d.network) paths paths.systems ≡ bound =
    ap (settling_span_with (pace_of d.network) paths) systems ∙ sym span.is in
    up_to (last_change events) from (settling_span_with (pace_of d.network) paths paths.systems) bound time
    (last_by from d.events) same late
  where
    up_to : (last from span bound time : ℕ) → last ≤ from → span ≡ bound → from + bound ≤ time → last + span ≤ time
    up_to last from span bound time soon same late = omega arith
