-- Errors of receipts are within the bounds that time errors say.
use Rattle.std.proofs.Common.{◌≡◌, ◌≤◌, ◌<◌, ◌+◌, ◌*◌, ◌^◌, ◌-ℤ◌, ℕ, zero, suc, ℤ, Bool, true, List, [], ◌∷◌, ◌++◌, nat_le, Option, Some, None, option_map, option_and_then, unsigned_abs, refl, sym, ap, subst, ◌∙◌, append_assoc, append-nil, arith}
use Rattle.std.specs.List.{AllByRecursion}
use Rattle.std.proofs.Math.Nat.{le_refl, mul-le-mul}
use Rattle.std.proofs.lemmas.Int.{ints}
use Rattle.std.proofs.lemmas.Option.{none-some, same_Some}
use Rattle.gptp_error_laws.specs.TimeError.{Way, time_error}
use Rattle.gptp_model.specs.Acts.{at}
use Rattle.gptp_model.specs.Advancing.{Happens}
use Rattle.gptp_model.specs.Views.{rising_clocks}
use Rattle.gptp_model.specs.World.{WorldState}
use Rattle.gptp_graph.specs.Best.{IsBest}
use Rattle.gptp_graph.specs.Distance.{IsDistance, IsNear}
use Rattle.gptp_graph.specs.PathBound.{BoundsPaths, path_bound}
use Rattle.gptp_graph.specs.Snapshot.{IsWellFormed, Snapshot, System}
use Rattle.gptp_graph.proofs.BestLemmas.{IsBest-reached}
use Rattle.gptp_graph.proofs.DistanceLemmas.{IsDistance-best, IsDistance-unique, best_at_zero}
use Rattle.gptp_invariants.specs.WorldCalmFor.{IsCalmFor}
use Rattle.gptp_invariants.specs.WorldSettlingInvariant.{KeepsAll}
use Rattle.gptp_invariants.specs.SyncExact.{exact_span, IsWayError, IsExactInTime}
use Rattle.gptp_invariants.specs.SyncFollowers.{follower_parts}
use Rattle.gptp_invariants.specs.WorldStanding.{snapshot_of}
use Rattle.gptp_invariants.specs.SyncTimedClaim.{WorldInvariant}
use Rattle.gptp_invariants.proofs.ChoiceCalmKeptLemmas.{acts_keep, KeepsNetwork, same_snapshot}
use Rattle.gptp_invariants.proofs.SyncExactLemmas.{receipts_are_exact}
use Rattle.gptp_invariants.proofs.SyncFollowPartLemmas.{clock_shown, same_parts}
use Rattle.gptp_invariants.proofs.WorldStandsLemmas.{stands_well}
use Rattle.gptp_links.specs.declared.bounds.Bounds.{Bounds}
use Rattle.gptp_lists.specs.Members.{In}
use Rattle.gptp_lists.proofs.SystemSpecLemmas.{slice_get-In}
use Rattle.gptp_network.specs.Document.{DocumentState}
use Rattle.gptp_network.specs.Snapshot.{events_by, StandsAfter}
use Rattle.gptp_network.proofs.LawLemmas.{one_snapshot}
use Rattle.gptp_pdelay.specs.Clock.{local_clock}
use Rattle.gptp_scenario.specs.Calm.{IsCalm, last_change}
use Rattle.gptp_scenario.specs.Network.{NetworkState, pace_of}
use Rattle.gptp_scenario.specs.SettlingTime.{settling_span_with, window_span}
use Rattle.gptp_scenario.specs.SyncWait.{sync_paths}
use Rattle.gptp_scenario.specs.declared.change.Timed.{Timed}
use Rattle.gptp_scenario.specs.declared.sync_wait.SyncPaths.{SyncPaths}
use Rattle.gptp_theorem.specs.AlikeLaws.{AreAlike}
use Rattle.gptp_theorem.specs.PlayedLaws.{IsPlayable}
use Rattle.gptp_theorem.proofs.AlikeLemmas.{distance, turned}
use Rattle.gptp_theorem.proofs.SettlingInvariantLemmas.{each_there}
use Rattle.gptp_report.specs.Transitions.{Courses, Unfolds}
use Rattle.gptp_roles.specs.Selection.{clock_of}
use Rattle.gptp_scaled.specs.Counts.{AreWithin}
use Rattle.gptp_setup.specs.Intervals.{IsLog}
use Rattle.gptp_setup.specs.SettlingParams.{largest_interval, SettlingParams}
use Rattle.gptp_setup.proofs.IntervalLemmas.{interval_positive}
use Rattle.gptp_system.specs.State.{local_time, SystemState}
use Rattle.gptp_system.specs.Takeover.{told_time}
use Rattle.gptp_accuracy.specs.TimeErrors.{AreTimeErrors}
use Rattle.gptp_accuracy.specs.TimeErrors as errors_of
use Rattle.gptp_accuracy.specs.Ways.{IsWay}
use Rattle.gptp_accuracy.specs.declared.errors.TimeErrors.{TimeErrors}
use Rattle.gptp_timeline.specs.Laws.{AreErrorsWithin, ErrorIsWithin, exact_by_span, IsExactBySpan, SayBound}
use Rattle.gptp_timeline.specs.Receipts.{offset_error}
use Rattle.gptp_timeline.specs.Shown.{live_system}
use Rattle.gptp_timeline.specs.Stretch.{at_of, error_at, receives}
use Rattle.gptp_timeline.specs.Timeline.{AreErrorsBy, now_of, TimelineOf}
use Rattle.gptp_timeline.specs.declared.timeline.TimelineOptions.{TimelineOptions}
use Rattle.gptp_timeline.proofs.BehindLemmas.{all_both}
use Rattle.gptp_timeline.proofs.ErrorLemmas.{errors_within}
use Rattle.gptp_timeline.proofs.EventLemmas.{Each, filter_each, filter_in_order}
use Rattle.gptp_timeline.proofs.HeardLemmas.{receiver_alone, received_exactly}
use Rattle.gptp_timeline.proofs.PastLemmas.{all_past, PastBy}
use Rattle.gptp_timeline.proofs.RestLemmas.{found_live, IsAtRest, lives_there, shows_live, stands_there}
use Rattle.gptp_timeline.proofs.SettlingLemmas.{act_time, alike_after, begins, bounded, calm_since, early_makes, ends_by, events_fit, events_then, IsFitEvent, Keeps, keeps_act, keeps_first, keeps_later, keeps_made, left_first, no_change, rests, span_after}
use Rattle.gptp_timeline.proofs.WayLemmas.{way_there}
use Rattle.gptp_world.specs.Transitions.{Passes, ActTrace}

-- ---- an error

-- how far an offset is from what it ought to be
pub size_within : (bound : ℕ) (offset ahead : ℤ) → AreWithin bound offset ahead → unsigned_abs (offset -ℤ ahead) ≤ bound
size_within bound offset ahead within = omega (arith, ints, within.low, within.high)

-- It is that of the offset of a live system, by its clock and that of the live system whose clock its root names.
pub record HasError (name : ℕ) (t : ActTrace) (error : ℤ) : Type 0 where
  pub own : SystemState
  pub lives : live_system name t.after ≡ Some own
  pub offset : ℤ
  pub left : own.offset ≡ Some offset
  pub leader : SystemState
  pub leads : live_system (clock_of own.root) t.after ≡ Some leader
  pub is : error ≡ offset -ℤ (local_time own (at_of t) -ℤ told_time leader (at_of t))

pub has_error : (name : ℕ) (t : ActTrace) (error : ℤ) → error_at name t ≡ Some error → HasError name t error
has_error name t error is = by_own (live_system name t.after) refl is
  where
    off_by : SystemState → ℤ → SystemState → ℤ
    off_by own offset leader = offset -ℤ (local_time own (at_of t) -ℤ told_time leader (at_of t))

    by_leader : (own : SystemState) (offset : ℤ) → live_system name t.after ≡ Some own → own.offset ≡ Some offset
        → (leader : Option SystemState) → live_system (clock_of own.root) t.after ≡ leader
        → option_map (off_by own offset) leader ≡ Some error → HasError name t error
    by_leader own offset lives left None leads none = absurd (none-some error none)
    by_leader own offset lives left (Some leader) leads same = record {
      own = own;
      lives = lives;
      offset = offset;
      left = left;
      leader = leader;
      leads = leads;
      is = sym (same_Some (off_by own offset leader) error same);
    }

    by_offset : (own : SystemState) → live_system name t.after ≡ Some own → (offset : Option ℤ) → own.offset ≡ offset
        → option_and_then (λ o. option_map (off_by own o) (live_system (clock_of own.root) t.after)) offset ≡ Some error
        → HasError name t error
    by_offset own lives None left none = absurd (none-some error none)
    by_offset own lives (Some offset) left same =
        by_leader own offset lives left (live_system (clock_of own.root) t.after) refl same

    by_own : (own : Option SystemState) → live_system name t.after ≡ own
        → option_and_then (λ s. offset_error (at_of t) s t.after) own ≡ Some error → HasError name t error
    by_own None lives none = absurd (none-some error none)
    by_own (Some own) lives same = by_offset own lives own.offset refl same

-- ---- clocks

-- what the clock of a live system shows
pub shown_by : (p : SettlingParams) (w : WorldState) → KeepsAll p w → (name : ℕ) (s : SystemState)
    → live_system name w ≡ Some s
    → (time : ℕ) → local_time s time
    ≡ local_clock ((follower_parts p.params w).phase name) ((follower_parts p.params w).drift name) time
shown_by p w claimed name s is time =
    let live = found_live name w.stations s is in
    ap (λ y. local_time y time) (sym live.state)
    ∙ clock_shown p.params w claimed.world.sound claimed.measured live.place live.station live.here time
    ∙ ap (λ c. local_clock ((follower_parts p.params w).phase c) ((follower_parts p.params w).drift c) time)
    live.is_named

-- a system with links to its best is another
pub best_apart : (g : Snapshot) (name steps : ℕ) (best : System) → IsWellFormed g → IsDistance g name (suc steps)
    → IsBest g name best → best.clock ≡ name → ⊥
best_apart g name steps best wf far is_best is =
    let own = IsBest-reached g name best.clock best wf is_best.reached is_best in
    let none : 0 ≡ suc steps = IsDistance-unique g name 0 (suc steps) wf
    (subst (λ v. IsDistance g v 0) is (IsDistance-best g best own)) far in
    cc

-- ---- times

-- a system has fewer steps than a path has systems
late_enough : (change span window from time most steps each : ℕ) → from ≡ change + span + window + most * each
    → from ≤ time → steps ≤ most → change + (span + window + steps * each) ≤ time
late_enough change span window from time most steps each is late few =
    let product : steps * each ≤ most * each = mul-le-mul few (le_refl each) in omega (arith, is, late, product)

-- settling takes some time
span_positive : (p : SettlingParams) (paths : SyncPaths) (m : ℕ) → IsLog p.largest → 1 ≤ settling_span_with p paths m
span_positive p paths m log =
    let factor : 1 ≤ (p.params.timeout + 3) * m + p.params.lost + 5 = omega arith in
    let product : 1 * 1 ≤ ((p.params.timeout + 3) * m + p.params.lost + 5) * largest_interval p =
    mul-le-mul factor (interval_positive p.largest log) in
    omega (arith, product)

-- ---- an act

module _ {F : Type 0} (answers : Bounds → ℕ → F → Option ℕ → F → Type 0) (d : DocumentState)
    (playable : IsPlayable d) (names : List ℕ) where
  abbrev pub n : NetworkState
  n = d.network

  abbrev pub pace : SettlingParams
  pace = pace_of n

  -- a world that keeps to these events
  abbrev pub StretchesSoFar : List Timed → WorldState → Type 0
  StretchesSoFar events w = Keeps answers d playable names events w

  -- what is said of a system that isn't its own root, by the network as it stands after these events
  pub record HasBound (events : List Timed) (g : Snapshot) (name from bound : ℕ) : Type 0 where
    pub calm : IsCalm n events
    pub stands : StandsAfter n events g
    pub steps : ℕ
    pub far : IsDistance g name (suc steps)
    pub near : suc steps < 255
    pub way : Way
    pub leads : IsWay n events g (suc steps) name way
    pub bound_is : bound ≡ time_error way
    pub from_is : from ≡ exact_by_span n events g

  module _ (events : List Timed) (g : Snapshot) (name from bound : ℕ) (has : HasBound events g name from bound) where
    abbrev pub span : ℕ
    span = span_after answers d playable names events g

    module _ (until : ℕ) (t : ActTrace) (fate drawn : F) (w : WorldState)
        (happens : Happens answers until t.told fate drawn w t.after) (keeps : StretchesSoFar events w)
        (late : from ≤ at_of t)
      where
        abbrev pub then : WorldState
        then = at (at_of t) w

        keeps_then : StretchesSoFar events then
        keeps_then =
            let timely = happens.was_done.ready.timely in
            keeps_later answers d playable names events w (at_of t) timely.now timely.first keeps

        keeps_after : StretchesSoFar events t.after
        keeps_after = keeps_act answers d playable names events until t fate drawn w happens keeps

        network : KeepsNetwork then t.after
        network =
            let timed = t.told.timed in
            acts_keep timed.act then happens.was_done.draws t.told.done t.after
            (no_change happens.next.item timed.act w happens.next.act) happens.was_done.acts

        pub same : snapshot_of t.after ≡ snapshot_of w
        same = same_snapshot then t.after network

        pub alike : AreAlike (snapshot_of w) g
        alike = alike_after answers d playable names events g w has.stands keeps

        pub well : IsWellFormed (snapshot_of w)
        well = let is = keeps.claimed.world in stands_well w is.sound is.between is.encodable

        pub far : IsDistance (snapshot_of w) name (suc has.steps)
        far = distance g (snapshot_of w) (turned (snapshot_of w) g alike) name (suc has.steps) has.far

        pub near : IsNear (snapshot_of w) name
        near = (suc has.steps, far, has.near)

        pub paths_bounded : BoundsPaths (snapshot_of w) (path_bound g)
        paths_bounded =
            bounded answers d playable names events (last_change events) span g has.calm has.stands (omega arith) refl w
            keeps

        few : suc has.steps ≤ path_bound g
        few =
            let (us, path, long) = far.from_best.path in
            let less = paths_bounded far.best.clock name us path in
            omega (arith, long, less)

        pub calm : (is : IsCalmFor (exact_span (path_bound g) (suc has.steps)) then) × (is.pace ≡ pace)
        calm =
            calm_since answers d playable names events (last_change events) span g has.calm has.stands (omega arith)
            refl (exact_span (path_bound g) (suc has.steps)) then keeps_then
            (late_enough (last_change events) span (window_span n.params) from (at_of t) (path_bound g)
            (suc has.steps) (n.params.threshold + n.params.residence) has.from_is late few)

        pub rest : (s : SystemState) → live_system name t.after ≡ Some s → IsAtRest (snapshot_of t.after) s
        rest s is =
            let moment = act_time answers d playable names until t fate drawn w keeps.claimed.world.sound happens in
            let from_is = has.from_is in
            rests answers d playable names events (last_change events) span g has.calm has.stands (omega arith) refl
            t.after keeps_after (omega (arith, moment, late, from_is)) name
            (subst (λ h. IsNear h name) (sym same) near) s is

        -- the act leaves clocks as they were
        same_time : (number : ℕ) (s s' : SystemState) → live_system number t.after ≡ Some s'
            → live_system number w ≡ Some s → local_time s' (at_of t) ≡ local_time s (at_of t)
        same_time number s s' behind before =
            shown_by pace t.after keeps_after.claimed number s' behind (at_of t)
            ∙ ap (λ parts. local_clock (parts.phase number) (parts.drift number) (at_of t))
            (same_parts pace.params then t.after network)
            ∙ sym (shown_by pace w keeps.claimed number s before (at_of t))

        pub all : WorldInvariant w
        all = record { pace = pace; is = keeps.claimed; carries = keeps.carries; own = keeps.own }

        error_is : IsWayError calm.0.pace.params w name (suc has.steps) bound
        error_is =
            let is = keeps.claimed.world in
            let (phase, leads) = way_there n playable.network events w keeps.stands is.sound is.encodable g alike
            (suc has.steps) name has.way well has.far has.leads in
            subst (λ (p : SettlingParams). IsWayError p.params w name (suc has.steps) bound) (sym calm.1)
            (record { way = has.way; phase = phase; leads = leads; is = has.bound_is })

        -- the best of the component, whose clock the root of the system names
        pub record HasBest (s : SystemState) : Type 0 where
          pub best : System
          pub is_best : IsBest (snapshot_of w) name best
          pub named : clock_of s.root ≡ best.clock

        pub has_best : (s : SystemState) → live_system name t.after ≡ Some s → HasBest s
        has_best s is =
            let (best, is_best, root_is) = (rest s is).settled.root in
            let (x, member, clock_is, ports, named) = stands_there t.after name s is in
            let there : IsBest (snapshot_of w) name best =
            subst (λ h. IsBest h name best) same (subst (λ v. IsBest (snapshot_of t.after) v best) named is_best) in
            record {
              best = best;
              is_best = there;
              named = ap clock_of root_is ∙ (well.identified best there.live).clock;
            }

        act_within : until ≤ 10 ^ 18 → (error : ℤ) → receives name t ≡ true → error_at name t ≡ Some error
            → unsigned_abs error ≤ bound
        act_within early error own is =
            let e = has_error name t error is in
            let in_time = happens.early in
            let clocks = keeps.claimed.world.sound.wired.clocks in
            let (x, member, clock_is, ports, named) = stands_there t.after name e.own e.lives in
            let (s, lives) = lives_there w name x clocks (subst (λ (h : Snapshot). In x h.systems) same member)
            (clock_is ∙ named) in
            let b = has_best e.own e.lives in
            let (root, leads) = lives_there w b.best.clock b.best clocks b.is_best.live refl in
            let leader : live_system b.best.clock t.after ≡ Some e.leader =
            subst (λ c. live_system c t.after ≡ Some e.leader) b.named e.leads in
            let ahead : ℤ = local_time s (at_of t) -ℤ told_time root (at_of t) in
            let exact : IsExactInTime name w (at_of t) e.offset =
            received_exactly name (at_of t) t.told.timed.act w happens.was_done.draws t.told.done t.after e.own e.offset
            happens.was_done.acts own
            (receipts_are_exact answers t.told.timed fate drawn w t.after all (omega (arith, in_time, early))
            t.told.done happens.was_done)
            (shows_live name t.after e.own e.lives) e.left in
            let within = exact (path_bound g) has.steps bound ahead calm.0 paths_bounded near error_is (record {
              own = s;
              shows = shows_live name w s lives;
              best = b.best;
              is_best = b.is_best;
              root = root;
              shows_root = shows_live b.best.clock w root leads;
              is = refl;
            }) in
            let own_time = same_time name s e.own e.lives lives in
            let still = receiver_alone name (at_of t) t.told.timed.act w happens.was_done.draws t.told.done t.after
            happens.was_done.acts own b.best.clock
            (best_apart (snapshot_of w) name has.steps b.best well far b.is_best) in
            let same_root : e.leader ≡ root = same_Some e.leader root (sym leader ∙ still ∙ leads) in
            let is_off : error ≡ e.offset -ℤ ahead =
            e.is ∙ (λ i. e.offset -ℤ (own_time i -ℤ told_time (same_root i) (at_of t))) in
            subst (λ z. unsigned_abs z ≤ bound) (sym is_off) (size_within bound e.offset ahead within)

    passes_within : (until : ℕ) (ts : List ActTrace) (fate fate_after : F) (w w' : WorldState) → until ≤ 10 ^ 18
        → Passes answers until ts fate fate_after w w' → StretchesSoFar events w
        → AllByRecursion (ErrorIsWithin name from bound) ts
    passes_within until [] fate fate_after w w' early k keeps = tt
    passes_within until (t ∷ ts) fate fate_after w w' early (drawn, before, happens, rest) keeps = (
      λ error late. act_within until t fate drawn w happens keeps late early error,
      passes_within until ts drawn fate_after t.after w' early rest
          (keeps_act answers d playable names events until t fate drawn w happens keeps),
    )

  -- ---- a stretch

  -- with events before the bounds hold
  courses_within : (before events : List Timed) (until last : ℕ) (g : Snapshot) (name from bound : ℕ)
      (ts : List ActTrace) (fate fate_after : F) (w w' : WorldState) → until ≤ 10 ^ 18 → last < from
      → Each (IsFitEvent answers d playable names) events → PastBy last events
      → HasBound (before ++ events) g name from bound → Courses answers until events ts fate fate_after w w'
      → StretchesSoFar before w → AllByRecursion (ErrorIsWithin name from bound) ts
  courses_within before [] until last g name from bound ts fate fate_after w w' early soon fit past has k keeps =
      passes_within (before ++ []) g name from bound has until ts fate fate_after w k.between early k.passes
      (subst (λ es. StretchesSoFar es w) (sym (append-nil before)) keeps)
  courses_within before (event ∷ events) until last g name from bound ts fate fate_after w w' early soon fit past has
      (first, rest, drawn, between, makes, k, is) keeps =
      let by_last = past.0 in
      subst (AllByRecursion (ErrorIsWithin name from bound)) (sym is)
      (all_both (ErrorIsWithin name from bound) first rest
      (early_makes answers d playable names (ErrorIsWithin name from bound) event first fate drawn w between
      (λ t by_then error late. absurd (omega (arith, soon, by_last, by_then, late))) makes)
      (courses_within (before ++ event ∷ []) events until last g name from bound rest drawn fate_after between w' early
      soon (λ place. fit (suc place)) past.1
      (subst (λ es. HasBound es g name from bound) (sym (append_assoc before (event ∷ []) events)) has) k
      (keeps_made answers d playable names before event first fate drawn w between (fit 0 event refl) makes keeps)))

  -- bounds hold some time after the last change
  pub holds_later : (events : List Timed) (g : Snapshot) (name from bound : ℕ) → IsLog pace.largest
      → HasBound events g name from bound → last_change events < from
  holds_later events g name from bound log has =
      let positive = span_positive pace (sync_paths n events) (path_bound g) log in
      let from_is = has.from_is in
      omega (arith, positive, from_is)

  -- what is so of all is so of those after
  pub past_behind : (time : ℕ) (before events : List Timed) → PastBy time (before ++ events) → PastBy time events
  past_behind time [] events past = past
  past_behind time (e ∷ es) events past = past_behind time es events past.1

  -- what time errors say
  pub has_bound : (time : ℕ) (errors : TimeErrors) (name from bound : ℕ) (are : AreTimeErrors d time errors)
      → IsExactBySpan d time from → SayBound errors name bound
      → HasBound (events_by time d.events) are.snapshot name from bound
  has_bound time errors name from bound are by_span says =
      by_steps says.system.steps refl
    where
      events : List Timed
      events = events_by time d.events

      g : Snapshot
      g = are.snapshot

      exact : errors_of.IsExact n events g says.system
      exact = are.systems.each says.system says.among

      error : errors_of.IsErrorOf n events g says.system (Some bound)
      error = subst (errors_of.IsErrorOf n events g says.system) says.bound_is exact.error

      exact_is : from ≡ exact_by_span n events g
      exact_is =
          by_span.is ∙ ap (exact_by_span n events) (one_snapshot d time by_span.snapshot g by_span.stands are.is)

      by_steps : (steps : ℕ) → says.system.steps ≡ steps → HasBound events g name from bound
      by_steps zero none =
          let (best, is_best, root_is) = exact.root in
          let first = best_at_zero g says.system.clock best are.network is_best
          (subst (IsDistance g says.system.clock) none exact.steps) in
          absurd (says.follows (ap clock_of root_is ∙ (are.network.identified best is_best.live).clock ∙ first))
      by_steps (suc steps) some =
          let (calm, near, capable, (way, leads, is)) = error in record {
            calm = calm;
            stands = are.is;
            steps = steps;
            far = subst (λ v. IsDistance g v (suc steps)) says.named
                (subst (IsDistance g says.system.clock) some exact.steps);
            near = subst (λ k. k < 255) some near;
            way = way;
            leads = subst (λ v. IsWay n events g (suc steps) v way) says.named
                (subst (λ k. IsWay n events g k says.system.clock way) some leads);
            bound_is = is;
            from_is = exact_is;
          }

  -- ---- a run

  -- with its events, of those of the document
  pub run_within : (until time : ℕ) (before now : List Timed) (errors : TimeErrors) (name from bound : ℕ)
      (ts : List ActTrace) (fate fate_after : F) (w w' : WorldState) → until ≤ 10 ^ 18
      → events_by time d.events ≡ before ++ now → Each (IsFitEvent answers d playable names) now
      → AreTimeErrors d time errors → IsExactBySpan d time from → SayBound errors name bound
      → Courses answers until now ts fate fate_after w w' → StretchesSoFar before w
      → (t : ActTrace) → In t ts → ErrorIsWithin name from bound t
  run_within until time before now errors name from bound ts fate fate_after w w' early are fit hold by_span says k
      keeps t member =
      let has = has_bound time errors name from bound hold by_span says in
      let last = last_change (events_by time d.events) in
      let past = all_past last (events_by time d.events)
      (filter_in_order (λ (e : Timed). nat_le e.at time) d.events playable.events.in_order) (omega arith) in
      let (place, there) = slice_get-In t ts member in
      each_there (ErrorIsWithin name from bound) ts
      (courses_within before now until last hold.snapshot name from bound ts fate fate_after w w' early
      (holds_later (events_by time d.events) hold.snapshot name from bound keeps.claimed.pace.largest has) fit
      (past_behind last before now (subst (PastBy last) are past))
      (subst (λ es. HasBound es hold.snapshot name from bound) are has) k keeps) place t there

-- ---- the laws

pub errors_are_within : {F : Type 0} (answers : Bounds → ℕ → F → Option ℕ → F → Type 0) (d : DocumentState)
    (until : ℕ) (options : TimelineOptions) (fate : F) (lines : List (List ℕ)) (exceeded : Bool)
    (t : TimelineOf answers d until options fate lines exceeded) → IsPlayable d → until ≤ 10 ^ 18
    → AreErrorsWithin d t.passages
errors_are_within answers d until options fate lines exceeded t playable early p errors name from bound member are
    by_span says =
    let clocks = rising_clocks t.start in
    let b = begins answers d playable clocks true until t.passages 0 [] (events_by until d.events) t.started
    t.fate_after t.start t.after p (left_first answers d playable clocks until)
    (keeps_first answers d playable clocks fate t.started t.start refl t.begun) t.pass member in
    let hold : AreErrorsBy d b.from p.to (Some errors) =
    subst (AreErrorsBy d b.from p.to) are b.passage.errors_are in
    let ends : p.to ≤ until =
    subst (λ to. to ≤ until) (sym b.passage.to_is) (ends_by answers d playable clocks until b.from b.before b.left
    b.is_left) in
    let each = run_within answers d playable clocks p.to b.from b.before (now_of b.from b.left) errors name from bound
    p.acts b.fate b.fate_after b.w p.after (omega (arith, ends, early))
    (events_then answers d playable clocks until b.from b.before b.left b.is_left)
    (filter_each (IsFitEvent answers d playable clocks) (λ (e : Timed). nat_le e.at b.from) b.left b.is_left.fits)
    hold.0 (subst (λ time. IsExactBySpan d time from) b.passage.from_is by_span) says
    (subst (λ es. Courses answers p.to es p.acts b.fate b.fate_after b.w p.after) b.passage.events_are
    b.passage.courses) b.keeps in
    (each, errors_within name from bound p.acts each)

pub runs_are_within : {F : Type 0} (answers : Bounds → ℕ → F → Option ℕ → F → Type 0) (d : DocumentState) (until : ℕ)
    (fate : F) (start : WorldState) (ts : List ActTrace) (w : WorldState) (errors : TimeErrors)
    (name from bound : ℕ) → IsPlayable d → until ≤ 10 ^ 18 → Unfolds answers d until fate start ts w
    → AreTimeErrors d until errors → IsExactBySpan d until from → SayBound errors name bound
    → (act : ActTrace) → In act ts → ErrorIsWithin name from bound act
runs_are_within answers d until fate start ts w errors name from bound playable early unfolds are by_span says =
    let clocks = rising_clocks start in
    run_within answers d playable clocks until until [] (events_by until d.events) errors name from bound ts
    unfolds.started unfolds.drawn start w early refl
    (filter_each (IsFitEvent answers d playable clocks) (λ (e : Timed). nat_le e.at until) d.events
    (events_fit answers d playable clocks)) are by_span says unfolds.courses
    (keeps_first answers d playable clocks fate unfolds.started start refl unfolds.begun)
