-- Where a stretch has a bound nothing changes after it, if every live system is near.
use Rattle.std.proofs.Common.{◌≡◌, ◌⊎◌, ◌≤◌, ◌+◌, ◌-◌, ℕ, suc, Bool, true, false, nat_le, List, [], ◌∷◌, ◌++◌, ◌≢◌, length, nat_lt, Option, Some, None, IfSome, option_map, inl, inr, refl, sym, ap, subst, ◌∙◌, append_assoc, append-nil, arith}
use Rattle.std.specs.List.{AllByRecursion}
use Rattle.std.proofs.lemmas.Bool.Decides.{nat_tests}
use Rattle.gptp_model.specs.Acts.{at}
use Rattle.gptp_model.specs.Advancing.{Happens}
use Rattle.gptp_model.specs.Course.{Begun}
use Rattle.gptp_model.specs.Prompt.{NoneFaster}
use Rattle.gptp_model.specs.Sound.{IsSound}
use Rattle.gptp_model.specs.Views.{IsActOf, rising_clocks}
use Rattle.gptp_graph.specs.Distance.{IsNear}
use Rattle.gptp_theorem.proofs.AlikeLemmas.{path, turned}
use Rattle.gptp_system.specs.State.{SystemState}
use Rattle.gptp_timeline.proofs.BehindLemmas.{all_both, IsStill, last_choice, last_roles, ShowsTheSame, StillBehind}
use Rattle.gptp_timeline.proofs.NameLemmas.{acts_named, AreNamed, first_names, same_named}
use Rattle.gptp_timeline.proofs.PastLemmas.{by_past, by_sooner, last_past, past_both, past_later, PastBy}
use Rattle.gptp_model.specs.World.{WorldState}
use Rattle.gptp_model.specs.declared.item.Item.{Item}
use Rattle.gptp_model.specs.declared.item.Item.TheVariants.{Arrival, Expiry}
use Rattle.gptp_model.specs.Pending.{NothingBefore}
use Rattle.gptp_model.proofs.AdvanceLemmas.{leaves_less, next_fits, nothing_sooner}
use Rattle.gptp_model.proofs.PromptLemmas.{begun_none_faster, next_prompt, prompt_within, stays_none_faster}
use Rattle.gptp_model.proofs.SoundLemmas.{later_sound}
use Rattle.gptp_model.proofs.StayLemmas.{done_stays}
use Rattle.gptp_graph.specs.PathBound.{BoundsPaths, path_bound}
use Rattle.gptp_graph.specs.Snapshot.{clocks, IsWellFormed, Snapshot, System}
use Rattle.gptp_graph.proofs.PathBoundLemmas.{paths_within}
use Rattle.gptp_invariants.specs.WorldCalmFor.{IsCalmFor, span_over}
use Rattle.gptp_invariants.specs.WorldSettlingInvariant.{KeepsAll}
use Rattle.gptp_invariants.specs.WorldEncodableLaws.{SetsAnOctet}
use Rattle.gptp_invariants.specs.ChoiceSeenLaws.{IsNoChange}
use Rattle.gptp_invariants.specs.WorldStanding.{snapshot_of}
use Rattle.gptp_invariants.specs.SyncOwnClock.{TellAsSetUp}
use Rattle.gptp_invariants.specs.SyncTimedClaim.{CarriesWhereCalm}
use Rattle.gptp_invariants.proofs.ChoiceCalmKeptLemmas.{acts_keep, same_snapshot}
use Rattle.gptp_invariants.proofs.WorldClaimLemmas.{claim_begins, claim_kept, claim_later}
use Rattle.gptp_invariants.proofs.SyncFollowClaimLemmas.{carries_begins, carries_kept, carries_later}
use Rattle.gptp_invariants.proofs.SyncOwnClockLemmas.{own_begins, own_kept}
use Rattle.gptp_invariants.proofs.WorldStandsLemmas.{stands_well}
use Rattle.gptp_links.specs.declared.bounds.Bounds.{Bounds}
use Rattle.gptp_lists.specs.Members.{In}
use Rattle.gptp_lists.proofs.SystemSpecLemmas.{In-map}
use Rattle.gptp_network.specs.Document.{DocumentState}
use Rattle.gptp_network.specs.Events.{AreInOrder, IsEvent}
use Rattle.gptp_network.specs.Snapshot.{events_by, StandsAfter}
use Rattle.gptp_network.specs.Span.{IsBound}
use Rattle.gptp_network.proofs.EventLemmas.{events_allowed, events_prompt}
use Rattle.gptp_network.proofs.SnapshotLemmas.{In-permutation}
use Rattle.gptp_network.proofs.SnapshotLemmas as snapshots
use Rattle.gptp_scenario.specs.Allowed.{IsFitAct}
use Rattle.gptp_scenario.specs.Calm.{IsCalm, last_change}
use Rattle.gptp_scenario.specs.Network.{pace_of, smallest_of}
use Rattle.gptp_scenario.specs.Prompt.{DelayFitsInterval}
use Rattle.gptp_scenario.specs.SettlingTime.{settling_span_with}
use Rattle.gptp_scenario.specs.SyncWait.{sync_paths}
use Rattle.gptp_scenario.specs.declared.change.Act.{Act}
use Rattle.gptp_scenario.specs.declared.change.Act.TheVariants.{Change as Changing}
use Rattle.gptp_scenario.specs.declared.change.Change.{Change}
use Rattle.gptp_scenario.specs.declared.change.Timed.{Timed}
use Rattle.gptp_scenario.specs.declared.sync_wait.SyncPaths.{SyncPaths}
use Rattle.gptp_scenario.proofs.LogLemmas.{smallest_log}
use Rattle.gptp_theorem.specs.AlikeLaws.{AreAlike}
use Rattle.gptp_theorem.specs.PlayedLaws.{IsPlayable}
use Rattle.gptp_theorem.specs.Reached.{StandsAsPlanned}
use Rattle.gptp_theorem.proofs.BeginLemmas.{begun_stands}
use Rattle.gptp_theorem.proofs.CalmLemmas.{quiet_stands}
use Rattle.gptp_theorem.proofs.ChangeLemmas.{changes_stand}
use Rattle.gptp_theorem.proofs.SettlingInvariantLemmas.{each_there}
use Rattle.gptp_theorem.proofs.KeptLemmas.{acts_stand, time_stands}
use Rattle.gptp_theorem.proofs.SnapshotLemmas.{snapshots_stand}
use Rattle.gptp_theorem.proofs.SyncPathLemmas.{paths_stand}
use Rattle.gptp_world.specs.Transitions.{Passes, PassesTo, ActTrace, transition}
use Rattle.gptp_report.specs.Transitions.{Courses, Makes}
use Rattle.gptp_setup.specs.Intervals.{interval_of}
use Rattle.gptp_setup.specs.SettlingParams.{SettlingParams}
use Rattle.gptp_world.proofs.SettlingInvariantLemmas.{next_octet}
use Rattle.gptp_world.proofs.InitialLemmas.{initial_sound}
use Rattle.gptp_timeline.specs.Laws.{AllNear, Settle}
use Rattle.gptp_timeline.specs.Passing.{first_time}
use Rattle.gptp_timeline.specs.Shown.{live_system, same_choice, same_roles, shown}
use Rattle.gptp_timeline.specs.Stretch.{at_of}
use Rattle.gptp_timeline.specs.Timeline.{AllPass, end_before, IsPassage, later_than, now_of, StretchTrace, TimelineOf}
use Rattle.gptp_timeline.specs.declared.timeline.TimelineOptions.{TimelineOptions}
use Rattle.gptp_timeline.proofs.EventLemmas.{Each, ends_first, ends_later, filter_each, filter_in_order, filter_passes, first_due}
use Rattle.gptp_timeline.proofs.UnfoldLemmas.{now_and_later}
use Rattle.gptp_timeline.proofs.RestLemmas.{IsAtRest, shown_same, stands_there, world_rests}

-- ---- worlds of a document

-- what is pending is no change
pub no_change : (item : Item) (act : Act) (w : WorldState) → IsActOf item w act → IsNoChange act
no_change (Arrival link direction) act w is = subst IsNoChange (sym is) tt
no_change (Expiry place timer) act w (station, here, is) = subst IsNoChange (sym is) tt

-- a live system of a world is one of its snapshot
pub is_there : (w : WorldState) (name : ℕ) (s : SystemState) → live_system name w ≡ Some s
    → In name (clocks (snapshot_of w))
is_there w name s is =
    let (x, member, clock_is, ports, named) = stands_there w name s is in
    subst (λ v. In v (clocks (snapshot_of w))) (clock_is ∙ named)
    (In-map (λ (y : System). y.clock) x (snapshot_of w).systems member)

module _ {F : Type 0} (answers : Bounds → ℕ → F → Option ℕ → F → Type 0) (d : DocumentState)
    (playable : IsPlayable d) (names : List ℕ) where
  abbrev pace : SettlingParams
  pace = pace_of d.network

  abbrev least : ℕ
  least = interval_of (smallest_of d.network)

  -- the settling span of a network that stands so after these events
  abbrev pub span_after : List Timed → Snapshot → ℕ
  span_after events g = settling_span_with pace (sync_paths d.network events) (path_bound g)

  -- A world keeps what all do, stands as the network does after these events, and has systems of these names.
  pub record Keeps (events : List Timed) (w : WorldState) : Type 0 where
    pub claimed : KeepsAll pace w
    pub carries : CarriesWhereCalm pace w
    pub own : TellAsSetUp w
    pub stands : StandsAsPlanned d.network events w
    pub slow : NoneFaster least w
    pub named : AreNamed names w

  pub keeps_first : (fate fate_after : F) (w : WorldState) → names ≡ rising_clocks w
      → Begun answers d.network fate fate_after w → Keeps [] w
  keeps_first fate fate_after w are begun =
      let sound = initial_sound d.network playable.network in
      let claimed = claim_begins answers d.network fate fate_after w playable.network sound begun in record {
        claimed = claimed;
        carries = carries_begins answers d.network fate fate_after w playable.network sound begun;
        own = own_begins answers d.network fate fate_after w begun;
        stands = begun_stands answers d.network fate fate_after w begun;
        slow = begun_none_faster answers d.network fate fate_after w sound.wired.setups begun;
        named = subst (λ ns. AreNamed ns w) (sym are) (first_names w claimed.world.sound.wired);
      }

  -- an event of the document
  pub record IsFitEvent (timed : Timed) : Type 0 where
    pub change : Change
    pub act : timed.act ≡ Changing change
    pub fit : IsFitAct timed.act
    pub prompt : DelayFitsInterval least timed.act
    pub octet : SetsAnOctet timed.act

  pub events_fit : Each IsFitEvent d.events
  events_fit place timed there =
      let event = each_there (IsEvent d.network) d.events playable.events.each place timed there in
      let allowed =
      events_allowed d.network d.events (smallest_log d.network playable.network) playable.events place timed there in
      record {
        change = event.change;
        act = event.act;
        fit = allowed.fit;
        prompt = events_prompt d.network d.events playable.events place timed there;
        octet = playable.octets place timed there;
      }

  -- ---- what happens by itself

  pub keeps_later : (events : List Timed) (w : WorldState) (time : ℕ) → w.time ≤ time → NothingBefore time w.net.pending
      → Keeps events w → Keeps events (at time w)
  keeps_later events w time later first keeps = record {
    claimed = claim_later pace w time later first keeps.claimed;
    carries = carries_later pace w time later first keeps.claimed keeps.carries;
    own = keeps.own;
    stands = time_stands d.network events w time keeps.stands;
    slow = keeps.slow;
    named = same_named names w (at time w) refl keeps.named;
  }

  pub keeps_act : (events : List Timed) (until : ℕ) (t : ActTrace) (fate drawn : F) (w : WorldState)
      → Happens answers until t.told fate drawn w t.after → Keeps events w → Keeps events t.after
  keeps_act events until t fate drawn w happens keeps =
      let timed = t.told.timed in let next = happens.next in let was = happens.was_done in
      let fit = next_fits w timed next in let prompt = next_prompt w timed next in
      let octet = next_octet next.item timed.act w next.act in record {
        claimed = claim_kept answers pace timed fate drawn w t.after t.told.done fit prompt octet was keeps.claimed;
        carries = carries_kept answers pace timed fate drawn w t.after t.told.done fit prompt octet was keeps.claimed
            keeps.carries;
        own = own_kept answers timed fate drawn w t.after t.told.done was keeps.own;
        stands = acts_stand d.network events timed.act (at timed.at w) was.draws t.told.done t.after
            (no_change next.item timed.act w next.act) was.acts
            (time_stands d.network events w timed.at keeps.stands);
        slow = stays_none_faster least w t.after
            (done_stays answers timed fate drawn w t.after t.told.done keeps.claimed.world.sound.wired.setups was)
            keeps.slow;
        named = acts_named names timed.act (at timed.at w) was.draws t.told.done t.after was.acts
            (same_named names w (at timed.at w) refl keeps.named);
      }

  keeps_passes : (events : List Timed) (until : ℕ) (ts : List ActTrace) (fate fate_after : F) (w w' : WorldState)
      → Passes answers until ts fate fate_after w w' → Keeps events w → Keeps events w'
  keeps_passes events until [] fate fate_after w w' (same, is) keeps = subst (Keeps events) (sym is) keeps
  keeps_passes events until (t ∷ ts) fate fate_after w w' (drawn, before, happens, rest) keeps =
      keeps_passes events until ts drawn fate_after t.after w' rest
      (keeps_act events until t fate drawn w happens keeps)

  -- an act was done at its time
  pub act_time : (until : ℕ) (t : ActTrace) (fate drawn : F) (w : WorldState) → IsSound w
      → Happens answers until t.told fate drawn w t.after → t.after.time ≡ at_of t
  act_time until t fate drawn w sound happens =
      let timed = t.told.timed in let was = happens.was_done in
      (leaves_less happens.next.item timed.at timed.act w was.draws t.told.done t.after
      (later_sound w timed.at w.last_change sound was.ready.timely.first) happens.next.act was.acts).is_time

  passes_in_time : (events : List Timed) (until : ℕ) (ts : List ActTrace) (fate fate_after : F) (w w' : WorldState)
      → Passes answers until ts fate fate_after w w' → Keeps events w → w.time ≤ until → w'.time ≤ until
  passes_in_time events until [] fate fate_after w w' (same, is) keeps early =
      subst (λ (v : WorldState). v.time ≤ until) (sym is) early
  passes_in_time events until (t ∷ ts) fate fate_after w w' (drawn, before, happens, rest) keeps early =
      let moment = act_time until t fate drawn w keeps.claimed.world.sound happens in
      let in_time = happens.early in
      passes_in_time events until ts drawn fate_after t.after w' rest
      (keeps_act events until t fate drawn w happens keeps) (omega (arith, moment, in_time))

  keeps_to : (events : List Timed) (until : ℕ) (ts : List ActTrace) (fate fate_after : F) (w w' : WorldState)
      → PassesTo answers until ts fate fate_after w w' → Keeps events w → Keeps events w'
  keeps_to events until ts fate fate_after w w' k keeps =
      let on = keeps_passes events until ts fate fate_after w k.between k.passes keeps in
      let early = passes_in_time events until ts fate fate_after w k.between k.passes keeps k.ahead in
      let first = nothing_sooner until (until + 1) k.between.net.pending (omega arith) k.nothing_left in
      subst (Keeps events) (sym k.is) (keeps_later events k.between until early first on)

  -- an event is made
  pub keeps_made : (before : List Timed) (event : Timed) (ts : List ActTrace) (fate fate_after : F)
      (w w' : WorldState) → IsFitEvent event → Makes answers event ts fate fate_after w w' → Keeps before w
      → Keeps (before ++ event ∷ []) w'
  keeps_made before event ts fate fate_after w w' fit k keeps =
      let on = keeps_to before event.at k.first fate k.drawn w k.between k.passes keeps in
      let prompt = prompt_within least event.act k.between on.slow fit.prompt in record {
        claimed = claim_kept answers pace event k.drawn fate_after k.between w' k.done fit.fit prompt fit.octet k.made
            on.claimed;
        carries = carries_kept answers pace event k.drawn fate_after k.between w' k.done fit.fit prompt fit.octet k.made
            on.claimed on.carries;
        own = own_kept answers event k.drawn fate_after k.between w' k.done k.made on.own;
        stands = changes_stand d.network before event fit.change k.between k.made.draws k.done w' fit.act
            on.claimed.world.sound k.made.acts on.stands;
        slow = stays_none_faster least k.between w'
            (done_stays answers event k.drawn fate_after k.between w' k.done on.claimed.world.sound.wired.setups k.made)
            on.slow;
        named = acts_named names event.act (at event.at k.between) k.made.draws k.done w' k.made.acts
            (same_named names k.between (at event.at k.between) refl on.named);
      }

  pub keeps_courses : (before events : List Timed) (until : ℕ) (ts : List ActTrace) (fate fate_after : F)
      (w w' : WorldState) → Each IsFitEvent events → Courses answers until events ts fate fate_after w w'
      → Keeps before w → Keeps (before ++ events) w'
  keeps_courses before [] until ts fate fate_after w w' fit k keeps =
      subst (λ es. Keeps es w') (sym (append-nil before)) (keeps_to before until ts fate fate_after w w' k keeps)
  keeps_courses before (event ∷ events) until ts fate fate_after w w' fit (first, rest, drawn, between, makes, k, is)
      keeps =
      subst (λ es. Keeps es w') (append_assoc before (event ∷ []) events)
      (keeps_courses (before ++ event ∷ []) events until rest drawn fate_after between w'
      (λ place. fit (suc place)) k
      (keeps_made before event first fate drawn w between (fit 0 event refl) makes keeps))

  -- its snapshot is that of the network, but for the order of the systems
  pub alike_after : (events : List Timed) (g : Snapshot) (w : WorldState) → StandsAfter d.network events g
      → Keeps events w → AreAlike (snapshot_of w) g
  alike_after events g w stands keeps =
      let is = snapshots_stand d.network events w g keeps.stands keeps.claimed.world.sound stands in
      record { systems = is.0; links = is.1 }

  -- ---- calm networks

  module _ (events : List Timed) (from span : ℕ) (g : Snapshot) (calm : IsCalm d.network events)
      (stands : StandsAfter d.network events g) (last : last_change events ≤ from)
      (span_is : span ≡ span_after events g) where
    abbrev m : ℕ
    m = path_bound g

    pub bounded : (w : WorldState) → Keeps events w → BoundsPaths (snapshot_of w) m
    bounded w keeps =
        let is = keeps.claimed.world in let alike = alike_after events g w stands keeps in
        let own = stands_well w is.sound is.between is.encodable in
        let well : IsWellFormed g =
        snapshots.stands_well d.network playable.network events g stands (λ s member.
        (own.identified s (In-permutation s g.systems (snapshot_of w).systems
        (turned (snapshot_of w) g alike).systems member)).octets) in
        λ v u us way. paths_within g well v u us (path (snapshot_of w) g alike v u us way)

    -- by whichever span, where so much has passed since the last change
    pub calm_since : (over : SettlingParams → SyncPaths → ℕ → ℕ) (w : WorldState) → Keeps events w
        → last_change events + over pace (sync_paths d.network events) (length (snapshot_of w).systems) ≤ w.time
        → (calm : IsCalmFor over w) × (calm.pace ≡ pace)
    calm_since over w keeps late =
        let sound = keeps.claimed.world.sound in
        let same = paths_stand d.network events w playable.network keeps.stands sound in (
          record {
            pace = pace;
            set = λ place station here. (keeps.claimed.world.known.set place station here).starts;
            quiet = quiet_stands d.network events w playable.network keeps.stands sound calm;
            late = subst (λ paths. w.last_change + over pace paths (length (snapshot_of w).systems) ≤ w.time) same
                (subst (λ change. change + over pace (sync_paths d.network events) (length (snapshot_of w).systems)
                ≤ w.time)
                (sym keeps.stands.last) late);
          },
          refl,
        )

    calm_for : (w : WorldState) → Keeps events w → from + span ≤ w.time → IsCalmFor (span_over m) w
    calm_for w keeps late =
        (calm_since (span_over m) w keeps (subst (λ k. last_change events + k ≤ w.time) span_is
        (omega (arith, last, late)))).0

    pub rests : (w : WorldState) → Keeps events w → from + span ≤ w.time → (name : ℕ) → IsNear (snapshot_of w) name
        → (s : SystemState) → live_system name w ≡ Some s → IsAtRest (snapshot_of w) s
    rests w keeps late name near s is =
        world_rests m w (record { pace = pace; is = keeps.claimed }) (bounded w keeps) (calm_for w keeps late) name s is
        near

    -- where all systems are near
    all_rest : (w : WorldState) → Keeps events w → from + span ≤ w.time → AllNear (snapshot_of w) → (name : ℕ)
        → (s : SystemState) → live_system name w ≡ Some s → IsAtRest (snapshot_of w) s
    all_rest w keeps late near name s is = rests w keeps late name (near name (is_there w name s is)) s is

    -- an act after the span
    still_act : (until : ℕ) (t : ActTrace) (fate drawn : F) (w : WorldState) → t.before ≡ w
        → Happens answers until t.told fate drawn w t.after → Keeps events w → AllNear (snapshot_of w)
        → from + span ≤ at_of t → ShowsTheSame t
    still_act until t fate drawn w before happens keeps near late =
        let timed = t.told.timed in let was = happens.was_done in let moved = at timed.at w in
        let timely = was.ready.timely in
        let keeps_then = keeps_later events w timed.at timely.now timely.first keeps in
        let keeps_after = keeps_act events until t fate drawn w happens keeps in
        let moment = act_time until t fate drawn w keeps.claimed.world.sound happens in
        let network = acts_keep timed.act moved was.draws t.told.done t.after
        (no_change happens.next.item timed.act w happens.next.act) was.acts in
        let same : snapshot_of t.after ≡ snapshot_of moved = same_snapshot moved t.after network in
        let world = keeps_then.claimed.world in
        let shows = λ (name : ℕ).
        shown_same (snapshot_of moved) (stands_well moved world.sound world.between world.encodable) moved t.after refl
        same
        world.sound.wired.clocks keeps_after.claimed.world.sound.wired.clocks name
        (all_rest moved keeps_then late near name)
        (λ s is. subst (λ (h : Snapshot). IsAtRest h s) same
        (all_rest t.after keeps_after (omega (arith, moment, late))
        (subst AllNear (sym same) near) name s is)) in
        record {
          choice = λ name. ap (λ v. same_choice (shown name v) (shown name t.after)) before ∙ (shows name).0;
          roles = λ name. ap (λ v. same_roles (shown name v) (shown name t.after)) before ∙ (shows name).1;
        }

    still_passes : (until : ℕ) (ts : List ActTrace) (fate fate_after : F) (w w' : WorldState)
        → Passes answers until ts fate fate_after w w' → Keeps events w → AllNear (snapshot_of w)
        → StillBehind (from + span) ts
    still_passes until [] fate fate_after w w' k keeps near = tt
    still_passes until (t ∷ ts) fate fate_after w w' (drawn, before, happens, rest) keeps near = (
      by (nat_le (at_of t) (from + span)) refl,
      still_passes until ts drawn fate_after t.after w' rest (keeps_act events until t fate drawn w happens keeps)
          (subst AllNear (sym same) near),
    )
      where
        same : snapshot_of t.after ≡ snapshot_of w
        same =
            same_snapshot (at (at_of t) w) t.after
            (acts_keep t.told.timed.act (at (at_of t) w) happens.was_done.draws t.told.done t.after
            (no_change happens.next.item t.told.timed.act w happens.next.act) happens.was_done.acts)

        by : (early : Bool) → nat_le (at_of t) (from + span) ≡ early → (at_of t ≤ from + span) ⊎ ShowsTheSame t
        by true test = inl (grind (arith, nat_tests))
        by false test =
            let late : from + span ≤ at_of t = grind (arith, nat_tests) in
            inr (still_act until t fate drawn w before happens keeps near late)

  passes_snapshot : (until : ℕ) (ts : List ActTrace) (fate fate_after : F) (w w' : WorldState)
      → Passes answers until ts fate fate_after w w' → snapshot_of w' ≡ snapshot_of w
  passes_snapshot until [] fate fate_after w w' (same, is) = ap snapshot_of is
  passes_snapshot until (t ∷ ts) fate fate_after w w' (drawn, before, happens, rest) =
      passes_snapshot until ts drawn fate_after t.after w' rest
      ∙ same_snapshot (at (at_of t) w) t.after
      (acts_keep t.told.timed.act (at (at_of t) w) happens.was_done.draws t.told.done t.after
      (no_change happens.next.item t.told.timed.act w happens.next.act) happens.was_done.acts)

  -- what is so of each act up to a time is so of those that pass by then
  pub early_passes : (P : ActTrace → Type 0) (until : ℕ) (ts : List ActTrace) (fate fate_after : F)
      (w w' : WorldState) → ((t : ActTrace) → at_of t ≤ until → P t)
      → Passes answers until ts fate fate_after w w' → AllByRecursion P ts
  early_passes P until [] fate fate_after w w' each k = tt
  early_passes P until (t ∷ ts) fate fate_after w w' each (drawn, before, happens, rest) =
      (each t happens.early, early_passes P until ts drawn fate_after t.after w' each rest)

  -- and of those by which an event is made then
  pub early_makes : (P : ActTrace → Type 0) (event : Timed) (ts : List ActTrace) (fate fate_after : F)
      (w w' : WorldState) → ((t : ActTrace) → at_of t ≤ event.at → P t) → Makes answers event ts fate fate_after w w'
      → AllByRecursion P ts
  early_makes P event ts fate fate_after w w' each k =
      subst (AllByRecursion P) (sym k.are)
      (all_both P k.first (_ ∷ [])
      (early_passes P event.at k.first fate k.drawn w k.passes.between each k.passes.passes)
      (each (transition event k.done k.between w') (omega arith), tt))

  -- a stretch with events up to the time at which it begins
  pub still_courses : (before events : List Timed) (from span until : ℕ) (g : Snapshot) (ts : List ActTrace)
      (fate fate_after : F) (w w' : WorldState) → Each IsFitEvent events → Each (λ (e : Timed). e.at ≤ from) events
      → IsCalm d.network (before ++ events) → StandsAfter d.network (before ++ events) g
      → last_change (before ++ events) ≤ from → span ≡ span_after (before ++ events) g
      → Courses answers until events ts fate fate_after w w' → Keeps before w → AllNear (snapshot_of w')
      → StillBehind (from + span) ts
  still_courses before [] from span until g ts fate fate_after w w' fit early calm stands last span_is k keeps near =
      let same : snapshot_of w' ≡ snapshot_of w =
      ap snapshot_of k.is ∙ passes_snapshot until ts fate fate_after w k.between k.passes in
      still_passes (before ++ []) from span g calm stands last span_is until ts fate fate_after w k.between k.passes
      (subst (λ es. Keeps es w) (sym (append-nil before)) keeps) (subst AllNear same near)
  still_courses before (event ∷ events) from span until g ts fate fate_after w w' fit early calm stands last span_is
      (first, rest, drawn, between, makes, k, is) keeps near =
      let le = early 0 event refl in
      let shift = sym (append_assoc before (event ∷ []) events) in
      subst (StillBehind (from + span)) (sym is)
      (all_both (IsStill (from + span)) first rest
      (early_makes (IsStill (from + span)) event first fate drawn w between
      (λ t by_then. inl (omega (arith, le, by_then))) makes)
      (still_courses (before ++ event ∷ []) events from span until g rest drawn fate_after between w'
      (λ place. fit (suc place)) (λ place. early (suc place)) (subst (IsCalm d.network) shift calm)
      (subst (λ es. StandsAfter d.network es g) shift stands) (subst (λ es. last_change es ≤ from) shift last)
      (subst (λ es. span ≡ span_after es g) shift span_is) k
      (keeps_made before event first fate drawn w between (fit 0 event refl) makes keeps) near))

  -- ---- the events of a document, stretch by stretch

  -- those that were made before a stretch, and those that are left
  pub record IsLeft (until from : ℕ) (before left : List Timed) : Type 0 where
    pub are : before ++ left ≡ events_by until d.events
    pub past : PastBy from before
    pub order : AreInOrder left
    pub due : Each (λ (e : Timed). nat_le e.at until ≡ true) left
    pub fits : Each IsFitEvent left
    pub within : from ≤ until

  pub left_first : (until : ℕ) → IsLeft until 0 [] (events_by until d.events)
  left_first until =
      let test : Timed → Bool = λ (e : Timed). nat_le e.at until in record {
        are = refl;
        past = tt;
        order = filter_in_order test d.events playable.events.in_order;
        due = filter_passes test d.events;
        fits = filter_each IsFitEvent test d.events events_fit;
        within = omega arith;
      }

  pub left_next : (until from to : ℕ) (before left : List Timed) → IsLeft until from before left
      → later_than from left ≢ [] → to ≡ end_before until (later_than from left)
      → IsLeft until to (before ++ now_of from left) (later_than from left)
  left_next until from to before left is some ends =
      let test : Timed → Bool = λ (e : Timed). nat_lt from e.at in
      let later = later_than from left in
      let first : first_time later ≡ Some to = ends_first until later some ∙ ap Some (sym ends) in
      let le = ends_later from to left first in
      let due = filter_each (λ (e : Timed). nat_le e.at until ≡ true) test left is.due in record {
        are = append_assoc before (now_of from left) later
            ∙ ap (λ es. before ++ es) (now_and_later from left is.order) ∙ is.are;
        past = past_later from to (before ++ now_of from left) le (past_both from before left is.past);
        order = filter_in_order test left is.order;
        due = due;
        fits = filter_each IsFitEvent test left is.fits;
        within = first_due until to later due first;
      }

  -- a stretch ends by the end
  pub ends_by : (until from : ℕ) (before left : List Timed) → IsLeft until from before left
      → end_before until (later_than from left) ≤ until
  ends_by until from before left is =
      by (later_than from left)
      (filter_each (λ (e : Timed). nat_le e.at until ≡ true) (λ (e : Timed). nat_lt from e.at) left is.due)
    where
      by : (later : List Timed) → Each (λ (e : Timed). nat_le e.at until ≡ true) later → end_before until later ≤ until
      by [] due = omega arith
      by (e ∷ es) due = first_due until e.at (e ∷ es) due refl

  -- the events up to a stretch are those that were made before it and in it
  pub events_then : (until from : ℕ) (before left : List Timed) → IsLeft until from before left
      → events_by from d.events ≡ before ++ now_of from left
  events_then until from before left is =
      sym (by_sooner from until d.events is.within) ∙ ap (events_by from) (sym is.are) ∙ by_past from before left
      is.past

  -- ---- the stretches of a timeline

  module _ (exact : Bool) (until : ℕ) where
    settles_one : (from : ℕ) (before left : List Timed) (fate fate_after : F) (w : WorldState) (p : StretchTrace)
        (bound : ℕ)
        → IsLeft until from before left → Keeps before w
        → IsPassage answers exact d until from left fate fate_after w p → IsBound d p.from (Some bound)
        → AllNear (snapshot_of p.after)
        → StillBehind (p.from + bound) p.acts
    settles_one from before left fate fate_after w p bound is keeps passage bounded_by near =
        let bounds : IsBound d from (Some bound) =
        subst (λ time. IsBound d time (Some bound)) passage.from_is bounded_by in
        let span = bounds.1 in let now = now_of from left in
        let are = events_then until from before left is in
        let test : Timed → Bool = λ (e : Timed). nat_le e.at from in
        subst (λ t. StillBehind (t + bound) p.acts) (sym passage.from_is)
        (still_courses before now from bound p.to span.snapshot p.acts fate fate_after w p.after
        (filter_each IsFitEvent test left is.fits)
        (λ place e there. let passes = filter_passes test left place e there in grind (arith, nat_tests))
        (subst (IsCalm d.network) are bounds.0)
        (subst (λ es. StandsAfter d.network es span.snapshot) are span.stands)
        (last_past from (before ++ now) (past_both from before left is.past))
        (subst (λ es. bound ≡ span_after es span.snapshot) are span.is)
        (subst (λ es. Courses answers p.to es p.acts fate fate_after w p.after) passage.events_are passage.courses)
        keeps
        near)

    pub keeps_one : (from : ℕ) (before left : List Timed) (fate fate_after : F) (w : WorldState) (p : StretchTrace)
        → IsLeft until from before left → Keeps before w
        → IsPassage answers exact d until from left fate fate_after w p
        → Keeps (before ++ now_of from left) p.after
    keeps_one from before left fate fate_after w p is keeps passage =
        keeps_courses before (now_of from left) p.to p.acts fate fate_after w p.after
        (filter_each IsFitEvent (λ (e : Timed). nat_le e.at from) left is.fits)
        (subst (λ es. Courses answers p.to es p.acts fate fate_after w p.after) passage.events_are passage.courses)
        keeps

    -- How a stretch that passes begins: after events that were made, in a world that keeps to them.
    pub record Begins (p : StretchTrace) : Type 0 where
      pub from : ℕ
      pub before : List Timed
      pub left : List Timed
      pub fate : F
      pub fate_after : F
      pub w : WorldState
      pub is_left : IsLeft until from before left
      pub keeps : Keeps before w
      pub passage : IsPassage answers exact d until from left fate fate_after w p

    pub begins : (passages : List StretchTrace) (from : ℕ) (before left : List Timed) (fate fate_after : F)
        (w w' : WorldState) (p : StretchTrace) → IsLeft until from before left → Keeps before w
        → AllPass answers exact d until from left fate fate_after w w' passages → In p passages → Begins p
    begins [] from before left fate fate_after w w' p is keeps pass member = absurd pass
    begins (q ∷ []) from before left fate fate_after w w' p is keeps (passage, none, ends) (inl same) = record {
      from = from;
      before = before;
      left = left;
      fate = fate;
      fate_after = fate_after;
      w = w;
      is_left = is;
      keeps = keeps;
      passage = subst (IsPassage answers exact d until from left fate fate_after w) (sym same) passage;
    }
    begins (q ∷ []) from before left fate fate_after w w' p is keeps pass (inr member) = absurd member
    begins (q ∷ (r ∷ rs)) from before left fate fate_after w w' p is keeps (drawn, passage, some, rest) (inl same) =
        record {
          from = from;
          before = before;
          left = left;
          fate = fate;
          fate_after = drawn;
          w = w;
          is_left = is;
          keeps = keeps;
          passage = subst (IsPassage answers exact d until from left fate drawn w) (sym same) passage;
        }
    begins (q ∷ (r ∷ rs)) from before left fate fate_after w w' p is keeps (drawn, passage, some, rest)
        (inr member) =
        begins (r ∷ rs) q.to (before ++ now_of from left) (later_than from left) drawn fate_after q.after w' p
        (left_next until from q.to before left is some passage.to_is)
        (keeps_one from before left fate drawn w q is keeps passage) rest member

-- ---- the law

within_bound : (from bound : ℕ) (last : Option ℕ) → IfSome last (λ time. time ≤ from + bound)
    → IfSome (option_map (λ time. time - from) last) (λ time. time ≤ bound)
within_bound from bound None within = tt
within_bound from bound (Some last) within = omega arith

pub stretches_settle : {F : Type 0} (answers : Bounds → ℕ → F → Option ℕ → F → Type 0) (d : DocumentState) (until : ℕ)
    (options : TimelineOptions) (fate : F) (lines : List (List ℕ)) (exceeded : Bool)
    (t : TimelineOf answers d until options fate lines exceeded) → IsPlayable d → Settle d t.passages
stretches_settle answers d until options fate lines exceeded t playable p bound names carried member bounded_by near =
    let clocks = rising_clocks t.start in
    let b = begins answers d playable clocks true until t.passages 0 [] (events_by until d.events) t.started
    t.fate_after t.start t.after p (left_first answers d playable clocks until)
    (keeps_first answers d playable clocks fate t.started t.start refl t.begun) t.pass member in
    let still = settles_one answers d playable clocks true until b.from b.before b.left b.fate b.fate_after b.w p bound
    b.is_left b.keeps b.passage bounded_by near in (
      within_bound p.from bound _ (last_choice names (p.from + bound) p.acts still),
      within_bound p.from bound _ (last_roles names (p.from + bound) p.acts still),
    )
