-- What an observer keeps and tells is what is defined over the acts: as systems start, and stretch by stretch.
use Rattle.std.proofs.Common.{◌≡◌, ◌<◌, ℕ, Bool, true, false, if◌then◌else◌, List, [], ◌∷◌, ◌++◌, map, Option, Some, None, inl, inr, length, option_map, refl, sym, ap, subst, ◌∙◌, append_assoc, append-nil}
use Rattle.std.specs.List.{filter_map, flat_map}
use Rattle.std.proofs.lemmas.List.Folds.{flat_map-map}
use Rattle.gptp_model.specs.declared.station.Station.{Station}
use Rattle.gptp_model.specs.Acts.{at}
use Rattle.gptp_model.specs.Course.{Begun}
use Rattle.gptp_model.specs.Sound.{IsSound}
use Rattle.gptp_model.specs.Views.{rising_clocks}
use Rattle.gptp_model.specs.World.{WorldState}
use Rattle.gptp_links.specs.declared.bounds.Bounds.{Bounds}
use Rattle.gptp_lists.specs.Members.{In}
use Rattle.gptp_model.specs.declared.done.Done.{Done}
use Rattle.gptp_scenario.specs.Network.{NetworkState}
use Rattle.gptp_scenario.specs.declared.change.Act.{Act}
use Rattle.gptp_scenario.specs.declared.change.Act.TheVariants.{Change as Changing, Deliver, Expire}
use Rattle.gptp_scenario.specs.declared.change.Timed.{Timed}
use Rattle.gptp_world.specs.Observing.{Tells}
use Rattle.gptp_world.specs.Transitions.{ActTrace}
use Rattle.gptp_report.specs.Transitions.{Courses, CoursesSoFar}
use Rattle.gptp_accuracy.specs.declared.errors.SystemError.{SystemError}
use Rattle.gptp_accuracy.specs.declared.errors.TimeErrors.{TimeErrors}
use Rattle.gptp_timeline.specs.Changes.{change_lines}
use Rattle.gptp_timeline.specs.Ends.{EndState}
use Rattle.gptp_timeline.specs.Aside.{aside_after, AsideState, is_left_out, looked_acts}
use Rattle.gptp_timeline.specs.Keepers.{keepers_among}
use Rattle.gptp_timeline.specs.LastStretches.{carry_begun, carry_ended, CarriedAside, end_begun, end_of, stretch_aside}
use Rattle.gptp_timeline.specs.Receipts.{received_by}
use Rattle.gptp_timeline.specs.Measures.{greatest, greatest_from, since_after}
use Rattle.gptp_timeline.specs.Passing.{watch_before}
use Rattle.gptp_timeline.specs.Shown.{is_expecting, live_among, shown, shown_of}
use Rattle.gptp_timeline.specs.Stretch.{at_of, counted, ended, error_from, is_change, roots_of, shown_of_all, under_way, waits}
use Rattle.gptp_timeline.specs.StretchText.{after_line, ended_stretch, error_among, system_accuracy, wait_of}
use Rattle.gptp_timeline.specs.Looks.{measured_times}
use Rattle.gptp_timeline.specs.Readings.{new_reading, read_after, readings_after}
use Rattle.gptp_timeline.specs.TimeWatch.{reading_lines, times_after, times_with, TimeState}
use Rattle.gptp_timeline.specs.Timeline.{StretchTrace, accuracy_at, act_lines, acts_lines, asks_lines, end_lines, ended_of, exact_time, is_begun, kept_accuracy, kept_accuracy_at, line_of_times, none_carried, none_waits, reads_if, reads_kept, start_lines, stretch_of, stretch_reading_lines, timeline_accuracy_lines, times_ended, tracks}
use Rattle.gptp_timeline.specs.Watch.{GetsNone, WatchState, watch_begun, event_look, lines_all, see_act, see_all, see_times, seen_lines, tells_changes, TellsSeen, times_aside, times_lines_if, unless, unseen, with_aside, without_error}
use Rattle.gptp_timeline.specs.declared.counts.Counts.{Counts}
use Rattle.gptp_timeline.specs.declared.looks.TimeMeasures.{TimeMeasures}
use Rattle.gptp_timeline.specs.declared.measures.Greatest.{Greatest}
use Rattle.gptp_timeline.specs.declared.keepers.Keeper.{Keeper}
use Rattle.gptp_timeline.specs.declared.readings.NewReading.{NewReading}
use Rattle.gptp_timeline.specs.declared.readings.SystemReading.{SystemReading}
use Rattle.gptp_timeline.specs.declared.measures.Measures.{Measures}
use Rattle.gptp_timeline.specs.declared.shown.Shown.{Shown}
use Rattle.gptp_timeline.specs.declared.stretch.Stretch.{Stretch}
use Rattle.gptp_timeline.specs.declared.timeline.Plan.{Plan}
use Rattle.gptp_timeline.specs.declared.timeline.TimelineOptions.{TimelineOptions}
use Rattle.gptp_timeline.specs.declared.watched.Watched.{Watched}
use Rattle.gptp_timeline.proofs.AccountLemmas.{account_ended, account_if, account_if_more, account_told, act_times, later_kept, line_kept, reads_are, readings_more, rest_after, rest_begun, rest_first, RestTimes}
use Rattle.gptp_timeline.proofs.AsideLemmas.{aside_stays}
use Rattle.gptp_timeline.proofs.AtRestLemmas.{AllFollow, acts_follow, first_follow}
use Rattle.gptp_timeline.proofs.BeginLemmas.{none_expects}
use Rattle.gptp_timeline.proofs.ChainLemmas.{broken_chain, Chain, courses_chain, IsDone}
use Rattle.gptp_timeline.proofs.ChainStepLemmas.{done_step, strangers}
use Rattle.gptp_timeline.proofs.EachLemmas.{all_looked, behind}
use Rattle.gptp_timeline.proofs.EndLemmas.{kept_cleared, kept_error, kept_keepers, kept_shown, kept_waits}
use Rattle.gptp_timeline.proofs.ErrorLemmas.{errors_more, errors_stay}
use Rattle.gptp_timeline.proofs.MeasureLemmas.{greatest_both}
use Rattle.gptp_timeline.proofs.NameLemmas.{acts_named, AreNamed, first_names, same_named}
use Rattle.gptp_timeline.proofs.StandLemmas.{kept, map_same, Stands}
use Rattle.gptp_timeline.proofs.StretchesSoFarLemmas.{nobody_stretch}
use Rattle.gptp_timeline.proofs.StepLemmas.{errors_next, measured_by, restand, Tracks}
use Rattle.gptp_timeline.proofs.StillLemmas.{stays_seen}
use Rattle.gptp_timeline.proofs.TrackLemmas.{all_seen_lines, unless_each}

-- ---- what is kept

abbrev one_kept : ℕ → Option ℕ → Option ℕ → Option Shown → Watched
one_kept name since error s = record { clock = name; shown = s; since = since; error = error }

-- Between stretches it keeps what the systems with these names show, since when each waits, what each reads, and who is
-- set aside.
pub record Rests (options : TimelineOptions) (names : List ℕ) (c : CarriedAside) (w : WorldState) (o : WatchState) :
    Type 0 where
  pub named : AreNamed names w
  pub follow : AllFollow w.stations
  pub summary_is : o.summary ≡ options.summary
  pub offsets_is : o.offsets ≡ options.offsets
  pub errors : ℕ → Option ℕ
  pub stands : Stands names c.carried.since errors w o.systems
  pub times : RestTimes options names c.aside c.carried.readings o.times

-- In a stretch of so many events in which receipts count from a time on it keeps what is defined over the acts so far,
-- where this was carried over.
pub record Observes (options : TimelineOptions) (names : List ℕ) (c : CarriedAside) (from : Option ℕ) (events : ℕ)
    (ts : List ActTrace) (w : WorldState) (o : WatchState) : Type 0 where
  pub named : AreNamed names w
  pub follow : AllFollow w.stations
  pub tracks : Tracks options.summary options.offsets from names c.carried.since (λ name. error_from name from ts) ts w
      o
  pub times_are : o.times ≡ account_if options from names events c.aside ts c.carried.readings
  pub others : (name : ℕ) → (In name names → ⊥) → error_from name from ts ≡ None

-- a passage is that of a plan
pub record IsOfPlan (plan : Plan) (p : StretchTrace) : Type 0 where
  pub from_is : plan.from ≡ p.from
  pub to_is : plan.to ≡ p.to
  pub begins_is : plan.begins_with_event ≡ is_begun p.events
  pub settling_is : plan.settling ≡ p.settling
  pub errors_are : plan.errors ≡ p.errors

-- an account keeps what it has by an act that is no event, and by which no system gets a reading
none_with : (at : ℕ) (w : WorldState) (act : Act) (o : TimeState) → is_change act ≡ false
    → times_with at w act None o ≡ o
none_with at w (Deliver link direction) o other = refl
none_with at w (Expire name timer) o other = refl
none_with at w (Changing change) o other = absurd cc

none_looked : (out : Bool) (at : ℕ) (w : WorldState) (act : Act) (new : Option NewReading) (o : TimeState)
    → is_change act ≡ false → new ≡ None → (if out then o else times_with at w act new o) ≡ o
none_looked true at w act new o other none = refl
none_looked false at w act new o other none =
    ap (λ u. times_with at w act u o) none ∙ none_with at w act o other

-- by an act that is passed over an observer has nothing to see of what systems read
none_timed : (at : ℕ) (act : Act) (done : Done) (w : WorldState) (times : Option TimeState) → is_change act ≡ false
    → received_by done ≡ None → GetsNone act done w times → option_map (times_after at act done w) times ≡ times
none_timed at act done w None other nobody none = refl
none_timed at act done w (Some o) other nobody none =
    ap (λ (v : TimeState). Some (record v { aside = aside_after act done o.aside }))
    (none_looked (is_left_out o.aside act done) at w act (new_reading act done w o.systems) o other none)
    ∙ ap (λ a. Some (record o { aside = a })) (aside_stays act done o.aside nobody)

-- and nothing to tell
none_told : (at : ℕ) (act : Act) (done : Done) (w : WorldState) (times : Option TimeState)
    → GetsNone act done w times → times_lines_if at act done w times ≡ []
none_told at act done w None none = refl
none_told at act done w (Some o) none =
    ap (λ u. if is_left_out o.aside act done then [] else reading_lines o.told at w u) none
    ∙ by (is_left_out o.aside act done)
  where
    by : (out : Bool) → ◌≡◌ {A = List (List ℕ)} (if out then [] else []) []
    by true = refl
    by false = refl

-- ---- systems start

-- each is looked at for the first time
seen_first : (w : WorldState) (names : List ℕ) → ((name : ℕ) → is_expecting (shown name w) ≡ false)
    → map (behind (event_look 0) w) (map unseen names) ≡ map (kept none_waits (λ name. None) w) names
seen_first w [] nobody = refl
seen_first w (n ∷ ns) nobody =
    ap (λ expects. one_kept n (since_after 0 false false expects None) None (shown n w)
    ∷ map (behind (event_look 0) w) (map unseen ns)) (nobody n)
    ∙ ap (λ rest. kept none_waits (λ name. None) w n ∷ rest) (seen_first w ns nobody)

-- the observer saw how they are
pub start_rests : {F : Type 0} (answers : Bounds → ℕ → F → Option ℕ → F → Type 0) (n : NetworkState)
    (fate fate_after : F) (options : TimelineOptions) (a : AsideState) (w : WorldState) (o : WatchState)
    → Begun answers n fate fate_after w → IsSound w → o ≡ watch_before options a w
    → Rests options (rising_clocks w)
    (record { carried = none_carried (tracks options) (rising_clocks w); aside = a }) w (see_all (event_look 0) w o)
start_rests answers n fate fate_after options a w o starts sound first =
    subst (Rests options (rising_clocks w)
    (record { carried = none_carried (tracks options) (rising_clocks w); aside = a }) w)
    (sym (all_looked (event_look 0) w o)) (record {
      named = first_names w sound.wired;
      follow = first_follow w sound.on_time;
      summary_is = ap (λ (v : WatchState). v.summary) first;
      offsets_is = ap (λ (v : WatchState). v.offsets) first;
      errors = λ name. None;
      stands = record {
        are = ap (λ (v : WatchState). map (behind (event_look 0) w) v.systems) first
            ∙ seen_first w (rising_clocks w) (none_expects answers n fate fate_after w starts);
        still = λ name none. refl;
      };
      times = subst (λ (v : WatchState). RestTimes options (rising_clocks w) a
          (none_carried (tracks options) (rising_clocks w)).readings v.times) (sym first) (rest_first options a w);
    })

-- and told it
pub start_told : (options : TimelineOptions) (a : AsideState) (w : WorldState) (o : WatchState)
    → o ≡ watch_before options a w
    → lines_all (event_look 0) w o ≡ start_lines options (rising_clocks w) w
start_told options a w o first =
    all_seen_lines (event_look 0) w o
    ∙ ap (λ (v : WatchState). flat_map (λ (x : Watched). unless v.summary
    (change_lines 0 x.clock x.shown (shown x.clock w))) v.systems) first
    ∙ flat_map-map (λ (x : Watched). unless options.summary (change_lines 0 x.clock x.shown (shown x.clock w))) unseen
    (rising_clocks w)
    ∙ unless_each options.summary (λ name. change_lines 0 name None (shown name w)) (rising_clocks w)

-- ---- the same of other errors, and of another world with the same systems

retrack : (summary offsets : Bool) (from : Option ℕ) (names : List ℕ) (since errors others : ℕ → Option ℕ)
    (ts : List ActTrace) (w : WorldState) (o : WatchState) → ((name : ℕ) → others name ≡ errors name)
    → Tracks summary offsets from names since errors ts w o → Tracks summary offsets from names since others ts w o
retrack summary offsets from names since errors others ts w o same tracks = record {
  summary_is = tracks.summary_is;
  offsets_is = tracks.offsets_is;
  from_is = tracks.from_is;
  stands = restand names (waits ts since) errors others w o.systems same tracks.stands;
  measures_are = tracks.measures_are;
}

same_shown : (w w' : WorldState) → w'.stations ≡ w.stations → (name : ℕ) → shown name w' ≡ shown name w
same_shown w w' same name = ap (λ stations. option_map shown_of (live_among name stations)) same

stands_in : (names : List ℕ) (since errors : ℕ → Option ℕ) (w w' : WorldState) (xs : List Watched)
    → w'.stations ≡ w.stations → Stands names since errors w xs → Stands names since errors w' xs
stands_in names since errors w w' xs same stands = record {
  are = stands.are ∙ map_same (kept since errors w) (kept since errors w') names (λ i name there.
      ap (one_kept name (since name) (errors name)) (same_shown w w' same name));
  still = λ name none. stands.still name (sym (ap is_expecting (same_shown w w' same name)) ∙ none);
}

-- how a stretch ended of which this became
abbrev pub ended_with : Stretch → List ℕ → List Keeper → EndState
ended_with s roots keepers = record { stretch = s; roots = roots; keepers = keepers }

-- ---- how exact systems were

accuracy_kept : (reads : SystemError → List ℕ) (ts : List ActTrace) (kept : List Watched) (errors : Option TimeErrors)
    → ((clock : ℕ) → error_among kept clock ≡ error_from clock (exact_time errors) ts)
    → kept_accuracy reads kept errors ≡ timeline_accuracy_lines reads ts errors
accuracy_kept reads ts kept None are = refl
accuracy_kept reads ts kept (Some t) are = by t.from are
  where
    by : (from : Option ℕ) → ((clock : ℕ) → error_among kept clock ≡ error_from clock from ts)
        → kept_accuracy_at reads from kept t.systems.items ≡ accuracy_at reads from ts t.systems.items
    by None are = refl
    by (Some from) are =
        let same : error_among kept ≡ (λ clock. error_from clock (Some from) ts) = λ i clock. are clock i in
        ap (λ (errors : ℕ → Option ℕ). flat_map (system_accuracy from errors reads) t.systems.items) same

module _ (options : TimelineOptions) (names : List ℕ) (c : CarriedAside) where
  abbrev since : ℕ → Option ℕ
  since = c.carried.since

  -- ---- a stretch begins

  pub stretch_begins : (at : ℕ) (from : Option ℕ) (events : ℕ) (w : WorldState) (o : WatchState)
      → Rests options names c w o
      → Observes options names (carry_begun at c) from events [] w (watch_begun at from events o)
  stretch_begins at from events w o rests = record {
    named = rests.named;
    follow = rests.follow;
    tracks = record {
      summary_is = rests.summary_is;
      offsets_is = rests.offsets_is;
      from_is = refl;
      stands = record {
        are = ap (map without_error) rests.stands.are ∙ kept_cleared since rests.errors w names;
        still = rests.stands.still;
      };
      measures_are = refl;
    };
    times_are = rest_begun options at from names events c.aside c.carried.readings o.times rests.times;
    others = λ name stranger. refl;
  }

  -- ---- its acts

  module _ (from : Option ℕ) (events : ℕ) where
    moved : (ts : List ActTrace) (w w' : WorldState) (o : WatchState) → w'.stations ≡ w.stations
        → Observes options names c from events ts w o → Observes options names c from events ts w' o
    moved ts w w' o same observes = record {
      named = same_named names w w' same observes.named;
      follow = subst AllFollow (sym same) observes.follow;
      tracks = record {
        summary_is = observes.tracks.summary_is;
        offsets_is = observes.tracks.offsets_is;
        from_is = observes.tracks.from_is;
        stands = stands_in names (waits ts since) (λ name. error_from name from ts) w w' o.systems same
            observes.tracks.stands;
        measures_are = observes.tracks.measures_are;
      };
      times_are = observes.times_are;
      others = observes.others;
    }

    -- what systems read is told after the rest
    told_both : c.aside.clocks ≡ [] → (ts : List ActTrace) (t : ActTrace) (o : WatchState)
        → Observes options names c from events ts t.before o
        → seen_lines (at_of t) t.told.timed.act t.told.done t.after o ≡ act_lines options names t
        → seen_lines (at_of t) t.told.timed.act t.told.done t.after o
        ++ times_lines_if (at_of t) t.told.timed.act t.told.done t.after o.times
        ≡ act_lines options names t
        ++ stretch_reading_lines options (option_map (readings_after ts) c.carried.readings) t
    told_both nobody ts t o observes told =
        ap (λ first. first ++ times_lines_if (at_of t) t.told.timed.act t.told.done t.after o.times) told
        ∙ ap (λ times. act_lines options names t
        ++ times_lines_if (at_of t) t.told.timed.act t.told.done t.after times) observes.times_are
        ∙ ap (λ rest. act_lines options names t ++ rest)
        (account_told options from names events c.aside ts nobody t c.carried.readings)

    -- after one more
    act_step : (ts : List ActTrace) (t : ActTrace) (o : WatchState)
        → Observes options names c from events ts t.before o → IsDone t
        → Observes options names c from events (ts ++ t ∷ []) t.after
        (see_times (at_of t) t.told.timed.act t.told.done t.after
        (see_act (at_of t) t.told.timed.act t.told.done t.after o))
        × (c.aside.clocks ≡ [] → seen_lines (at_of t) t.told.timed.act t.told.done t.after o
        ++ times_lines_if (at_of t) t.told.timed.act t.told.done t.after o.times
        ≡ act_lines options names t
        ++ stretch_reading_lines options (option_map (readings_after ts) c.carried.readings) t)
    act_step ts t o observes done =
        let errors : ℕ → Option ℕ = λ name. error_from name from ts in
        let more : (name : ℕ) → error_from name from (ts ++ t ∷ []) ≡ errors_next from t errors name =
        λ name. errors_more name from t ts in
        let stepped = done_step options from names observes.named.rising since errors ts t o observes.tracks
        t.told.timed.act t.told.done done.draws observes.named observes.follow refl refl done.acts in
        let seen : WatchState = see_act (at_of t) t.told.timed.act t.told.done t.after o in
        let tracked = retrack options.summary options.offsets from names since (errors_next from t errors)
        (λ name. error_from name from (ts ++ t ∷ [])) (ts ++ t ∷ []) t.after seen more stepped.0 in (
          record {
            named = acts_named names t.told.timed.act (at (at_of t) t.before) done.draws t.told.done t.after done.acts
                (same_named names t.before (at (at_of t) t.before) refl observes.named);
            follow = acts_follow t.told.timed.act (at (at_of t) t.before) done.draws t.told.done t.after done.acts
                observes.follow;
            tracks = record {
              summary_is = tracked.summary_is;
              offsets_is = tracked.offsets_is;
              from_is = tracked.from_is;
              stands = tracked.stands;
              measures_are = tracked.measures_are;
            };
            times_are = ap (option_map (times_after (at_of t) t.told.timed.act t.told.done t.after))
                (act_times (at_of t) t.told.timed.act t.told.done t.after o ∙ observes.times_are)
                ∙ account_if_more options from names events c.aside ts t c.carried.readings;
            others = λ name stranger.
                more name
                ∙ errors_stay name from t errors (strangers names t observes.named t.told.timed.act t.told.done
                done.draws refl done.acts name stranger)
                ∙ observes.others name stranger;
          },
          λ nobody. told_both nobody ts t o observes stepped.1,
        )

    -- what systems read after one more
    next_readings : (ts : List ActTrace) (t : ActTrace) (readings : Option (List SystemReading))
        → option_map (readings_after (ts ++ t ∷ [])) readings
        ≡ option_map (read_after t) (option_map (readings_after ts) readings)
    next_readings ts t None = refl
    next_readings ts t (Some rs) = ap Some (readings_more ts t rs)

    -- an act that was passed over is as if it had been looked at
    was_seen : (ts : List ActTrace) (t : ActTrace) (o between : WatchState) (lines : List (List ℕ))
        → Observes options names c from events ts t.before o → IsDone t
        → tells_changes t.told t.after o between lines → TellsSeen t.told t.after o between lines
    was_seen ts t o between lines observes done (inl seen) = seen
    was_seen ts t o between lines observes done (inr (passes, is, none)) =
        let act = t.told.timed.act in
        let stays = passes.leaves.stays (at (at_of t) t.before) t.after done.draws done.acts in
        let (kept, told) = stays_seen options.summary options.offsets from names since
        (λ name. error_from name from ts) ts t o observes.tracks stays.same act t.told.done
        passes.leaves.is_other stays.nobody in (
          is
              ∙ sym (ap (λ times. record o { times = times })
              (none_timed (at_of t) act t.told.done t.after o.times passes.leaves.is_other stays.nobody
              passes.gets_none))
              ∙ sym (ap (see_times (at_of t) act t.told.done t.after) kept),
          none
              ∙ sym (none_told (at_of t) act t.told.done t.after o.times passes.gets_none)
              ∙ sym (ap (λ ls. ls ++ times_lines_if (at_of t) act t.told.done t.after o.times) told),
        )

    -- after several
    pub chained : (us ts : List ActTrace) (w w' : WorldState) (before after : List Station) (o o_after : WatchState)
        (lines : List (List ℕ)) → before ≡ w.stations → Chain us before after → w'.stations ≡ after
        → Tells tells_changes us o o_after lines → Observes options names c from events ts w o
        → Observes options names c from events (ts ++ us) w' o_after
        × (c.aside.clocks ≡ []
        → lines ≡ acts_lines options names (option_map (readings_after ts) c.carried.readings) us)
    chained [] ts w w' before after o o_after lines start same end (is, none) observes = (
      subst (λ us. Observes options names c from events us w' o_after) (sym (append-nil ts))
          (subst (Observes options names c from events ts w') (sym is)
          (moved ts w w' o (end ∙ sym same ∙ start) observes)),
      λ nobody. none,
    )
    chained (t ∷ us) ts w w' begun after o o_after lines start (first, done, rest) end
        (between, one, others, tells_one, tells, are) observes =
        let before = moved ts w t.before o (first ∙ start) observes in
        let (is, told) = was_seen ts t o between one before done tells_one in
        let step = act_step ts t o before done in
        let next = chained us (ts ++ t ∷ []) t.after w' t.after.stations after between o_after others refl rest end
        tells
        (subst (Observes options names c from events (ts ++ t ∷ []) t.after) (sym is) step.0) in (
          subst (λ vs. Observes options names c from events vs w' o_after) (append_assoc ts (t ∷ []) us) next.0,
          λ nobody. are ∙ ap (λ ls. ls ++ others) (told ∙ step.1 nobody)
              ∙ ap (λ ls. (act_lines options names t
              ++ stretch_reading_lines options (option_map (readings_after ts) c.carried.readings) t) ++ ls)
              (next.1 nobody
              ∙ ap (λ readings. acts_lines options names readings us) (next_readings ts t c.carried.readings)),
        )

  none_before : (readings : Option (List SystemReading)) → option_map (readings_after []) readings ≡ readings
  none_before None = refl
  none_before (Some rs) = refl

  module _ {F : Type 0} (answers : Bounds → ℕ → F → Option ℕ → F → Type 0) (from : Option ℕ) (until : ℕ)
      (events : List Timed) (ts : List ActTrace) (fate : F) (w : WorldState) (o o_after : WatchState)
      (lines : List (List ℕ)) (begins : Observes options names c from (length events) [] w o)
      (tells : Tells tells_changes ts o o_after lines) where
    lines_from : lines ≡ acts_lines options names (option_map (readings_after []) c.carried.readings) ts
        → lines ≡ acts_lines options names c.carried.readings ts
    lines_from are = are ∙ ap (λ readings. acts_lines options names readings ts) (none_before c.carried.readings)

    -- they pass
    passes : (fate_after : F) (w' : WorldState) → Courses answers until events ts fate fate_after w w'
        → Observes options names c from (length events) ts w' o_after
        × (c.aside.clocks ≡ []
        → lines ≡ acts_lines options names (option_map (readings_after []) c.carried.readings) ts)
    passes fate_after w' courses =
        chained from (length events) ts [] w w' w.stations w'.stations o o_after lines refl
        (courses_chain answers until events ts fate fate_after w w' courses) refl tells begins

    pub stretch_passes : (fate_after : F) (w' : WorldState) → Courses answers until events ts fate fate_after w w'
        → Observes options names c from (length events) ts w' o_after
    stretch_passes fate_after w' courses = (passes fate_after w' courses).0

    pub stretch_told : c.aside.clocks ≡ [] → (fate_after : F) (w' : WorldState)
        → Courses answers until events ts fate fate_after w w' → lines ≡ acts_lines options names c.carried.readings ts
    stretch_told nobody fate_after w' courses = lines_from ((passes fate_after w' courses).1 nobody)

    -- or break off
    pub broken_told : c.aside.clocks ≡ [] → CoursesSoFar answers until events ts fate w
        → lines ≡ acts_lines options names c.carried.readings ts
    broken_told nobody courses =
        let (after, chain) = broken_chain answers until events ts fate w courses in
        lines_from ((chained from (length events) ts [] w (record w { stations = after }) w.stations after o o_after
        lines refl chain refl tells begins).1 nobody)

  -- ---- a stretch ends

  module _ (plan : Plan) (p : StretchTrace) (is : IsOfPlan plan p) (o : WatchState)
      (observes : Observes options names c (exact_time p.errors) (length p.events) p.acts p.after o) where
    abbrev now : ℕ → Option ℕ
    now = waits p.acts since

    abbrev errors : ℕ → Option ℕ
    errors name = error_from name (exact_time p.errors) p.acts

    abbrev measures : Measures
    measures = measured_by options.summary options.offsets (exact_time p.errors) names since p.acts

    abbrev times : Option TimeMeasures
    times = option_map (λ rs. measured_times rs (length p.events) (looked_acts c.aside p.acts) p.to p.after)
        c.carried.readings

    abbrev became : Option Greatest → Counts → Stretch
    became holdover counts = record {
      from = p.from;
      to = p.to;
      begins_with_event = is_begun p.events;
      settling = p.settling;
      measures = record measures { holdover = holdover };
      counts = counts;
      times = times;
    }

    -- the longest of the waits that ended, and of those under way
    longest : greatest_from measures.holdover (filter_map (wait_of p.to) (map (kept now errors p.after) names))
        ≡ greatest (ended names since p.acts ++ under_way names now p.to)
    longest =
        ap (greatest_from measures.holdover) (kept_waits now errors p.after p.to names)
        ∙ sym (greatest_both None (ended names since p.acts) (under_way names now p.to))

    times_is : times_ended plan.to p.after o.times ≡ times
    times_is =
        ap (λ to. times_ended to p.after o.times) is.to_is
        ∙ ap (times_ended p.to p.after) observes.times_are
        ∙ account_ended options (exact_time p.errors) names (length p.events) c.aside p.acts p.to p.after
        c.carried.readings

    pub stretch_ended : ended_of plan p.after o ≡ stretch_aside names c p
    stretch_ended =
        ap (ended_stretch plan.from plan.to plan.begins_with_event plan.settling o.measures o.systems) times_is
        ∙ ap (λ from. ended_stretch from plan.to plan.begins_with_event plan.settling o.measures o.systems times)
        is.from_is
        ∙ ap (λ to. ended_stretch p.from to plan.begins_with_event plan.settling o.measures o.systems times) is.to_is
        ∙ ap (λ begins. ended_stretch p.from p.to begins plan.settling o.measures o.systems times) is.begins_is
        ∙ ap (λ settling. ended_stretch p.from p.to (is_begun p.events) settling o.measures o.systems times)
        is.settling_is
        ∙ ap (λ m. ended_stretch p.from p.to (is_begun p.events) p.settling m o.systems times)
        observes.tracks.measures_are
        ∙ ap (λ xs. ended_stretch p.from p.to (is_begun p.events) p.settling measures xs times)
        observes.tracks.stands.are
        ∙ ap (λ h. became h (counted (shown_of_all (map (kept now errors p.after) names)))) longest
        ∙ ap (λ shown. became (greatest (ended names since p.acts ++ under_way names now p.to)) (counted shown))
        (kept_shown now errors p.after names)

    -- so it ended
    pub end_is : end_of plan p.after o ≡ end_begun names c p
    end_is =
        ap (λ s. ended_with s (roots_of (shown_of_all o.systems)) (keepers_among o.systems)) stretch_ended
        ∙ ap (λ (xs : List Watched). ended_with (stretch_aside names c p) (roots_of (shown_of_all xs))
        (keepers_among xs)) observes.tracks.stands.are
        ∙ ap (λ all. ended_with (stretch_aside names c p) (roots_of all)
        (keepers_among (map (kept now errors p.after) names))) (kept_shown now errors p.after names)
        ∙ ap (ended_with (stretch_aside names c p) (roots_of (map (λ name. shown name p.after) names)))
        (kept_keepers now errors p.after names)

    errors_are : (clock : ℕ) → error_among o.systems clock ≡ errors clock
    errors_are clock =
        ap (λ xs. error_among xs clock) observes.tracks.stands.are
        ∙ kept_error now errors p.after clock names (observes.others clock)

    -- ---- its lines, where nobody is set aside

    module _ (nobody : c.aside.clocks ≡ []) where
      plain : stretch_aside names c p ≡ stretch_of names c.carried p
      plain = nobody_stretch names c p nobody

      abbrev asked : SystemError → List ℕ
      asked = reads_if options.times names c.carried.readings p

      reads_is : reads_kept plan.to p.after o.times ≡ asked
      reads_is = λ i s. (ap (λ to. reads_kept to p.after o.times s) is.to_is
          ∙ ap (λ times. reads_kept p.to p.after times s) observes.times_are
          ∙ reads_are options names c.aside nobody p (length p.events) c.carried.readings s) i

      accuracy_is : kept_accuracy (reads_kept plan.to p.after o.times) o.systems plan.errors
          ≡ timeline_accuracy_lines asked p.acts p.errors
      accuracy_is =
          ap (λ (reads : SystemError → List ℕ). kept_accuracy reads o.systems plan.errors) reads_is
          ∙ ap (kept_accuracy asked o.systems) is.errors_are
          ∙ accuracy_kept asked p.acts o.systems p.errors errors_are

      line_is : line_of_times (asks_lines o.times) (ended_of plan p.after o) (ended_of plan p.after o).times
          ≡ line_of_times options.times (stretch_of names c.carried p) (stretch_of names c.carried p).times
      line_is =
          ap (λ (s : Stretch). line_of_times (asks_lines o.times) s s.times) stretch_ended
          ∙ ap (λ account. line_of_times (asks_lines account) (stretch_aside names c p) times) observes.times_are
          ∙ line_kept options names c.aside p (exact_time p.errors) (length p.events) c.carried.readings
          (stretch_aside names c p)
          (λ rs. measured_times rs (length p.events) (looked_acts c.aside p.acts) p.to p.after)
          ∙ ap (λ (s : Stretch). line_of_times options.times s s.times) plain

      pub end_told : end_lines plan p.after o ≡ after_line (stretch_of names c.carried p)
          ∷ (line_of_times options.times (stretch_of names c.carried p) (stretch_of names c.carried p).times
          ++ timeline_accuracy_lines asked p.acts p.errors)
      end_told =
          ap (λ (s : Stretch). after_line s
          ∷ (line_of_times (asks_lines o.times) (ended_of plan p.after o) (ended_of plan p.after o).times
          ++ kept_accuracy (reads_kept plan.to p.after o.times) o.systems plan.errors)) (stretch_ended ∙ plain)
          ∙ ap (λ line. after_line (stretch_of names c.carried p)
          ∷ (line ++ kept_accuracy (reads_kept plan.to p.after o.times) o.systems plan.errors)) line_is
          ∙ ap (λ rest. after_line (stretch_of names c.carried p)
          ∷ (line_of_times options.times (stretch_of names c.carried p) (stretch_of names c.carried p).times ++ rest))
          accuracy_is

  -- the observer is where the next can begin
  pub stretch_rests : (from : Option ℕ) (events : ℕ) (ts : List ActTrace) (w : WorldState) (o : WatchState)
      → Observes options names c from events ts w o → Rests options names (carry_ended ts c) w o
  stretch_rests from events ts w o observes = record {
    named = observes.named;
    follow = observes.follow;
    summary_is = observes.tracks.summary_is;
    offsets_is = observes.tracks.offsets_is;
    errors = λ name. error_from name from ts;
    stands = observes.tracks.stands;
    times = rest_after options from names events c.aside ts c.carried.readings o.times observes.times_are;
  }

  -- those that are set aside later may be others
  pub later_aside : (from : Option ℕ) (events : ℕ) (ts : List ActTrace) (w : WorldState) (o : WatchState)
      (b : AsideState) → c.aside.clocks ≡ [] → b.begun < b.from → Observes options names c from events ts w o
      → Observes options names (record { carried = c.carried; aside = b }) from events ts w (with_aside b o)
  later_aside from events ts w o b nobody later observes = record {
    named = observes.named;
    follow = observes.follow;
    tracks = record {
      summary_is = observes.tracks.summary_is;
      offsets_is = observes.tracks.offsets_is;
      from_is = observes.tracks.from_is;
      stands = observes.tracks.stands;
      measures_are = observes.tracks.measures_are;
    };
    times_are = ap (option_map (times_aside b)) observes.times_are
        ∙ later_kept options from names events c.aside b ts nobody later c.carried.readings;
    others = observes.others;
  }
