-- What is kept of what systems read is what is defined over the acts.
use Rattle.std.proofs.Common.{◌≡◌, ◌<◌, ◌==◌, ◌&&◌, ℕ, Bool, true, false, if◌then◌else◌, List, [], ◌∷◌, ◌++◌, map, Option, Some, None, is_some, option_map, unsigned_abs, refl, sym, ap, ◌∙◌}
use Rattle.gptp_model.specs.World.{WorldState}
use Rattle.gptp_model.specs.Views.{rising_clocks}
use Rattle.gptp_model.specs.declared.done.Done.{Done}
use Rattle.gptp_model.specs.declared.done.Done.TheVariants.{Heard, Quiet}
use Rattle.gptp_accuracy.specs.declared.errors.SystemError.{SystemError}
use Rattle.gptp_scenario.specs.declared.change.Act.{Act}
use Rattle.gptp_scenario.specs.declared.change.Act.TheVariants.{Change as Changing, Deliver, Expire}
use Rattle.gptp_system.specs.State.{SystemState}
use Rattle.gptp_world.specs.Transitions.{ActTrace}
use Rattle.gptp_timeline.specs.ExactReads.{counts_new, ended_reads, reads_by, reads_next, reads_over, reads_with, unread, without_reads}
use Rattle.gptp_timeline.specs.Jumps.{error_before}
use Rattle.gptp_timeline.specs.Looks.{events_left, left_after, looked_all, looked_in, looked_over, measured_times, measured_with, nothing_looked, nothing_read}
use Rattle.std.specs.Option.{option_map_or}
use Rattle.gptp_timeline.specs.LastStretches.{aside_if}
use Rattle.gptp_timeline.specs.Passing.{aside_kept, times_before, watch_at_start, watch_before}
use Rattle.gptp_timeline.specs.Readings.{new_in, reading_error, no_reading, read_after, readings_after}
use Rattle.gptp_timeline.specs.Compared.{compared_by_expiry, compared_by_frame}
use Rattle.gptp_timeline.specs.Receipts.{offset_error, received_by}
use Rattle.gptp_timeline.specs.Shown.{live_system}
use Rattle.gptp_timeline.specs.Stretch.{at_of}
use Rattle.gptp_timeline.specs.Aside.{aside_begun, aside_behind, aside_over, AsideState, is_out, looked_acts, nobody_aside, readings_begun}
use Rattle.gptp_timeline.specs.TimeLines.{reads_words}
use Rattle.gptp_timeline.specs.TimeWatch.{reading_lines, TimeState, times_after, times_begun, times_looked, times_with}
use Rattle.gptp_timeline.proofs.AsideLemmas.{later_acts, later_over, looked_more, nobody_acts, nobody_out, nobody_over, over_more}
use Rattle.gptp_timeline.specs.Timeline.{asks_lines, exact_time, line_of_times, none_carried, reads_if, reads_kept, StretchTrace, stretch_reading_lines, times_ended, tracks}
use Rattle.gptp_timeline.specs.Watch.{event_look, own_look, place_of, places_of, see_act, see_all, see_at, see_delivery, see_each, see_one, see_placed, see_receipt_if, see_receipt_of, see_system, take_error, times_aside, times_lines_if, WatchState}
use Rattle.gptp_timeline.specs.declared.compared.Compared.{Compared}
use Rattle.gptp_timeline.specs.declared.exact_reads.ExactReads.{ExactReads}
use Rattle.gptp_timeline.specs.declared.exact_reads.SystemReads.{SystemReads}
use Rattle.gptp_timeline.specs.declared.looks.TimeMeasures.{TimeMeasures}
use Rattle.gptp_timeline.specs.declared.readings.NewReading.{NewReading}
use Rattle.gptp_timeline.specs.declared.readings.SystemReading.{SystemReading}
use Rattle.gptp_timeline.specs.declared.stretch.Stretch.{Stretch}
use Rattle.gptp_timeline.specs.declared.timeline.TimelineOptions.{TimelineOptions}
use Rattle.gptp_timeline.specs.declared.watched.ActView.{ActView}
use Rattle.gptp_timeline.specs.declared.watched.Watched.{Watched}
use Rattle.gptp_timeline.proofs.LookedLemmas.{measured_both}

-- ---- nothing else that an observer does touches it

one_times : (look : ActView) (w : WorldState) (place : ℕ) (x : Option Watched) (o : WatchState)
    → (see_one look w place x o).times ≡ o.times
one_times look w place None o = refl
one_times look w place (Some x) o = refl

at_times : (look : ActView) (w : WorldState) (place : ℕ) (o : WatchState) → (see_at look w place o).times ≡ o.times
at_times look w place o = one_times look w place _ o

each_times : (look : ActView) (w : WorldState) (places : List ℕ) (o : WatchState)
    → (see_each look w places o).times ≡ o.times
each_times look w [] o = refl
each_times look w (place ∷ places) o =
    each_times look w places (see_at look w place o) ∙ at_times look w place o

error_times : (at place : ℕ) (x : Option Watched) (w : WorldState) (s : SystemState) (o : WatchState)
    → (take_error at place x (offset_error at s w) o).times ≡ o.times
error_times at place None w s o = refl
error_times at place (Some x) w s o = refl

receipt_times : (at : ℕ) (w : WorldState) (place : ℕ) (s : Option SystemState) (o : WatchState)
    → (see_receipt_of at w place s o).times ≡ o.times
receipt_times at w place None o = refl
receipt_times at w place (Some s) o = error_times at place _ w s o

receipt_if_times : (received : Bool) (at : ℕ) (w : WorldState) (clock place : ℕ) (o : WatchState)
    → (see_receipt_if received at w clock place o).times ≡ o.times
receipt_if_times true at w clock place o = receipt_times at w place (live_system clock w) o
receipt_if_times false at w clock place o = refl

placed_times : (at : ℕ) (w : WorldState) (clock : ℕ) (received : Bool) (compared : Compared)
    (place : Option ℕ) (o : WatchState)
    → (see_placed at w clock received compared place o).times ≡ o.times
placed_times at w clock received compared None o = refl
placed_times at w clock received compared (Some place) o =
    receipt_if_times received at w clock place (see_at (own_look at received compared) w place o)
    ∙ at_times (own_look at received compared) w place o

system_times : (at : ℕ) (w : WorldState) (clock : ℕ) (received : Bool) (compared : Compared) (o : WatchState)
    → (see_system at w clock received compared o).times ≡ o.times
system_times at w clock received compared o = placed_times at w clock received compared (place_of clock o) o

delivery_times : (at : ℕ) (w : WorldState) (done : Done) (o : WatchState) → (see_delivery at w done o).times ≡ o.times
delivery_times at w Quiet o = refl
delivery_times at w (Heard clock port answer frame) o =
    system_times at w clock (is_some (received_by (Heard clock port answer frame)))
    (compared_by_frame port frame.items) o

pub act_times : (at : ℕ) (act : Act) (done : Done) (w : WorldState) (o : WatchState)
    → (see_act at act done w o).times ≡ o.times
act_times at (Deliver link direction) done w o = delivery_times at w done o
act_times at (Expire clock timer) done w o = system_times at w clock false (compared_by_expiry timer) o
act_times at (Changing change) done w o = each_times (event_look at) w (places_of o) o

-- ---- the account after acts

-- where these were set aside as the stretch began
abbrev pub account : TimelineOptions → Option ℕ → List ℕ → ℕ → AsideState → List ActTrace → List SystemReading
    → TimeState
account options from names events a ts rs = record {
  lines = options.times;
  told = options.times && options.offsets;
  exact_from = from;
  events_left = events_left (looked_acts a ts) events;
  systems = readings_after (looked_acts a ts) rs;
  reads = reads_over from rs (map unread names) (looked_acts a ts);
  measures = measured_with (looked_over rs events (looked_acts a ts)) nothing_read;
  aside = aside_over ts a;
}

abbrev pub account_if : TimelineOptions → Option ℕ → List ℕ → ℕ → AsideState → List ActTrace
    → Option (List SystemReading) → Option TimeState
account_if options from names events a ts readings = option_map (account options from names events a ts) readings

-- where these acts were looked at
abbrev account_of : TimelineOptions → Option ℕ → List ℕ → ℕ → AsideState → List ActTrace → List SystemReading
    → TimeState
account_of options from names events a ts rs = record {
  lines = options.times;
  told = options.times && options.offsets;
  exact_from = from;
  events_left = events_left ts events;
  systems = readings_after ts rs;
  reads = reads_over from rs (map unread names) ts;
  measures = measured_with (looked_over rs events ts) nothing_read;
  aside = a;
}

-- ---- one act more

left_more : (ts : List ActTrace) (t : ActTrace) (left : ℕ)
    → events_left (ts ++ t ∷ []) left ≡ left_after t.told.timed.act (events_left ts left)
left_more [] t left = refl
left_more (u ∷ us) t left = left_more us t (left_after u.told.timed.act left)

pub readings_more : (ts : List ActTrace) (t : ActTrace) (rs : List SystemReading)
    → readings_after (ts ++ t ∷ []) rs ≡ read_after t (readings_after ts rs)
readings_more [] t rs = refl
readings_more (u ∷ us) t rs = readings_more us t (read_after u rs)

reads_more : (from : Option ℕ) (ts : List ActTrace) (t : ActTrace) (rs : List SystemReading) (xs : List SystemReads)
    → reads_over from rs xs (ts ++ t ∷ [])
    ≡ reads_by from (at_of t) t.after (new_in t (readings_after ts rs)) (reads_over from rs xs ts)
reads_more from [] t rs xs = refl
reads_more from (u ∷ us) t rs xs =
    reads_more from us t (read_after u rs) (reads_by from (at_of u) u.after (new_in u rs) xs)

measured_more : (ts : List ActTrace) (t : ActTrace) (rs : List SystemReading) (left : ℕ) (m : TimeMeasures)
    → measured_with (looked_over rs left (ts ++ t ∷ [])) m
    ≡ measured_with (looked_in (readings_after ts rs) (events_left ts left) t)
    (measured_with (looked_over rs left ts) m)
measured_more [] t rs left m = measured_both (looked_in rs left t) nothing_looked m
measured_more (u ∷ us) t rs left m =
    let next = read_after u rs in
    let still = left_after u.told.timed.act left in
    measured_both (looked_in rs left u) (looked_over next still (us ++ t ∷ [])) m
    ∙ measured_more us t next still (measured_with (looked_in rs left u) m)
    ∙ ap (measured_with (looked_in (readings_after us next) (events_left us still) t))
    (sym (measured_both (looked_in rs left u) (looked_over next still us) m))

module _ (options : TimelineOptions) (from : Option ℕ) (names : List ℕ) (events : ℕ) (a : AsideState)
    (ts : List ActTrace) where
  abbrev looked : List ActTrace
  looked = looked_acts a ts

  abbrev now : AsideState
  now = aside_over ts a

  -- an act more is looked at
  with_more : (t : ActTrace) (rs : List SystemReading)
      → times_with (at_of t) t.after t.told.timed.act (new_in t (readings_after looked rs))
      (account_of options from names events now looked rs)
      ≡ account_of options from names events now (looked ++ t ∷ []) rs
  with_more t rs =
      let left = sym (left_more looked t events) in
      let systems = sym (readings_more looked t rs) in
      let reads = sym (reads_more from looked t rs (map unread names)) in
      let measures = sym (measured_more looked t rs events nothing_read) in
      λ i. record {
        lines = options.times;
        told = options.times && options.offsets;
        exact_from = from;
        events_left = left i;
        systems = systems i;
        reads = reads i;
        measures = measures i;
        aside = now;
      }

  -- or isn't
  looked_or_not : (t : ActTrace) (rs : List SystemReading)
      → times_looked (at_of t) t.told.timed.act t.told.done t.after (account options from names events a ts rs)
      ≡ account_of options from names events now (if is_out now t then looked else looked ++ t ∷ []) rs
  looked_or_not t rs = by (is_out now t)
    where
      by : (out : Bool)
          → (if out then account_of options from names events now looked rs
          else times_with (at_of t) t.after t.told.timed.act (new_in t (readings_after looked rs))
          (account_of options from names events now looked rs))
          ≡ account_of options from names events now (if out then looked else looked ++ t ∷ []) rs
      by true = refl
      by false = with_more t rs

  pub account_more : (t : ActTrace) (rs : List SystemReading)
      → times_after (at_of t) t.told.timed.act t.told.done t.after (account options from names events a ts rs)
      ≡ account options from names events a (ts ++ t ∷ []) rs
  account_more t rs =
      ap (λ (o : TimeState). record o { aside = aside_behind t now }) (looked_or_not t rs
      ∙ ap (λ us. account_of options from names events now us rs) (sym (looked_more ts t a)))
      ∙ ap (λ b. account_of options from names events b (looked_acts a (ts ++ t ∷ [])) rs) (sym (over_more ts t a))

  pub account_if_more : (t : ActTrace) (readings : Option (List SystemReading))
      → option_map (times_after (at_of t) t.told.timed.act t.told.done t.after)
      (account_if options from names events a ts readings)
      ≡ account_if options from names events a (ts ++ t ∷ []) readings
  account_if_more t None = refl
  account_if_more t (Some rs) = ap Some (account_more t rs)

  -- what is told of it, where nobody is set aside
  pub account_told : a.clocks ≡ [] → (t : ActTrace) (readings : Option (List SystemReading))
      → times_lines_if (at_of t) t.told.timed.act t.told.done t.after
      (account_if options from names events a ts readings)
      ≡ stretch_reading_lines options (option_map (readings_after ts) readings) t
  account_told nobody t None = refl
  account_told nobody t (Some rs) =
      ap (λ out. if out then []
      else reading_lines (options.times && options.offsets) (at_of t) t.after (new_in t (readings_after looked rs)))
      (nobody_out now (nobody_over ts a nobody) t)
      ∙ ap (λ us. reading_lines (options.times && options.offsets) (at_of t) t.after (new_in t (readings_after us rs)))
      (nobody_acts ts a nobody)

  -- where the stretch ends
  pub account_ended : (to : ℕ) (w : WorldState) (readings : Option (List SystemReading))
      → times_ended to w (account_if options from names events a ts readings)
      ≡ option_map (λ rs. measured_times rs events looked to w) readings
  account_ended to w None = refl
  account_ended to w (Some rs) =
      ap Some (sym (measured_both (looked_over rs events looked) (looked_all to w (readings_after looked rs))
      nothing_read))

-- ---- where systems are set aside later

-- the account is the same as where nobody is set aside, but for who will be
pub later_kept : (options : TimelineOptions) (from : Option ℕ) (names : List ℕ) (events : ℕ) (a b : AsideState)
    (ts : List ActTrace) → a.clocks ≡ [] → b.begun < b.from → (readings : Option (List SystemReading))
    → option_map (times_aside b) (account_if options from names events a ts readings)
    ≡ account_if options from names events b ts readings
later_kept options from names events a b ts nobody later None = refl
later_kept options from names events a b ts nobody later (Some rs) =
    ap (λ us. Some (account_of options from names events b us rs))
    (nobody_acts ts a nobody ∙ sym (later_acts ts b later))
    ∙ ap (λ c. Some (account_of options from names events c (looked_acts b ts) rs)) (sym (later_over ts b later))

-- ---- between stretches

pub record IsAtRest (options : TimelineOptions) (names : List ℕ) (a : AsideState) (rs : List SystemReading)
    (o : TimeState) : Type 0 where
  pub lines_is : o.lines ≡ options.times
  pub told_is : o.told ≡ (options.times && options.offsets)
  pub systems_are : o.systems ≡ rs
  pub reads_are : map without_reads o.reads ≡ map unread names
  pub aside_is : o.aside ≡ a

-- where it is asked what systems read, this is kept, and otherwise nothing
abbrev pub RestTimes : TimelineOptions → List ℕ → AsideState → Option (List SystemReading) → Option TimeState → Type 0
RestTimes options names a None times = times ≡ None
RestTimes options names a (Some rs) times = (o : TimeState) × (times ≡ Some o) × IsAtRest options names a rs o

none_read : (names : List ℕ) → map without_reads (map unread names) ≡ map unread names
none_read [] = refl
none_read (n ∷ ns) = ap (λ rest. unread n ∷ rest) (none_read ns)

-- as systems start
pub rest_first : (options : TimelineOptions) (a : AsideState) (w : WorldState)
    → RestTimes options (rising_clocks w) a (none_carried (tracks options) (rising_clocks w)).readings
    (times_before options a w)
rest_first options a w = by (tracks options)
  where
    names : List ℕ
    names = rising_clocks w

    kept : TimeState
    kept = record {
      lines = options.times;
      told = options.times && options.offsets;
      exact_from = None;
      events_left = 0;
      systems = map no_reading (rising_clocks w);
      reads = map unread (rising_clocks w);
      measures = nothing_read;
      aside = a;
    }

    by : (asked : Bool) → RestTimes options names a (if asked then Some (map no_reading names) else None)
        (if asked then Some kept else None)
    by true = (
      kept,
      refl,
      record {
        lines_is = refl;
        told_is = refl;
        systems_are = refl;
        reads_are = none_read (rising_clocks w);
        aside_is = refl;
      },
    )
    by false = refl

-- who is set aside then
module _ (options : TimelineOptions) (a : AsideState) (w : WorldState) where
  times_at_start : (watch_at_start options a w).times ≡ times_before options a w
  times_at_start = each_times (event_look 0) w (places_of (watch_before options a w)) (watch_before options a w)

  kept_before : option_map_or (λ (o : TimeState). o.aside) (times_before options a w) nobody_aside
      ≡ aside_if (tracks options) a
  kept_before = by (tracks options)
    where
      kept : TimeState
      kept = record {
        lines = options.times;
        told = options.times && options.offsets;
        exact_from = None;
        events_left = 0;
        systems = map no_reading (rising_clocks w);
        reads = map unread (rising_clocks w);
        measures = nothing_read;
        aside = a;
      }

      by : (asked : Bool) → option_map_or (λ (o : TimeState). o.aside) (if asked then Some kept else None) nobody_aside
          ≡ aside_if asked a
      by true = refl
      by false = refl

  pub kept_at_start : aside_kept (watch_at_start options a w) ≡ aside_if (tracks options) a
  kept_at_start =
      ap (λ times. option_map_or (λ (o : TimeState). o.aside) times nobody_aside) times_at_start ∙ kept_before

  same_before : times_before options (aside_if (tracks options) a) w ≡ times_before options a w
  same_before = by (tracks options)
    where
      kept : AsideState → TimeState
      kept b = record {
        lines = options.times;
        told = options.times && options.offsets;
        exact_from = None;
        events_left = 0;
        systems = map no_reading (rising_clocks w);
        reads = map unread (rising_clocks w);
        measures = nothing_read;
        aside = b;
      }

      by : (asked : Bool) → (if asked then Some (kept (aside_if asked a)) else None)
          ≡ (if asked then Some (kept a) else None)
      by true = refl
      by false = refl

  pub starts_with_kept : (o : WatchState) → o ≡ watch_at_start options a w
      → o ≡ watch_at_start options (aside_kept o) w
  starts_with_kept o is =
      is
      ∙ ap (λ times. see_all (event_look 0) w (record (watch_before options a w) { times = times })) (sym same_before)
      ∙ ap (λ b. watch_at_start options b w) (sym kept_at_start ∙ sym (ap aside_kept is))

  pub nobody_kept : a.clocks ≡ [] → (o : WatchState) → o ≡ watch_at_start options a w → (aside_kept o).clocks ≡ []
  nobody_kept nobody o is =
      ap (λ (b : AsideState). b.clocks) (ap aside_kept is ∙ kept_at_start) ∙ by (tracks options)
    where
      by : (asked : Bool) → (aside_if asked a).clocks ≡ []
      by true = nobody
      by false = refl

-- a stretch begins
module _ (options : TimelineOptions) (at : ℕ) (from : Option ℕ) (names : List ℕ) (events : ℕ) (a : AsideState) where
  begun_is : (rs : List SystemReading) (o : TimeState) → IsAtRest options names a rs o
      → times_begun at from events o
      ≡ account options from names events (aside_begun at a) [] (readings_begun (aside_begun at a) rs)
  begun_is rs o rest = λ i. record {
    lines = rest.lines_is i;
    told = rest.told_is i;
    exact_from = from;
    events_left = events;
    systems = readings_begun (aside_begun at (rest.aside_is i)) (rest.systems_are i);
    reads = rest.reads_are i;
    measures = nothing_read;
    aside = aside_begun at (rest.aside_is i);
  }

  pub rest_begun : (readings : Option (List SystemReading)) (times : Option TimeState)
      → RestTimes options names a readings times
      → option_map (times_begun at from events) times
      ≡ account_if options from names events (aside_begun at a) []
      (option_map (readings_begun (aside_begun at a)) readings)
  rest_begun None times is = ap (option_map (times_begun at from events)) is
  rest_begun (Some rs) times (o, is, rest) =
      ap (option_map (times_begun at from events)) is ∙ ap Some (begun_is rs o rest)

-- it ends
stays_unread : (from : Option ℕ) (at : ℕ) (w : WorldState) (u : NewReading) (x : SystemReads)
    → without_reads (reads_with from at w u x) ≡ without_reads x
stays_unread from at w u x =
    by (x.clock == u.clock) (reads_next (counts_new from at u) at (option_map unsigned_abs (error_before at w u))
    (option_map unsigned_abs (reading_error at w u.clock u.after)) x.reads)
  where
    by : (same : Bool) (reads : Option ExactReads)
        → without_reads (if same then record x { reads = reads } else x) ≡ without_reads x
    by true reads = refl
    by false reads = refl

all_unread : (from : Option ℕ) (at : ℕ) (w : WorldState) (u : NewReading) (xs : List SystemReads)
    → map without_reads (map (reads_with from at w u) xs) ≡ map without_reads xs
all_unread from at w u [] = refl
all_unread from at w u (x ∷ xs) =
    ap (λ first. first ∷ map without_reads (map (reads_with from at w u) xs)) (stays_unread from at w u x)
    ∙ ap (λ rest. without_reads x ∷ rest) (all_unread from at w u xs)

by_unread : (from : Option ℕ) (at : ℕ) (w : WorldState) (u : Option NewReading) (xs : List SystemReads)
    → map without_reads (reads_by from at w u xs) ≡ map without_reads xs
by_unread from at w None xs = refl
by_unread from at w (Some u) xs = all_unread from at w u xs

over_unread : (from : Option ℕ) (rs : List SystemReading) (xs : List SystemReads) (ts : List ActTrace)
    → map without_reads (reads_over from rs xs ts) ≡ map without_reads xs
over_unread from rs xs [] = refl
over_unread from rs xs (t ∷ ts) =
    over_unread from (read_after t rs) (reads_by from (at_of t) t.after (new_in t rs) xs) ts
    ∙ by_unread from (at_of t) t.after (new_in t rs) xs

pub rest_after : (options : TimelineOptions) (from : Option ℕ) (names : List ℕ) (events : ℕ) (a : AsideState)
    (ts : List ActTrace) (readings : Option (List SystemReading)) (times : Option TimeState)
    → times ≡ account_if options from names events a ts readings
    → RestTimes options names (aside_over ts a) (option_map (readings_after (looked_acts a ts)) readings) times
rest_after options from names events a ts None times is = is
rest_after options from names events a ts (Some rs) times is = (
  account options from names events a ts rs,
  is,
  record {
    lines_is = refl;
    told_is = refl;
    systems_are = refl;
    reads_are = over_unread from rs (map unread names) (looked_acts a ts) ∙ none_read names;
    aside_is = refl;
  },
)

-- ---- what is written where a stretch ends

module _ (options : TimelineOptions) (names : List ℕ) (a : AsideState) (p : StretchTrace) (from : Option ℕ) (events : ℕ)
  where
    pub line_kept : (readings : Option (List SystemReading)) (s : Stretch)
        (measured : List SystemReading → TimeMeasures)
        → line_of_times (asks_lines (account_if options from names events a p.acts readings)) s
        (option_map measured readings)
        ≡ line_of_times options.times s (option_map measured readings)
    line_kept None s measured = refl
    line_kept (Some rs) s measured = refl

none_asked : (asked : Bool) → ◌≡◌ {A = List ℕ} [] (if asked then [] else [])
none_asked true = refl
none_asked false = refl

-- where nobody is set aside
pub reads_are : (options : TimelineOptions) (names : List ℕ) (a : AsideState) → a.clocks ≡ [] → (p : StretchTrace)
    (events : ℕ) (readings : Option (List SystemReading)) (s : SystemError)
    → reads_kept p.to p.after (account_if options (exact_time p.errors) names events a p.acts readings) s
    ≡ reads_if options.times names readings p s
reads_are options names a nobody p events None s = none_asked options.times
reads_are options names a nobody p events (Some rs) s =
    ap (λ us. if options.times then reads_words s (ended_reads p.to p.after (readings_after us rs)
    (reads_over (exact_time p.errors) rs (map unread names) us) s.clock) else []) (nobody_acts p.acts a nobody)
