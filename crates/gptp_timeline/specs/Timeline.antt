-- The timeline of a document: its text, over the acts of its run (profile).
use Rattle.std.specs.Prelude.{◌≡◌, ◌≢◌, ◌⊎◌, ◌≤◌, ℕ, Bool, true, false, not, ◌&&◌, ◌||◌, nat_le, nat_lt, if◌then◌else◌, length, List, [], ◌∷◌, ◌++◌, map, Option, Some, None}
use Rattle.std.specs.List.{filter, flat_map}
use Rattle.std.specs.Option.{option_and_then, option_map, option_map_or}
use Rattle.gptp_model.specs.Views.{rising_clocks}
use Rattle.gptp_model.specs.World.{WorldState}
use Rattle.gptp_links.specs.declared.bounds.Bounds.{Bounds}
use Rattle.gptp_network.specs.Document.{DocumentState}
use Rattle.gptp_network.specs.Snapshot.{events_by}
use Rattle.gptp_how_soon.specs.declared.bounds.Settling.{Settling}
use Rattle.gptp_scenario.specs.declared.change.Act.{Act}
use Rattle.gptp_scenario.specs.declared.change.Act.TheVariants.{Change as Changing, Deliver, Expire}
use Rattle.gptp_scenario.specs.declared.change.Timed.{Timed}
use Rattle.gptp_world.specs.Transitions.{ActTrace}
use Rattle.gptp_report.specs.Transitions.{Courses, CoursesSoFar}
use Rattle.gptp_model.specs.Course.{Begun}
use Rattle.gptp_system.specs.State.{SystemState}
use Rattle.gptp_accuracy.specs.Settlings.{settling_of}
use Rattle.gptp_accuracy.specs.TimeErrors.{AreTimeErrors}
use Rattle.gptp_accuracy.specs.declared.errors.SystemError.{SystemError}
use Rattle.gptp_accuracy.specs.declared.errors.TimeErrors.{TimeErrors}
use Rattle.gptp_timeline.specs.Changes.{change_lines}
use Rattle.gptp_timeline.specs.EventLine.{event_line}
use Rattle.gptp_timeline.specs.ExactReads.{ended_reads, reads_over, unread}
use Rattle.gptp_timeline.specs.Limits.{asks_times, exceeded_after, verdict_lines, is_exceeded}
use Rattle.gptp_timeline.specs.Looks.{looked_all, measured_times, measured_with}
use Rattle.gptp_timeline.specs.Readings.{new_in, no_reading, read_after, readings_after}
use Rattle.gptp_timeline.specs.Receipts.{offset_line, received_by}
use Rattle.gptp_timeline.specs.Shown.{live_system, shown}
use Rattle.gptp_timeline.specs.Stretch.{at_of, counted, error_at, error_from, measured, waits}
use Rattle.gptp_timeline.specs.StretchText.{after_line, ended_stretch, error_among, system_accuracy}
use Rattle.gptp_timeline.specs.TimeLines.{reads_words, times_line}
use Rattle.gptp_timeline.specs.TimeWatch.{reading_lines, TimeState}
use Rattle.gptp_timeline.specs.Watch.{unless, WatchState}
use Rattle.gptp_timeline.specs.declared.limits.Limit.{Limit}
use Rattle.gptp_timeline.specs.declared.limits.Limits.{Limits}
use Rattle.gptp_timeline.specs.declared.looks.TimeMeasures.{TimeMeasures}
use Rattle.gptp_timeline.specs.declared.readings.SystemReading.{SystemReading}
use Rattle.gptp_timeline.specs.declared.stretch.Stretch.{Stretch}
use Rattle.gptp_timeline.specs.declared.timeline.Plan.{Plan}
use Rattle.gptp_timeline.specs.declared.timeline.TimelineOptions.{TimelineOptions}
use Rattle.gptp_timeline.specs.declared.watched.Watched.{Watched}

-- ---- the lines of an act

-- the line of an event; none of another act
abbrev pub event_lines : ℕ → Act → List (List ℕ)
event_lines at (Deliver link direction) = []
event_lines at (Expire clock timer) = []
event_lines at (Changing change) = event_line at change ∷ []

-- what it leaves another at each system, by rising clock
abbrev pub all_changes : List ℕ → ActTrace → List (List ℕ)
all_changes names t =
    flat_map (λ name. change_lines (at_of t) name (shown name t.before) (shown name t.after)) names

-- the line of the receipt of a live system
abbrev pub stretch_receipt_lines : ℕ → ActTrace → Option SystemState → List (List ℕ)
stretch_receipt_lines name t None = []
stretch_receipt_lines name t (Some s) = offset_line (at_of t) name s.offset (error_at name t) ∷ []

abbrev pub offset_lines : ActTrace → Option ℕ → List (List ℕ)
offset_lines t None = []
offset_lines t (Some name) = stretch_receipt_lines name t (live_system name t.after)

-- The event first, then what is another at systems, then the receipt.
abbrev pub act_lines : TimelineOptions → List ℕ → ActTrace → List (List ℕ)
act_lines options names t =
    unless options.summary (event_lines (at_of t) t.told.timed.act ++ all_changes names t)
    ++ unless (not options.offsets) (offset_lines t (received_by t.told.done))

-- the line of a reading that a system gets by an act, where systems read so before it and these lines are asked for
abbrev pub stretch_reading_lines : TimelineOptions → Option (List SystemReading) → ActTrace → List (List ℕ)
stretch_reading_lines options None t = []
stretch_reading_lines options (Some rs) t =
    reading_lines (options.times && options.offsets) (at_of t) t.after (new_in t rs)

-- of several acts, one after another
abbrev pub acts_lines : TimelineOptions → List ℕ → Option (List SystemReading) → List ActTrace → List (List ℕ)
acts_lines options names readings [] = []
acts_lines options names readings (t ∷ ts) =
    (act_lines options names t ++ stretch_reading_lines options readings t)
    ++ acts_lines options names (option_map (read_after t) readings) ts

-- the lines of all systems as they start, at time 0; none in a summary
abbrev pub start_lines : TimelineOptions → List ℕ → WorldState → List (List ℕ)
start_lines options names w =
    unless options.summary (flat_map (λ name. change_lines 0 name None (shown name w)) names)

-- ---- how exact systems were

abbrev pub accuracy_at : (SystemError → List ℕ) → Option ℕ → List ActTrace → List SystemError → List (List ℕ)
accuracy_at reads None ts systems = []
accuracy_at reads (Some from) ts systems =
    flat_map (system_accuracy from (λ name. error_from name (Some from) ts) reads) systems

-- all of them, by rising clock
abbrev pub timeline_accuracy_lines : (SystemError → List ℕ) → List ActTrace → Option TimeErrors → List (List ℕ)
timeline_accuracy_lines reads ts None = []
timeline_accuracy_lines reads ts (Some t) = accuracy_at reads t.from ts t.systems.items

-- the time from which on they hold
abbrev pub exact_time : Option TimeErrors → Option ℕ
exact_time errors = option_and_then (λ (t : TimeErrors). t.from) errors

-- the lines of how exact systems were from a time on, by what an observer keeps; none without such a time
abbrev pub kept_accuracy_at : (SystemError → List ℕ) → Option ℕ → List Watched → List SystemError → List (List ℕ)
kept_accuracy_at reads None kept systems = []
kept_accuracy_at reads (Some from) kept systems = flat_map (system_accuracy from (error_among kept) reads) systems

abbrev pub kept_accuracy : (SystemError → List ℕ) → List Watched → Option TimeErrors → List (List ℕ)
kept_accuracy reads kept None = []
kept_accuracy reads kept (Some t) = kept_accuracy_at reads t.from kept t.systems.items

-- what was measured of what systems read in a stretch that ends at a time in this world
abbrev pub times_ended : ℕ → WorldState → Option TimeState → Option TimeMeasures
times_ended to w times =
    option_map (λ (o : TimeState). measured_with (looked_all to w o.systems) o.measures) times

-- what a system read, where that is asked
abbrev pub reads_kept : ℕ → WorldState → Option TimeState → SystemError → List ℕ
reads_kept to w None s = []
reads_kept to w (Some o) s = if o.lines then reads_words s (ended_reads to w o.systems o.reads s.clock) else []

-- the line of what systems read in a stretch, where it is asked for
abbrev pub line_of_times : Bool → Stretch → Option TimeMeasures → List (List ℕ)
line_of_times asked s None = []
line_of_times asked s (Some m) = if asked then times_line s.from s.to m ∷ [] else []

abbrev pub asks_lines : Option TimeState → Bool
asks_lines times = option_map_or (λ (o : TimeState). o.lines) times false

-- what became of a stretch, by what an observer keeps where it ends, and its lines there
abbrev pub ended_of : Plan → WorldState → WatchState → Stretch
ended_of plan w o = ended_stretch plan.from plan.to plan.begins_with_event plan.settling o.measures o.systems
    (times_ended plan.to w o.times)

abbrev pub end_lines : Plan → WorldState → WatchState → List (List ℕ)
end_lines plan w o =
    after_line (ended_of plan w o) ∷ (line_of_times (asks_lines o.times) (ended_of plan w o) (ended_of plan w o).times
    ++ kept_accuracy (reads_kept plan.to w o.times) o.systems plan.errors)

-- From some time on that isn't after `to` the errors hold of the network as it stands at a time.
abbrev pub HoldsBy : ℕ → TimeErrors → Type 0
HoldsBy to t = (exact : ℕ) × (t.from ≡ Some exact) × (exact ≤ to)

-- these are they; or there are none
abbrev pub AreErrorsBy : DocumentState → ℕ → ℕ → Option TimeErrors → Type 0
AreErrorsBy d at to None = (t : TimeErrors) → AreTimeErrors d at t → HoldsBy to t → ⊥
AreErrorsBy d at to (Some t) = AreTimeErrors d at t × HoldsBy to t

-- the time errors where it is asked how exact systems are; otherwise there are none
abbrev pub AreErrorsIf : Bool → DocumentState → ℕ → ℕ → Option TimeErrors → Type 0
AreErrorsIf true d at to errors = AreErrorsBy d at to errors
AreErrorsIf false d at to errors = errors ≡ None

-- ---- a stretch

-- What passes in a stretch: it begins with these events, and these acts are done in it, which lead to this world.
pub record StretchTrace : Type 0 where
  pub from : ℕ
  pub to : ℕ
  pub events : List Timed
  pub acts : List ActTrace
  pub after : WorldState
  pub settling : Option Settling
  pub errors : Option TimeErrors

-- it begins with an event
abbrev pub is_begun : List Timed → Bool
is_begun [] = false
is_begun (e ∷ es) = true

-- what is known of it by the document alone, where it is asked, or isn't, how exact systems are
pub record IsTimelinePlan (exact : Bool) (d : DocumentState) (from to : ℕ) (begins_with_event : Bool)
    (plan : Plan) : Type 0
  where
    pub from_is : plan.from ≡ from
    pub to_is : plan.to ≡ to
    pub begins_is : plan.begins_with_event ≡ begins_with_event
    pub settling_is : plan.settling ≡ settling_of d from
    pub errors_are : AreErrorsIf exact d from to plan.errors

-- what stretches carry over to the next: since when each system has been waiting, and what each reads by, where that is
-- asked
pub record Carried : Type 0 where
  pub since : ℕ → Option ℕ
  pub readings : Option (List SystemReading)

-- after these acts
abbrev pub carry : List ActTrace → Carried → Carried
carry ts c = record { since = waits ts c.since; readings = option_map (readings_after ts) c.readings }

-- what became of it, where this was carried over
abbrev pub stretch_of : List ℕ → Carried → StretchTrace → Stretch
stretch_of names carried p = record {
  from = p.from;
  to = p.to;
  begins_with_event = is_begun p.events;
  settling = p.settling;
  measures = measured names carried.since p.to p.acts;
  counts = counted (map (λ name. shown name p.after) names);
  times = option_map (λ rs. measured_times rs (length p.events) p.acts p.to p.after) carried.readings;
}

-- what a system read from its first receipt on that counts, where that is asked
abbrev pub stretch_reads : List ℕ → Option (List SystemReading) → StretchTrace → SystemError → List ℕ
stretch_reads names None p s = []
stretch_reads names (Some rs) p s = reads_words s (ended_reads p.to p.after (readings_after p.acts rs)
    (reads_over (exact_time p.errors) rs (map unread names) p.acts) s.clock)

abbrev pub reads_if : Bool → List ℕ → Option (List SystemReading) → StretchTrace → SystemError → List ℕ
reads_if asked names readings p s = if asked then stretch_reads names readings p s else []

-- The lines of its acts, the line where it ends, that of what systems read, and how exact they were.
abbrev pub passage_lines : TimelineOptions → List ℕ → Carried → StretchTrace → List (List ℕ)
passage_lines options names carried p =
    acts_lines options names carried.readings p.acts
    ++ after_line (stretch_of names carried p)
    ∷ (line_of_times options.times (stretch_of names carried p) (stretch_of names carried p).times
    ++ timeline_accuracy_lines (reads_if options.times names carried.readings p) p.acts p.errors)

-- ---- all stretches

-- and acts after them
abbrev pub all_lines : TimelineOptions → List ℕ → Carried → List StretchTrace → List ActTrace → List (List ℕ)
all_lines options names carried [] ts = acts_lines options names carried.readings ts
all_lines options names carried (p ∷ ps) ts =
    passage_lines options names carried p ++ all_lines options names (carry p.acts carried) ps ts

-- the first limit that some of them exceed, or others did before
abbrev pub all_exceeded : Limits → List ℕ → Carried → List StretchTrace → Option Limit → Option Limit
all_exceeded limits names carried [] before = before
all_exceeded limits names carried (p ∷ ps) before =
    all_exceeded limits names (carry p.acts carried) ps (exceeded_after limits (stretch_of names carried p) before)

-- the events at a time or before it, and those that come later
abbrev pub now_of : ℕ → List Timed → List Timed
now_of time = filter (λ (e : Timed). nat_le e.at time)

abbrev pub later_than : ℕ → List Timed → List Timed
later_than time = filter (λ (e : Timed). nat_lt time e.at)

-- when a stretch ends after which these events come
abbrev pub end_before : ℕ → List Timed → ℕ
end_before until [] = until
end_before until (e ∷ es) = e.at

-- A stretch begins at a time with its events, of those that are left, and ends where the next begins.
pub record IsPassage {F : Type 0} (answers : Bounds → ℕ → F → Option ℕ → F → Type 0) (exact : Bool) (d : DocumentState)
    (until from : ℕ)
    (events : List Timed) (fate fate_after : F) (w : WorldState) (p : StretchTrace) : Type 0 where
  pub from_is : p.from ≡ from
  pub to_is : p.to ≡ end_before until (later_than from events)
  pub events_are : p.events ≡ now_of from events
  pub courses : Courses answers p.to p.events p.acts fate fate_after w p.after
  pub settling_is : p.settling ≡ settling_of d from
  pub errors_are : AreErrorsIf exact d from p.to p.errors

-- Stretches pass, one after another: the first from a time on, the last to the end.
abbrev pub AllPass : {F : Type 0} → (Bounds → ℕ → F → Option ℕ → F → Type 0) → Bool → DocumentState → ℕ → ℕ → List Timed
    → F → F → WorldState → WorldState → List StretchTrace → Type 0
AllPass answers exact d until from events fate fate_after w w' [] = ⊥
AllPass {F} answers exact d until from events fate fate_after w w' (p ∷ []) =
    IsPassage answers exact d until from events fate fate_after w p × (later_than from events ≡ []) × (w' ≡ p.after)
AllPass {F} answers exact d until from events fate fate_after w w' (p ∷ (q ∷ qs)) =
    (drawn : F) × IsPassage answers exact d until from events fate drawn w p × (later_than from events ≢ [])
    × AllPass answers exact d until p.to (later_than from events) drawn fate_after p.after w' (q ∷ qs)

abbrev pub none_waits : ℕ → Option ℕ
none_waits name = None

-- it is asked what systems read
abbrev pub tracks : TimelineOptions → Bool
tracks options = options.times || asks_times options.limits

-- as the systems with these names start: none waits, and none has time
abbrev pub none_carried : Bool → List ℕ → Carried
none_carried asked names = record {
  since = none_waits;
  readings = if asked then Some (map no_reading names) else None;
}

-- ---- the whole text

-- The world of a document begins, all stretches of its run pass, and these are the lines; and whether a limit is
-- exceeded.
pub record TimelineOf {F : Type 0} (answers : Bounds → ℕ → F → Option ℕ → F → Type 0) (d : DocumentState) (until : ℕ)
    (options : TimelineOptions) (fate : F) (lines : List (List ℕ)) (exceeded : Bool) : Type 0 where
  pub started : F
  pub start : WorldState
  pub begun : Begun answers d.network fate started start
  pub passages : List StretchTrace
  pub fate_after : F
  pub after : WorldState
  pub pass : AllPass answers true d until 0 (events_by until d.events) started fate_after start after passages
  pub verdict : Option Limit
  pub verdict_is : verdict ≡ all_exceeded options.limits (rising_clocks start)
      (none_carried (tracks options) (rising_clocks start)) passages None
  pub exceeded_is : exceeded ≡ is_exceeded options.limits verdict
  pub are : lines ≡ start_lines options (rising_clocks start) start
      ++ all_lines options (rising_clocks start) (none_carried (tracks options) (rising_clocks start)) passages []
      ++ verdict_lines options.limits verdict

-- ---- as far as it gets

-- Some stretches pass, and in the one after them some acts are done; these are the lines until then.
abbrev pub SomePass : {F : Type 0} → (Bounds → ℕ → F → Option ℕ → F → Type 0) → Bool → DocumentState → ℕ → ℕ
    → List Timed → F → WorldState → List StretchTrace → List ActTrace → Type 0
SomePass answers exact d until from events fate w [] ts =
    CoursesSoFar answers (end_before until (later_than from events)) (now_of from events) ts fate w
SomePass {F} answers exact d until from events fate w (p ∷ ps) ts =
    (drawn : F) × IsPassage answers exact d until from events fate drawn w p
    × SomePass answers exact d until p.to (later_than from events) drawn p.after ps ts

pub record TimelineSoFar {F : Type 0} (answers : Bounds → ℕ → F → Option ℕ → F → Type 0) (d : DocumentState) (until : ℕ)
    (options : TimelineOptions) (fate : F) (lines : List (List ℕ)) : Type 0 where
  pub started : F
  pub start : WorldState
  pub begun : Begun answers d.network fate started start
  pub passages : List StretchTrace
  pub acts : List ActTrace
  pub pass : SomePass answers true d until 0 (events_by until d.events) started start passages acts
  pub are : lines ≡ start_lines options (rising_clocks start) start
      ++ all_lines options (rising_clocks start) (none_carried (tracks options) (rising_clocks start)) passages acts

-- no line, those so far, or all
abbrev pub BeginsTimeline : {F : Type 0} → (Bounds → ℕ → F → Option ℕ → F → Type 0) → DocumentState → ℕ
    → TimelineOptions → F → List (List ℕ) → Type 0
BeginsTimeline answers d until options fate lines =
    (lines ≡ []) ⊎ (TimelineSoFar answers d until options fate lines
    ⊎ ((exceeded : Bool) × TimelineOf answers d until options fate lines exceeded))
