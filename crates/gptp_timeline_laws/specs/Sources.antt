-- From which sources systems read, once none changes its source any more.
use Rattle.std.specs.Prelude.{◌≡◌, ◌<◌, ◌≤◌, ◌+◌, ◌↔◌, ◌^◌, ⊤, ℕ, Bool, List, Option, Some, None, IsSome}
use Rattle.std.specs.List.{AllByRecursion}
use Rattle.gptp_graph.specs.Distance.{IsNear}
use Rattle.gptp_graph.specs.SettledChoice.{IsBestIdentity}
use Rattle.gptp_graph.specs.Snapshot.{Snapshot}
use Rattle.gptp_links.specs.declared.bounds.Bounds.{Bounds}
use Rattle.gptp_model.specs.Views.{rising_clocks}
use Rattle.gptp_model.specs.World.{WorldState}
use Rattle.gptp_network.specs.Document.{DocumentState}
use Rattle.gptp_network.specs.Snapshot.{IsSnapshot}
use Rattle.gptp_network.specs.Span.{IsBound}
use Rattle.gptp_roles.specs.Selection.{clock_of}
use Rattle.gptp_system.specs.State.{SystemState}
use Rattle.gptp_theorem.specs.PlayedLaws.{IsPlayable}
use Rattle.gptp_timeline.specs.Readings.{reading_among, readings_after}
use Rattle.gptp_timeline.specs.Shown.{live_system}
use Rattle.gptp_timeline.specs.Stretch.{at_of}
use Rattle.gptp_timeline.specs.Timeline.{Carried, none_carried, stretch_of, StretchTrace, TimelineOf, tracks}
use Rattle.gptp_timeline.specs.declared.looks.TimeMeasures.{TimeMeasures}
use Rattle.gptp_timeline.specs.declared.measures.Greatest.{Greatest}
use Rattle.gptp_timeline.specs.declared.readings.KeptReading.{KeptReading}
use Rattle.gptp_timeline.specs.declared.readings.SystemReading.{SystemReading}
use Rattle.gptp_timeline.specs.declared.readings.TimeSource.{TimeSource}
use Rattle.gptp_timeline.specs.declared.timeline.TimelineOptions.{TimelineOptions}
use Rattle.gptp_timeline_laws.specs.Moments.{BeginsWith, Moment, world_after}
use Rattle.gptp_world.specs.Transitions.{ActTrace}

-- a system has time, from this source
pub record ReadsFrom (rs : List SystemReading) (name : ℕ) (source : TimeSource) : Type 0 where
  pub kept : KeptReading
  pub has : reading_among rs name ≡ Some kept
  pub is : kept.source ≡ source

-- or from a source that has this clock
pub record ReadsFromClock (rs : List SystemReading) (name number : ℕ) : Type 0 where
  pub kept : KeptReading
  pub has : reading_among rs name ≡ Some kept
  pub is : kept.source.clock ≡ number

-- these acts are all later than a change of source, where there was one
abbrev pub AreLater : Option Greatest → List ActTrace → Type 0
AreLater None ts = ⊤
AreLater (Some change) ts = AllByRecursion (λ (t : ActTrace). change.amount < at_of t) ts

-- At each moment of a stretch after its events, once all acts of the time of its last change of source are done, each
-- system reads from the source from which it reads where the stretch ends, and has no time where it has none there.
abbrev pub SourcesStand : WorldState → Carried → List StretchTrace → Type 0
SourcesStand start first passages = (p : StretchTrace) (w : WorldState) (c : Carried) (names : List ℕ)
    (rs : List SystemReading) (m : TimeMeasures) (time : ℕ) (moment : Moment p time)
    → BeginsWith passages start first p w c → c.readings ≡ Some rs → (stretch_of names c p).times ≡ Some m
    → AreLater m.changed moment.ahead
    → (name : ℕ) (source : TimeSource)
    → ReadsFrom (readings_after moment.done rs) name source ↔ ReadsFrom (readings_after p.acts rs) name source

abbrev pub TimelinesKeepSources : {F : Type 0} → (Bounds → ℕ → F → Option ℕ → F → Type 0) → Type 0
TimelinesKeepSources {F} answers = (d : DocumentState) (until : ℕ) (options : TimelineOptions) (fate : F)
    (lines : List (List ℕ)) (exceeded : Bool) (t : TimelineOf answers d until options fate lines exceeded)
    → IsPlayable d → SourcesStand t.start (none_carried (tracks options) (rising_clocks t.start)) t.passages

-- ---- the root

-- At each moment of a stretch after its events each live system that has a Slave port, and whose offset is known, reads
-- from a source that has the clock of the root that it follows.
abbrev pub RootsAreSources : WorldState → Carried → List StretchTrace → Type 0
RootsAreSources start first passages = (p : StretchTrace) (w : WorldState) (c : Carried) (rs : List SystemReading)
    (time : ℕ) (moment : Moment p time) (name : ℕ) (s : SystemState)
    → BeginsWith passages start first p w c → c.readings ≡ Some rs
    → live_system name (world_after moment.done w) ≡ Some s → IsSome s.slave → IsSome s.offset
    → ReadsFromClock (readings_after moment.done rs) name (clock_of s.root)

-- Where the network is calm where the stretch begins, and the span is over, this root is the best of the component of
-- each near system.
abbrev pub BestsAreSources : DocumentState → WorldState → Carried → List StretchTrace → Type 0
BestsAreSources d start first passages = (p : StretchTrace) (w : WorldState) (c : Carried) (rs : List SystemReading)
    (g : Snapshot) (time span name root : ℕ) (moment : Moment p time) (s : SystemState)
    → BeginsWith passages start first p w c → c.readings ≡ Some rs → IsBound d p.from (Some span)
    → p.from + span ≤ time
    → IsSnapshot d p.from g → IsNear g name → IsBestIdentity g name root
    → live_system name (world_after moment.done w) ≡ Some s → IsSome s.slave → IsSome s.offset
    → ReadsFromClock (readings_after moment.done rs) name (clock_of root)

-- as long as clocks can show the time
abbrev pub TimelinesReadFromRoots : {F : Type 0} → (Bounds → ℕ → F → Option ℕ → F → Type 0) → Type 0
TimelinesReadFromRoots {F} answers = (d : DocumentState) (until : ℕ) (options : TimelineOptions) (fate : F)
    (lines : List (List ℕ)) (exceeded : Bool) (t : TimelineOf answers d until options fate lines exceeded)
    → IsPlayable d → until ≤ 10 ^ 18
    → RootsAreSources t.start (none_carried (tracks options) (rising_clocks t.start)) t.passages

abbrev pub TimelinesReadFromBests : {F : Type 0} → (Bounds → ℕ → F → Option ℕ → F → Type 0) → Type 0
TimelinesReadFromBests {F} answers = (d : DocumentState) (until : ℕ) (options : TimelineOptions) (fate : F)
    (lines : List (List ℕ)) (exceeded : Bool) (t : TimelineOf answers d until options fate lines exceeded)
    → IsPlayable d → until ≤ 10 ^ 18
    → BestsAreSources d t.start (none_carried (tracks options) (rising_clocks t.start)) t.passages
