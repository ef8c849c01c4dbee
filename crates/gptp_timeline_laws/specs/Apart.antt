-- How far apart systems do read. What two systems read differs by no more than `apart` of a stretch, and needn't differ
-- by that: the errors of both count in it. But where told sources differ most, so does what is read, but for errors.
-- Times of clocks are in units of 2^-16 ns.
use Rattle.std.specs.Prelude.{◌≡◌, ◌≤◌, ◌+◌, ◌*◌, ◌^◌, Bool, ℕ, ℤ, ◌-ℤ◌, unsigned_abs, length, List, ◌++◌, Option, Some}
use Rattle.gptp_links.specs.declared.bounds.Bounds.{Bounds}
use Rattle.gptp_model.specs.Views.{rising_clocks}
use Rattle.gptp_model.specs.World.{WorldState}
use Rattle.gptp_network.specs.Document.{DocumentState}
use Rattle.gptp_theorem.specs.PlayedLaws.{IsPlayable}
use Rattle.gptp_timeline.specs.Looks.{events_left}
use Rattle.gptp_timeline.specs.Readings.{readings_after}
use Rattle.gptp_timeline.specs.Sources.{DifferenceState}
use Rattle.gptp_timeline.specs.Timeline.{Carried, none_carried, stretch_of, StretchTrace, TimelineOf, tracks}
use Rattle.gptp_timeline.specs.declared.looks.TimeMeasures.{TimeMeasures}
use Rattle.gptp_timeline.specs.declared.readings.SystemReading.{SystemReading}
use Rattle.gptp_timeline.specs.declared.timeline.TimelineOptions.{TimelineOptions}
use Rattle.gptp_timeline_laws.specs.Moments.{BeginsWith, greatest_error, last_time, next_time, ReadsAt, world_after}
use Rattle.gptp_world.specs.Transitions.{ActTrace}

-- At a moment of a stretch, at which these of its acts were done and those are ahead, two systems read from the sources
-- of a difference, which differ by it then.
pub record ReadFromBoth (p : StretchTrace) (w : WorldState) (rs : List SystemReading) (d : DifferenceState) : Type 0
  where
    pub time : ℕ
    pub done : List ActTrace
    pub ahead : List ActTrace
    pub are : p.acts ≡ done ++ ahead
    pub late : last_time p.from done ≤ time
    pub early : time ≤ next_time p.to ahead
    pub name : ℕ
    pub other : ℕ
    pub read : ℤ
    pub source : ℤ
    pub other_read : ℤ
    pub other_source : ℤ
    pub reads : ReadsAt time (world_after done w) (readings_after done rs) name read source
    pub other_reads : ReadsAt time (world_after done w) (readings_after done rs) other other_read other_source
    pub ahead_is : reads.kept.source.clock ≡ d.ahead
    pub behind_is : other_reads.kept.source.clock ≡ d.behind
    pub differ : unsigned_abs (source -ℤ other_source) ≡ d.amount

-- Where told sources differ, there is a moment of their greatest difference. If it comes after the events of the
-- stretch, two systems read at least so far apart then, but for twice the greatest error, and seven units.
abbrev pub ReadApart : WorldState → Carried → List StretchTrace → Type 0
ReadApart start first passages = (p : StretchTrace) (w : WorldState) (c : Carried) (names : List ℕ)
    (rs : List SystemReading) (m : TimeMeasures) (d : DifferenceState)
    → BeginsWith passages start first p w c → c.readings ≡ Some rs → (stretch_of names c p).times ≡ Some m
    → m.sources ≡ Some d
    → (both : ReadFromBoth p w rs d) × (events_left both.done (length p.events) ≡ 0
    → d.amount ≤ unsigned_abs (both.read -ℤ both.other_read) + 2 * greatest_error m + 7)

-- as long as clocks can show the time
abbrev pub TimelinesReadApart : {F : Type 0} → (Bounds → ℕ → F → Option ℕ → F → Type 0) → Type 0
TimelinesReadApart {F} answers = (d : DocumentState) (until : ℕ) (options : TimelineOptions) (fate : F)
    (lines : List (List ℕ)) (exceeded : Bool) (t : TimelineOf answers d until options fate lines exceeded)
    → IsPlayable d → until ≤ 10 ^ 18
    → ReadApart t.start (none_carried (tracks options) (rising_clocks t.start)) t.passages
