-- The moments of a stretch of a timeline after its events, what systems read at them, and what the `times` line says of
-- them. Times of clocks are in units of 2^-16 ns.
--
-- Between two acts nothing happens: systems read at all times as they did after the first of the two.
use Rattle.std.specs.Prelude.{◌≡◌, ◌⊎◌, ◌≤◌, ◌+◌, Bool, ℕ, ℤ, ◌-ℤ◌, unsigned_abs, length, List, [], ◌∷◌, ◌++◌, Option, Some}
use Rattle.std.specs.Option.{option_map_or}
use Rattle.gptp_links.specs.declared.bounds.Bounds.{Bounds}
use Rattle.gptp_model.specs.Views.{rising_clocks}
use Rattle.gptp_model.specs.World.{WorldState}
use Rattle.gptp_network.specs.Document.{DocumentState}
use Rattle.gptp_theorem.specs.PlayedLaws.{IsPlayable}
use Rattle.gptp_timeline.specs.Looks.{apart, events_left}
use Rattle.gptp_timeline.specs.Readings.{clock_time, read_by, reading_among, readings_after, source_time}
use Rattle.gptp_timeline.specs.Stretch.{at_of}
use Rattle.gptp_timeline.specs.Timeline.{Carried, carry, none_carried, stretch_of, StretchTrace, TimelineOf, tracks}
use Rattle.gptp_timeline.specs.declared.looks.TimeMeasures.{TimeMeasures}
use Rattle.gptp_timeline.specs.declared.measures.Greatest.{Greatest}
use Rattle.gptp_timeline.specs.declared.readings.KeptReading.{KeptReading}
use Rattle.gptp_timeline.specs.declared.readings.SystemReading.{SystemReading}
use Rattle.gptp_timeline.specs.declared.timeline.TimelineOptions.{TimelineOptions}
use Rattle.gptp_world.specs.Transitions.{ActTrace}

-- ---- a moment

-- the world after acts, one after another
abbrev pub world_after : List ActTrace → WorldState → WorldState
world_after [] w = w
world_after (t ∷ ts) w = world_after ts t.after

-- when the last of acts was done; another time where there is none
abbrev pub last_time : ℕ → List ActTrace → ℕ
last_time from [] = from
last_time from (t ∷ ts) = last_time (at_of t) ts

-- when the first of acts is done; another time where there is none
abbrev pub next_time : ℕ → List ActTrace → ℕ
next_time to [] = to
next_time to (t ∷ ts) = at_of t

-- A moment of a stretch after its events: these of its acts were done, among them all its events, and those are still
-- ahead.
pub record Moment (p : StretchTrace) (time : ℕ) : Type 0 where
  pub done : List ActTrace
  pub ahead : List ActTrace
  pub are : p.acts ≡ done ++ ahead
  pub no_event_left : events_left done (length p.events) ≡ 0
  pub late : last_time p.from done ≤ time
  pub early : time ≤ next_time p.to ahead

-- ---- how a stretch begins

pub record IsFirst (q p : StretchTrace) (w v : WorldState) (c e : Carried) : Type 0 where
  pub stretch : p ≡ q
  pub world : v ≡ w
  pub carried : e ≡ c

-- Where several stretches pass from a world on, and this was carried over to the first of them, one of them begins in
-- that world, with that carried over to it.
abbrev pub BeginsWith : List StretchTrace → WorldState → Carried → StretchTrace → WorldState → Carried → Type 0
BeginsWith [] w c p v e = ⊥
BeginsWith (q ∷ qs) w c p v e = IsFirst q p w v c e ⊎ BeginsWith qs q.after (carry q.acts c) p v e

-- ---- what is read

-- At a time a system reads this, where the time of its source is that.
pub record ReadsAt (time : ℕ) (w : WorldState) (rs : List SystemReading) (name : ℕ) (read source : ℤ) : Type 0 where
  pub kept : KeptReading
  pub has : reading_among rs name ≡ Some kept
  pub own : ℤ
  pub shows : clock_time name time w ≡ Some own
  pub read_is : read ≡ read_by kept own
  pub source_shows : source_time kept.source time w ≡ Some source

-- a system has time: it reads something then, and so does its source
pub record HasTime (time : ℕ) (w : WorldState) (rs : List SystemReading) (name : ℕ) : Type 0 where
  pub read : ℤ
  pub source : ℤ
  pub reads : ReadsAt time w rs name read source

-- ---- what is measured bounds it

-- the greatest error that was looked at; 0 where none was
abbrev pub greatest_error : TimeMeasures → ℕ
greatest_error m = option_map_or (λ (g : Greatest). g.amount) m.time 0

-- What a system reads is off by no more than the greatest error, and three units. What two systems read differs by no
-- more than they are said to be apart, and seven units.
pub record AreBounds (m : TimeMeasures) (time : ℕ) (w : WorldState) (rs : List SystemReading) : Type 0 where
  pub error : (name : ℕ) (read source : ℤ) → ReadsAt time w rs name read source
      → unsigned_abs (read -ℤ source) ≤ greatest_error m + 3
  pub apart_by : (name other : ℕ) (read source read' source' : ℤ) → ReadsAt time w rs name read source
      → ReadsAt time w rs other read' source' → unsigned_abs (read -ℤ read') ≤ apart m + 7

-- so it is at every moment of these stretches after their events
abbrev pub BoundAll : WorldState → Carried → List StretchTrace → Type 0
BoundAll start first passages = (p : StretchTrace) (w : WorldState) (c : Carried) (names : List ℕ)
    (rs : List SystemReading) (m : TimeMeasures) (time : ℕ) (moment : Moment p time)
    → BeginsWith passages start first p w c → c.readings ≡ Some rs → (stretch_of names c p).times ≡ Some m
    → AreBounds m time (world_after moment.done w) (readings_after moment.done rs)

-- What the `times` line of a stretch of a timeline says bounds what systems read at every moment of the stretch after
-- its events.
abbrev pub TimesBoundMoments : {F : Type 0} → (Bounds → ℕ → F → Option ℕ → F → Type 0) → Type 0
TimesBoundMoments {F} answers = (d : DocumentState) (until : ℕ) (options : TimelineOptions) (fate : F)
    (lines : List (List ℕ)) (exceeded : Bool) (t : TimelineOf answers d until options fate lines exceeded)
    → IsPlayable d → BoundAll t.start (none_carried (tracks options) (rising_clocks t.start)) t.passages
