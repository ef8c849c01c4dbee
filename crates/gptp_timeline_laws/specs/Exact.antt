-- How exact what systems read is from the time on from which the network is exact whatever came before.
use Rattle.std.specs.Prelude.{◌≡◌, ◌≤◌, ◌-◌, ◌^◌, ℕ, ℤ, ◌-ℤ◌, unsigned_abs, if◌then◌else◌, Bool, List, [], ◌∷◌, map, Option, Some, None}
use Rattle.gptp_accuracy.specs.AccuracyText.{reading_at}
use Rattle.gptp_accuracy.specs.declared.errors.TimeErrors.{TimeErrors}
use Rattle.gptp_links.specs.declared.bounds.Bounds.{Bounds}
use Rattle.gptp_model.specs.Views.{rising_clocks}
use Rattle.gptp_model.specs.World.{WorldState}
use Rattle.gptp_network.specs.Document.{DocumentState}
use Rattle.gptp_theorem.specs.PlayedLaws.{IsPlayable}
use Rattle.gptp_timeline.specs.ExactReads.{ended_reads, reads_over, unread}
use Rattle.gptp_timeline.specs.Laws.{IsExactBySpan, SayBound}
use Rattle.gptp_timeline.specs.Readings.{readings_after}
use Rattle.gptp_timeline.specs.Stretch.{at_of, receives}
use Rattle.gptp_world.specs.Transitions.{ActTrace}
use Rattle.gptp_timeline.specs.Timeline.{Carried, none_carried, StretchTrace, TimelineOf, tracks}
use Rattle.gptp_timeline.specs.declared.exact_reads.ExactReads.{ExactReads}
use Rattle.gptp_timeline.specs.declared.readings.SystemReading.{SystemReading}
use Rattle.gptp_timeline.specs.declared.timeline.TimelineOptions.{TimelineOptions}
use Rattle.gptp_timeline_laws.specs.Moments.{BeginsWith, Moment, ReadsAt, world_after}

-- when a system received time last by acts, one after another; before them it did so then, if at all
abbrev pub last_receipt : ℕ → Option ℕ → List ActTrace → Option ℕ
last_receipt name last [] = last
last_receipt name last (t ∷ ts) = last_receipt name (if receives name t then Some (at_of t) else last) ts

-- At a moment of a stretch at which a system received time last when its network was exact, what it reads is within the
-- error for so long after a receipt.
abbrev pub ReceiptsBoundMoments : DocumentState → WorldState → Carried → List StretchTrace → Type 0
ReceiptsBoundMoments d start first passages = (p : StretchTrace) (w : WorldState) (c : Carried)
    (rs : List SystemReading) (errors : TimeErrors) (name from bound last time : ℕ) (read source : ℤ) (most : ℕ)
    (moment : Moment p time) (says : SayBound errors name bound)
    → BeginsWith passages start first p w c → c.readings ≡ Some rs → p.errors ≡ Some errors
    → IsExactBySpan d p.from from → last_receipt name None moment.done ≡ Some last → from ≤ last
    → ReadsAt time (world_after moment.done w) (readings_after moment.done rs) name read source
    → reading_at says.system (time - last) ≡ Some most → unsigned_abs (read -ℤ source) ≤ most

-- what a system read in a stretch from its first receipt on that is at a time or later
abbrev pub reads_from : ℕ → List ℕ → StretchTrace → List SystemReading → ℕ → Option ExactReads
reads_from from names p rs name = ended_reads p.to p.after (readings_after p.acts rs)
    (reads_over (Some from) rs (map unread names) p.acts) name

-- What a system read from its first receipt on at which its network was exact is off by no more than the error for the
-- longest time from one such receipt to the next, or to the end of the stretch.
abbrev pub ReadsAreWithin : DocumentState → List ℕ → WorldState → Carried → List StretchTrace → Type 0
ReadsAreWithin d names start first passages = (p : StretchTrace) (w : WorldState) (c : Carried)
    (rs : List SystemReading) (errors : TimeErrors) (name from bound worst most : ℕ) (r : ExactReads)
    (says : SayBound errors name bound)
    → BeginsWith passages start first p w c → c.readings ≡ Some rs → p.errors ≡ Some errors
    → IsExactBySpan d p.from from → reads_from from names p rs name ≡ Some r → r.worst ≡ Some worst
    → reading_at says.system r.longest ≡ Some most → worst ≤ most

-- as long as clocks can show the time
abbrev pub TimelinesReadExactly : {F : Type 0} → (Bounds → ℕ → F → Option ℕ → F → Type 0) → Type 0
TimelinesReadExactly {F} answers = (d : DocumentState) (until : ℕ) (options : TimelineOptions) (fate : F)
    (lines : List (List ℕ)) (exceeded : Bool) (t : TimelineOf answers d until options fate lines exceeded)
    → IsPlayable d → until ≤ 10 ^ 18
    → ReadsAreWithin d (rising_clocks t.start) t.start (none_carried (tracks options) (rising_clocks t.start))
    t.passages

abbrev pub TimelinesBoundReceipts : {F : Type 0} → (Bounds → ℕ → F → Option ℕ → F → Type 0) → Type 0
TimelinesBoundReceipts {F} answers = (d : DocumentState) (until : ℕ) (options : TimelineOptions) (fate : F)
    (lines : List (List ℕ)) (exceeded : Bool) (t : TimelineOf answers d until options fate lines exceeded)
    → IsPlayable d → until ≤ 10 ^ 18
    → ReceiptsBoundMoments d t.start (none_carried (tracks options) (rising_clocks t.start)) t.passages
