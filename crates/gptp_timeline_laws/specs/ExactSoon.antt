-- How exact receipts are, and what systems read, from the time on that the `accuracy` lines of a stretch say.
use Rattle.std.specs.Prelude.{◌≡◌, ◌≤◌, ◌-◌, ◌^◌, ℕ, ℤ, ◌-ℤ◌, unsigned_abs, Bool, List, Option, Some, None, IfSome}
use Rattle.gptp_accuracy.specs.AccuracyText.{reading_at}
use Rattle.gptp_accuracy.specs.declared.errors.TimeErrors.{TimeErrors}
use Rattle.gptp_links.specs.declared.bounds.Bounds.{Bounds}
use Rattle.gptp_lists.specs.Members.{In}
use Rattle.gptp_model.specs.Views.{rising_clocks}
use Rattle.gptp_model.specs.World.{WorldState}
use Rattle.gptp_network.specs.Document.{DocumentState}
use Rattle.gptp_theorem.specs.PlayedLaws.{IsPlayable}
use Rattle.gptp_timeline.specs.Laws.{ErrorIsWithin, SayBound}
use Rattle.gptp_timeline.specs.Readings.{readings_after}
use Rattle.gptp_timeline.specs.Stretch.{error_from}
use Rattle.gptp_timeline.specs.Timeline.{Carried, none_carried, StretchTrace, TimelineOf, tracks}
use Rattle.gptp_timeline.specs.declared.exact_reads.ExactReads.{ExactReads}
use Rattle.gptp_timeline.specs.declared.readings.SystemReading.{SystemReading}
use Rattle.gptp_timeline.specs.declared.timeline.TimelineOptions.{TimelineOptions}
use Rattle.gptp_timeline_laws.specs.Exact.{last_receipt, reads_from}
use Rattle.gptp_timeline_laws.specs.Moments.{BeginsWith, Moment, ReadsAt, world_after}
use Rattle.gptp_world.specs.Transitions.{ActTrace}

-- Errors of receipts are within the bounds that the time errors of their stretch say, each from the time on that these
-- say; and so is the greatest of them.
abbrev pub AreExactSoon : List StretchTrace → Type 0
AreExactSoon passages = (p : StretchTrace) (errors : TimeErrors) (name from bound : ℕ)
    → In p passages → p.errors ≡ Some errors → errors.from ≡ Some from → SayBound errors name bound
    → ((act : ActTrace) → In act p.acts → ErrorIsWithin name from bound act)
    × IfSome (error_from name (Some from) p.acts) (λ amount. amount ≤ bound)

-- as long as clocks can show the time
abbrev pub TimelinesAreExactSoon : {F : Type 0} → (Bounds → ℕ → F → Option ℕ → F → Type 0) → Type 0
TimelinesAreExactSoon {F} answers = (d : DocumentState) (until : ℕ) (options : TimelineOptions) (fate : F)
    (lines : List (List ℕ)) (exceeded : Bool) (t : TimelineOf answers d until options fate lines exceeded)
    → IsPlayable d → until ≤ 10 ^ 18 → AreExactSoon t.passages

-- ---- what is read

-- At a moment of a stretch at which a system received time last at that time or later, what it reads is within the
-- error for so long after a receipt.
abbrev pub ReceiptsBoundSoon : WorldState → Carried → List StretchTrace → Type 0
ReceiptsBoundSoon start first passages = (p : StretchTrace) (w : WorldState) (c : Carried) (rs : List SystemReading)
    (errors : TimeErrors) (name from bound last time : ℕ) (read source : ℤ) (most : ℕ) (moment : Moment p time)
    (says : SayBound errors name bound)
    → BeginsWith passages start first p w c → c.readings ≡ Some rs → p.errors ≡ Some errors
    → errors.from ≡ Some from → last_receipt name None moment.done ≡ Some last → from ≤ last
    → ReadsAt time (world_after moment.done w) (readings_after moment.done rs) name read source
    → reading_at says.system (time - last) ≡ Some most → unsigned_abs (read -ℤ source) ≤ most

-- What a system read from its first such receipt on is off by no more than the error for the longest time from one to
-- the next, or to the end of the stretch.
abbrev pub ReadsAreWithinSoon : List ℕ → WorldState → Carried → List StretchTrace → Type 0
ReadsAreWithinSoon names start first passages = (p : StretchTrace) (w : WorldState) (c : Carried)
    (rs : List SystemReading) (errors : TimeErrors) (name from bound worst most : ℕ) (r : ExactReads)
    (says : SayBound errors name bound)
    → BeginsWith passages start first p w c → c.readings ≡ Some rs → p.errors ≡ Some errors
    → errors.from ≡ Some from → reads_from from names p rs name ≡ Some r → r.worst ≡ Some worst
    → reading_at says.system r.longest ≡ Some most → worst ≤ most

abbrev pub TimelinesBoundReceiptsSoon : {F : Type 0} → (Bounds → ℕ → F → Option ℕ → F → Type 0) → Type 0
TimelinesBoundReceiptsSoon {F} answers = (d : DocumentState) (until : ℕ) (options : TimelineOptions) (fate : F)
    (lines : List (List ℕ)) (exceeded : Bool) (t : TimelineOf answers d until options fate lines exceeded)
    → IsPlayable d → until ≤ 10 ^ 18
    → ReceiptsBoundSoon t.start (none_carried (tracks options) (rising_clocks t.start)) t.passages

abbrev pub TimelinesReadExactlySoon : {F : Type 0} → (Bounds → ℕ → F → Option ℕ → F → Type 0) → Type 0
TimelinesReadExactlySoon {F} answers = (d : DocumentState) (until : ℕ) (options : TimelineOptions) (fate : F)
    (lines : List (List ℕ)) (exceeded : Bool) (t : TimelineOf answers d until options fate lines exceeded)
    → IsPlayable d → until ≤ 10 ^ 18
    → ReadsAreWithinSoon (rising_clocks t.start) t.start (none_carried (tracks options) (rising_clocks t.start))
    t.passages
