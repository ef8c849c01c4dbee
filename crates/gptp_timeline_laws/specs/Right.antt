-- What the lines of a timeline say of the time that systems read is right.
use Rattle.std.specs.Prelude.{◌≤◌, ◌^◌, ℕ, Bool, List, Option}
use Rattle.gptp_links.specs.declared.bounds.Bounds.{Bounds}
use Rattle.gptp_model.specs.Views.{rising_clocks}
use Rattle.gptp_network.specs.Document.{DocumentState}
use Rattle.gptp_theorem.specs.PlayedLaws.{IsPlayable}
use Rattle.gptp_timeline.specs.Timeline.{Carried, none_carried, TimelineOf, tracks}
use Rattle.gptp_timeline.specs.declared.timeline.TimelineOptions.{TimelineOptions}
use Rattle.gptp_timeline_laws.specs.Age.{AlwaysHaveTime, AreAlwaysExact, GapsAreShort, ReceiptsAreRecent}
use Rattle.gptp_timeline_laws.specs.Apart.{ReadApart}
use Rattle.gptp_timeline_laws.specs.Exact.{ReadsAreWithin, ReceiptsBoundMoments}
use Rattle.gptp_timeline_laws.specs.ExactSoon.{AreExactSoon, ReadsAreWithinSoon, ReceiptsBoundSoon}
use Rattle.gptp_timeline_laws.specs.Moments.{BoundAll}
use Rattle.gptp_timeline_laws.specs.Sources.{BestsAreSources, RootsAreSources, SourcesStand}

-- what is carried over to the first stretch of a timeline
abbrev pub first_carried : {F : Type 0} → (answers : Bounds → ℕ → F → Option ℕ → F → Type 0) → (d : DocumentState)
    → (until : ℕ) → (options : TimelineOptions) → (fate : F) → (lines : List (List ℕ)) → (exceeded : Bool)
    → TimelineOf answers d until options fate lines exceeded → Carried
first_carried answers d until options fate lines exceeded t = none_carried (tracks options) (rising_clocks t.start)

-- What a timeline says of the time that systems read is right: its `times` lines bound what is read at every moment,
-- and say when sources stand, which are the roots that systems follow. Where sources differ, so does what is read. Its
-- `accuracy` lines bound it from the receipts of each system on; and what these lines say was read off is within their
-- bounds. So it is from the time on that they say, and so are errors of receipts. Receipts are no older than the wait
-- for Sync, and so systems have time, and what is read is always exact.
pub record TimelineReadsRight {F : Type 0} (answers : Bounds → ℕ → F → Option ℕ → F → Type 0) (d : DocumentState)
    (until : ℕ)
    (options : TimelineOptions) (fate : F) (lines : List (List ℕ)) (exceeded : Bool)
    (t : TimelineOf answers d until options fate lines exceeded) : Type 0 where
  pub moments : BoundAll t.start (first_carried answers d until options fate lines exceeded t) t.passages
  pub apart : ReadApart t.start (first_carried answers d until options fate lines exceeded t) t.passages
  pub sources : SourcesStand t.start (first_carried answers d until options fate lines exceeded t) t.passages
  pub roots : RootsAreSources t.start (first_carried answers d until options fate lines exceeded t) t.passages
  pub bests : BestsAreSources d t.start (first_carried answers d until options fate lines exceeded t) t.passages
  pub ages : ReceiptsAreRecent d t.start (first_carried answers d until options fate lines exceeded t) t.passages
  pub gaps : GapsAreShort (rising_clocks t.start) t.start
      (first_carried answers d until options fate lines exceeded t) t.passages
  pub always : AreAlwaysExact t.start (first_carried answers d until options fate lines exceeded t) t.passages
  pub has_time : AlwaysHaveTime t.start (first_carried answers d until options fate lines exceeded t) t.passages
  pub receipts : ReceiptsBoundMoments d t.start (first_carried answers d until options fate lines exceeded t) t.passages
  pub accuracy : ReadsAreWithin d (rising_clocks t.start) t.start
      (first_carried answers d until options fate lines exceeded t) t.passages
  pub errors_soon : AreExactSoon t.passages
  pub receipts_soon : ReceiptsBoundSoon t.start (first_carried answers d until options fate lines exceeded t) t.passages
  pub accuracy_soon : ReadsAreWithinSoon (rising_clocks t.start) t.start
      (first_carried answers d until options fate lines exceeded t) t.passages

-- So it is of every timeline of a document that is playable, as long as clocks can show the time.
abbrev pub TimelinesReadRight : {F : Type 0} → (Bounds → ℕ → F → Option ℕ → F → Type 0) → Type 0
TimelinesReadRight {F} answers = (d : DocumentState) (until : ℕ) (options : TimelineOptions) (fate : F)
    (lines : List (List ℕ)) (exceeded : Bool) (t : TimelineOf answers d until options fate lines exceeded)
    → IsPlayable d → until ≤ 10 ^ 18 → TimelineReadsRight answers d until options fate lines exceeded t
