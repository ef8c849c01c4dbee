-- What `timeline` writes for a document, and its status (profile).
use Rattle.std.specs.Prelude.{◌≡◌, ℕ, Bool, List, Option, Some, None}
use Rattle.gptp_network.specs.Document.{DocumentState, seeded_document}
use Rattle.gptp_timeline.specs.End.{default_end}
use Rattle.gptp_timeline.specs.Laws.{TimelineIsRight}
use Rattle.gptp_timeline.specs.Timeline.{BeginsTimeline, TimelineOf}
use Rattle.gptp_timeline_laws.specs.Right.{TimelineReadsRight}
use Rattle.gptp_commands.specs.declared.failure.Status.{Status}
use Rattle.gptp_commands.specs.declared.timeline.TimelineOrder.{TimelineOrder}
use Rattle.gptp_commands.specs.Failure.{status_by}
use Rattle.gptp_commands.specs.Documents.{AnswersInput, BeginsInput}
use Rattle.gptp_commands.specs.RunText.{draws, generator}

-- the end of the run: that which is asked for, or by default as much after the last event as is watched then
abbrev pub EndsAt : Option ℕ → DocumentState → ℕ → Type 0
EndsAt (Some asked) d until = until ≡ asked
EndsAt None d until = until ≡ default_end d

-- The timeline of a document, with delays and losses drawn from the generator of the seed, which is right: as a run of
-- the document, in its last lines, its bounds, whom systems follow then, and its errors, and in what it says of the
-- time that systems read. It is refused where a limit is exceeded.
pub record PlaysTimeline (d : DocumentState) (order : TimelineOrder) (output : List (List ℕ)) (status : Status) : Type
    0 where
  pub until : ℕ
  pub ends : EndsAt order.until d until
  pub exceeded : Bool
  pub timeline : TimelineOf draws d until order.options (generator order.seed) output exceeded
  pub right : TimelineIsRight draws d until order.options (generator order.seed) output exceeded timeline
  pub reads : TimelineReadsRight draws d until order.options (generator order.seed) output exceeded timeline
  pub status_is : status ≡ status_by exceeded

-- its systems draw noise from the seed too
abbrev pub TellsTimeline : TimelineOrder → DocumentState → List (List ℕ) → Status → Type 0
TellsTimeline order d = PlaysTimeline (seeded_document order.seed d) order

abbrev pub TimelineText : TimelineOrder → List ℕ → List (List ℕ) → Status → Type 0
TimelineText order = AnswersInput (TellsTimeline order)

-- ---- as far as it gets

pub record PlaysSomeTimeline (d : DocumentState) (order : TimelineOrder) (lines : List (List ℕ)) : Type 0 where
  pub until : ℕ
  pub ends : EndsAt order.until d until
  pub begins : BeginsTimeline draws d until order.options (generator order.seed) lines

abbrev pub TellsSoFar : TimelineOrder → DocumentState → List (List ℕ) → Type 0
TellsSoFar order d = PlaysSomeTimeline (seeded_document order.seed d) order

abbrev pub BeginsText : TimelineOrder → List ℕ → List (List ℕ) → Type 0
BeginsText order = BeginsInput (TellsTimeline order) (TellsSoFar order)
