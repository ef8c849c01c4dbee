-- A timeline is right.
use Rattle.std.specs.Prelude.{ℕ, ◌≤◌, ◌^◌, Bool, List, Option}
use Rattle.gptp_links.specs.declared.bounds.Bounds.{Bounds}
use Rattle.gptp_network.specs.Document.{DocumentState}
use Rattle.gptp_theorem.specs.PlayedLaws.{IsPlayable}
use Rattle.gptp_timeline.specs.Laws.{TimelineIsRight}
use Rattle.gptp_timeline.specs.Timeline.{TimelineOf}
use Rattle.gptp_timeline.specs.declared.timeline.TimelineOptions.{TimelineOptions}
use Rattle.gptp_timeline.proofs.FollowedLemmas.{stretches_follow}
use Rattle.gptp_timeline.proofs.SettlingLemmas.{stretches_settle}
use Rattle.gptp_timeline.proofs.TellingLemmas.{last_lines}
use Rattle.gptp_timeline.proofs.UnfoldLemmas.{timeline_unfolds}
use Rattle.gptp_timeline.proofs.WithinLemmas.{errors_are_within}

pub timelines_are_right : {F : Type 0} (answers : Bounds → ℕ → F → Option ℕ → F → Type 0) (d : DocumentState)
    (until : ℕ) (options : TimelineOptions) (fate : F) (lines : List (List ℕ)) (exceeded : Bool)
    (t : TimelineOf answers d until options fate lines exceeded) → IsPlayable d → until ≤ 10 ^ 18
    → TimelineIsRight answers d until options fate lines exceeded t
timelines_are_right answers d until options fate lines exceeded t playable early = record {
  unfolds = timeline_unfolds answers d until options fate lines exceeded t playable.events;
  last = λ name. last_lines answers d until options fate lines exceeded t name playable.events;
  settle = stretches_settle answers d until options fate lines exceeded t playable;
  follow = stretches_follow answers d until options fate lines exceeded t playable;
  within = errors_are_within answers d until options fate lines exceeded t playable early;
}
