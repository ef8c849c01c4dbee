-- Runs of documents up to a time, from which runs of documents with later events go on (profile).
use Rattle.std.specs.Prelude.{◌≡◌, ◌≤◌, ◌<◌, ℕ, Bool, true, false, length, List, [], ◌++◌, Option, Some, None}
use Rattle.std.specs.List.{AllByRecursion}
use Rattle.gptp_links.specs.declared.bounds.Bounds.{Bounds}
use Rattle.gptp_model.specs.Course.{Begun}
use Rattle.gptp_model.specs.World.{WorldState}
use Rattle.gptp_network.specs.Document.{DocumentState}
use Rattle.gptp_report.specs.Transitions.{Courses}
use Rattle.gptp_scenario.specs.Calm.{last_change}
use Rattle.gptp_scenario.specs.declared.change.Timed.{Timed}
use Rattle.gptp_world.specs.Observing.{Tells}
use Rattle.gptp_world.specs.Transitions.{ActTrace}
use Rattle.gptp_timeline.specs.Aside.{AsideState, nobody_aside}
use Rattle.gptp_timeline.specs.LastStretches.{none_kept}
use Rattle.gptp_timeline.specs.Limits.{no_limits}
use Rattle.gptp_timeline.specs.Passing.{EarlierAreSeen, first_time, Standing, standing, watch_at_start}
use Rattle.gptp_timeline.specs.Timeline.{is_begun, later_than}
use Rattle.gptp_timeline.specs.Watch.{tells_changes, watch_begun}
use Rattle.gptp_timeline.specs.declared.run_so_far.RunSoFar.{RunSoFar}
use Rattle.gptp_timeline.specs.declared.timeline.TimelineOptions.{TimelineOptions}

-- nothing is told, and nothing asked but what systems read, or not even that
abbrev pub summary_of : Bool → TimelineOptions
summary_of times = record { summary = true; offsets = false; times = times; limits = no_limits }

-- of which document a run is, with which fate it begins, up to when it goes, and whether it is asked what systems read
pub record RunUpTo (F : Type 0) : Type 0 where
  pub document : DocumentState
  pub fate : F
  pub at : ℕ
  pub asked : Bool

-- The world of the document began, and went on with its events, all of them before the time, up to that. The stretches
-- between the times of events passed before an observer, which sets nobody aside; the last of them has begun.
pub record IsRunSoFar {F : Type 0} (answers : Bounds → ℕ → F → Option ℕ → F → Type 0) (p : RunUpTo F) (r : RunSoFar F) :
    Type 0 where
  pub early : last_change p.document.events < p.at
  pub started : F
  pub start : WorldState
  pub begun : Begun answers p.document.network p.fate started start
  pub count : ℕ
  pub last : Standing F
  pub lines : List (List ℕ)
  pub earlier : EarlierAreSeen answers false p.document no_limits count (standing 0 p.document.events started start
      (watch_at_start (summary_of p.asked) nobody_aside start) none_kept) last lines
  pub none_later : later_than last.from last.left ≡ []
  pub acts : List ActTrace
  pub told : List (List ℕ)
  pub courses : Courses answers p.at last.left acts last.fate r.world.fate last.world r.world.world_core
  pub tells : Tells tells_changes acts (watch_begun last.from None (length last.left) last.watch) r.watch told
  pub asked_is : r.times ≡ p.asked
  pub events_are : r.events ≡ length p.document.events
  pub from_is : r.from ≡ last.from
  pub begins_is : r.begins_with_event ≡ is_begun last.left

-- A document has the events of another and later ones, from a time to an end, at two times at least.
pub record GoesOn (d : DocumentState) (at until : ℕ) (e : DocumentState) : Type 0 where
  pub network : e.network ≡ d.network
  pub more : List Timed
  pub events : e.events ≡ d.events ++ more
  pub late : AllByRecursion (λ (x : Timed). at ≤ x.at) more
  pub due : AllByRecursion (λ (x : Timed). x.at ≤ until) more
  pub first : ℕ
  pub comes : first_time more ≡ Some first
  pub second : ℕ
  pub comes_then : first_time (later_than first more) ≡ Some second

-- The run of a document up to an end goes on from such a run; who is set aside in it is so from its end on at the
-- earliest.
pub record GoesOnFrom {F : Type 0} (answers : Bounds → ℕ → F → Option ℕ → F → Type 0) (p : RunUpTo F) (r : RunSoFar F)
    (e : DocumentState) (until : ℕ) (aside : AsideState) : Type 0 where
  pub run : IsRunSoFar answers p r
  pub goes : GoesOn p.document p.at until e
  pub later : p.at ≤ aside.from
