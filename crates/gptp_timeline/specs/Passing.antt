-- What the code keeps of a stretch that passes before an observer: contracts of private functions alone cite this.
use Rattle.std.specs.Prelude.{◌≡◌, ◌⊎◌, ◌≤◌, nat_le, slice_get, zero, suc, true, ℕ, List, [], ◌∷◌, ◌++◌, Option, Some, None, map, Bool, ◌&&◌, if◌then◌else◌, length}
use Rattle.std.specs.Option.{option_map_or}
use Rattle.gptp_model.specs.Views.{rising_clocks}
use Rattle.gptp_model.specs.World.{WorldState}
use Rattle.gptp_links.specs.declared.bounds.Bounds.{Bounds}
use Rattle.gptp_model.specs.Prompt.{AllDelaysFitIntervals}
use Rattle.gptp_network.specs.Document.{DocumentState}
use Rattle.gptp_network.specs.Events.{AreInOrder}
use Rattle.gptp_scenario.specs.Allowed.{AreAllowed}
use Rattle.gptp_scenario.specs.declared.change.Timed.{Timed}
use Rattle.gptp_world.specs.Observing.{Tells}
use Rattle.gptp_world.specs.Transitions.{ActTrace}
use Rattle.gptp_report.specs.Transitions.{Courses, CoursesSoFar}
use Rattle.gptp_timeline.specs.Aside.{AsideState, nobody_aside}
use Rattle.gptp_timeline.specs.ExactReads.{unread}
use Rattle.gptp_timeline.specs.LastStretches.{end_of, kept_after}
use Rattle.gptp_timeline.specs.Looks.{nothing_read}
use Rattle.gptp_timeline.specs.Readings.{no_reading}
use Rattle.gptp_timeline.specs.TimeWatch.{TimeState}
use Rattle.gptp_timeline.specs.Timeline.{end_before, end_lines, exact_time, is_begun, IsTimelinePlan, later_than, now_of, tracks}
use Rattle.gptp_timeline.specs.Watch.{watch_begun, event_look, nothing, see_all, tells_changes, unseen, WatchState}
use Rattle.gptp_timeline.specs.declared.ends.StretchesSoFar.{StretchesSoFar}
use Rattle.gptp_timeline.specs.declared.limits.Limits.{Limits}
use Rattle.gptp_timeline.specs.declared.timeline.Plan.{Plan}
use Rattle.gptp_timeline.specs.declared.timeline.TimelineOptions.{TimelineOptions}

-- when the first of events comes
abbrev pub first_time : List Timed → Option ℕ
first_time [] = None
first_time (e ∷ es) = Some e.at

-- what is kept of what systems read before a world starts, where that is asked, of which some are set aside
abbrev pub times_before : TimelineOptions → AsideState → WorldState → Option TimeState
times_before options aside w = if tracks options then Some (record {
  lines = options.times;
  told = options.times && options.offsets;
  exact_from = None;
  events_left = 0;
  systems = map no_reading (rising_clocks w);
  reads = map unread (rising_clocks w);
  measures = nothing_read;
  aside = aside;
}) else None

-- an observer before the systems of a world start, of which some are set aside, and after that
abbrev pub watch_before : TimelineOptions → AsideState → WorldState → WatchState
watch_before options aside w = record {
  summary = options.summary;
  offsets = options.offsets;
  exact_from = None;
  systems = map unseen (rising_clocks w);
  measures = nothing;
  times = times_before options aside w;
}

-- who is set aside; nobody, where it isn't asked what systems read
abbrev pub aside_kept : WatchState → AsideState
aside_kept o = option_map_or (λ (times : TimeState). times.aside) o.times nobody_aside

abbrev pub watch_at_start : TimelineOptions → AsideState → WorldState → WatchState
watch_at_start options aside w = see_all (event_look 0) w (watch_before options aside w)

-- The acts of a stretch with these events were done before an observer for which it began, and this is told of them.
pub record StretchIsSeen {F : Type 0} (answers : Bounds → ℕ → F → Option ℕ → F → Type 0) (plan : Plan)
    (events : List Timed)
    (fate fate_after : F) (w w' : WorldState) (o o_after : WatchState) (told : List (List ℕ)) : Type 0 where
  pub acts : List ActTrace
  pub courses : Courses answers plan.to events acts fate fate_after w w'
  pub tells : Tells tells_changes acts (watch_begun plan.from (exact_time plan.errors) (length events) o) o_after told

-- some of them were
pub record IsSeenSoFar {F : Type 0} (answers : Bounds → ℕ → F → Option ℕ → F → Type 0) (plan : Plan)
    (events : List Timed) (fate : F) (w : WorldState) (o : WatchState) (told : List (List ℕ)) : Type 0 where
  pub acts : List ActTrace
  pub o_after : WatchState
  pub courses : CoursesSoFar answers plan.to events acts fate w
  pub tells : Tells tells_changes acts (watch_begun plan.from (exact_time plan.errors) (length events) o) o_after told

-- all of them were, and the stretch ended
pub record IsSeenToEnd {F : Type 0} (answers : Bounds → ℕ → F → Option ℕ → F → Type 0) (plan : Plan)
    (events : List Timed) (fate : F) (w : WorldState) (o : WatchState) (lines : List (List ℕ)) : Type 0 where
  pub fate_after : F
  pub after : WorldState
  pub o_after : WatchState
  pub told : List (List ℕ)
  pub seen : StretchIsSeen answers plan events fate fate_after w after o o_after told
  pub are : lines ≡ told ++ end_lines plan after o_after

-- A stretch that breaks off: nothing is known of it, or some of its acts were done, or it ended.
abbrev pub StretchBreaksOff : {F : Type 0} → (Bounds → ℕ → F → Option ℕ → F → Type 0) → Plan → List Timed → F
    → WorldState
    → WatchState → List (List ℕ) → Type 0
StretchBreaksOff answers plan events fate w o lines =
    IsSeenSoFar answers plan events fate w o lines ⊎ IsSeenToEnd answers plan events fate w o lines

abbrev pub StopsSeen : {F : Type 0} → (Bounds → ℕ → F → Option ℕ → F → Type 0) → Bool → DocumentState → ℕ → ℕ
    → List Timed → F → WorldState → WatchState → List (List ℕ) → Type 0
StopsSeen answers exact d from to events fate w o lines =
    (lines ≡ [])
    ⊎ ((plan : Plan) × IsTimelinePlan exact d from to (is_begun events) plan
    × StretchBreaksOff answers plan events fate w o lines)

-- ---- several stretches

-- The events that are left are in order, none after the end, and the world can be asked for each.
pub record MayPass (until from : ℕ) (left : List Timed) (w : WorldState) : Type 0 where
  pub order : AreInOrder left
  pub due : (place : ℕ) (e : Timed) → slice_get left place ≡ Some e → nat_le e.at until ≡ true
  pub within : from ≤ until
  pub allowed : AreAllowed left
  pub prompt : AllDelaysFitIntervals w left

-- where a stretch begins, or where all ended: when, the events that are left then, the fate, the world, what an
-- observer keeps, and what is kept of the stretches before
pub record Standing (F : Type 0) : Type 0 where
  pub from : ℕ
  pub left : List Timed
  pub fate : F
  pub world : WorldState
  pub watch : WatchState
  pub kept : StretchesSoFar

abbrev pub standing : {F : Type 0} → ℕ → List Timed → F → WorldState → WatchState → StretchesSoFar → Standing F
standing from left fate w o kept =
    record { from = from; left = left; fate = fate; world = w; watch = o; kept = kept }

-- A stretch that began so passed before an observer, with its events, and ended so; these are its lines.
pub record OneIsSeen {F : Type 0} (answers : Bounds → ℕ → F → Option ℕ → F → Type 0) (exact : Bool) (d : DocumentState)
    (limits : Limits) (s t : Standing F) (lines : List (List ℕ)) : Type 0 where
  pub left_is : t.left ≡ later_than s.from s.left
  pub plan : Plan
  pub known : IsTimelinePlan exact d s.from t.from (is_begun (now_of s.from s.left)) plan
  pub told : List (List ℕ)
  pub seen : StretchIsSeen answers plan (now_of s.from s.left) s.fate t.fate s.world t.world s.watch t.watch told
  pub kept_is : t.kept ≡ kept_after limits (end_of plan t.world t.watch) s.kept
  pub are : lines ≡ told ++ end_lines plan t.world t.watch

-- So many passed, one after another, each up to the time of the next event.
abbrev pub EarlierAreSeen : {F : Type 0} → (Bounds → ℕ → F → Option ℕ → F → Type 0) → Bool → DocumentState → Limits
    → ℕ → Standing F → Standing F → List (List ℕ) → Type 0
EarlierAreSeen answers exact d limits zero s t lines = (t ≡ s) × (lines ≡ [])
EarlierAreSeen {F} answers exact d limits (suc n) s t lines =
    (u : Standing F) × (first : List (List ℕ)) × (rest : List (List ℕ)) × OneIsSeen answers exact d limits s u first
    × (first_time u.left ≡ Some u.from) × EarlierAreSeen answers exact d limits n u t rest × (lines ≡ first ++ rest)

-- All passed, the last of them to the end.
pub record AllAreSeen {F : Type 0} (answers : Bounds → ℕ → F → Option ℕ → F → Type 0) (exact : Bool) (d : DocumentState)
    (limits : Limits) (s t : Standing F) (lines : List (List ℕ)) : Type 0 where
  pub count : ℕ
  pub last : Standing F
  pub before : List (List ℕ)
  pub more : List (List ℕ)
  pub earlier : EarlierAreSeen answers exact d limits count s last before
  pub final : OneIsSeen answers exact d limits last t more
  pub none_left : t.left ≡ []
  pub are : lines ≡ before ++ more

-- Some passed, and in the one after them it stopped.
pub record StopsBetween {F : Type 0} (answers : Bounds → ℕ → F → Option ℕ → F → Type 0) (exact : Bool)
    (d : DocumentState) (limits : Limits) (until : ℕ) (s : Standing F) (lines : List (List ℕ)) : Type 0 where
  pub count : ℕ
  pub last : Standing F
  pub before : List (List ℕ)
  pub more : List (List ℕ)
  pub earlier : EarlierAreSeen answers exact d limits count s last before
  pub stops : StopsSeen answers exact d last.from (end_before until (later_than last.from last.left))
      (now_of last.from last.left) last.fate last.world last.watch more
  pub are : lines ≡ before ++ more
