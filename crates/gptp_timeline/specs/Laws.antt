-- Laws of timelines.
use Rattle.std.specs.Prelude.{◌≡◌, ◌≢◌, ◌≤◌, ◌+◌, ◌*◌, ◌^◌, ℕ, ℤ, unsigned_abs, Bool, true, List, map, Option, Some, IfSome}
use Rattle.std.specs.List.{flat_map}
use Rattle.gptp_model.specs.Advancing.{Told}
use Rattle.gptp_model.specs.Views.{rising_clocks}
use Rattle.gptp_model.specs.World.{WorldState}
use Rattle.gptp_graph.specs.Distance.{IsNear}
use Rattle.gptp_graph.specs.PathBound.{path_bound}
use Rattle.gptp_graph.specs.SettledChoice.{IsBestIdentity}
use Rattle.gptp_graph.specs.Snapshot.{Snapshot, clocks}
use Rattle.gptp_invariants.specs.WorldStanding.{snapshot_of}
use Rattle.gptp_links.specs.declared.bounds.Bounds.{Bounds}
use Rattle.gptp_lists.specs.Members.{In}
use Rattle.gptp_network.specs.Document.{DocumentState}
use Rattle.gptp_network.specs.Events.{AreEvents}
use Rattle.gptp_network.specs.Snapshot.{events_by, IsSnapshot}
use Rattle.gptp_network.specs.Span.{IsBound}
use Rattle.gptp_scenario.specs.Calm.{last_change}
use Rattle.gptp_scenario.specs.Network.{NetworkState, pace_of}
use Rattle.gptp_scenario.specs.SettlingTime.{settling_span_with, window_span}
use Rattle.gptp_scenario.specs.SyncWait.{sync_paths}
use Rattle.gptp_scenario.specs.declared.change.Timed.{Timed}
use Rattle.gptp_theorem.specs.PlayedLaws.{IsPlayable}
use Rattle.gptp_report.specs.Run.{PlaysRun}
use Rattle.gptp_roles.specs.Selection.{clock_of}
use Rattle.gptp_accuracy.specs.TimeErrors.{AreTimeErrors}
use Rattle.gptp_accuracy.specs.declared.errors.SystemError.{SystemError}
use Rattle.gptp_accuracy.specs.declared.errors.TimeErrors.{TimeErrors}
use Rattle.gptp_world.specs.Transitions.{ActTrace}
use Rattle.gptp_report.specs.Transitions.{Unfolds}
use Rattle.gptp_timeline.specs.Changes.{change_lines}
use Rattle.gptp_timeline.specs.Each.{Each}
use Rattle.gptp_timeline.specs.Limits.{choice_after}
use Rattle.gptp_timeline.specs.Shown.{shown}
use Rattle.gptp_timeline.specs.Stretch.{at_of, error_at, error_from, receives, roots_of}
use Rattle.gptp_timeline.specs.StretchText.{behind}
use Rattle.gptp_timeline.specs.Tellings.{all_tellings, telling_line, tellings, TellLast}
use Rattle.gptp_timeline.specs.Timeline.{Carried, StretchTrace, TimelineOf, stretch_of}
use Rattle.gptp_timeline.specs.declared.shown.Shown.{Shown}
use Rattle.gptp_timeline.specs.declared.timeline.TimelineOptions.{TimelineOptions}

-- the acts of all stretches
abbrev pub all_acts : List StretchTrace → List ActTrace
all_acts passages = flat_map (λ (p : StretchTrace). p.acts) passages

-- The stretches of a timeline together are one run of its document: the document goes on by the acts of all of them to
-- the world where the last ends.
abbrev pub TimelineUnfolds : {F : Type 0} → (Bounds → ℕ → F → Option ℕ → F → Type 0) → Type 0
TimelineUnfolds {F} answers = (d : DocumentState) (until : ℕ) (options : TimelineOptions) (fate : F)
    (lines : List (List ℕ)) (exceeded : Bool) (t : TimelineOf answers d until options fate lines exceeded)
    → AreEvents d.network d.events → Unfolds answers d until fate t.start (all_acts t.passages) t.after

-- A timeline ends with the world of which a run of the document to the same time reports.
abbrev pub TimelineEndsAsRun : {F : Type 0} → (Bounds → ℕ → F → Option ℕ → F → Type 0) → Type 0
TimelineEndsAsRun {F} answers = (d : DocumentState) (until : ℕ) (options : TimelineOptions) (fate : F)
    (lines : List (List ℕ)) (exceeded : Bool) (t : TimelineOf answers d until options fate lines exceeded)
    → AreEvents d.network d.events → (told : List Told) × PlaysRun answers d until fate told t.after

-- The lines of what an act leaves another of a system are those of what is told of it.
abbrev pub ChangesAreTold : Type 0
ChangesAreTold = (at name : ℕ) (before after : Option Shown)
    → change_lines at name before after ≡ map (telling_line at name) (tellings before after)

-- What they tell last of a system and of each of its ports is what it shows in the world where the last stretch ends.
abbrev pub LastLinesTell : {F : Type 0} → (Bounds → ℕ → F → Option ℕ → F → Type 0) → Type 0
LastLinesTell {F} answers = (d : DocumentState) (until : ℕ) (options : TimelineOptions) (fate : F)
    (lines : List (List ℕ)) (exceeded : Bool) (t : TimelineOf answers d until options fate lines exceeded) (name : ℕ)
    → AreEvents d.network d.events → TellLast (all_tellings name t.start (all_acts t.passages)) (shown name t.after)

-- every live system is near
abbrev pub AllNear : Snapshot → Type 0
AllNear g = (name : ℕ) → In name (clocks g) → IsNear g name

-- Where the network is calm where a stretch begins, and every live system is near where it ends, no act later than the
-- span after its begin leaves a system another as to whether it lives, root, steps or Slave port, nor as to role or
-- capable of a port.
abbrev pub Settle : DocumentState → List StretchTrace → Type 0
Settle d passages = (p : StretchTrace) (span : ℕ) (names : List ℕ) (carried : Carried)
    → In p passages → IsBound d p.from (Some span) → AllNear (snapshot_of p.after)
    → IfSome (choice_after (stretch_of names carried p)) (λ time. time ≤ span)
    × IfSome (behind p.from (stretch_of names carried p).measures.roles) (λ time. time ≤ span)

abbrev pub StretchesSettle : {F : Type 0} → (Bounds → ℕ → F → Option ℕ → F → Type 0) → Type 0
StretchesSettle {F} answers = (d : DocumentState) (until : ℕ) (options : TimelineOptions) (fate : F)
    (lines : List (List ℕ)) (exceeded : Bool) (t : TimelineOf answers d until options fate lines exceeded)
    → IsPlayable d → Settle d t.passages

-- the root that a system follows: where it is near, the identity of the best of its component
abbrev pub IsShownRoot : Snapshot → ℕ → ℕ → Type 0
IsShownRoot g name root = IsNear g name → IsBestIdentity g name root

-- the roots that all systems of the snapshot follow, by rising clock
abbrev pub AreRoots : Snapshot → List ℕ → Type 0
AreRoots g roots = Each (IsShownRoot g) (clocks g) roots

-- Where the network is calm where a stretch begins that lasts as long as the span, the roots that live systems follow
-- where it ends are those of the settled choice of the network as it stands then: of each near system the best of its
-- component.
abbrev pub Follow : DocumentState → WorldState → List StretchTrace → Type 0
Follow d start passages = (p : StretchTrace) (span : ℕ) (g : Snapshot)
    → In p passages → IsBound d p.from (Some span) → p.from + span ≤ p.to → IsSnapshot d p.from g
    → AreRoots g (roots_of (map (λ name. shown name p.after) (rising_clocks start)))

abbrev pub StretchesFollow : {F : Type 0} → (Bounds → ℕ → F → Option ℕ → F → Type 0) → Type 0
StretchesFollow {F} answers = (d : DocumentState) (until : ℕ) (options : TimelineOptions) (fate : F)
    (lines : List (List ℕ)) (exceeded : Bool) (t : TimelineOf answers d until options fate lines exceeded)
    → IsPlayable d → Follow d t.start t.passages

-- From when on a network that is calm after these events is exact whatever came before: it has settled by then, rates
-- are measured over whole windows, and what each system uses has come down the settled tree, at most a threshold and a
-- residence for each system of a path.
abbrev pub exact_by_span : NetworkState → List Timed → Snapshot → ℕ
exact_by_span n events g =
    last_change events + settling_span_with (pace_of n) (sync_paths n events) (path_bound g) + window_span n.params
    + path_bound g * (n.params.threshold + n.params.residence)

-- from when on a document is so after its events up to a time
pub record IsExactBySpan (d : DocumentState) (at from : ℕ) : Type 0 where
  pub snapshot : Snapshot
  pub stands : IsSnapshot d at snapshot
  pub is : from ≡ exact_by_span d.network (events_by at d.events) snapshot

-- what time errors say of a system that isn't its own root: its bound
pub record SayBound (errors : TimeErrors) (name bound : ℕ) : Type 0 where
  pub system : SystemError
  pub among : In system errors.systems.items
  pub named : system.clock ≡ name
  pub follows : clock_of system.root ≢ system.clock
  pub bound_is : system.error ≡ Some bound

-- the error of a receipt of a system from a time on is within a bound
abbrev pub ErrorIsWithin : ℕ → ℕ → ℕ → ActTrace → Type 0
ErrorIsWithin name from bound t = (error : ℤ) → from ≤ at_of t → receives name t ≡ true → error_at name t ≡ Some error
    → unsigned_abs error ≤ bound

-- Errors of receipts are within the bounds that the time errors of their stretch say, each from the time on from which
-- the network is exact whatever came before; and so is the greatest of them.
abbrev pub AreErrorsWithin : DocumentState → List StretchTrace → Type 0
AreErrorsWithin d passages = (p : StretchTrace) (errors : TimeErrors) (name from bound : ℕ)
    → In p passages → p.errors ≡ Some errors → IsExactBySpan d p.from from → SayBound errors name bound
    → ((act : ActTrace) → In act p.acts → ErrorIsWithin name from bound act)
    × IfSome (error_from name (Some from) p.acts) (λ amount. amount ≤ bound)

-- The errors of a timeline are within its bounds as long as clocks can show the time.
abbrev pub ErrorsAreWithin : {F : Type 0} → (Bounds → ℕ → F → Option ℕ → F → Type 0) → Type 0
ErrorsAreWithin {F} answers = (d : DocumentState) (until : ℕ) (options : TimelineOptions) (fate : F)
    (lines : List (List ℕ)) (exceeded : Bool) (t : TimelineOf answers d until options fate lines exceeded)
    → IsPlayable d → until ≤ 10 ^ 18 → AreErrorsWithin d t.passages

-- The errors in every run of a document are within the time errors of the document as it is at the end of the run.
abbrev pub RunsAreWithin : {F : Type 0} → (Bounds → ℕ → F → Option ℕ → F → Type 0) → Type 0
RunsAreWithin {F} answers = (d : DocumentState) (until : ℕ) (fate : F) (start : WorldState) (ts : List ActTrace)
    (w : WorldState) (errors : TimeErrors) (name from bound : ℕ)
    → IsPlayable d → until ≤ 10 ^ 18 → Unfolds answers d until fate start ts w → AreTimeErrors d until errors
    → IsExactBySpan d until from → SayBound errors name bound
    → (act : ActTrace) → In act ts → ErrorIsWithin name from bound act

-- ---- all of it at once

-- A timeline is right: its stretches are one run, the last lines of each system tell what it shows where that ends,
-- stretches settle within their spans and then follow the settled choice, and errors are within their bounds.
pub record TimelineIsRight {F : Type 0} (answers : Bounds → ℕ → F → Option ℕ → F → Type 0) (d : DocumentState)
    (until : ℕ)
    (options : TimelineOptions) (fate : F) (lines : List (List ℕ)) (exceeded : Bool)
    (t : TimelineOf answers d until options fate lines exceeded) : Type 0 where
  pub unfolds : Unfolds answers d until fate t.start (all_acts t.passages) t.after
  pub last : (name : ℕ) → TellLast (all_tellings name t.start (all_acts t.passages)) (shown name t.after)
  pub settle : Settle d t.passages
  pub follow : Follow d t.start t.passages
  pub within : AreErrorsWithin d t.passages

-- Every timeline of a document that is playable is right, as long as clocks can show the time.
abbrev pub TimelinesAreRight : {F : Type 0} → (Bounds → ℕ → F → Option ℕ → F → Type 0) → Type 0
TimelinesAreRight {F} answers = (d : DocumentState) (until : ℕ) (options : TimelineOptions) (fate : F)
    (lines : List (List ℕ)) (exceeded : Bool) (t : TimelineOf answers d until options fate lines exceeded)
    → IsPlayable d → until ≤ 10 ^ 18 → TimelineIsRight answers d until options fate lines exceeded t
