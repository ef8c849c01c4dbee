-- Time at any moment, on one page: what an application reads between two Follow_Ups, in holdover, and while the network
-- changes; and how exact that is.
--
-- A Follow_Up that a system uses leaves it a *reading* (`reading`): the root's time as the Sync came, and from then on
-- what passes on the own clock, at the rate of the root's clock against it. It is kept until the next one is used. So
-- what is read depends on the state that the Follow_Up left and on the own clock alone, and on nothing that happens
-- later.
use Rattle.std.specs.Prelude.{◌≡◌, ◌<◌, ◌≤◌, ◌+◌, ◌^◌, ℕ, suc, ℤ, List, Option, Some, IsSome}
use Rattle.gptp_lists.specs.Members.{In}
use Rattle.gptp_graph.specs.Distance.{IsNear}
use Rattle.gptp_graph.specs.PathBound.{BoundsPaths}
use Rattle.gptp_links.specs.declared.bounds.Bounds.{Bounds}
use Rattle.gptp_scaled.specs.Counts.{AreWithin}
use Rattle.gptp_setup.specs.SettlingParams.{SettlingParams}
use Rattle.gptp_error_laws.specs.TimeError.{Way}
use Rattle.gptp_sync_machine.specs.Tree.{IsWayTo}
use Rattle.gptp_invariants.specs.SyncFollowers.{follower_parts}
use Rattle.gptp_scenario.specs.declared.change.Timed.{Timed}
use Rattle.gptp_system.specs.State.{SystemState, lapse_of}
use Rattle.gptp_model.specs.Course.{WasDone}
use Rattle.gptp_model.specs.declared.done.Done.{Done}
use Rattle.gptp_model.specs.Views.{ShowsLive}
use Rattle.gptp_model.specs.World.{WorldState}
use Rattle.gptp_network.specs.Document.{DocumentState}
use Rattle.gptp_report.specs.Transitions.{ActTrace, Unfolds}
use Rattle.gptp_invariants.specs.WorldStanding.{snapshot_of}
use Rattle.gptp_invariants.specs.SyncTimedClaim.{WorldInvariant}
use Rattle.gptp_theorem.specs.Headline.{HasComeDown, WorldIsCalm, UsesFollowUp}
use Rattle.gptp_theorem.specs.PlayedLaws.{IsPlayable}
use Rattle.gptp_reading.specs.Reading.{IsBestsTime, IsReadingErrorOf, reading}

-- By an act of which this is told, the system with this clock used a Follow_Up; and by the state that the act left it,
-- it reads this at a time.
pub record LeavesReading (number : ℕ) (w' : WorldState) (done : Done) (time : ℕ) (read : ℤ) : Type 0 where
  pub uses : UsesFollowUp number done
  pub system : SystemState
  pub shows : ShowsLive number w' system
  pub is : reading system time ≡ Some read

-- What a Follow_Up that is used leaves in any world: the time that it told is known; where nothing can lapse for want
-- of Sync there is a reading at every time; and where something can, the Lapse timer begins, if the root may lead (IEEE
-- 802.1AS-2020, 10.3.12).
pub record LeavesTime (time : ℕ) (s : SystemState) : Type 0 where
  pub known : IsSome s.known
  pub reads : s.params.sync_timeout ≡ 0 → (moment : ℕ) → IsSome (reading s moment)
  pub starts : 0 < s.params.sync_timeout → s.lapse ≡ lapse_of s.params s.root s.slave time

-- The theorem on time at any moment: where an act is done in a calm world once so long has passed, and a near system
-- other than its component's best uses a Follow_Up by it, what the system reads from then on, at any time, is within
-- its reading error of what the best then tells, by the base that it has as the act is done. The reading error
-- (`reading_error_at`) is the time error of the system's way, and what the error of the rate makes of the time since
-- the Follow_Up and of the jitter of the last link. It may be long after: then the best may have failed, and the
-- network may have become another.
abbrev pub HeadlineOnReadings : WorldState → ℕ → WorldState → Done → Type 0
HeadlineOnReadings w time w' done = (p : SettlingParams) (m steps number later error : ℕ) (read shown : ℤ)
    → WorldIsCalm p w → BoundsPaths (snapshot_of w) m → HasComeDown p m (suc steps) time w
    → LeavesReading number w' done (time + later) read
    → IsNear (snapshot_of w) number → IsReadingErrorOf p.params w number steps later error
    → IsBestsTime w number (time + later) shown
    → AreWithin error read shown

-- each act in a world leaves exact readings, whatever is drawn for its frames, as long as clocks can show its time
abbrev pub WorldsReadExactly : {F : Type 0} → (Bounds → ℕ → F → Option ℕ → F → Type 0) → Type 0
WorldsReadExactly {F} answers = (timed : Timed) (fate fate_after : F) (w w' : WorldState) (done : Done)
    → WorldInvariant w → WasDone answers timed fate fate_after w w' done → timed.at ≤ 10 ^ 18
    → HeadlineOnReadings w timed.at w' done

-- each act in a world by which a system uses a Follow_Up leaves it time, as `LeavesTime` says
abbrev pub WorldsLeaveTime : {F : Type 0} → (Bounds → ℕ → F → Option ℕ → F → Type 0) → Type 0
WorldsLeaveTime {F} answers = (timed : Timed) (fate fate_after : F) (w w' : WorldState) (done : Done) (number : ℕ)
    (s : SystemState)
    → WorldInvariant w → WasDone answers timed fate fate_after w w' done → UsesFollowUp number done
    → ShowsLive number w' s
    → LeavesTime timed.at s

-- In such a world each Follow_Up that is used leaves a reading, also where something can lapse: the numbers of the
-- offset fit. Here way and phase are those of the system's way.
abbrev pub WorldsHaveReadings : {F : Type 0} → (Bounds → ℕ → F → Option ℕ → F → Type 0) → Type 0
WorldsHaveReadings {F} answers = (timed : Timed) (fate fate_after : F) (w w' : WorldState) (done : Done)
    → WorldInvariant w → WasDone answers timed fate fate_after w w' done → timed.at ≤ 10 ^ 18
    → (p : SettlingParams) (m steps number : ℕ) (s : SystemState) (way : Way) (phase : ℕ → ℕ)
    → WorldIsCalm p w → BoundsPaths (snapshot_of w) m → HasComeDown p m (suc steps) timed.at w
    → UsesFollowUp number done → ShowsLive number w' s
    → IsNear (snapshot_of w) number → IsWayTo (follower_parts p.params w) (snapshot_of w) (suc steps) number way phase
    → (moment : ℕ) → IsSome (reading s moment)

-- each act of a run of a document leaves exact readings too, whatever is drawn for the frames meanwhile
abbrev pub RunsReadExactly : {F : Type 0} → (Bounds → ℕ → F → Option ℕ → F → Type 0) → Type 0
RunsReadExactly {F} answers = (d : DocumentState) (until : ℕ) (fate : F) (start w : WorldState) (ts : List ActTrace)
    (t : ActTrace) → IsPlayable d → until ≤ 10 ^ 18 → Unfolds answers d until fate start ts w → In t ts
    → HeadlineOnReadings t.before t.told.timed.at t.after t.told.done

-- A run may end at any time. Where it ends in a calm world, what a near system reads there is exact by each Follow_Up
-- that it used once a Sync had had the time to come down from when the network was settled. For one that was used no
-- longer ago than a span it is within the reading error for that span of what the best tells.
abbrev pub RunsReadInTime : {F : Type 0} → (Bounds → ℕ → F → Option ℕ → F → Type 0) → Type 0
RunsReadInTime {F} answers = (d : DocumentState) (until : ℕ) (fate : F) (start w : WorldState) (acts : List ActTrace)
    (act : ActTrace) (p : SettlingParams) (m steps number earlier later error : ℕ) (read shown : ℤ)
    → IsPlayable d → until ≤ 10 ^ 18 → Unfolds answers d until fate start acts w → In act acts
    → WorldIsCalm p w → BoundsPaths (snapshot_of w) m → HasComeDown p m (suc steps) earlier w
    → earlier ≤ act.told.timed.at → w.time ≤ act.told.timed.at + later
    → LeavesReading number act.after act.told.done w.time read
    → IsNear (snapshot_of w) number → IsReadingErrorOf p.params w number steps later error
    → IsBestsTime w number w.time shown
    → AreWithin error read shown
