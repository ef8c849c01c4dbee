-- How old what is known of time is, where something may lapse for want of Sync (syncReceiptTimeout, IEEE 802.1AS-2020,
-- 10.3.12).
--
-- The Lapse timer of a system runs out a span later than it was started. Each Follow_Up that the system uses starts it
-- anew, and else only another root or another Slave port does.
use Rattle.std.specs.Prelude.{◌≡◌, ◌<◌, ◌≤◌, ◌+◌, ◌^◌, ℕ, suc, ℤ, true, List, Option, Some}
use Rattle.gptp_lists.specs.Members.{In}
use Rattle.gptp_graph.specs.Distance.{IsNear}
use Rattle.gptp_graph.specs.PathBound.{path_bound}
use Rattle.gptp_links.specs.declared.bounds.Bounds.{Bounds}
use Rattle.gptp_scaled.specs.Counts.{AreWithin}
use Rattle.gptp_setup.specs.SettlingParams.{SettlingParams, lapse_span}
use Rattle.gptp_scenario.specs.SyncWait.{sync_wait}
use Rattle.gptp_system.specs.State.{SystemState, can_lead}
use Rattle.gptp_model.specs.Views.{ShowsLive}
use Rattle.gptp_model.specs.World.{WorldState}
use Rattle.gptp_network.specs.Document.{DocumentState}
use Rattle.gptp_report.specs.Transitions.{ActTrace, Unfolds}
use Rattle.gptp_invariants.specs.ChoiceCalm.{sync_paths_of}
use Rattle.gptp_invariants.specs.WorldSettlingInvariant.{SettlingInvariant}
use Rattle.gptp_invariants.specs.WorldStanding.{snapshot_of}
use Rattle.gptp_theorem.specs.Headline.{HasComeDown, HasPassed, WorldIsCalm, UsesFollowUp}
use Rattle.gptp_theorem.specs.PlayedLaws.{IsPlayable}
use Rattle.gptp_reading.specs.Reading.{IsBestsTime, IsReadingErrorOf}
use Rattle.gptp_reading.specs.Readings.{LeavesReading}

-- In a calm world, once so long has passed since its last change, a Lapse timer of a near system that has a Slave port
-- was started no longer ago than such a system waits for the next Sync: a sync interval, and for each link of a path a
-- residence and the greatest delay.
abbrev pub HeadlineOnAge : WorldState → Type 0
HeadlineOnAge w = (p : SettlingParams) (number port due : ℕ) (s : SystemState)
    → WorldIsCalm p w → HasPassed p (path_bound (snapshot_of w)) w
    → IsNear (snapshot_of w) number → ShowsLive number w s → s.slave ≡ Some port → s.lapse ≡ Some due
    → w.time + lapse_span p.params ≤ due + sync_wait p.params (sync_paths_of w)

-- in every world of a network the Lapse timers of near systems were started as recently as `HeadlineOnAge` says
abbrev pub WorldsAreRecent : Type 0
WorldsAreRecent = (w : WorldState) → SettlingInvariant w → HeadlineOnAge w

-- by one of these acts the system with this clock used a Follow_Up, no more than a span before a time
pub record HeardWithin (acts : List ActTrace) (number span time : ℕ) : Type 0 where
  pub act : ActTrace
  pub member : In act acts
  pub uses : UsesFollowUp number act.told.done
  pub lately : time ≤ act.told.timed.at + span

-- Follow_Ups come in time. Let a run of a document, in a network that has a syncReceiptTimeout, end in a calm world
-- once so long has passed since its last change. Then each near system that has a Slave port, and follows a root that
-- may be grandmaster, used a Follow_Up no longer ago than such a system waits for the next Sync. What it reads is no
-- older.
abbrev pub RunsHearInTime : {F : Type 0} → (Bounds → ℕ → F → Option ℕ → F → Type 0) → Type 0
RunsHearInTime {F} answers = (d : DocumentState) (until : ℕ) (fate : F) (start w : WorldState) (acts : List ActTrace)
    (p : SettlingParams) (number port : ℕ) (s : SystemState)
    → IsPlayable d → until ≤ 10 ^ 18 → Unfolds answers d until fate start acts w
    → WorldIsCalm p w → 0 < p.params.sync_timeout → HasPassed p (path_bound (snapshot_of w)) w
    → IsNear (snapshot_of w) number → ShowsLive number w s → s.slave ≡ Some port → can_lead s.root ≡ true
    → HeardWithin acts number (sync_wait p.params (sync_paths_of w)) w.time

-- by one of these acts, no more than a span before a time, the system was left a reading that at the time differs from
-- this by no more than an error
pub record ReadsWithin (acts : List ActTrace) (number span time error : ℕ) (shown : ℤ) : Type 0 where
  pub act : ActTrace
  pub member : In act acts
  pub lately : time ≤ act.told.timed.at + span
  pub read : ℤ
  pub leaves : LeavesReading number act.after act.told.done time read
  pub exact : AreWithin error read shown

-- What is read is exact. Let a run of a document, in a network that has a syncReceiptTimeout, end in a calm world that
-- has waited for a Sync. Take a near system that has a Slave port, and follows a root that may be grandmaster. Where a
-- Sync has had the time to come down the system's way before that wait, it has a reading as the run ends, which a
-- Follow_Up left it no longer ago than the wait. It is within the reading error for the wait of what the best tells.
abbrev pub RunsReadLately : {F : Type 0} → (Bounds → ℕ → F → Option ℕ → F → Type 0) → Type 0
RunsReadLately {F} answers = (d : DocumentState) (until : ℕ) (fate : F) (start w : WorldState) (acts : List ActTrace)
    (p : SettlingParams) (earlier steps number port error : ℕ) (s : SystemState) (shown : ℤ)
    → IsPlayable d → until ≤ 10 ^ 18 → Unfolds answers d until fate start acts w
    → WorldIsCalm p w → 0 < p.params.sync_timeout → HasComeDown p (path_bound (snapshot_of w)) (suc steps) earlier w
    → earlier + sync_wait p.params (sync_paths_of w) ≤ w.time
    → IsNear (snapshot_of w) number → ShowsLive number w s → s.slave ≡ Some port → can_lead s.root ≡ true
    → IsReadingErrorOf p.params w number steps (sync_wait p.params (sync_paths_of w)) error
    → IsBestsTime w number w.time shown
    → ReadsWithin acts number (sync_wait p.params (sync_paths_of w)) w.time error shown
