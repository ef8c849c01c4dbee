-- Once a document has settled, no act leaves a system another: neither as to whether it lives, its root, its steps and
-- its Slave port, nor as to role and capability of a port. Once its choice stands, none leaves a system another choice.
use Rattle.std.specs.Prelude.{◌≡◌, ◌<◌, ℕ, List, Option}
use Rattle.gptp_lists.specs.Members.{In}
use Rattle.gptp_links.specs.declared.bounds.Bounds.{Bounds}
use Rattle.gptp_scenario.specs.Calm.{last_change}
use Rattle.gptp_bmca_machine.specs.SoundLaws.{AllAreNear}
use Rattle.gptp_system.specs.Start.{role_at}
use Rattle.gptp_system.specs.State.{SystemState, is_capable_at}
use Rattle.gptp_system.specs.Steps.{HasPortNumber}
use Rattle.gptp_model.specs.Views.{ShowsLive}
use Rattle.gptp_model.specs.World.{WorldState}
use Rattle.gptp_network.specs.Document.{DocumentState}
use Rattle.gptp_network.specs.Snapshot.{events_by}
use Rattle.gptp_report.specs.Transitions.{ActTrace, Unfolds}
use Rattle.gptp_invariants.specs.WorldStanding.{snapshot_of}
use Rattle.gptp_theorem.specs.PlayedLaws.{IsPlayable}
use Rattle.gptp_settling_time.specs.InTurn.{ChoosesByEvents, SettlesByEvents}

-- two states of a system show the same choice: root, steps and Slave port
pub record ShowsSameChoice (s s' : SystemState) : Type 0 where
  pub root : s'.root ≡ s.root
  pub steps : s'.steps ≡ s.steps
  pub slave : s'.slave ≡ s.slave

-- and the same roles: of each port role and capability
pub record ShowsSameRoles (s s' : SystemState) : Type 0 where
  pub role : (n : ℕ) → HasPortNumber s n → role_at s' n ≡ role_at s n
  pub capable : (n : ℕ) → HasPortNumber s n → is_capable_at s' n ≡ is_capable_at s n

-- the system of this clock that lives in the one world lives in the other, and shows the same
pub record LivesOnTheSame (number : ℕ) (s : SystemState) (w' : WorldState) : Type 0 where
  pub state : SystemState
  pub shows : ShowsLive number w' state
  pub choice : ShowsSameChoice s state
  pub roles : ShowsSameRoles s state

abbrev pub LivesIn : ℕ → WorldState → Type 0
LivesIn number w = (s : SystemState) × ShowsLive number w s

-- the systems that live in the one world, and no others, live in the other, and each shows the same
pub record LeavesShown (w w' : WorldState) : Type 0 where
  pub stays : (number : ℕ) (s : SystemState) → ShowsLive number w s → LivesOnTheSame number s w'
  pub comes : (number : ℕ) → LivesIn number w' → LivesIn number w

-- the system of this clock that lives in the one world lives in the other, and shows the same choice
pub record ChoosesTheSame (number : ℕ) (s : SystemState) (w' : WorldState) : Type 0 where
  pub state : SystemState
  pub shows : ShowsLive number w' state
  pub choice : ShowsSameChoice s state

-- the systems that live in the one world, and no others, live in the other, and each shows the same choice
pub record LeavesChoiceShown (w w' : WorldState) : Type 0 where
  pub stays : (number : ℕ) (s : SystemState) → ShowsLive number w s → ChoosesTheSame number s w'
  pub comes : (number : ℕ) → LivesIn number w' → LivesIn number w

-- No act of a run leaves a system another by whose time the document has settled, and which is later than the events
-- up to then, where every live system is near.
abbrev pub ActsLeaveShown : {F : Type 0} → (Bounds → ℕ → F → Option ℕ → F → Type 0) → Type 0
ActsLeaveShown {F} answers = (d : DocumentState) (until : ℕ) (fate : F) (first w : WorldState) (ts : List ActTrace)
    (t : ActTrace)
    → IsPlayable d → Unfolds answers d until fate first ts w → In t ts
    → SettlesByEvents d t.told.timed.at t.told.timed.at
    → last_change (events_by t.told.timed.at d.events) < t.told.timed.at
    → AllAreNear (snapshot_of t.after)
    → LeavesShown t.before t.after

-- nor does one leave it another choice by whose time that stands
abbrev pub ActsLeaveChoice : {F : Type 0} → (Bounds → ℕ → F → Option ℕ → F → Type 0) → Type 0
ActsLeaveChoice {F} answers = (d : DocumentState) (until : ℕ) (fate : F) (first w : WorldState) (ts : List ActTrace)
    (t : ActTrace)
    → IsPlayable d → Unfolds answers d until fate first ts w → In t ts
    → ChoosesByEvents d t.told.timed.at t.told.timed.at
    → last_change (events_by t.told.timed.at d.events) < t.told.timed.at
    → AllAreNear (snapshot_of t.after)
    → LeavesChoiceShown t.before t.after
