-- By when each run of a document has settled, as it is computed.
use Rattle.std.specs.Prelude.{◌≡◌, ◌<◌, ◌+◌, ℕ, List, Option, Some}
use Rattle.gptp_lists.specs.Members.{In}
use Rattle.gptp_links.specs.declared.bounds.Bounds.{Bounds}
use Rattle.gptp_bmca_machine.specs.SoundLaws.{AllAreNear}
use Rattle.gptp_model.specs.World.{WorldState}
use Rattle.gptp_network.specs.Document.{DocumentState}
use Rattle.gptp_report.specs.Transitions.{ActTrace, Unfolds}
use Rattle.gptp_invariants.specs.WorldStanding.{snapshot_of}
use Rattle.gptp_theorem.specs.PlayedLaws.{IsPlayable}
use Rattle.gptp_how_soon.specs.Times.{settling_times}
use Rattle.gptp_how_soon.specs.declared.bounds.Settling.{Settling}
use Rattle.gptp_how_soon.specs.declared.bounds.SettlingTime.{SettlingTime}
use Rattle.gptp_settling_time.specs.ChoiceAlone.{ChoiceStandsAs}
use Rattle.gptp_settling_time.specs.Documents.{IsSettledAs}
use Rattle.gptp_settling_time.specs.HowSoon.{NoneBetween}
use Rattle.gptp_settling_time.specs.Unchanged.{LeavesChoiceShown, LeavesShown}

-- Each act that is later than a time of the document by more than its roles, and before the next event, leaves a
-- settled world. Where every live system is near, it leaves no system another.
abbrev pub SettlesSoon : {F : Type 0} → (Bounds → ℕ → F → Option ℕ → F → Type 0) → Type 0
SettlesSoon {F} answers = (d : DocumentState) (time : SettlingTime) (s : Settling) (next until : ℕ) (fate : F)
    (first w : WorldState) (ts : List ActTrace) (t : ActTrace)
    → IsPlayable d → Unfolds answers d until fate first ts w → In t ts
    → In time (settling_times d) → time.settling ≡ Some s → NoneBetween d.events time.at next
    → time.at + s.roles < t.told.timed.at → t.told.timed.at < next
    → IsSettledAs d t.told.timed.at t.after
    × (AllAreNear (snapshot_of t.after) → LeavesShown t.before t.after)

-- By more than its choice the choice stands in that world, and the act leaves no system another choice.
abbrev pub ChoosesSoon : {F : Type 0} → (Bounds → ℕ → F → Option ℕ → F → Type 0) → Type 0
ChoosesSoon {F} answers = (d : DocumentState) (time : SettlingTime) (s : Settling) (next until : ℕ) (fate : F)
    (first w : WorldState) (ts : List ActTrace) (t : ActTrace)
    → IsPlayable d → Unfolds answers d until fate first ts w → In t ts
    → In time (settling_times d) → time.settling ≡ Some s → NoneBetween d.events time.at next
    → time.at + s.choice < t.told.timed.at → t.told.timed.at < next
    → ChoiceStandsAs d t.told.timed.at t.after
    × (AllAreNear (snapshot_of t.after) → LeavesChoiceShown t.before t.after)

-- So the world is settled with which a run ends that goes on for longer than that, and not to the next event.
abbrev pub EndsSettled : {F : Type 0} → (Bounds → ℕ → F → Option ℕ → F → Type 0) → Type 0
EndsSettled {F} answers = (d : DocumentState) (time : SettlingTime) (s : Settling) (next until : ℕ) (fate : F)
    (first w : WorldState) (ts : List ActTrace)
    → IsPlayable d → Unfolds answers d until fate first ts w
    → In time (settling_times d) → time.settling ≡ Some s → NoneBetween d.events time.at next
    → time.at + s.roles < until → until < next
    → IsSettledAs d until w
