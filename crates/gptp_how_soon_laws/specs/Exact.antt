-- From when on offsets are exact in each run of a document, as it is computed.
use Rattle.std.specs.Prelude.{◌≡◌, ◌<◌, ◌≤◌, ◌^◌, ℕ, ℤ, suc, List, Option, Some}
use Rattle.gptp_lists.specs.Members.{In}
use Rattle.gptp_graph.specs.Distance.{IsNear}
use Rattle.gptp_links.specs.declared.bounds.Bounds.{Bounds}
use Rattle.gptp_scaled.specs.Counts.{AreWithin}
use Rattle.gptp_setup.specs.declared.setup.Params.{Params}
use Rattle.gptp_model.specs.World.{WorldState}
use Rattle.gptp_model.specs.declared.done.Done.{Done}
use Rattle.gptp_network.specs.Document.{DocumentState}
use Rattle.gptp_report.specs.Transitions.{ActTrace, Unfolds}
use Rattle.gptp_invariants.specs.SyncExact.{IsAhead, IsWayError}
use Rattle.gptp_invariants.specs.WorldStanding.{snapshot_of}
use Rattle.gptp_theorem.specs.Headline.{LeavesOffset}
use Rattle.gptp_theorem.specs.PlayedLaws.{IsPlayable}
use Rattle.gptp_how_soon.specs.Times.{settling_times}
use Rattle.gptp_how_soon.specs.declared.bounds.Settling.{Settling}
use Rattle.gptp_how_soon.specs.declared.bounds.SettlingTime.{SettlingTime}
use Rattle.gptp_settling_time.specs.HowSoon.{NoneBetween}

-- The offset that an act at a time leaves a near system, if it leaves one by a Follow_Up, is within the time error of
-- the system's way of its clock less what its best tells.
abbrev pub IsExact : Params → WorldState → ℕ → WorldState → Done → Type 0
IsExact p w time w' done = (steps number error : ℕ) (offset ahead : ℤ)
    → LeavesOffset number offset w' done
    → IsNear (snapshot_of w) number → IsWayError p w number (suc steps) error → IsAhead w number time ahead
    → AreWithin error offset ahead

-- Each act leaves such an offset that is later than a time of the document, done from the time on which is told of it,
-- and before the next event.
abbrev pub IsExactSoon : {F : Type 0} → (Bounds → ℕ → F → Option ℕ → F → Type 0) → Type 0
IsExactSoon {F} answers = (d : DocumentState) (time : SettlingTime) (s : Settling) (next until : ℕ) (fate : F)
    (first w : WorldState) (ts : List ActTrace) (t : ActTrace)
    → IsPlayable d → Unfolds answers d until fate first ts w → In t ts → t.told.timed.at ≤ 10 ^ 18
    → In time (settling_times d) → time.settling ≡ Some s → NoneBetween d.events time.at next
    → time.at < t.told.timed.at → s.exact_from ≤ t.told.timed.at → t.told.timed.at < next
    → IsExact d.network.params t.before t.told.timed.at t.after t.told.done
