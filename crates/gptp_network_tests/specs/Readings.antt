-- What the second of two systems reads 100 ms after a Follow_Up that it uses.
use Rattle.std.specs.Prelude.{◌≤◌, ◌+◌, ℕ, ℤ, pos, List, Option}
use Rattle.gptp_setup.specs.Intervals.{IsMoment}
use Rattle.gptp_lists.specs.Members.{In}
use Rattle.gptp_links.specs.declared.bounds.Bounds.{Bounds}
use Rattle.gptp_scaled.specs.Counts.{AreWithin}
use Rattle.gptp_pdelay.specs.Clock.{local_clock}
use Rattle.gptp_scenario.specs.declared.change.Timed.{Timed}
use Rattle.gptp_model.specs.Course.{WasDone}
use Rattle.gptp_model.specs.declared.done.Done.{Done}
use Rattle.gptp_model.specs.World.{WorldState}
use Rattle.gptp_report.specs.Transitions.{ActTrace, Unfolds}
use Rattle.gptp_invariants.specs.SyncTimedClaim.{WorldInvariant}
use Rattle.gptp_reading.specs.Readings.{LeavesReading}
use Rattle.gptp_network_tests.specs.Pair.{IsPairSince, pair_document}

-- By an act in their world: what it reads then is what a clock shows that runs exactly, but for rounding, and for the
-- 12 units that an error of the rate of 4 units makes of 100 ms.
abbrev pub WorldsOfTwoReadExactly : {F : Type 0} → (Bounds → ℕ → F → Option ℕ → F → Type 0) → Type 0
WorldsOfTwoReadExactly {F} answers = (timed : Timed) (fate fate_after : F) (w w' : WorldState) (done : Done) (read : ℤ)
    → IsPairSince 27000000000 w → WorldInvariant w → WasDone answers timed fate fate_after w w' done
    → IsMoment timed.at → LeavesReading 2 w' done (timed.at + 100000000) read
    → AreWithin 31 read (local_clock 0 (pos 0) (timed.at + 100000000))

-- By each act of a run of their document, from 27 s on: what the second reads 100 ms later is what a clock shows that
-- runs exactly, but for rounding and for 12 units. An error of the rate of 4 units makes these of 100 ms.
abbrev pub RunsOfTwoReadExactly : {F : Type 0} → (Bounds → ℕ → F → Option ℕ → F → Type 0) → Type 0
RunsOfTwoReadExactly {F} answers = (until : ℕ) (fate : F) (start w : WorldState) (ts : List ActTrace) (t : ActTrace)
    (read : ℤ)
    → IsMoment until → Unfolds answers pair_document until fate start ts w → In t ts
    → IsPairSince 27000000000 t.before → WorldInvariant t.before
    → t.before.time ≤ t.told.timed.at
    → LeavesReading 2 t.after t.told.done (t.told.timed.at + 100000000) read
    → AreWithin 31 read (local_clock 0 (pos 0) (t.told.timed.at + 100000000))
