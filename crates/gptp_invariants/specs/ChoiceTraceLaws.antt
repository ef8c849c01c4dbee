-- Laws on traces in calm worlds.
use Rattle.std.specs.Prelude.{◌≡◌, ◌≤◌, ℕ, Option}
use Rattle.gptp_graph.specs.Best.{IsBest}
use Rattle.gptp_graph.specs.Distance.{IsDistance}
use Rattle.gptp_graph.specs.Snapshot.{IsWellFormed, Snapshot, System}
use Rattle.gptp_links.specs.declared.bounds.Bounds.{Bounds}
use Rattle.gptp_receipt.specs.declared.held.Reception.{Reception}
use Rattle.gptp_system.specs.State.{SystemState}
use Rattle.gptp_scenario.specs.declared.change.Timed.{Timed}
use Rattle.gptp_model.specs.declared.done.Done.{Done}
use Rattle.gptp_model.specs.Course.{WasDone}
use Rattle.gptp_model.specs.Views.{ShowsLive}
use Rattle.gptp_model.specs.World.{WorldState}
use Rattle.gptp_invariants.specs.WorldSettlingInvariant.{SettlingInvariant}
use Rattle.gptp_invariants.specs.ChoiceTraces.{AreHeldCleanInTime, AreHeldWholeInTime, AreHeldWholeSooner, IsCleanInTime, IsHeardClean, IsHeldWhole}

-- the trace of a live system that is shown becomes clean
abbrev pub TracesBecomeClean : Type 0
TracesBecomeClean = (number : ℕ) (w : WorldState) (s : SystemState)
    → SettlingInvariant w → ShowsLive number w s
    → IsCleanInTime w s

-- what is held by the ports of a live system that is shown becomes clean
abbrev pub HeldBecomesClean : Type 0
HeldBecomesClean = (number : ℕ) (w : WorldState) (s : SystemState)
    → SettlingInvariant w → ShowsLive number w s
    → AreHeldCleanInTime w s

-- in the end it is wholly clean
abbrev pub HeldBecomesWhole : Type 0
HeldBecomesWhole = (number : ℕ) (w : WorldState) (s : SystemState)
    → SettlingInvariant w → ShowsLive number w s
    → AreHeldWholeInTime w s

abbrev pub HeldBecomesWholeSooner : Type 0
HeldBecomesWholeSooner = (number : ℕ) (w : WorldState) (s : SystemState)
    → SettlingInvariant w → ShowsLive number w s
    → AreHeldWholeSooner w s

-- Then it names no root better than the best of the holder's component, and for that one no fewer steps than the
-- distance of the system that sent it.
abbrev pub HeldIsNoBetter : Type 0
HeldIsNoBetter = (g : Snapshot) (number port : ℕ) (r : Reception) (best : System)
    → IsWellFormed g → (held : IsHeldWhole g number port r) → IsBest g number best
    → (best.identity ≤ r.vector.root)
    × (r.vector.root ≡ best.identity → (d : ℕ) → IsDistance g held.from.clock d → d ≤ r.vector.steps)

-- each Announce that an act delivers is clean by c + 1 members of its trace, or wholly, where it was sent c turns after
-- ports have become capable
abbrev pub FramesBecomeClean : {F : Type 0} → (Bounds → ℕ → F → Option ℕ → F → Type 0) → Type 0
FramesBecomeClean {F} answers = (timed : Timed) (fate fate_after : F) (w w' : WorldState) (done : Done)
    → SettlingInvariant w → WasDone answers timed fate fate_after w w' done
    → IsHeardClean w timed.at done
