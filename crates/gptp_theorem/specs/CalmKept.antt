-- That a world stays calm while nothing changes its network.
use Rattle.std.specs.Prelude.{ℕ, List, Option}
use Rattle.gptp_links.specs.declared.bounds.Bounds.{Bounds}
use Rattle.gptp_setup.specs.SettlingParams.{SettlingParams}
use Rattle.gptp_scenario.specs.declared.sync_wait.SyncPaths.{SyncPaths}
use Rattle.gptp_model.specs.Advancing.{Advanced, Told}
use Rattle.gptp_model.specs.World.{WorldState}
use Rattle.gptp_invariants.specs.WorldCalmFor.{IsCalmFor}

-- A world that goes on by itself to a time has been calm then for each span that it had been calm for.
abbrev pub CalmIsKept : {F : Type 0} → (Bounds → ℕ → F → Option ℕ → F → Type 0) → Type 0
CalmIsKept {F} answers = (span : SettlingParams → SyncPaths → ℕ → ℕ) (until : ℕ) (told : List Told)
    (fate fate_after : F)
    (w w' : WorldState) → IsCalmFor span w → Advanced answers until told fate fate_after w w'
    → IsCalmFor span w'
