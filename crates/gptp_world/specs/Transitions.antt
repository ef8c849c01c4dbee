-- What happens in a world, act by act: each act with the world before it and after it.
use Rattle.std.specs.Prelude.{◌≡◌, ◌≤◌, ◌+◌, ℕ, List, [], ◌∷◌, Option}
use Rattle.gptp_links.specs.declared.bounds.Bounds.{Bounds}
use Rattle.gptp_scenario.specs.declared.change.Timed.{Timed}
use Rattle.gptp_model.specs.declared.done.Done.{Done}
use Rattle.gptp_model.specs.Acts.{at}
use Rattle.gptp_model.specs.Advancing.{Happens, Told}
use Rattle.gptp_model.specs.Pending.{NothingBefore}
use Rattle.gptp_model.specs.World.{WorldState}

-- an act that was done and what was told of it, the world before it, and the world after it
pub record ActTrace : Type 0 where
  pub told : Told
  pub before : WorldState
  pub after : WorldState

abbrev pub transition : Timed → Done → WorldState → WorldState → ActTrace
transition timed done w w' = record { told = record { timed = timed; done = done }; before = w; after = w' }

-- Acts one after another, each of them the next that is pending then, none later than a time.
abbrev pub Passes : {F : Type 0} → (Bounds → ℕ → F → Option ℕ → F → Type 0) → ℕ → List ActTrace → F → F
    → WorldState → WorldState → Type 0
Passes answers until [] fate fate_after w w' = (fate_after ≡ fate) × (w' ≡ w)
Passes {F} answers until (t ∷ ts) fate fate_after w w' =
    (drawn : F) × (t.before ≡ w) × Happens answers until t.told fate drawn w t.after
    × Passes answers until ts drawn fate_after t.after w'

-- It went on so until nothing was left that is due by a time, and then its time became that.
pub record PassesTo {F : Type 0} (answers : Bounds → ℕ → F → Option ℕ → F → Type 0) (until : ℕ) (ts : List ActTrace)
    (fate fate_after : F) (w w' : WorldState) : Type 0 where
  pub ahead : w.time ≤ until
  pub between : WorldState
  pub passes : Passes answers until ts fate fate_after w between
  pub nothing_left : NothingBefore (until + 1) between.net.pending
  pub is : w' ≡ at until between
