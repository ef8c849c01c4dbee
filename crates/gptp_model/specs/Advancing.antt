-- How a world goes on by itself: what is pending happens, one act after another (profile).
use Rattle.std.specs.Prelude.{◌≡◌, ◌+◌, ◌<◌, ◌≤◌, ℕ, List, [], ◌∷◌, Option}
use Rattle.gptp_links.specs.declared.bounds.Bounds.{Bounds}
use Rattle.gptp_scenario.specs.declared.change.Timed.{Timed}
use Rattle.gptp_model.specs.declared.done.Done.{Done}
use Rattle.gptp_model.specs.declared.done.Refused.{Refused}
use Rattle.gptp_model.specs.declared.done.Refused.TheVariants.{InThePast, Untimely, NoSuch, NotDue, OutOfMemory}
use Rattle.gptp_model.specs.Acts.{at}
use Rattle.gptp_model.specs.Pending.{NothingBefore}
use Rattle.gptp_model.specs.Course.{WasDone}
use Rattle.gptp_model.specs.Views.{IsNextAct}
use Rattle.gptp_model.specs.World.{WorldState}

-- an act that was done, and what was told of it
pub record Told : Type 0 where
  pub timed : Timed
  pub done : Done

-- The next act that is pending is done, at a time or before it.
pub record Happens {F : Type 0} (answers : Bounds → ℕ → F → Option ℕ → F → Type 0) (until : ℕ) (told : Told)
    (fate fate_after : F) (w w' : WorldState) : Type 0 where
  pub next : IsNextAct w told.timed
  pub early : told.timed.at ≤ until
  pub was_done : WasDone answers told.timed fate fate_after w w' told.done

-- Acts one after another, each of them the next that is pending then, none later than a time; and what was told of
-- each.
abbrev pub Advances : {F : Type 0} → (Bounds → ℕ → F → Option ℕ → F → Type 0) → ℕ → List Told → F → F
    → WorldState → WorldState → Type 0
Advances answers until [] fate fate_after w w' = (fate_after ≡ fate) × (w' ≡ w)
Advances {F} answers until (one ∷ told) fate fate_after w w' =
    (drawn : F) × (between : WorldState) × Happens answers until one fate drawn w between
    × Advances answers until told drawn fate_after between w'

-- It went on so, and stopped after whole acts.
pub record Stopped {F : Type 0} (answers : Bounds → ℕ → F → Option ℕ → F → Type 0) (until : ℕ) (fate fate_after : F)
    (w w' : WorldState) : Type 0 where
  pub told : List Told
  pub advances : Advances answers until told fate fate_after w w'

-- It went on so until nothing was left that is due by a time, and then its time became that.
pub record Advanced {F : Type 0} (answers : Bounds → ℕ → F → Option ℕ → F → Type 0) (until : ℕ) (told : List Told)
    (fate fate_after : F) (w w' : WorldState) : Type 0 where
  pub ahead : w.time ≤ until
  pub between : WorldState
  pub advances : Advances answers until told fate fate_after w between
  pub nothing_left : NothingBefore (until + 1) between.net.pending
  pub is : w' ≡ at until between

-- Why it doesn't get to a time: that has passed, and nothing happens; or it stops, since there is no memory for the
-- next act.
abbrev pub StopsShort : {F : Type 0} → (Bounds → ℕ → F → Option ℕ → F → Type 0) → ℕ → F → F
    → WorldState → WorldState → Refused → Type 0
StopsShort answers until fate fate_after w w' InThePast = (until < w.time) × (fate_after ≡ fate) × (w' ≡ w)
StopsShort answers until fate fate_after w w' OutOfMemory =
    (w.time ≤ until) × Stopped answers until fate fate_after w w'
StopsShort answers until fate fate_after w w' Untimely = ⊥
StopsShort answers until fate fate_after w w' NoSuch = ⊥
StopsShort answers until fate fate_after w w' NotDue = ⊥
