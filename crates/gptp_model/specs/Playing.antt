-- Acts of a list, one after another.
use Rattle.std.specs.Prelude.{◌≡◌, ℕ, List, [], ◌∷◌, Option, Some, slice_get, take}
use Rattle.gptp_links.specs.declared.bounds.Bounds.{Bounds}
use Rattle.gptp_scenario.specs.declared.change.Timed.{Timed}
use Rattle.gptp_model.specs.declared.done.Done.{Done}
use Rattle.gptp_model.specs.declared.done.Refused.{Refused}
use Rattle.gptp_model.specs.Acts.{Refuses}
use Rattle.gptp_model.specs.Course.{WasDone}
use Rattle.gptp_model.specs.World.{WorldState}

-- an act was done
pub record IsPlayed {F : Type 0} (answers : Bounds → ℕ → F → Option ℕ → F → Type 0) (timed : Timed)
    (fate fate_after : F)
    (w w' : WorldState) : Type 0 where
  pub done : Done
  pub was : WasDone answers timed fate fate_after w w' done

-- each was done, in their order
abbrev pub Plays : {F : Type 0} → (Bounds → ℕ → F → Option ℕ → F → Type 0) → List Timed → F → F → WorldState
    → WorldState → Type 0
Plays answers [] fate fate_after w w' = (fate_after ≡ fate) × (w' ≡ w)
Plays {F} answers (timed ∷ acts) fate fate_after w w' = (next : F) × (done : Done) × (between : WorldState)
    × WasDone answers timed fate next w between done × Plays answers acts next fate_after between w'

-- those before a place were, and the one there is refused
pub record StopsAt {F : Type 0} (answers : Bounds → ℕ → F → Option ℕ → F → Type 0) (acts : List Timed) (place : ℕ)
    (refused : Refused)
    (fate fate_after : F) (w w' : WorldState) : Type 0 where
  pub played : Plays answers (take place acts) fate fate_after w w'
  pub timed : Timed
  pub here : slice_get acts place ≡ Some timed
  pub refuses : Refuses timed.act timed.at w' refused
