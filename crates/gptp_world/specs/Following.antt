-- A world that goes on before an observer, and what is told meanwhile.
use Rattle.std.specs.Prelude.{◌≡◌, ◌<◌, ℕ, List, [], Option, Some, None}
use Rattle.gptp_links.specs.declared.bounds.Bounds.{Bounds}
use Rattle.gptp_model.specs.Advancing.{Happens, Told}
use Rattle.gptp_model.specs.Ahead.{due_by}
use Rattle.gptp_model.specs.declared.item.Item.{Item}
use Rattle.gptp_model.specs.Pending.{Entry, IsNext, NothingBefore}
use Rattle.gptp_model.specs.World.{WorldState}
use Rattle.gptp_world.specs.Observing.{Observed}
use Rattle.gptp_world.specs.Transitions.{Passes, PassesTo, ActTrace}

-- what is next of all that is pending, where something is
abbrev pub IsUpcoming : Option (ℕ × Item) → List Entry → Type 0
IsUpcoming None es = es ≡ []
IsUpcoming (Some due) es = IsNext es due.0 due.1

-- The next act that is pending is done, at its time, whatever is told of it: less is left to do then, and nothing
-- before.
pub record HappensUnseen {F : Type 0} (answers : Bounds → ℕ → F → Option ℕ → F → Type 0) (time : ℕ)
    (fate fate_after : F) (w w' : WorldState) : Type 0 where
  pub told : Told
  pub happens : Happens answers time told fate fate_after w w'
  pub less : due_by time w'.net.pending < due_by time w.net.pending
  pub first : NothingBefore time w'.net.pending

-- Acts were done, each the next that was pending then, none later than a time, and this is so of the text that an
-- observer told of them.
pub record Follows {F O : Type 0} (answers : Bounds → ℕ → F → Option ℕ → F → Type 0)
    (tells : Told → WorldState → O → O → List (List ℕ) → Type 0) (until : ℕ) (fate fate_after : F) (w w' : WorldState)
    (o o_after : O) (So : List ℕ → Type 0) : Type 0 where
  pub ts : List ActTrace
  pub passes : Passes answers until ts fate fate_after w w'
  pub observed : Observed tells ts o o_after So

-- The world went on to a time: each act was the next that was pending then, nothing is left that is due by that time,
-- and this is so of the text that an observer told of the acts.
pub record PassesSeen {F O : Type 0} (answers : Bounds → ℕ → F → Option ℕ → F → Type 0)
    (tells : Told → WorldState → O → O → List (List ℕ) → Type 0) (until : ℕ) (fate fate_after : F) (w w' : WorldState)
    (o o_after : O) (So : List ℕ → Type 0) : Type 0 where
  pub ts : List ActTrace
  pub passes : PassesTo answers until ts fate fate_after w w'
  pub observed : Observed tells ts o o_after So
