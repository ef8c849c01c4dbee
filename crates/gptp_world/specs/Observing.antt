-- What an observer tells of acts, one after another.
use Rattle.std.specs.Prelude.{◌≡◌, ℕ, List, [], ◌∷◌, ◌++◌}
use Rattle.gptp_scenario.specs.declared.change.Timed.{Timed}
use Rattle.gptp_model.specs.declared.done.Done.{Done}
use Rattle.gptp_model.specs.Advancing.{Told}
use Rattle.gptp_model.specs.World.{WorldState}
use Rattle.gptp_words.specs.Lines.{text_of}
use Rattle.gptp_world.specs.Transitions.{ActTrace}

abbrev pub told_of : Timed → Done → Told
told_of timed done = record { timed = timed; done = done }

-- this is so of the text of what is told of an act
abbrev pub TellsAct : {O : Type 0} → (Told → WorldState → O → O → List (List ℕ) → Type 0) → Told → WorldState → O → O
    → (List ℕ → Type 0) → Type 0
TellsAct tells told w o o_after So = (lines : List (List ℕ)) × tells told w o o_after lines × So (text_of lines)

-- of no act anything is told, and the observer stays as it is
abbrev pub tells_nothing : {O : Type 0} → Told → WorldState → O → O → List (List ℕ) → Type 0
tells_nothing told w o o_after lines = (o_after ≡ o) × (lines ≡ [])

-- what is told of acts, one after another
abbrev pub Tells : {O : Type 0} → (Told → WorldState → O → O → List (List ℕ) → Type 0) → List ActTrace → O → O
    → List (List ℕ) → Type 0
Tells tells [] o o_after lines = (o_after ≡ o) × (lines ≡ [])
Tells {O} tells (t ∷ ts) o o_after lines =
    (between : O) × (first : List (List ℕ)) × (rest : List (List ℕ)) × tells t.told t.after o between first
    × Tells tells ts between o_after rest × (lines ≡ first ++ rest)

-- this is so of the text of that
pub record Observed {O : Type 0} (tells : Told → WorldState → O → O → List (List ℕ) → Type 0) (ts : List ActTrace)
    (o o_after : O) (So : List ℕ → Type 0) : Type 0 where
  pub lines : List (List ℕ)
  pub are : Tells tells ts o o_after lines
  pub so : So (text_of lines)
