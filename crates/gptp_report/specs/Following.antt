-- A world that goes on with events before an observer, and what is told meanwhile.
use Rattle.std.specs.Prelude.{◌≡◌, ◌⊎◌, ℕ, Bool, true, false, List, [], Option}
use Rattle.gptp_links.specs.declared.bounds.Bounds.{Bounds}
use Rattle.gptp_scenario.specs.declared.change.Timed.{Timed}
use Rattle.gptp_model.specs.declared.done.Done.{Done}
use Rattle.gptp_model.specs.Advancing.{Told}
use Rattle.gptp_model.specs.World.{WorldState}
use Rattle.gptp_words.specs.Lines.{text_of}
use Rattle.gptp_report.specs.declared.frames.Frames.{Frames}
use Rattle.gptp_report.specs.Run.{ShowsDone}
use Rattle.gptp_report.specs.Transitions.{Breaks, Makes, ActTrace}
use Rattle.gptp_world.specs.Observing.{Observed}

-- ---- before any observer

-- it broke off on its way to a time, and this is so of the text that an observer told until then
pub record BreaksSeen {F O : Type 0} (answers : Bounds → ℕ → F → Option ℕ → F → Type 0)
    (tells : Told → WorldState → O → O → List (List ℕ) → Type 0) (until : ℕ) (fate : F) (w : WorldState) (o : O)
    (So : List ℕ → Type 0) : Type 0 where
  pub ts : List ActTrace
  pub o_after : O
  pub breaks : Breaks answers until ts fate w
  pub observed : Observed tells ts o o_after So

-- An event was made, if it was due; otherwise nothing happened.
abbrev pub MakesIf : {F : Type 0} → (Bounds → ℕ → F → Option ℕ → F → Type 0) → Bool → Timed → List ActTrace → F → F
    → WorldState → WorldState → Type 0
MakesIf answers true event ts fate fate_after w w' = Makes answers event ts fate fate_after w w'
MakesIf answers false event ts fate fate_after w w' = (ts ≡ []) × (fate_after ≡ fate) × (w' ≡ w)

-- it broke off before an event, or after it
abbrev pub BreaksAbout : {F : Type 0} → (Bounds → ℕ → F → Option ℕ → F → Type 0) → Timed → List ActTrace → F
    → WorldState → Type 0
BreaksAbout {F} answers event ts fate w =
    Breaks answers event.at ts fate w
    ⊎ ((fate_after : F) × (w' : WorldState) × Makes answers event ts fate fate_after w w')

-- ---- before one that writes the lines of frames

-- where they are asked for
abbrev pub ShowsDoneIf : Bool → ℕ → Done → List (List ℕ) → Type 0
ShowsDoneIf true at done lines = ShowsDone at done lines
ShowsDoneIf false at done lines = lines ≡ []

-- what such an observer tells of an act; it stays as it is
abbrev pub tells_frames : Told → WorldState → Frames → Frames → List (List ℕ) → Type 0
tells_frames told w o o_after lines = (o_after ≡ o) × ShowsDoneIf o.asked told.timed.at told.done lines

-- this is so of the text of what an act shows: that it was written, or some of it
abbrev pub ShowsAct : ℕ → Done → (List ℕ → Type 0) → Type 0
ShowsAct at done So = (lines : List (List ℕ)) × ShowsDone at done lines × So (text_of lines)
