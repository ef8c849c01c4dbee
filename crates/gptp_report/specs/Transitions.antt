-- What happens in a world with events, act by act: each act with the world before it and after it.
use Rattle.std.specs.Prelude.{◌≡◌, ◌⊎◌, ℕ, List, [], ◌∷◌, ◌++◌, Option}
use Rattle.gptp_links.specs.declared.bounds.Bounds.{Bounds}
use Rattle.gptp_network.specs.Document.{DocumentState}
use Rattle.gptp_network.specs.Snapshot.{events_by}
use Rattle.gptp_scenario.specs.declared.change.Timed.{Timed}
use Rattle.gptp_model.specs.declared.done.Done.{Done}
use Rattle.gptp_model.specs.Course.{Begun, WasDone}
use Rattle.gptp_model.specs.World.{WorldState}
pub use Rattle.gptp_world.specs.Transitions.{Passes, PassesTo, ActTrace, transition}

-- Once all that is due by its time has happened, an event is made.
pub record Makes {F : Type 0} (answers : Bounds → ℕ → F → Option ℕ → F → Type 0) (event : Timed) (ts : List ActTrace)
    (fate fate_after : F) (w w' : WorldState) : Type 0 where
  pub first : List ActTrace
  pub drawn : F
  pub between : WorldState
  pub passes : PassesTo answers event.at first fate drawn w between
  pub done : Done
  pub made : WasDone answers event drawn fate_after between w' done
  pub are : ts ≡ first ++ transition event done between w' ∷ []

-- Events are made so, one after another; then all that is due by the end happens.
abbrev pub Courses : {F : Type 0} → (Bounds → ℕ → F → Option ℕ → F → Type 0) → ℕ → List Timed → List ActTrace
    → F → F → WorldState → WorldState → Type 0
Courses answers until [] ts fate fate_after w w' = PassesTo answers until ts fate fate_after w w'
Courses {F} answers until (event ∷ events) ts fate fate_after w w' =
    (first : List ActTrace) × (rest : List ActTrace) × (drawn : F) × (between : WorldState)
    × Makes answers event first fate drawn w between × Courses answers until events rest drawn fate_after between w'
    × (ts ≡ first ++ rest)

-- The world of a document begins, and goes on with its events up to a time.
pub record Unfolds {F : Type 0} (answers : Bounds → ℕ → F → Option ℕ → F → Type 0) (d : DocumentState) (until : ℕ)
    (fate : F) (start : WorldState) (ts : List ActTrace) (w : WorldState) : Type 0 where
  pub started : F
  pub begun : Begun answers d.network fate started start
  pub drawn : F
  pub courses : Courses answers until (events_by until d.events) ts started drawn start w

-- ---- as far as it gets

-- Acts were done, each the next that was pending then, none later than a time; then it broke off.
pub record Breaks {F : Type 0} (answers : Bounds → ℕ → F → Option ℕ → F → Type 0) (until : ℕ) (ts : List ActTrace)
    (fate : F) (w : WorldState) : Type 0 where
  pub fate_after : F
  pub after : WorldState
  pub passes : Passes answers until ts fate fate_after w after

-- Some of the events are made, one after another, and after them it breaks off.
abbrev pub CoursesSoFar : {F : Type 0} → (Bounds → ℕ → F → Option ℕ → F → Type 0) → ℕ → List Timed → List ActTrace
    → F → WorldState → Type 0
CoursesSoFar answers until [] ts fate w = Breaks answers until ts fate w
CoursesSoFar {F} answers until (event ∷ events) ts fate w =
    Breaks answers event.at ts fate w
    ⊎ ((first : List ActTrace) × (rest : List ActTrace) × (drawn : F) × (between : WorldState)
    × Makes answers event first fate drawn w between × CoursesSoFar answers until events rest drawn between
    × (ts ≡ first ++ rest))
