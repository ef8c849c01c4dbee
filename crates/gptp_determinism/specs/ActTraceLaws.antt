-- What happens in a world, act by act, has one outcome.
use Rattle.std.specs.Prelude.{◌≡◌, ℕ, ⊤, List, [], ◌∷◌, Option}
use Rattle.gptp_links.specs.declared.bounds.Bounds.{Bounds}
use Rattle.gptp_scenario.specs.declared.change.Timed.{Timed}
use Rattle.gptp_model.specs.World.{WorldState}
use Rattle.gptp_report.specs.Transitions.{Courses, ActTrace}
use Rattle.gptp_determinism.specs.ActLaws.{SameDone}
use Rattle.gptp_determinism.specs.Named.{AnswersOnce, IsNamed}

-- one act, of which the same is told, between the same worlds
pub record IsSameTransition (t u : ActTrace) : Type 0 where
  pub timed : t.told.timed ≡ u.told.timed
  pub done : SameDone t.told.done u.told.done
  pub before : t.before ≡ u.before
  pub after : t.after ≡ u.after

abbrev pub SameTransitions : List ActTrace → List ActTrace → Type 0
SameTransitions [] [] = ⊤
SameTransitions [] (u ∷ us) = ⊥
SameTransitions (t ∷ ts) [] = ⊥
SameTransitions (t ∷ ts) (u ∷ us) = IsSameTransition t u × SameTransitions ts us

-- two ways of a world are one: what happens, the state of the fate, and the world afterwards
pub record IsSameWay {F : Type 0} (ts us : List ActTrace) (f g : F) (w v : WorldState) : Type 0 where
  pub acts : SameTransitions ts us
  pub fate_is : f ≡ g
  pub world : w ≡ v

-- a world goes on with events to a time in one way
abbrev pub CoursesOnce : {F : Type 0} → (Bounds → ℕ → F → Option ℕ → F → Type 0) → Type 0
CoursesOnce {F} answers = AnswersOnce answers →
    (until : ℕ) (events : List Timed) (ts us : List ActTrace) (fate f g : F) (w v u : WorldState)
    → IsNamed w → Courses answers until events ts fate f w v → Courses answers until events us fate g w u
    → IsSameWay ts us f g v u

-- in which names go on to mean one thing
abbrev pub CoursesAreNamed : {F : Type 0} → (Bounds → ℕ → F → Option ℕ → F → Type 0) → Type 0
CoursesAreNamed {F} answers = (until : ℕ) (events : List Timed) (ts : List ActTrace) (fate f : F) (w v : WorldState)
    → IsNamed w → Courses answers until events ts fate f w v → IsNamed v
