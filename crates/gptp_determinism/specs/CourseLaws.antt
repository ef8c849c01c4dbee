-- How a world begins and goes on has one outcome.
use Rattle.std.specs.Prelude.{◌≡◌, ℕ, ⊤, List, [], ◌∷◌, ◌++◌, Option}
use Rattle.gptp_links.specs.declared.bounds.Bounds.{Bounds}
use Rattle.gptp_scenario.specs.Network.{NetworkState}
use Rattle.gptp_scenario.specs.declared.change.Timed.{Timed}
use Rattle.gptp_model.specs.Advancing.{Advanced, Advances, Told}
use Rattle.gptp_model.specs.Course.{Begun}
use Rattle.gptp_model.specs.Initial.{initial}
use Rattle.gptp_model.specs.Views.{IsNextAct}
use Rattle.gptp_model.specs.World.{WorldState}
use Rattle.gptp_determinism.specs.ActLaws.{SameDone}
use Rattle.gptp_determinism.specs.Named.{AnswersOnce, IsNamed}

-- one act is next
abbrev pub NextOnce : Type 0
NextOnce = (w : WorldState) (one other : Timed) → IsNextAct w one → IsNextAct w other → one ≡ other

-- both lists tell of the same acts, and the same of each
abbrev pub SameTold : List Told → List Told → Type 0
SameTold [] [] = ⊤
SameTold [] (u ∷ us) = ⊥
SameTold (t ∷ ts) [] = ⊥
SameTold (t ∷ ts) (u ∷ us) = (t.timed ≡ u.timed) × SameDone t.done u.done × SameTold ts us

-- two courses are one: what is told, the state of the fate, and the world afterwards
pub record IsSameCourse {F : Type 0} (told more : List Told) (f g : F) (w v : WorldState) : Type 0 where
  pub told_is : SameTold told more
  pub fate_is : f ≡ g
  pub world : w ≡ v

-- the world of a network begins in one way
abbrev pub BeginsOnce : {F : Type 0} → (Bounds → ℕ → F → Option ℕ → F → Type 0) → Type 0
BeginsOnce {F} answers = AnswersOnce answers →
    (n : NetworkState) (fate f g : F) (w v : WorldState)
    → IsNamed (initial n) → Begun answers n fate f w → Begun answers n fate g v
    → (f ≡ g) × (w ≡ v)

-- a world goes on to a time in one way
abbrev pub AdvancesOnce : {F : Type 0} → (Bounds → ℕ → F → Option ℕ → F → Type 0) → Type 0
AdvancesOnce {F} answers = AnswersOnce answers →
    (until : ℕ) (told more : List Told) (fate f g : F) (w v u : WorldState)
    → IsNamed w → Advanced answers until told fate f w v → Advanced answers until more fate g w u
    → IsSameCourse told more f g v u

-- These are the first of more acts, and those that are left lead on from there.
pub record LeadsOn {F : Type 0} (answers : Bounds → ℕ → F → Option ℕ → F → Type 0) (until : ℕ) (told more : List Told)
    (f g : F) (w v : WorldState) : Type 0 where
  pub first : List Told
  pub rest : List Told
  pub is : more ≡ first ++ rest
  pub same : SameTold told first
  pub on : Advances answers until rest f g w v

-- a world that stopped on its way to a time is on the one way there
abbrev pub StopsOnTheWay : {F : Type 0} → (Bounds → ℕ → F → Option ℕ → F → Type 0) → Type 0
StopsOnTheWay {F} answers = AnswersOnce answers →
    (until : ℕ) (told more : List Told) (fate f g : F) (w v u : WorldState)
    → IsNamed w → Advances answers until told fate f w v
    → (k : Advanced answers until more fate g w u)
    → LeadsOn answers until told more f g v k.between
