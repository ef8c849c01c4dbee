-- What of a world doesn't depend on whether systems go on with the time that they read (`continues`).
use Rattle.std.specs.Prelude.{◌≡◌, ◌↔◌, ℕ, ⊤, List, [], ◌∷◌, Option}
use Rattle.std.specs.List.{AllZip}
use Rattle.gptp_links.specs.declared.bounds.Bounds.{Bounds}
use Rattle.gptp_links.specs.Fate.{Draw, Draws}
use Rattle.gptp_scenario.specs.Network.{IsNetwork, NetworkState}
use Rattle.gptp_scenario.specs.declared.change.Act.{Act}
use Rattle.gptp_scenario.specs.declared.change.Timed.{Timed}
use Rattle.gptp_model.specs.declared.done.Done.{Done}
use Rattle.gptp_model.specs.Acts.{at, Acts, IsReadyAct}
use Rattle.gptp_model.specs.Course.{Begun}
use Rattle.gptp_model.specs.Views.{IsNextAct}
use Rattle.gptp_model.specs.World.{WorldState}
use Rattle.gptp_report.specs.Transitions.{Courses, ActTrace}
use Rattle.gptp_determinism.specs.BesideWorlds.{ActsFitAlike, DoneBeside, WorldsBeside, network_beside}
use Rattle.gptp_determinism.specs.Named.{AnswersOnce, IsNamed}

-- two outcomes of an act are one, but for the time: what was drawn, what is told, and the worlds afterwards
pub record IsActBeside (draws more : List Draw) (done said : Done) (w v : WorldState) : Type 0 where
  pub draws_are : draws ≡ more
  pub done_is : DoneBeside done said
  pub worlds : WorldsBeside w v

-- one act, in two worlds that are the same but for the time, with what one fate draws
abbrev pub ActsBesideTime : {F : Type 0} → (Bounds → ℕ → F → Option ℕ → F → Type 0) → Type 0
ActsBesideTime {F} answers = AnswersOnce answers →
    (act : Act) (w v w' v' : WorldState) (fate f g : F) (draws more : List Draw) (done said : Done)
    → IsNamed w → WorldsBeside w v → ActsFitAlike act w v
    → Draws answers fate draws f → Draws answers fate more g
    → Acts act w draws done w' → Acts act v more said v'
    → IsActBeside draws more done said w' v'

-- an act is ready in the one exactly where it is in the other, and the act that is next is the same
abbrev pub ReadyBesideTime : Type 0
ReadyBesideTime = (act : Act) (time : ℕ) (w v : WorldState) → WorldsBeside w v
    → (IsReadyAct act time w ↔ IsReadyAct act time v)

abbrev pub NextBesideTime : Type 0
NextBesideTime = (w v : WorldState) (timed : Timed) → WorldsBeside w v → (IsNextAct w timed ↔ IsNextAct v timed)

-- the worlds of two networks whose systems differ in `continues` alone begin so, with what one fate draws
abbrev pub BeginsBesideTime : {F : Type 0} → (Bounds → ℕ → F → Option ℕ → F → Type 0) → Type 0
BeginsBesideTime {F} answers = AnswersOnce answers → (n m : NetworkState) (fate f g : F) (w v : WorldState)
    → IsNetwork n → network_beside n ≡ network_beside m → Begun answers n fate f w → Begun answers m fate g v
    → (f ≡ g) × WorldsBeside w v

-- ---- what happens in such worlds

-- one act, of which the same is told but for the time, between such worlds
pub record TransitionsBeside (t u : ActTrace) : Type 0 where
  pub timed : t.told.timed ≡ u.told.timed
  pub done : DoneBeside t.told.done u.told.done
  pub before : WorldsBeside t.before u.before
  pub after : WorldsBeside t.after u.after

-- at each of their acts the numbers on the way of time fit in both worlds, or in neither
abbrev pub AllFitAlike : List ActTrace → List ActTrace → Type 0
AllFitAlike [] us = ⊤
AllFitAlike (t ∷ ts) [] = ⊤
AllFitAlike (t ∷ ts) (u ∷ us) =
    ActsFitAlike t.told.timed.act (at t.told.timed.at t.before) (at u.told.timed.at u.before) × AllFitAlike ts us

-- two ways are one, but for the time: what happens, the state of the fate, and the worlds afterwards
pub record IsWayBeside {F : Type 0} (ts us : List ActTrace) (f g : F) (w v : WorldState) : Type 0 where
  pub acts : AllZip TransitionsBeside ts us
  pub fate_is : f ≡ g
  pub worlds : WorldsBeside w v

-- two such worlds go on with the same events to a time by the same acts
abbrev pub CoursesBesideTime : {F : Type 0} → (Bounds → ℕ → F → Option ℕ → F → Type 0) → Type 0
CoursesBesideTime {F} answers = AnswersOnce answers →
    (until : ℕ) (events : List Timed) (ts us : List ActTrace) (fate f g : F) (w v w' v' : WorldState)
    → IsNamed w → WorldsBeside w v → AllFitAlike ts us
    → Courses answers until events ts fate f w w' → Courses answers until events us fate g v v'
    → IsWayBeside ts us f g w' v'
