-- An act has one outcome.
use Rattle.std.specs.Prelude.{◌≡◌, ℕ, ⊤, List, Option}
use Rattle.gptp_links.specs.declared.bounds.Bounds.{Bounds}
use Rattle.gptp_links.specs.Fate.{Draw, Draws}
use Rattle.gptp_scenario.specs.Network.{IsNetwork, NetworkState}
use Rattle.gptp_scenario.specs.declared.change.Act.{Act}
use Rattle.gptp_model.specs.declared.done.Done.{Done}
use Rattle.gptp_model.specs.declared.done.Done.TheVariants.{Quiet, Heard}
use Rattle.gptp_model.specs.Acts.{Acts}
use Rattle.gptp_model.specs.Initial.{initial}
use Rattle.gptp_model.specs.Sound.{IsSound}
use Rattle.gptp_model.specs.World.{WorldState}
use Rattle.gptp_determinism.specs.Named.{AnswersOnce, IsNamed, JoinTwoPorts}

-- What is told of two acts is the same: that they were done, or the same of the same octets. How much room those have
-- isn't told.
abbrev pub SameDone : Done → Done → Type 0
SameDone Quiet Quiet = ⊤
SameDone Quiet (Heard clock port answer frame) = ⊥
SameDone (Heard clock port answer frame) Quiet = ⊥
SameDone (Heard clock port answer frame) (Heard number reached said octets) =
    (clock ≡ number) × (port ≡ reached) × (answer ≡ said) × (frame.items ≡ octets.items)

-- two outcomes of an act are one: what was drawn, what is told, and the world afterwards
pub record IsSameAct (draws more : List Draw) (done said : Done) (w v : WorldState) : Type 0 where
  pub draws_are : draws ≡ more
  pub done_is : SameDone done said
  pub world : w ≡ v

-- of one act, in one world, with what one fate draws
abbrev pub ActsOnce : {F : Type 0} → (Bounds → ℕ → F → Option ℕ → F → Type 0) → Type 0
ActsOnce {F} answers = AnswersOnce answers →
    (act : Act) (w v u : WorldState) (fate f g : F) (draws more : List Draw) (done said : Done)
    → IsNamed w → Draws answers fate draws f → Draws answers fate more g
    → Acts act w draws done v → Acts act w more said u
    → IsSameAct draws more done said v u

-- one act, in one world, has one outcome with one list of draws, whatever fate drew it
abbrev pub ActsOnceDrawn : Type 0
ActsOnceDrawn = (act : Act) (w v u : WorldState) (draws : List Draw) (done said : Done)
    → IsNamed w → Acts act w draws done v → Acts act w draws said u
    → SameDone done said × (v ≡ u)

-- ---- where names mean one thing

-- in a sound world each link of which joins two ports
abbrev pub SoundIsNamed : Type 0
SoundIsNamed = (w : WorldState) → IsSound w → JoinTwoPorts w → IsNamed w

-- in the world that a network makes
abbrev pub InitialIsNamed : Type 0
InitialIsNamed = (n : NetworkState) → IsNetwork n → IsNamed (initial n)

-- after every act names still mean one thing, where they did before
abbrev pub ActsKeepNames : Type 0
ActsKeepNames = (act : Act) (w w' : WorldState) (draws : List Draw) (done : Done)
    → IsNamed w → Acts act w draws done w'
    → IsNamed w'
