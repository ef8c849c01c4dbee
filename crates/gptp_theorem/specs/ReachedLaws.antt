-- Laws on worlds that stand as a network does after its events.
use Rattle.std.specs.Prelude.{◌≡◌, ℕ, List, [], ◌∷◌, ◌++◌, Option}
use Rattle.gptp_links.specs.declared.bounds.Bounds.{Bounds}
use Rattle.gptp_links.specs.Fate.{Draw}
use Rattle.gptp_scenario.specs.declared.change.Act.{Act}
use Rattle.gptp_scenario.specs.declared.change.Act.TheVariants.{Change as Changing}
use Rattle.gptp_scenario.specs.declared.change.Change.{Change}
use Rattle.gptp_scenario.specs.declared.change.Timed.{Timed}
use Rattle.gptp_model.specs.declared.done.Done.{Done}
use Rattle.gptp_model.specs.Acts.{Acts, at}
use Rattle.gptp_model.specs.Course.{Begun}
use Rattle.gptp_scenario.specs.Network.{NetworkState}
use Rattle.gptp_model.specs.Sound.{IsSound}
use Rattle.gptp_model.specs.World.{WorldState}
use Rattle.gptp_invariants.specs.ChoiceSeenLaws.{IsNoChange}
use Rattle.gptp_theorem.specs.Reached.{StandsAsPlanned}

-- the world of a network as it begins
abbrev pub BegunStands : {F : Type 0} → (Bounds → ℕ → F → Option ℕ → F → Type 0) → Type 0
BegunStands {F} answers = (n : NetworkState) (fate fate_after : F) (w : WorldState)
    → Begun answers n fate fate_after w
    → StandsAsPlanned n [] w

-- an act that changes nothing of the network leaves it so
abbrev pub ActsStand : Type 0
ActsStand = (n : NetworkState) (events : List Timed) (act : Act) (w : WorldState) (draws : List Draw) (done : Done)
    (w' : WorldState)
    → IsNoChange act → Acts act w draws done w' → StandsAsPlanned n events w
    → StandsAsPlanned n events w'

-- time that passes leaves a world as its network stands after these events
abbrev pub TimeStands : Type 0
TimeStands = (n : NetworkState) (events : List Timed) (w : WorldState) (time : ℕ)
    → StandsAsPlanned n events w
    → StandsAsPlanned n events (at time w)

-- a change at a time leads to one event more
abbrev pub ChangesStand : Type 0
ChangesStand = (n : NetworkState) (events : List Timed) (timed : Timed) (change : Change) (w : WorldState)
    (draws : List Draw) (done : Done) (w' : WorldState)
    → timed.act ≡ Changing change → IsSound w → Acts timed.act (at timed.at w) draws done w'
    → StandsAsPlanned n events w
    → StandsAsPlanned n (events ++ timed ∷ []) w'
