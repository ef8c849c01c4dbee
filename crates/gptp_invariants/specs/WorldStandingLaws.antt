-- Laws on what stands in a world: it is a network, and nothing but a change of the network changes it.
use Rattle.std.specs.Prelude.{◌≡◌, ℕ, List}
use Rattle.gptp_graph.specs.Snapshot.{IsWellFormed}
use Rattle.gptp_links.specs.Fate.{Draw}
use Rattle.gptp_scenario.specs.declared.change.Act.{Act}
use Rattle.gptp_model.specs.declared.done.Done.{Done}
use Rattle.gptp_model.specs.Acts.{Acts, at}
use Rattle.gptp_model.specs.Changing.{StartsAll}
use Rattle.gptp_model.specs.Initial.{initial}
use Rattle.gptp_scenario.specs.Network.{IsNetwork, NetworkState}
use Rattle.gptp_model.specs.Sound.{IsSound}
use Rattle.gptp_model.specs.World.{WorldState}
use Rattle.gptp_invariants.specs.WorldEncodable.{IsEncodable}
use Rattle.gptp_invariants.specs.ChoiceSeenLaws.{IsNoChange}
use Rattle.gptp_invariants.specs.WorldStanding.{AreBetween, snapshot_of}

-- ---- links are between two systems

-- in the world that a network makes
abbrev pub NetworksAreBetween : Type 0
NetworksAreBetween = (n : NetworkState) → IsNetwork n → AreBetween (initial n)

-- after the start of its systems
abbrev pub StartsStayBetween : Type 0
StartsStayBetween = (places : List ℕ) (w : WorldState) (draws : List Draw) (w' : WorldState)
    → IsSound w → AreBetween w → StartsAll places w draws w'
    → AreBetween w'

-- after every act each link still joins ports of two systems
abbrev pub ActsStayBetween : Type 0
ActsStayBetween = (act : Act) (w : WorldState) (draws : List Draw) (done : Done) (w' : WorldState)
    → IsSound w → AreBetween w → Acts act w draws done w'
    → AreBetween w'

-- as time passes each link still joins ports of two systems
abbrev pub TimeStaysBetween : Type 0
TimeStaysBetween = (w : WorldState) (time : ℕ) → AreBetween w → AreBetween (at time w)

-- ---- the snapshot

-- what stands is a network
abbrev pub StandsWell : Type 0
StandsWell = (w : WorldState) → IsSound w → AreBetween w → IsEncodable w → IsWellFormed (snapshot_of w)

-- an act that changes nothing of the network leaves it
abbrev pub ActsKeepSnapshot : Type 0
ActsKeepSnapshot = (act : Act) (w : WorldState) (draws : List Draw) (done : Done) (w' : WorldState)
    → IsNoChange act → Acts act w draws done w'
    → snapshot_of w' ≡ snapshot_of w

-- time that passes leaves the snapshot of a world as it is
abbrev pub TimeKeepsSnapshot : Type 0
TimeKeepsSnapshot = (w : WorldState) (time : ℕ) → snapshot_of (at time w) ≡ snapshot_of w

-- nor is it the last change
abbrev pub ActsKeepLastChange : Type 0
ActsKeepLastChange = (act : Act) (w : WorldState) (draws : List Draw) (done : Done) (w' : WorldState)
    → IsNoChange act → Acts act w draws done w'
    → w'.last_change ≡ w.last_change
