-- Laws: worlds are encodable, and stay so.
use Rattle.std.specs.Prelude.{◌<◌, ℕ, ⊤, List}
use Rattle.gptp_links.specs.Fate.{Draw}
use Rattle.gptp_scenario.specs.declared.change.Act.{Act}
use Rattle.gptp_scenario.specs.declared.change.Act.TheVariants.{Change as Changing}
use Rattle.gptp_scenario.specs.declared.change.Change.TheVariants.{Priority1, Inject}
use Rattle.gptp_model.specs.declared.done.Done.{Done}
use Rattle.gptp_model.specs.Acts.{Acts, at}
use Rattle.gptp_model.specs.Changing.{StartsAll}
use Rattle.gptp_model.specs.Initial.{initial}
use Rattle.gptp_scenario.specs.Network.{IsNetwork, NetworkState}
use Rattle.gptp_model.specs.Sound.{IsSound}
use Rattle.gptp_model.specs.World.{WorldState}
use Rattle.gptp_invariants.specs.WorldEncodable.{AreOctets, IsEncodable, SayWhatFits}

-- octets, of which each is below 256, say only what fits
abbrev pub OctetsSayWhatFits : Type 0
OctetsSayWhatFits = (octets : List ℕ) → AreOctets octets → SayWhatFits octets

-- the world that a network makes is encodable
abbrev pub NetworksAreEncodable : Type 0
NetworksAreEncodable = (n : NetworkState) → IsNetwork n → IsEncodable (initial n)

-- a start of systems leaves a sound world encodable
abbrev pub StartsStayEncodable : Type 0
StartsStayEncodable = (places : List ℕ) (w : WorldState) (draws : List Draw) (w' : WorldState)
    → IsSound w → IsEncodable w → StartsAll places w draws w'
    → IsEncodable w'

-- a priority1 that is set is an octet, and each octet that is injected is one
abbrev pub SetsAnOctet : Act → Type 0
SetsAnOctet (Changing (Priority1 number value)) = value < 256
SetsAnOctet (Changing (Inject number port octets)) = AreOctets octets
SetsAnOctet act = ⊤

-- every act leaves a sound world encodable
abbrev pub ActsStayEncodable : Type 0
ActsStayEncodable = (act : Act) (w : WorldState) (draws : List Draw) (done : Done) (w' : WorldState)
    → IsSound w → IsEncodable w → SetsAnOctet act → Acts act w draws done w'
    → IsEncodable w'

-- time that passes leaves a world encodable
abbrev pub TimeStaysEncodable : Type 0
TimeStaysEncodable = (w : WorldState) (time : ℕ) → IsEncodable w → IsEncodable (at time w)
