-- Laws on worlds in which all that is held and in flight is sound.
use Rattle.std.specs.Prelude.{ℕ, List, Option}
use Rattle.gptp_links.specs.declared.bounds.Bounds.{Bounds}
use Rattle.gptp_links.specs.Fate.{Draw}
use Rattle.gptp_scenario.specs.declared.change.Act.{Act}
use Rattle.gptp_scenario.specs.declared.change.Act.TheVariants.{Change as Changing}
use Rattle.gptp_scenario.specs.declared.change.Change.{Change}
use Rattle.gptp_scenario.specs.Network.{IsNetwork, NetworkState}
use Rattle.gptp_model.specs.declared.done.Done.{Done}
use Rattle.gptp_model.specs.Acts.{Acts, at}
use Rattle.gptp_model.specs.Course.{Begun}
use Rattle.gptp_model.specs.Initial.{initial}
use Rattle.gptp_model.specs.Sound.{IsSound}
use Rattle.gptp_model.specs.World.{WorldState}
use Rattle.gptp_setup.specs.SettlingParams.{SettlingParams}
use Rattle.gptp_invariants.specs.ChoiceSettlesAsMachine.{IsWorld}
use Rattle.gptp_invariants.specs.WorldEncodableLaws.{SetsAnOctet}
use Rattle.gptp_invariants.specs.ChoiceSeenLaws.{IsNoChange}
use Rattle.gptp_invariants.specs.WorldSound.{IsGain, IsSoundWorld}

-- the world of a network is so as it begins
abbrev pub SoundBegins : {F : Type 0} → (Bounds → ℕ → F → Option ℕ → F → Type 0) → Type 0
SoundBegins {F} answers = (n : NetworkState) (fate fate_after : F) (w : WorldState)
    → IsNetwork n → IsSound (initial n) → Begun answers n fate fate_after w
    → IsSoundWorld w

-- every act that changes nothing of the network leaves it so, calm or not
abbrev pub SoundActs : Type 0
SoundActs = (p : SettlingParams) (act : Act) (w : WorldState) (draws : List Draw) (done : Done) (w' : WorldState)
    → IsNoChange act → Acts act w draws done w' → IsWorld p w → IsSoundWorld w
    → IsSoundWorld w'

-- a world in which all that is held and in flight is sound stays so as time passes
abbrev pub SoundLater : Type 0
SoundLater = (w : WorldState) (time : ℕ) → IsSoundWorld w → IsSoundWorld (at time w)

-- a world in which all that is held and in flight is sound stays so with every change that takes nothing away
abbrev pub SoundGains : Type 0
SoundGains = (p : SettlingParams) (change : Change) (w : WorldState) (draws : List Draw) (done : Done) (w' : WorldState)
    → IsGain change w → SetsAnOctet (Changing change) → Acts (Changing change) w draws done w' → IsWorld p w
    → IsWorld p w' → IsSoundWorld w
    → IsSoundWorld w'
