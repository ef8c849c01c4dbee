-- Two end stations whose network has a syncReceiptTimeout, once they have settled.
use Rattle.std.specs.Prelude.{◌≡◌, []}
use Rattle.gptp_model.specs.World.{WorldState}
use Rattle.gptp_scenario.specs.Network.{IsNetwork, NetworkState}
use Rattle.gptp_setup.specs.SettlingParams.{SettlingParams}
use Rattle.gptp_setup.specs.declared.setup.Params.{Params}
use Rattle.gptp_theorem.specs.Reached.{StandsAsPlanned}
use Rattle.gptp_network_tests.specs.Pair.{network_with, pace_with, params}

-- what the Slave port holds lapses after three sync intervals without time
abbrev pub lapsing_params : Params
lapsing_params = record params { sync_timeout = 3 }

abbrev pub lapsing_network : NetworkState
lapsing_network = network_with lapsing_params

abbrev pub lapsing_pace : SettlingParams
lapsing_pace = pace_with lapsing_params

-- their world 27 s after it began
pub record IsLapsingPair (w : WorldState) : Type 0 where
  pub network : IsNetwork lapsing_network
  pub stands : StandsAsPlanned lapsing_network [] w
  pub now : w.time ≡ 27000000000
