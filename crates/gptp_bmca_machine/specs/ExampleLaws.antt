-- The example run is one, and ends settled.
use Rattle.std.specs.Prelude.{◌≡◌, ◌<◌, ◌≤◌, []}
use Rattle.gptp_bmca_machine.specs.Network.{IsSettlingNetwork, settled_from}
use Rattle.gptp_bmca_machine.specs.Run.{IsRun, last_state, NearHaveSettled}
use Rattle.gptp_bmca_machine.specs.Example.{network, example_says, following, example_state, begin, run}

-- it is a run of a network's machine, from before the start until all has settled, and its end is settled
pub record ExampleSettles : Type 0 where
  pub is_network : IsSettlingNetwork network
  pub is_run : IsRun example_says network begin run
  pub early : begin.time < network.start
  pub end : last_state begin run ≡ example_state 42 45 (following 42) []
  pub late : settled_from network ≤ 42
  pub settled : NearHaveSettled network (example_state 42 45 (following 42) [])
