-- Runs of the machine.
use Rattle.std.specs.Prelude.{◌≡◌, ◌<◌, ◌≤◌, ℕ, true, List, [], ◌∷◌, Some, slice_get}
use Rattle.gptp_graph.specs.Distance.{IsNear}
use Rattle.gptp_bmca_machine.specs.Frame.{Spelling}
use Rattle.gptp_bmca_machine.specs.Station.{Station, MachineState}
use Rattle.gptp_bmca_machine.specs.Acts.{MachineSteps}
use Rattle.gptp_bmca_machine.specs.Network.{Network, IsSettlingNetwork, BecomesClean, network_setting, settled_from}
use Rattle.gptp_bmca_machine.specs.Facts.{SendersLive}
use Rattle.gptp_bmca_machine.specs.Calm.{Calm}
use Rattle.gptp_bmca_machine.specs.EarlyPorts.{ClaimsWhenReady}
use Rattle.gptp_bmca_machine.specs.Lapsing.{NothingNearLapses}
use Rattle.gptp_bmca_machine.specs.Settled.{HasBest, FollowsBest, HasLinkedRoles, HasSettledRoles}

-- each state follows from the one before it by a step, in none of them something lapses, and all are calm
abbrev pub IsRun : Spelling → Network → MachineState → List MachineState → Type 0
IsRun says n w [] = Calm n w
IsRun says n w (w' ∷ ws) = Calm n w × NothingNearLapses n w × MachineSteps says w w' × IsRun says n w' ws

-- the last of the states
abbrev pub last_state : MachineState → List MachineState → MachineState
last_state w [] = w
last_state w (w' ∷ ws) = last_state w' ws

-- all near systems have settled, and so have their ports on links, and all once those that no link is at are disabled
abbrev pub NearHaveSettled : Network → MachineState → Type 0
NearHaveSettled n w = (i : ℕ) (s : Station) → slice_get w.stations i ≡ Some s → s.live ≡ true → IsNear n.graph s.clock
    → HasBest n.graph s × (n.bare ≤ w.time → FollowsBest n.graph s × HasLinkedRoles n.graph s)
    × (n.off ≤ w.time → HasSettledRoles n.graph s)

-- a run that begins before the start ends settled, once it is late enough, whatever the first state is
abbrev pub RunSettles : Spelling → Type 0
RunSettles says = (n : Network) (w : MachineState) (ws : List MachineState)
    → IsSettlingNetwork n → BecomesClean n → ClaimsWhenReady n → IsRun says n w ws
    → SendersLive (network_setting n) w → w.time < n.start
    → settled_from n ≤ (last_state w ws).time
    → NearHaveSettled n (last_state w ws)
