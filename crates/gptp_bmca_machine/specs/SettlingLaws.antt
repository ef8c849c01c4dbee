-- Laws on networks: they settle.
use Rattle.std.specs.Prelude.{◌≡◌, ◌<◌, ◌≤◌, ℕ, true, Some, slice_get}
use Rattle.gptp_graph.specs.Snapshot.{System}
use Rattle.gptp_graph.specs.Best.{IsBest}
use Rattle.gptp_graph.specs.Distance.{IsDistance, IsNear}
use Rattle.gptp_bmca_machine.specs.Frame.{Spelling}
use Rattle.gptp_bmca_machine.specs.Station.{Station, MachineState}
use Rattle.gptp_bmca_machine.specs.Acts.{MachineSteps}
use Rattle.gptp_bmca_machine.specs.Network.{Network, IsSettlingNetwork, network_setting, machine_clean_from, since, settled_from}
use Rattle.gptp_bmca_machine.specs.Calm.{Calm}
use Rattle.gptp_bmca_machine.specs.CleanInvariant.{TracesAreClean}
use Rattle.gptp_bmca_machine.specs.Sound.{RunIsSound}
use Rattle.gptp_bmca_machine.specs.EarlyPorts.{EarlyPortsHear}
use Rattle.gptp_bmca_machine.specs.Lapsing.{NothingNearLapses}
use Rattle.gptp_bmca_machine.specs.Levels.{IsHeardFrom, Invariant}
use Rattle.gptp_bmca_machine.specs.Settled.{FollowsBest, HasBest, HasLinkedRoles, HasSettledRoles}

-- before what is held must be sound the invariant claims nothing
abbrev pub InvariantBegins : Spelling → Type 0
InvariantBegins says = (n : Network) (w : MachineState)
    → IsSettlingNetwork n → w.time < n.sound
    → Invariant says n w

-- every step from a calm state in which nothing lapses to a calm state keeps it, where what is held stays sound
abbrev pub InvariantIsKept : Spelling → Type 0
InvariantIsKept says = (n : Network) (w w' : MachineState)
    → IsSettlingNetwork n → Calm n w → Calm n w' → NothingNearLapses n w → EarlyPortsHear says n w w'
    → MachineSteps says w w'
    → RunIsSound n w' → Invariant says n w
    → Invariant says n w'

-- what is held is sound where it has become wholly clean
abbrev pub CleanIsSound : Spelling → Type 0
CleanIsSound says = (n : Network) (w : MachineState)
    → IsSettlingNetwork n → Calm n w → TracesAreClean says (network_setting n) w → machine_clean_from n ≤ n.sound
    → RunIsSound n w

-- a near system at distance d follows its component's best over its parent, once all that is held is sound and the time
-- of each step has passed
abbrev pub SystemSettles : Spelling → Type 0
SystemSettles says = (n : Network) (w : MachineState) (i : ℕ) (s : Station) (d : ℕ)
    → IsSettlingNetwork n → Calm n w → Invariant says n w
    → slice_get w.stations i ≡ Some s → s.live ≡ true → IsDistance n.graph s.clock d → d < 255
    → since n d ≤ w.time
    → HasBest n.graph s × (n.bare ≤ w.time → FollowsBest n.graph s)

-- All ports of a near system at distance d have their settled roles, once all that is held is sound and the time of
-- each step has passed. Where a neighbour is as far and has the lower clock, it takes a step's time longer.
abbrev pub PortsSettle : Spelling → Type 0
PortsSettle says = (n : Network) (w : MachineState) (i : ℕ) (s : Station) (d : ℕ)
    → IsSettlingNetwork n → Calm n w → Invariant says n w
    → slice_get w.stations i ≡ Some s → s.live ≡ true → IsDistance n.graph s.clock d → d < 255
    → since n d ≤ w.time → IsHeardFrom n w s d → n.off ≤ w.time
    → HasSettledRoles n.graph s

-- in the end every near system follows its component's best over its parent, and all its ports have their settled roles
abbrev pub NetworkSettles : Spelling → Type 0
NetworkSettles says = (n : Network) (w : MachineState) (i : ℕ) (s : Station)
    → IsSettlingNetwork n → Calm n w → Invariant says n w
    → slice_get w.stations i ≡ Some s → s.live ≡ true → IsNear n.graph s.clock
    → settled_from n ≤ w.time
    → HasBest n.graph s × (n.bare ≤ w.time → FollowsBest n.graph s × HasLinkedRoles n.graph s)
    × (n.off ≤ w.time → HasSettledRoles n.graph s)

-- Once all that is held is sound, no system, near or far, has a root below the identity of its component's best,
-- nor that identity as its root over fewer steps than its distance.
abbrev pub SystemsAreBounded : Spelling → Type 0
SystemsAreBounded says = (n : Network) (w : MachineState) (i : ℕ) (s : Station) (best : System)
    → IsSettlingNetwork n → Calm n w → Invariant says n w
    → slice_get w.stations i ≡ Some s → s.live ≡ true → IsBest n.graph s.clock best
    → n.sound ≤ w.time
    → (best.identity ≤ s.root)
    × ((d : ℕ) → IsDistance n.graph s.clock d → s.root ≡ best.identity → d ≤ s.steps)
