-- A law on one system whose priority gets better in a network at rest: it reacts, and no announce interval has to pass.
use Rattle.std.specs.Prelude.{◌≡◌, ◌<◌, ◌≤◌, ◌+◌, List}
use Rattle.gptp_graph.specs.Snapshot.{PortIdentity, Joins, IsLinked}
use Rattle.gptp_bmca_machine.specs.Frame.{Spelling}
use Rattle.gptp_bmca_machine.specs.Station.{MachineState}
use Rattle.gptp_bmca_machine.specs.Touch.{Other}
use Rattle.gptp_bmca_machine.specs.Acts.{StationAnswers}
use Rattle.gptp_bmca_machine.specs.Network.{Network, IsSettlingNetwork, since, settled_from}
use Rattle.gptp_bmca_machine.specs.Run.{last_state, NearHaveSettled}
use Rattle.gptp_bmca_machine.specs.SoundLaws.{AllAreNear, HasNews, IsNewsRun}
use Rattle.gptp_bmca_machine.specs.RestLaws.{SameWiring, IsResting}

-- One system answers to what happens to it in a network at rest, and the second network has the same links: all its
-- ports on links are capable by now, and it is settled later than now.
pub record ReactsAtRest (says : Spelling) (n n' : Network) (w w' : MachineState) : Type 0 where
  pub rests : IsResting says n w
  pub call : StationAnswers says Other w w'
  pub news : HasNews n.graph n'.graph
  pub links : (p q : PortIdentity) → Joins n'.graph p q → Joins n.graph p q
  pub same : SameWiring n n'
  pub most : n'.most ≡ n.most
  pub ready : (p : PortIdentity) → IsLinked n'.graph p → n'.ready p ≤ w.time
  pub early : w.time < since n' 0

-- a run after that ends settled
abbrev pub ReactionSettles : Spelling → Type 0
ReactionSettles says = (n n' : Network) (w w' : MachineState) (ws : List MachineState)
    → IsSettlingNetwork n → IsSettlingNetwork n' → ReactsAtRest says n n' w w' → IsNewsRun says n' w' ws
    → settled_from n' ≤ (last_state w' ws).time
    → NearHaveSettled n' (last_state w' ws)

-- a run after a reaction at rest is at rest again a delay after it has settled, once ports that no link is at hold
-- nothing, where all live systems are near
abbrev pub RestFollowsReaction : Spelling → Type 0
RestFollowsReaction says = (n n' : Network) (w w' : MachineState) (ws : List MachineState)
    → IsSettlingNetwork n → IsSettlingNetwork n' → ReactsAtRest says n n' w w' → AllAreNear n'.graph
    → IsNewsRun says n' w' ws
    → settled_from n' + n'.most ≤ (last_state w' ws).time → n'.off ≤ (last_state w' ws).time
    → IsResting says n' (last_state w' ws)
