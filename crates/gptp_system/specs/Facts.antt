-- What is true of a system between its calls, and what no call changes.
use Rattle.std.specs.Prelude.{◌≡◌, ◌≢◌, ℕ, suc, ℤ, true, false, List, length, map, Some, None, slice_get}
use Rattle.gptp_vector.specs.declared.vector.Vector.{Vector}
use Rattle.gptp_receipt.specs.declared.held.Held.{Held}
use Rattle.gptp_receipt.specs.declared.held.Held.TheVariants as helds
use Rattle.gptp_receipt.specs.Held.{HoldsFor}
use Rattle.gptp_roles.specs.Choice.{IsChosen, slave_port}
use Rattle.gptp_roles.specs.Role.{each_port, held_after_selection}
use Rattle.gptp_pdelay.specs.Peer.{is_capable}
use Rattle.gptp_system.specs.declared.port.Port.{Port}
use Rattle.gptp_system.specs.Ready.{IsReady}
use Rattle.gptp_system.specs.State.{SystemState, clock, own}

-- The system is at rest: it follows the vector that is chosen among what its ports hold, and each port holds what its
-- role asks for.
pub record IsAtRest (s : SystemState) : Type 0 where
  pub vector : Vector
  pub is_chosen : IsChosen s.identity s.held vector
  pub stays : s.held ≡ each_port (held_after_selection vector (clock s)) s.held
  pub root : s.root ≡ vector.root
  pub steps : s.steps ≡ vector.steps
  pub slave : s.slave ≡ slave_port vector

-- a port is Disabled exactly where it isn't asCapable (IEEE 802.1AS-2020, 10.3.6)
pub record IsShown (h : Held) (q : Port) : Type 0 where
  pub off : is_capable q.peer ≡ false → h ≡ helds.Disabled
  pub on : is_capable q.peer ≡ true → h ≢ helds.Disabled

-- every port is Disabled exactly where it isn't asCapable, and each port holds something
pub record AreShown (s : SystemState) : Type 0 where
  pub places : length s.held ≡ length s.ports
  pub each : (i : ℕ) (h : Held) (q : Port) → slice_get s.held i ≡ Some h → slice_get s.ports i ≡ Some q → IsShown h q

-- what a port received qualified there; the port at place i has the number i + 1
abbrev pub AreHeld : SystemState → Type 0
AreHeld s = (i : ℕ) (h : Held) → slice_get s.held i ≡ Some h → HoldsFor (own s (suc i)) h

-- the announce intervals of the ports, as logarithms
abbrev pub intervals : SystemState → List ℤ
intervals s = map (λ (q : Port). q.log_interval) s.ports

-- each port measures its rate over so many exchanges
abbrev pub MeasuresOver : ℕ → List Port → Type 0
MeasuresOver window qs = (i : ℕ) (q : Port) → slice_get qs i ≡ Some q → q.peer.window ≡ window

-- what no call changes: the network's parameters and largest interval, the local clock, whether it goes on with the
-- time that it read, the seed of its noise, the clockIdentity, and how many ports there are, with their intervals
pub record Keeps (s s' : SystemState) : Type 0 where
  pub params : s'.params ≡ s.params
  pub largest : s'.largest ≡ s.largest
  pub phase : s'.phase ≡ s.phase
  pub drift : s'.drift ≡ s.drift
  pub continues : s'.continues ≡ s.continues
  pub seed : s'.seed ≡ s.seed
  pub same_clock : clock s' ≡ clock s
  pub places : length s'.held ≡ length s.held
  pub logs : intervals s' ≡ intervals s

-- a system that has heard and measured nothing
pub record IsNew (s : SystemState) : Type 0 where
  pub places : length s.held ≡ length s.ports
  pub silent : (i : ℕ) (h : Held) → slice_get s.held i ≡ Some h → h ≡ helds.Disabled
  pub unmeasured : (i : ℕ) (q : Port) → slice_get s.ports i ≡ Some q → q.peer.last ≡ None
  pub root : s.root ≡ s.identity
  pub steps : s.steps ≡ 0
  pub slave : s.slave ≡ None

-- what is true of every system between its calls
pub record IsSystem (s : SystemState) : Type 0 where
  pub ready : IsReady s
  pub rest : IsAtRest s
  pub shown : AreShown s
  pub held : AreHeld s
