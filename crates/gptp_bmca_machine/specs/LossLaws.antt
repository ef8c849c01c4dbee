-- Laws on losses in a network at rest: nothing gets better by one, and nothing moves where no live system's best or
-- distance changes. They are of the machine alone, and shown of no world.
use Rattle.std.specs.Prelude.{◌≡◌, ◌<◌, ◌≤◌, ℕ, true, List, [], ◌∷◌, Some, slice_get}
use Rattle.gptp_lists.specs.Members.{In}
use Rattle.gptp_graph.specs.Snapshot.{System, PortIdentity, Snapshot, clocks, Joins, IsLinked, IsWellFormed}
use Rattle.gptp_graph.specs.Best.{IsBest}
use Rattle.gptp_graph.specs.Distance.{IsDistance}
use Rattle.gptp_bmca_machine.specs.Frame.{Announce, Spelling, AnnounceFrame, Lane}
use Rattle.gptp_bmca_machine.specs.Station.{Station, MachineState}
use Rattle.gptp_bmca_machine.specs.Acts.{MachineSteps}
use Rattle.gptp_bmca_machine.specs.Clean.{HeldFits}
use Rattle.gptp_bmca_machine.specs.Sound.{ReceivedFits}
use Rattle.gptp_bmca_machine.specs.Network.{Network, IsSettlingNetwork, settled_from}
use Rattle.gptp_bmca_machine.specs.Calm.{Calm}
use Rattle.gptp_bmca_machine.specs.Lapsing.{NothingNearLapses}
use Rattle.gptp_bmca_machine.specs.EarlyPorts.{EarlyPortsHear}
use Rattle.gptp_bmca_machine.specs.Run.{last_state, NearHaveSettled}
use Rattle.gptp_bmca_machine.specs.RestLaws.{SameWiring, IsResting}

-- what comes over a lane came over a link, and fits whoever hears it; it is the sender's, whose distance its steps
-- respect
pub record FlightFits (g : Snapshot) (l : Lane) (a : Announce) : Type 0 where
  pub joins : Joins g l.from l.to
  pub source : a.source ≡ l.from
  pub sender : (best : System) (far : ℕ) → IsBest g l.to.clock best → a.root ≡ best.identity
      → IsDistance g l.from.clock far → far ≤ a.steps
  pub fits : HeldFits g l.to.clock a

-- each Announce in flight to a live system of the network came over a link, is its sender's, and fits whoever hears it;
-- and all that live systems hold fits
pub record EverythingFits (says : Spelling) (g : Snapshot) (n : Network) (w : MachineState) : Type 0 where
  pub lanes : (j : ℕ) (l : Lane) (f : AnnounceFrame) (a : Announce) → slice_get w.lanes j ≡ Some l → In f l.frames
      → says f.octets a → In l.to.clock (clocks n.graph) → FlightFits g l a
  pub stations : ReceivedFits g w

-- the snapshot has the system, where its identity was as good or better
pub record WasSystem (g : Snapshot) (s : System) : Type 0 where
  pub old : System
  pub known : In old g.systems
  pub clock : old.clock ≡ s.clock
  pub identity : old.identity ≤ s.identity

-- the network is what is left of a snapshot: systems, whose identities may have got worse, and links
pub record IsWhatIsLeft (g : Snapshot) (n : Network) : Type 0 where
  pub graph : IsWellFormed g
  pub systems : (s : System) → In s n.graph.systems → WasSystem g s
  pub links : (p q : PortIdentity) → Joins n.graph p q → Joins g p q

-- every step of what is left of a snapshot keeps that all fits the snapshot
abbrev pub FitsIsKept : Spelling → Type 0
FitsIsKept says = (g : Snapshot) (n : Network) (w w' : MachineState)
    → IsWhatIsLeft g n → Calm n w → Calm n w' → MachineSteps says w w' → EverythingFits says g n w
    → EverythingFits says g n w'

-- where it does, no system has a root better than its best in the snapshot, nor that root over fewer steps than it is
-- far
abbrev pub NothingIsBetter : Spelling → Type 0
NothingIsBetter says = (g : Snapshot) (n : Network) (w : MachineState) (i : ℕ) (s : Station) (best : System)
    → IsWhatIsLeft g n → Calm n w → EverythingFits says g n w
    → slice_get w.stations i ≡ Some s → s.live ≡ true → IsBest g s.clock best
    → (best.identity ≤ s.root) × ((far : ℕ) → IsDistance g s.clock far → s.root ≡ best.identity → far ≤ s.steps)

-- A loss in a network at rest: live systems and links were so before. Live systems stand as they did, and so do lanes
-- of links; what is in flight to a live system was in flight on a link of before.
pub record IsLoss (says : Spelling) (n n' : Network) (w w' : MachineState) : Type 0 where
  pub rests : IsResting says n w
  pub left : IsWhatIsLeft n.graph n'
  pub same : SameWiring n n'
  pub stations : (i : ℕ) (s : Station) → slice_get w'.stations i ≡ Some s → s.live ≡ true
      → slice_get w.stations i ≡ Some s
  pub lanes : (p q : PortIdentity) (l : Lane) → Joins n'.graph p q → slice_get w'.lanes (n.lane p) ≡ Some l
      → slice_get w.lanes (n.lane p) ≡ Some l
  pub flight : (j : ℕ) (l : Lane) (f : AnnounceFrame) (a : Announce) → slice_get w'.lanes j ≡ Some l → In f l.frames
      → says f.octets a → In l.to.clock (clocks n'.graph)
      → (slice_get w.lanes j ≡ Some l) × Joins n.graph l.from l.to

-- after it all fits the snapshot of before
abbrev pub LossFits : Spelling → Type 0
LossFits says = (n n' : Network) (w w' : MachineState) → IsSettlingNetwork n → IsLoss says n n' w w'
    → EverythingFits says n.graph n' w'

-- a live system that is as far as before from the same best
pub record Unmoved (g : Snapshot) (n : Network) (v : ℕ) : Type 0 where
  pub live : In v (clocks n.graph)
  pub best : (b : System) → IsBest g v b → IsBest n.graph v b
  pub far : (d : ℕ) → IsDistance g v d → IsDistance n.graph v d

-- what each state after the loss is: all ports on links are capable, and no timer for want of Sync is due
pub record IsAfterLoss (n : Network) (w : MachineState) : Type 0 where
  pub calm : Calm n w
  pub capable : (p : PortIdentity) → IsLinked n.graph p → n.ready p ≤ w.time
  pub lapses : (i due : ℕ) (s : Station) → slice_get w.stations i ≡ Some s → s.lapse ≡ Some due → w.time < due
  pub begun : n.start ≤ w.time
  pub late : n.most ≤ w.time

abbrev pub IsKeptRun : Spelling → Network → MachineState → List MachineState → Type 0
IsKeptRun says n w [] = IsAfterLoss n w
IsKeptRun says n w (w' ∷ ws) = IsAfterLoss n w × MachineSteps says w w' × IsKeptRun says n w' ws

-- after a loss an unmoved near system keeps the root and the steps that it had, whatever becomes of others
abbrev pub UnmovedKeep : Spelling → Type 0
UnmovedKeep says = (n n' : Network) (w w' : MachineState) (ws : List MachineState) (i : ℕ) (s : Station)
    (best : System) (d : ℕ)
    → IsSettlingNetwork n → IsWellFormed n'.graph → IsLoss says n n' w w' → IsKeptRun says n' w' ws
    → slice_get (last_state w' ws).stations i ≡ Some s → s.live ≡ true → Unmoved n.graph n' s.clock
    → IsBest n.graph s.clock best → IsDistance n.graph s.clock d → d < 255
    → (s.root ≡ best.identity) × (s.steps ≡ d)

-- It moves nothing: every live system is unmoved.
pub record NothingMoved (says : Spelling) (n n' : Network) (w w' : MachineState) : Type 0 where
  pub loss : IsLoss says n n' w w'
  pub unmoved : (v : ℕ) → In v (clocks n'.graph) → Unmoved n.graph n' v

-- each state of a run is calm, and in none of them something lapses
abbrev pub IsLossRun : Spelling → Network → MachineState → List MachineState → Type 0
IsLossRun says n w [] = Calm n w
IsLossRun says n w (w' ∷ ws) = Calm n w × NothingNearLapses n w × EarlyPortsHear says n w w' × MachineSteps says w w'
    × IsLossRun says n w' ws

-- a run after such a loss is settled, once the numbers of the network say so
abbrev pub NothingMovedSettles : Spelling → Type 0
NothingMovedSettles says = (n n' : Network) (w w' : MachineState) (ws : List MachineState)
    → IsSettlingNetwork n → IsSettlingNetwork n' → NothingMoved says n n' w w' → IsLossRun says n' w' ws
    → settled_from n' ≤ (last_state w' ws).time
    → NearHaveSettled n' (last_state w' ws)
