-- Laws on the ways of a settled network.
use Rattle.std.specs.Prelude.{◌≡◌, ℕ, suc, ◌+◌, ◌-◌, ◌*◌, ◌≤◌, ℤ, length, Option}
use Rattle.gptp_graph.specs.Best.{IsBest}
use Rattle.gptp_graph.specs.Distance.{IsDistance}
use Rattle.gptp_graph.specs.Parent.{ParentLink, IsParent}
use Rattle.gptp_graph.specs.Snapshot.{IsWellFormed, PortIdentity, Snapshot, System, port_of}
use Rattle.gptp_pdelay.specs.Clock.{IsDrift, IsStampClock, local_clock}
use Rattle.gptp_error_laws.specs.TimeError.{Way, link_at}
use Rattle.gptp_error_laws.specs.WayLaws.{shown_at}
use Rattle.gptp_pdelay_machine.specs.Setting.{Setting as Measuring}
use Rattle.gptp_sync_machine.specs.Follower.{IsSetting}
use Rattle.gptp_sync_machine.specs.RightLaws.{MeasuresOnWay}
use Rattle.gptp_sync_machine.specs.FollowerLaws.{IsParentOf}
use Rattle.gptp_sync_machine.specs.Tree.{IsWayTo, Parts, follower_of, last_link}

-- a system has a way, as long as its distance is
abbrev pub WayExists : Type 0
WayExists = (x : Parts) (g : Snapshot) (steps clock : ℕ) → IsWellFormed g → IsDistance g clock steps
    → (w : Way) × (phase : ℕ → ℕ) × IsWayTo x g steps clock w phase

-- a system has one way alone, with one phase at the root
abbrev pub WayIsOne : Type 0
WayIsOne = (x : Parts) (g : Snapshot) (steps clock : ℕ) (w v : Way) (phase phase' : ℕ → ℕ)
    → IsWayTo x g steps clock w phase → IsWayTo x g steps clock v phase'
    → (w ≡ v) × (phase 0 ≡ phase' 0)

-- What holds of the way to a system: it has as many links as the system has steps to the best; its clock at the end is
-- that of the system, and at the beginning that of the best; and residence and interval are those of all.
pub record WayLeadsTo : Type 0 where
  pub long : (x : Parts) (g : Snapshot) (steps clock : ℕ) (w : Way) (phase : ℕ → ℕ)
      → IsWayTo x g steps clock w phase → length w.links ≡ steps
  pub own : (x : Parts) (g : Snapshot) (steps clock t : ℕ) (w : Way) (phase : ℕ → ℕ)
      → IsWayTo x g steps clock w phase
      → shown_at w phase steps t ≡ local_clock (x.phase clock) (x.drift clock) t
  pub root : (x : Parts) (g : Snapshot) (steps clock t : ℕ) (best : System) (w : Way) (phase : ℕ → ℕ)
      → IsWellFormed g → IsBest g clock best → IsWayTo x g steps clock w phase
      → shown_at w phase 0 t ≡ local_clock (x.phase best.clock) (x.drift best.clock) t

-- What holds of the end of the way to a system that isn't the best: its last link is that to its parent, whose clock is
-- the one before it; and all that ways have in common is that of the parts.
pub record WayEndsAtParent : Type 0 where
  pub link : (x : Parts) (g : Snapshot) (steps clock : ℕ) (parent : ParentLink) (w : Way) (phase : ℕ → ℕ)
      → IsParent g clock parent → IsWayTo x g (suc steps) clock w phase
      → link_at w steps ≡ last_link x clock parent
  pub clock : (x : Parts) (g : Snapshot) (steps clock t : ℕ) (parent : ParentLink) (w : Way) (phase : ℕ → ℕ)
      → IsParent g clock parent → IsWayTo x g (suc steps) clock w phase
      → shown_at w phase steps t ≡ local_clock (x.phase parent.clock) (x.drift parent.clock) t
  pub common : (x : Parts) (g : Snapshot) (steps clock : ℕ) (w : Way) (phase : ℕ → ℕ)
      → IsWayTo x g steps clock w phase
      → (w.interval ≡ x.interval) × (w.turnaround ≡ x.turnaround) × (w.residence ≡ x.residence)
      × (w.blur ≡ x.blur) × (w.behind ≡ x.behind)

-- the numbers of the parts are those of a document, and no link takes longer than this
pub record ArePartsOf (x : Parts) (longest : ℕ) : Type 0 where
  pub little : x.blur ≤ 3000
  pub long : 62500000 ≤ x.interval
  pub waits : 1 ≤ x.turnaround
  pub drifts : (clock : ℕ) → IsDrift (x.drift clock)
  pub short : (port : PortIdentity) → x.most port ≤ longest

-- these are time stamps of the clock of a system
abbrev pub AreStampsOf : Parts → ℕ → (ℕ → ℤ) → Type 0
AreStampsOf x clock stamps = IsStampClock x.blur x.behind (x.phase clock) (x.drift clock) stamps

-- a system that isn't the best, on its way, is such a setting as the laws of followers ask for
abbrev pub WaysAreSettings : Type 0
WaysAreSettings = (x : Parts) (g : Snapshot) (steps clock settled longest : ℕ) (stamps : ℕ → ℤ) (parent : PortIdentity)
    (w : Way) (phase : ℕ → ℕ) (base : Option ℤ) → ArePartsOf x longest → IsWayTo x g (suc steps) clock w phase
    → AreStampsOf x clock stamps → IsSetting (follower_of w phase base steps stamps parent settled longest)

-- where neither a system nor its parent is the best, the parent's follower is the parent of the system's follower
abbrev pub ParentsAreParents : Type 0
ParentsAreParents = (x : Parts) (g : Snapshot) (steps clock settled longest : ℕ) (l : ParentLink)
    (stamps stamps' : ℕ → ℤ) (port port' : PortIdentity) (w w' : Way) (phase phase' : ℕ → ℕ) (base : Option ℤ)
    → IsParent g clock l → IsWayTo x g (suc steps) l.clock w phase
    → IsWayTo x g (suc (suc steps)) clock w' phase'
    → IsParentOf (follower_of w phase base steps stamps port settled longest)
    (follower_of w' phase' base (suc steps) stamps' port' settled longest)

-- A system measures its link to its parent: delays and parameters are those of the parts, and the clocks of the two are
-- stamped. An exchange leaves 12 times the blur to the one that is measured after it.
pub record MeasuresParent (x : Parts) (clock : ℕ) (parent : ParentLink) (k : Measuring) : Type 0 where
  pub least : x.least (port_of clock parent.own_port) ≤ k.most
  pub most : k.most ≡ x.most (port_of clock parent.own_port)
  pub turnaround : k.turnaround ≡ x.turnaround
  pub interval : k.window * k.period ≡ x.interval
  pub rested : 12 * x.blur ≤ x.interval - (2 * k.most + k.turnaround)
  pub asking : AreStampsOf x clock k.asking_clock
  pub answering : AreStampsOf x parent.clock k.answering_clock

-- a system that measures its link to its parent measures the last link of its way, as `ExchangesMeasureRight` asks
abbrev pub ParentsAreMeasured : Type 0
ParentsAreMeasured = (x : Parts) (g : Snapshot) (steps clock longest : ℕ) (parent : ParentLink) (w : Way)
    (phase : ℕ → ℕ) (k : Measuring) → ArePartsOf x longest → IsParent g clock parent
    → IsWayTo x g (suc steps) clock w phase → MeasuresParent x clock parent k
    → MeasuresOnWay k w phase steps
