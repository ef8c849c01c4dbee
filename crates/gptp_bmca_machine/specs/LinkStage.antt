-- The stages through which a link comes to tell what the system at its one end has settled at.
use Rattle.std.specs.Prelude.{◌≡◌, ◌⊎◌, ◌<◌, ◌≤◌, ◌+◌, ℕ, suc, ℤ, List, [], ◌∷◌}
use Rattle.gptp_lists.specs.Members.{In}
use Rattle.gptp_graph.specs.Snapshot.{PortIdentity, port_of}
use Rattle.gptp_bmca_machine.specs.Frame.{Announce, Spelling, AnnounceFrame}
use Rattle.gptp_bmca_machine.specs.Station.{Reception, Held, Received}
use Rattle.gptp_bmca_machine.specs.Touch.{IsUsable}

-- One direction of a link: the clock of the system that tells, its place among the systems and that of its port, which
-- is numbered one higher; the same of the system that hears; the place of the lane; the logarithm of the announce
-- interval of the port that tells, that interval, and the largest delay of the link; the root and steps that are told
-- once the teller has settled; from when on claims are made, before which time the teller's timer has run out then, and
-- when the hearer holds what is told.
pub record Wiring : Type 0 where
  pub teller : ℕ
  pub teller_place : ℕ
  pub teller_port : ℕ
  pub hearer : ℕ
  pub hearer_place : ℕ
  pub hearer_port : ℕ
  pub lane : ℕ
  pub log : ℤ
  pub interval : ℕ
  pub most : ℕ
  pub root : ℕ
  pub steps : ℕ
  pub from : ℕ
  pub until : ℕ
  pub before : ℕ

-- the port that tells
abbrev pub from_port : Wiring → PortIdentity
from_port k = port_of k.teller (suc k.teller_port)

-- the port that hears
abbrev pub to_port : Wiring → PortIdentity
to_port k = port_of k.hearer (suc k.hearer_port)

-- the Announce tells what is settled and the teller's interval, and the system that hears it can use it
pub record IsFinal (k : Wiring) (a : Announce) : Type 0 where
  pub root : a.root ≡ k.root
  pub steps : a.steps ≡ k.steps
  pub source : a.source ≡ from_port k
  pub log : a.log ≡ k.log
  pub qualified : IsUsable k.hearer a

-- every Announce among the frames is final
abbrev pub AllFinal : Spelling → Wiring → List AnnounceFrame → Type 0
AllFinal says k fs = (f : AnnounceFrame) (a : Announce) → In f fs → says f.octets a → IsFinal k a

-- the frame says an Announce
abbrev pub FrameSaysAnnounce : Spelling → AnnounceFrame → Type 0
FrameSaysAnnounce says f = (a : Announce) × says f.octets a

-- from some frame on, which says an Announce and is due before this time, every Announce is final
abbrev pub FinalTail : Spelling → Wiring → ℕ → List AnnounceFrame → Type 0
FinalTail says k before [] = ⊥
FinalTail says k before (f ∷ fs) =
    ((f.due < before) × FrameSaysAnnounce says f × AllFinal says k (f ∷ fs)) ⊎ FinalTail says k before fs

-- The port holds a final Announce, every Announce in flight is final, and the next one comes before it ages: the
-- teller's timer is due within its interval, or a frame in flight says it.
pub record FinalAnnounceStays (says : Spelling) (k : Wiring) (announce : ℕ) (held : Held)
    (fs : List AnnounceFrame) : Type 0 where
  pub what : Reception
  pub holds : held ≡ Received what
  pub final : IsFinal k what.said
  pub flight : AllFinal says k fs
  pub next : (announce ≤ what.at + k.interval)
      ⊎ ((f : AnnounceFrame) × In f fs × FrameSaysAnnounce says f × (f.due < what.at + what.span))

-- The teller will tell it by its timer, which has to run out yet; or it is on its way; or it is held, and stays. By the
-- strict bounds the first two are over in the end.
abbrev pub LinkStage : Spelling → Wiring → ℕ → Held → List AnnounceFrame → Type 0
LinkStage says k announce held fs =
    (announce < k.until) ⊎ (FinalTail says k k.before fs ⊎ FinalAnnounceStays says k announce held fs)
