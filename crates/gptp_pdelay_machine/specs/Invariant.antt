-- What holds at every time of a port on a link that is up, loses nothing and is good, between two live systems.
use Rattle.std.specs.Prelude.{◌≡◌, ℕ, ◌+◌, ◌<◌, ◌≤◌, List, Option, Some}
use Rattle.gptp_lists.specs.Members.{In}
use Rattle.gptp_pdelay_machine.specs.Lanes.{LaneFrame}
use Rattle.gptp_pdelay_machine.specs.Messages.{Request, Reply}
use Rattle.gptp_pdelay_machine.specs.Setting.{Setting}
use Rattle.gptp_pdelay_machine.specs.Asker.{Asker}
use Rattle.gptp_pdelay_machine.specs.Answerer.{Waiting}
use Rattle.gptp_pdelay_machine.specs.Pair.{Pair}
use Rattle.gptp_pdelay_machine.specs.Bounds.{Bounds}
use Rattle.gptp_pdelay_machine.specs.Phases.{Phase}
use Rattle.gptp_pdelay_machine.specs.Counts.{RequestsMeasure}

module _ (k : Setting) (least : ℕ) (asks : List ℕ → Request → Type 0) (replies : List ℕ → Reply → Type 0) where
  -- the exchange is in one of its phases, and what had to be measured before it was
  pub record IsClean (calm : ℕ) (a : Asker) (waits : Option Waiting) (out back : List LaneFrame) : Type 0 where
    pub phase : Phase k least asks replies a waits out back
    pub counts : RequestsMeasure k calm a

  -- the bounds hold, and exchanges that began at `calm` or later are clean, where each frame of theirs takes `least` ns
  -- or more
  pub record InvFrom (gone calm : ℕ) (p : Pair) : Type 0 where
    pub bounds : Bounds k asks replies gone p
    pub clean : calm ≤ p.asker.asked → IsClean calm p.asker p.waits p.out p.back

-- the bounds hold, and exchanges that began at `calm` or later are clean, where nothing is known of the least delay
abbrev pub PortInvariant : Setting → (List ℕ → Request → Type 0) → (List ℕ → Reply → Type 0) → ℕ → ℕ → Pair → Type 0
PortInvariant k asks replies gone calm p = InvFrom k 0 asks replies gone calm p

-- Just after a change nothing is known but that what is in flight is due by `gone`, and that what waits is answered
-- within the turnaround from then. In a world the request timer is due within one period, the answer's timer within one
-- turnaround, and a frame within one largest announce interval. Shown by links_are_fresh of gptp_invariants.
pub record IsJustChanged (k : Setting) (gone calm : ℕ) (p : Pair) : Type 0 where
  pub asked : p.asker.asked < calm
  pub out : (f : LaneFrame) → In f p.out → f.due ≤ gone
  pub waiting : (w : Waiting) → p.waits ≡ Some w → w.due ≤ gone + k.turnaround
  pub back : (f : LaneFrame) → In f p.back → f.due ≤ gone
