-- Laws on what systems hold: facts of one item that the steps themselves keep.
use Rattle.std.specs.Prelude.{◌≡◌, ◌≢◌, ◌≤◌, ◌+◌, ℕ, true, Some, slice_get}
use Rattle.gptp_lists.specs.Members.{In}
use Rattle.gptp_bmca_machine.specs.Frame.{Spelling}
use Rattle.gptp_bmca_machine.specs.Station.{Reception, Aged, Mine, Port, Station, MachineState, HoldsAt}
use Rattle.gptp_bmca_machine.specs.Acts.{MachineSteps}

-- a fact of the time and of each live system
abbrev pub OfEachLive : (ℕ → Station → Type 0) → MachineState → Type 0
OfEachLive P w = (i : ℕ) (s : Station) → slice_get w.stations i ≡ Some s → s.live ≡ true → P w.time s

-- whatever the system received came by now, and its trace doesn't name the system
abbrev pub HoldsNoLoop : ℕ → Station → Type 0
HoldsNoLoop now s = (place : ℕ) (r : Reception) → HoldsAt s place r
    → (r.at ≤ now) × (In s.clock r.said.path → ⊥)

-- A port of a system at this time isn't aged; where it is master it holds the system's root and steps, and its timer is
-- due within its interval.
pub record IsSelected (now : ℕ) (s : Station) (q : Port) : Type 0 where
  pub fresh : q.held ≢ Aged
  pub mine : (root steps : ℕ) → q.held ≡ Mine root steps → (root ≡ s.root) × (steps ≡ s.steps)
  pub timer : (root steps : ℕ) → q.held ≡ Mine root steps → q.announce ≤ now + q.interval

-- all ports of the system are so
abbrev pub PortsAreSelected : ℕ → Station → Type 0
PortsAreSelected now s = (place : ℕ) (q : Port) → slice_get s.ports place ≡ Some q → IsSelected now s q

-- every step keeps that no live system holds a loop
abbrev pub NoLoopIsTaken : Spelling → Type 0
NoLoopIsTaken says = (w w' : MachineState)
    → MachineSteps says w w' → OfEachLive HoldsNoLoop w
    → OfEachLive HoldsNoLoop w'

-- every step keeps that the ports of each live system are selected
abbrev pub SelectionIsKept : Spelling → Type 0
SelectionIsKept says = (w w' : MachineState)
    → MachineSteps says w w' → OfEachLive PortsAreSelected w
    → OfEachLive PortsAreSelected w'
