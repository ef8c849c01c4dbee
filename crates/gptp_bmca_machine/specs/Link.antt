-- One direction of a link of the machine: what is known of its two ends, and the stage that it is at.
use Rattle.std.specs.Prelude.{◌≡◌, ◌≢◌, ◌⊎◌, ◌↔◌, ◌<◌, ◌≤◌, ◌+◌, ℕ, suc, true, List, [], ◌∷◌, Some, length, slice_get}
use Rattle.gptp_lists.specs.Members.{In}
use Rattle.gptp_graph.specs.Order.{IsLower}
use Rattle.gptp_bmca_machine.specs.Frame.{Announce, Spelling, AnnounceFrame, Lane}
use Rattle.gptp_bmca_machine.specs.Station.{Reception, Disabled, Mine, Received, Port, Station, MachineState}
use Rattle.gptp_bmca_machine.specs.Vectors.{master}
use Rattle.gptp_bmca_machine.specs.LinkStage.{Wiring, from_port, to_port, LinkStage}

-- the message vector of a final Announce
abbrev pub final_vector : Wiring → List ℕ
final_vector k = k.root ∷ k.steps ∷ k.teller ∷ suc k.teller_port ∷ suc k.hearer_port ∷ []

-- the system with this clock stands at this place, and no other does
abbrev pub StandsAt : MachineState → ℕ → ℕ → Type 0
StandsAt w clock place = (i : ℕ) (m : Station) → slice_get w.stations i ≡ Some m → (i ≡ place) ↔ (m.clock ≡ clock)

-- the teller has settled: it has the root and the steps that are told
abbrev pub HasSettled : Wiring → Station → Type 0
HasSettled k s = (s.root ≡ k.root) × (s.steps ≡ k.steps)

-- the teller has settled, and its port is on
abbrev pub TellerIsReady : Wiring → Station → Port → Type 0
TellerIsReady k s q = HasSettled k s × (q.held ≢ Disabled)

-- then its port is master with these, which the hearer can use
pub record TellerIsSettled (k : Wiring) (s : Station) (q : Port) : Type 0 where
  pub mine : q.held ≡ Mine k.root k.steps
  pub near : k.steps < 255
  pub foreign : In k.hearer s.trace → ⊥
  pub short : length s.trace ≤ 255

-- The port that tells: while it is master its timer is due within its interval, and it holds the system's root and
-- steps. Once claims are made it tells whenever the system has settled and it is on; and while that isn't so, what is
-- sent now comes in time.
pub record IsTeller (k : Wiring) (now : ℕ) (s : Station) (q : Port) : Type 0 where
  pub log : q.log ≡ k.log
  pub interval : q.interval ≡ k.interval
  pub timer : (root steps : ℕ) → q.held ≡ Mine root steps → (now ≤ q.announce) × (q.announce ≤ now + k.interval)
  pub own : (root steps : ℕ) → q.held ≡ Mine root steps → (root ≡ s.root) × (steps ≡ s.steps)
  pub settled : k.from ≤ now → TellerIsReady k s q → TellerIsSettled k s q
  pub early : (TellerIsReady k s q → ⊥) → now + k.most < k.before

-- The port that hears, once claims are made: its own master vector would be worse than what a settled teller tells, and
-- whatever it received came from the teller and, if it names the teller's interval, stays longer than that and the
-- delay.
pub record HearsSettled (k : Wiring) (q : Port) : Type 0 where
  pub weaker : (root steps : ℕ) → q.held ≡ Mine root steps
      → IsLower (final_vector k) (master root steps k.hearer (suc k.hearer_port))
  pub source : (r : Reception) → q.held ≡ Received r → r.said.source ≡ from_port k
  pub long : (r : Reception) → q.held ≡ Received r → r.said.log ≡ k.log → k.interval + k.most < r.span

-- the lane is the one between the two ports, up and without loss
pub record IsLaneOf (k : Wiring) (l : Lane) : Type 0 where
  pub from : l.from ≡ from_port k
  pub to : l.to ≡ to_port k
  pub loss : l.loss ≡ 0
  pub is_up : l.is_up ≡ true

-- its frames are due now or later, and within the largest delay once claims are made
pub record LaneIsOnTime (k : Wiring) (now : ℕ) (f : AnnounceFrame) : Type 0 where
  pub left : now ≤ f.due
  pub due : k.from ≤ now → f.due ≤ now + k.most

-- what is known of the two ends and of the lane between them
pub record Ends (k : Wiring) (w : MachineState) : Type 0 where
  pub in_time : k.until + k.most ≤ k.before
  pub claimed : k.from ≤ k.before
  pub entry : (k.from ≡ 0) ⊎ (k.from + k.interval ≤ k.until)
  pub apart : k.teller ≢ k.hearer
  pub teller_stands : StandsAt w k.teller k.teller_place
  pub hearer_stands : StandsAt w k.hearer k.hearer_place
  pub hearer_lives : (s : Station) → slice_get w.stations k.hearer_place ≡ Some s → s.live ≡ true
  pub lane : (l : Lane) → slice_get w.lanes k.lane ≡ Some l → IsLaneOf k l
  pub only_lane : (j : ℕ) (l : Lane) → slice_get w.lanes j ≡ Some l → l.to ≡ to_port k → j ≡ k.lane
  pub frames : (l : Lane) (f : AnnounceFrame) → slice_get w.lanes k.lane ≡ Some l → In f l.frames
      → LaneIsOnTime k w.time f
  pub teller : (s : Station) (q : Port) → slice_get w.stations k.teller_place ≡ Some s
      → slice_get s.ports k.teller_port ≡ Some q → IsTeller k w.time s q
  pub hearer : (s : Station) (q : Port) → slice_get w.stations k.hearer_place ≡ Some s
      → slice_get s.ports k.hearer_port ≡ Some q → k.from ≤ w.time → HearsSettled k q

-- what the hearer received over the link doesn't lapse now, once claims are made
abbrev pub LapsesLater : Wiring → MachineState → Type 0
LapsesLater k w = (s : Station) (due : ℕ) → slice_get w.stations k.hearer_place ≡ Some s → k.from ≤ w.time
    → s.slave ≡ Some (suc k.hearer_port) → s.lapse ≡ Some due
    → w.time < due

-- the port that hears is on where an Announce comes now
abbrev pub HearsOn : Spelling → Wiring → MachineState → Type 0
HearsOn says k w = (l : Lane) (f : AnnounceFrame) (fs : List AnnounceFrame) (a : Announce) (s : Station) (q : Port)
    → k.from ≤ w.time
    → slice_get w.lanes k.lane ≡ Some l → l.frames ≡ f ∷ fs → f.due ≡ w.time → says f.octets a
    → slice_get w.stations k.hearer_place ≡ Some s → slice_get s.ports k.hearer_port ≡ Some q
    → q.held ≢ Disabled

-- once claims are made, the port that hears stays on in the next state where it is on in this one
abbrev pub StaysOn : Wiring → MachineState → MachineState → Type 0
StaysOn k w w' = (s s' : Station) (q q' : Port) → k.from ≤ w.time → slice_get w.stations k.hearer_place ≡ Some s
    → slice_get s.ports k.hearer_port ≡ Some q → slice_get w'.stations k.hearer_place ≡ Some s'
    → slice_get s'.ports k.hearer_port ≡ Some q' → q.held ≢ Disabled
    → q'.held ≢ Disabled

-- what stands at the two ends and between them
pub record Stand (k : Wiring) (w : MachineState) (pv pu : Port) (l : Lane) : Type 0 where
  pub v : Station
  pub u : Station
  pub teller : slice_get w.stations k.teller_place ≡ Some v
  pub teller_port : slice_get v.ports k.teller_port ≡ Some pv
  pub hearer : slice_get w.stations k.hearer_place ≡ Some u
  pub hearer_port : slice_get u.ports k.hearer_port ≡ Some pu
  pub lane : slice_get w.lanes k.lane ≡ Some l

-- once claims are made the link is at one of the stages whenever the teller has settled and its port is on
abbrev pub LinkSettles : Spelling → Wiring → MachineState → Type 0
LinkSettles says k w = k.from ≤ w.time → (pv pu : Port) (l : Lane) (stand : Stand k w pv pu l)
    → TellerIsReady k stand.v pv
    → LinkStage says k pv.announce pu.held l.frames
