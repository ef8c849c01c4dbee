-- The steps of the machine.
use Rattle.std.specs.Prelude.{◌≡◌, ◌≢◌, ◌⊎◌, ◌≤◌, ◌+◌, ℕ, suc, true, List, ◌∷◌, ◌++◌, Some, slice_get}
use Rattle.gptp_lists.specs.Members.{In}
use Rattle.gptp_graph.specs.Snapshot.{port_of}
use Rattle.gptp_bmca_machine.specs.Frame.{Announce, Spelling, AnnounceFrame, Lane, Send}
use Rattle.gptp_bmca_machine.specs.Station.{Reception, Disabled, Received, Port, Station, MachineState}
use Rattle.gptp_bmca_machine.specs.Touch.{StationTouch, Hear, Grow}
use Rattle.gptp_bmca_machine.specs.Reacts.{StationReacts}

-- A lane takes up what the system with clock c sends. What is sent from its port enters after all others, or is lost;
-- nothing is lost where the link is up and has no loss. When it will be due is not said here. Queues of worlds are
-- first in, first out, and carry octets as they were sent.
pub record LaneStep (c : ℕ) (sends : List Send) (l l' : Lane) : Type 0 where
  pub from : l'.from ≡ l.from
  pub to : l'.to ≡ l.to
  pub loss : l'.loss ≡ l.loss
  pub is_up : l'.is_up ≡ l.is_up
  pub news : List AnnounceFrame
  pub behind : l'.frames ≡ l.frames ++ news
  pub sent : (f : AnnounceFrame) → In f news
      → (x : Send) × In x sends × (l.from ≡ port_of c x.port) × (f.octets ≡ x.octets)
  pub arrives : l.loss ≡ 0 → l.is_up ≡ true → (x : Send) → In x sends → l.from ≡ port_of c x.port
      → (f : AnnounceFrame) × In f news × (f.octets ≡ x.octets)

-- One live system is touched and answers, and its sends enter their lanes; every other system stays as it is. Shown of
-- worlds by expiries_are_seen and deliveries_are_seen.
pub record StationAnswers (says : Spelling) (touch : StationTouch) (w w' : MachineState) : Type 0 where
  pub place : ℕ
  pub s : Station
  pub s' : Station
  pub sends : List Send
  pub live : s.live ≡ true
  pub time : w'.time ≡ w.time
  pub here : slice_get w.stations place ≡ Some s
  pub there : slice_get w'.stations place ≡ Some s'
  pub stations : (j : ℕ) (m : Station) → slice_get w'.stations j ≡ Some m
      → ((j ≡ place) × (m ≡ s')) ⊎ ((j ≢ place) × (slice_get w.stations j ≡ Some m))
  pub reacts : StationReacts says s touch w.time s' sends
  pub lanes : (j : ℕ) (l' : Lane) → slice_get w'.lanes j ≡ Some l'
      → (l : Lane) × (slice_get w.lanes j ≡ Some l) × LaneStep s.clock sends l l'

-- The oldest frame f of the lane l at place j is due, and taken off it. So it is of each delivery of a world, by
-- deliveries_are_seen.
pub record Pops (j : ℕ) (l : Lane) (f : AnnounceFrame) (fs : List AnnounceFrame) (w w' : MachineState) : Type 0 where
  pub here : slice_get w.lanes j ≡ Some l
  pub frames : l.frames ≡ f ∷ fs
  pub due : f.due ≡ w.time
  pub time : w'.time ≡ w.time
  pub stations : (i : ℕ) (m : Station) → slice_get w'.stations i ≡ Some m → slice_get w.stations i ≡ Some m
  pub lanes : (n : ℕ) (m : Lane) → slice_get w'.lanes n ≡ Some m
      → ((n ≡ j) × (m ≡ record l { frames = fs })) ⊎ ((n ≢ j) × (slice_get w.lanes n ≡ Some m))

-- A frame is delivered to the live system at the other end. An Announce that is heard is what the frame says, and at a
-- port that isn't disabled a frame that says an Announce is heard as one. Shown of worlds by deliveries_are_seen:
-- clocks differ, so that one system hears the frame.
pub record Arrives (says : Spelling) (w w' : MachineState) : Type 0 where
  pub j : ℕ
  pub l : Lane
  pub f : AnnounceFrame
  pub fs : List AnnounceFrame
  pub mid : MachineState
  pub touch : StationTouch
  pub pops : Pops j l f fs w mid
  pub call : StationAnswers says touch mid w'
  pub owner : call.s.clock ≡ l.to.clock
  pub heard : (n : ℕ) (a : Announce) → touch ≡ Hear n a → (n ≡ l.to.port) × says f.octets a
  -- hearing makes nothing too old
  pub young : (n : ℕ) → touch ≡ Grow n → ⊥
  pub hears : (i : ℕ) (q : Port) (a : Announce) → l.to.port ≡ suc i → slice_get call.s.ports i ≡ Some q
      → q.held ≢ Disabled → says f.octets a → (b : Announce) × (touch ≡ Hear l.to.port b)

-- A frame is delivered and does nothing: it says no Announce, or whoever should receive it has failed. Every delivery
-- of a world that doesn't arrive is so, by deliveries_are_seen.
pub record Drops (says : Spelling) (w w' : MachineState) : Type 0 where
  pub j : ℕ
  pub l : Lane
  pub f : AnnounceFrame
  pub fs : List AnnounceFrame
  pub pops : Pops j l f fs w w'
  pub unheard : ((a : Announce) → says f.octets a → ⊥)
      ⊎ ((i : ℕ) (m : Station) → slice_get w.stations i ≡ Some m → m.clock ≡ l.to.clock → m.live ≡ true → ⊥)

-- what the port at place i holds lapses now: it is the slave port, and the system's timer is due
-- (syncReceiptTimeout, IEEE 802.1AS-2020, 10.3.12)
pub record Lapses (s : Station) (i now : ℕ) : Type 0 where
  pub slave : s.slave ≡ Some (suc i)
  pub due : s.lapse ≡ Some now

-- Something that is no delivery happens at a live system: a timer expires, or anything else. What a port received is
-- dropped only once its span has passed (IEEE 802.1AS-2020, 10.3.12), or where it lapses. Shown of worlds by
-- expiries_are_seen: the timer by which it ages is due when its span has passed.
pub record Runs (says : Spelling) (w w' : MachineState) : Type 0 where
  pub touch : StationTouch
  pub call : StationAnswers says touch w w'
  pub deaf : (n : ℕ) (a : Announce) → touch ≡ Hear n a → ⊥
  pub ages : (i : ℕ) (q : Port) (r : Reception) → touch ≡ Grow (suc i) → slice_get call.s.ports i ≡ Some q
      → q.held ≡ Received r → (r.at + r.span ≤ w.time) ⊎ Lapses call.s i w.time

-- something happens now
abbrev pub StationActs : Spelling → MachineState → MachineState → Type 0
StationActs says w w' = Arrives says w w' ⊎ (Drops says w w' ⊎ Runs says w w')

-- A moment comes; that nothing due before it is left is a fact of the state. Time that passes in a world is so, by
-- time_is_seen.
pub record MomentComes (w w' : MachineState) : Type 0 where
  pub time : ℕ
  pub later : w.time ≤ time
  pub is : w' ≡ record w { time = time }

-- One step: a moment comes, or something happens. Each act of a sound and legible world that leaves its network as it
-- is does the latter, by acts_are_seen.
abbrev pub MachineSteps : Spelling → MachineState → MachineState → Type 0
MachineSteps says w w' = MomentComes w w' ⊎ StationActs says w w'
