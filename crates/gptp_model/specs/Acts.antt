-- Acts of a world: what each is about, when it is refused, and what it does (profile).
use Rattle.std.specs.Prelude.{◌≡◌, ◌<◌, ◌≤◌, ℕ, ⊤, List, [], ◌∷◌, Option, Some, slice_get}
use Rattle.gptp_lists.specs.Members.{In}
use Rattle.gptp_links.specs.declared.bounds.Bounds.{Bounds}
use Rattle.gptp_links.specs.declared.link.Direction.{Direction}
use Rattle.gptp_links.specs.Fate.{Draw}
use Rattle.gptp_links.specs.Queue.{Frame}
use Rattle.gptp_system.specs.declared.answer.Answer.{Answer}
use Rattle.gptp_system.specs.Input.{Priority}
use Rattle.gptp_system.specs.Steps.{IsTimerOf}
use Rattle.gptp_vector.specs.declared.port.PortId.{PortId}
use Rattle.gptp_scenario.specs.declared.change.Act.{Act}
use Rattle.gptp_scenario.specs.declared.change.Act.TheVariants.{Deliver, Expire, Change as Changing}
use Rattle.gptp_scenario.specs.declared.change.Change.{Change}
use Rattle.gptp_scenario.specs.declared.change.Change.TheVariants.{LinkDown, LinkUp, LinkSet, Fail, Recover, Priority1, Inject}
use Rattle.gptp_model.specs.declared.done.Done.{Done}
use Rattle.gptp_model.specs.declared.done.Done.TheVariants.{Quiet, Heard}
use Rattle.gptp_model.specs.declared.done.Refused.{Refused}
use Rattle.gptp_model.specs.declared.done.Refused.TheVariants.{InThePast, Untimely, NoSuch, NotDue, OutOfMemory}
use Rattle.gptp_model.specs.declared.station.Station.{Station}
use Rattle.gptp_model.specs.Act.{Delivers, TimerRunsOut}
use Rattle.gptp_model.specs.Changing.{with_bounds, with_setup, with_station, CallsIfLive, ComesUpIf, FailsIf, GoesDownIf, InjectsIf, IsChannel, IsStation, RecoversIf}
use Rattle.gptp_model.specs.World.{port_id}
use Rattle.gptp_model.specs.Pending.{Entry, NothingBefore}
use Rattle.gptp_model.specs.World.{Channel, Net, WorldState, world_queue, receiver, station_due}

-- ---- what an act is about

-- the link at a port, of which this is true
pub record AtLink (port : PortId) (net : Net) (So : ℕ → Channel → Type 0) : Type 0 where
  pub place : ℕ
  pub channel : Channel
  pub is : IsChannel port place net channel
  pub so : So place channel

-- the system of a clock, of which this is true
pub record AtSystem (number : ℕ) (w : WorldState) (So : ℕ → Station → Type 0) : Type 0 where
  pub place : ℕ
  pub station : Station
  pub is : IsStation number place w station
  pub so : So place station

-- the link with a number, of which this is true
pub record AtPlace (place : ℕ) (net : Net) (So : Channel → Type 0) : Type 0 where
  pub channel : Channel
  pub here : slice_get net.channels place ≡ Some channel
  pub so : So channel

abbrev pub AnyLink : ℕ → Channel → Type 0
AnyLink place channel = ⊤

abbrev pub AnySystem : ℕ → Station → Type 0
AnySystem place station = ⊤

-- there is what a change is about: the link at its port, or the system of its clock
abbrev pub IsThereToChange : Change → WorldState → Type 0
IsThereToChange (LinkDown number port) w = AtLink (port_id number port) w.net AnyLink
IsThereToChange (LinkUp number port) w = AtLink (port_id number port) w.net AnyLink
IsThereToChange (LinkSet number port min max loss) w = AtLink (port_id number port) w.net AnyLink
IsThereToChange (Fail number) w = AtSystem number w AnySystem
IsThereToChange (Recover number) w = AtSystem number w AnySystem
IsThereToChange (Priority1 number value) w = AtSystem number w AnySystem
IsThereToChange (Inject number port octets) w = AtLink (port_id number port) w.net AnyLink

-- there is what an act is about: the link, the system with that timer, or what is changed
abbrev pub IsThere : Act → WorldState → Type 0
IsThere (Deliver link direction) w = AtPlace link w.net (λ channel. ⊤)
IsThere (Expire number timer) w = AtSystem number w (λ place station. IsTimerOf station.system timer)
IsThere (Changing change) w = IsThereToChange change w

-- the oldest frame in flight is due at this time
pub record IsOldestDue (direction : Direction) (time : ℕ) (channel : Channel) : Type 0 where
  pub oldest : Frame
  pub rest : List Frame
  pub front : world_queue direction channel ≡ oldest ∷ rest
  pub due : oldest.due ≡ time

-- An act is due at exactly its time; a change always is.
abbrev pub IsDueThen : Act → ℕ → WorldState → Type 0
IsDueThen (Deliver link direction) time w = AtPlace link w.net (IsOldestDue direction time)
IsDueThen (Expire number timer) time w = AtSystem number w (λ place station. station_due timer station ≡ Some time)
IsDueThen (Changing change) time w = ⊤

-- ---- when it is refused

-- something is due earlier
abbrev pub IsEarlier : ℕ → List Entry → Type 0
IsEarlier time es = (e : Entry) × In e es × (e.time < time)

-- what has passed before each test
pub record IsTimelyAct (time : ℕ) (w : WorldState) : Type 0 where
  pub now : w.time ≤ time
  pub first : NothingBefore time w.net.pending

pub record IsReadyAct (act : Act) (time : ℕ) (w : WorldState) : Type 0 where
  pub timely : IsTimelyAct time w
  pub there : IsThere act w
  pub due : IsDueThen act time w

-- The first test that an act at a time fails: it lies in the past; something is due earlier; there is no such link,
-- port or system; it isn't due. After all of them only memory can be wanting.
abbrev pub Refuses : Act → ℕ → WorldState → Refused → Type 0
Refuses act time w InThePast = time < w.time
Refuses act time w Untimely = (w.time ≤ time) × IsEarlier time w.net.pending
Refuses act time w NoSuch = IsTimelyAct time w × (IsThere act w → ⊥)
Refuses act time w NotDue = IsTimelyAct time w × (IsThere act w × (IsDueThen act time w → ⊥))
Refuses act time w OutOfMemory = IsReadyAct act time w

-- ---- what it does

-- the bounds of a link that is set
abbrev pub set_to : ℕ → ℕ → ℕ → Channel → Bounds
set_to min max loss channel = record channel.bounds {
  min = min;
  max = max;
  loss = loss;
}

-- a change of the world, at its own time
abbrev pub Changes : Change → WorldState → List Draw → WorldState → Type 0
Changes (LinkDown number port) w draws w' =
    AtLink (port_id number port) w.net (λ place channel. GoesDownIf channel.up place channel w draws w')
Changes (LinkUp number port) w draws w' =
    AtLink (port_id number port) w.net (λ place channel. ComesUpIf channel.up place channel w draws w')
Changes (LinkSet number port min max loss) w draws w' = AtLink (port_id number port) w.net (λ place channel.
    (draws ≡ []) × (w' ≡ record w { net = with_bounds (set_to min max loss channel) place channel w.net }))
Changes (Fail number) w draws w' = AtSystem number w (λ place station. FailsIf station.live place station w draws w')
Changes (Recover number) w draws w' = AtSystem number w (λ place station. RecoversIf station.live place w draws w')
Changes (Priority1 number value) w draws w' = AtSystem number w (λ place station.
    CallsIfLive place (Priority value) (with_station place (with_setup value station) w) draws w')
Changes (Inject number port octets) w draws w' = AtLink (port_id number port) w.net (λ place channel.
    InjectsIf channel.up (port_id number port) octets w draws w')

-- the port that a frame reached, what was answered there, and the frame
abbrev pub TellsHearing : PortId → Option Answer → List ℕ → Done → Type 0
TellsHearing reached answer octets Quiet = ⊥
TellsHearing reached answer octets (Heard number port told frame) =
    (number ≡ reached.clock) × (port ≡ reached.port) × (told ≡ answer) × (frame.items ≡ octets)

-- a frame is delivered, and it is told where it went
pub record Delivery (link : ℕ) (direction : Direction) (done : Done) (w : WorldState) (draws : List Draw)
    (w' : WorldState) : Type 0 where
  pub channel : Channel
  pub octets : List ℕ
  pub answer : Option Answer
  pub here : slice_get w.net.channels link ≡ Some channel
  pub told : TellsHearing (receiver direction channel) answer octets done
  pub delivers : Delivers link direction octets w draws answer w'

-- An act of the world, at its own time, and what is told of it. A change is the last change from then on.
abbrev pub Acts : Act → WorldState → List Draw → Done → WorldState → Type 0
Acts (Deliver link direction) w draws done w' = Delivery link direction done w draws w'
Acts (Expire number timer) w draws done w' =
    (done ≡ Quiet) × AtSystem number w (λ place station. TimerRunsOut place timer w draws w')
Acts (Changing change) w draws done w' = (done ≡ Quiet) × Changes change (record w { last_change = w.time }) draws w'

-- the world at a later time
abbrev pub at : ℕ → WorldState → WorldState
at time w = record w { time = time }
