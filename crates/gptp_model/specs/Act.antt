-- One act of the world: one frame delivered, one timer expired, or one change, carried to completion (profile).
use Rattle.std.specs.Prelude.{◌≡◌, ℕ, true, false, List, [], ◌∷◌, Option, Some, None, slice_get, slice_set}
use Rattle.gptp_links.specs.declared.link.Direction.{Direction}
use Rattle.gptp_links.specs.Fate.{Draw}
use Rattle.gptp_links.specs.Queue.{frame, Frame}
use Rattle.gptp_system.specs.declared.answer.Answer.{Answer}
use Rattle.gptp_system.specs.declared.sending.Sending.{Sending}
use Rattle.gptp_setup.specs.declared.timer.Timer.{Timer}
use Rattle.gptp_system.specs.Input.{Input, Frame as FrameHeard, Expires as TimerExpires, Steps}
use Rattle.gptp_system.specs.State.{SystemState, clock}
use Rattle.gptp_model.specs.declared.item.Item.TheVariants.{Expiry, Arrival}
use Rattle.gptp_model.specs.declared.station.Station.{Station}
use Rattle.gptp_model.specs.Pending.{Entry, set_due, without_first_entry}
use Rattle.gptp_model.specs.World.{Channel, Net, WorldState, world_queue, with_queue, receiver, timers_from, station_due}
use Rattle.gptp_model.specs.Sends.{SendsAll}

-- ---- one call of one system

-- what is pending of a station's timers follows from its state, timer by timer
abbrev pub set_timers : ℕ → Station → List Timer → List Entry → List Entry
set_timers place station [] es = es
set_timers place station (timer ∷ timers) es =
    set_timers place station timers (set_due (Expiry place timer) (station_due timer station) es)

abbrev pub all_timers : ℕ → Station → Net → Net
all_timers place station net =
    record net { pending = set_timers place station (timers_from 1 station.system.ports) net.pending }

abbrev pub in_state : SystemState → Station → Station
in_state s station = record station { system = s }

-- A live system is given an input: its own step, over its own state and that input alone. Its timers follow, then its
-- sends. Every other system is unchanged.
pub record Calls (place : ℕ) (input : Input) (w : WorldState) (draws : List Draw) (answer : Answer) (w' : WorldState) :
    Type 0 where
  pub station : Station
  pub after : SystemState
  pub sends : List Sending
  pub net : Net
  pub here : slice_get w.stations place ≡ Some station
  pub live : station.live ≡ true
  pub steps : Steps input w.time station.system after sends answer
  pub sent : SendsAll w.time after sends draws (all_timers place (in_state after station) w.net) net
  pub is : w' ≡ record w { stations = slice_set w.stations place (in_state after station); net = net }

-- the system at a place has failed
pub record HasFailed (place : ℕ) (w : WorldState) : Type 0 where
  pub station : Station
  pub here : slice_get w.stations place ≡ Some station
  pub failed : station.live ≡ false

-- ---- a delivery

-- the oldest frame of a link in a direction is due now, and leaves it
pub record TakesFrame (place : ℕ) (direction : Direction) (now : ℕ) (octets : List ℕ) (channel : Channel)
    (net net' : Net) :
    Type 0 where
  pub rest : List Frame
  pub here : slice_get net.channels place ≡ Some channel
  pub front : world_queue direction channel ≡ frame now octets ∷ rest
  pub is : net' ≡ record {
    channels = slice_set net.channels place (with_queue direction rest channel);
    pending = without_first_entry (Arrival place direction) net.pending;
  }

-- The receiver at the end of the link answers to the frame; one that has failed is silent.
abbrev pub Hears : ℕ → ℕ → List ℕ → WorldState → List Draw → Option Answer → WorldState → Type 0
Hears place port octets w draws (Some answer) w' = Calls place (FrameHeard port octets) w draws answer w'
Hears place port octets w draws None w' = HasFailed place w × (draws ≡ []) × (w' ≡ w)

pub record Delivers (link : ℕ) (direction : Direction) (octets : List ℕ) (w : WorldState) (draws : List Draw)
    (answer : Option Answer) (w' : WorldState) : Type 0 where
  pub channel : Channel
  pub net : Net
  pub place : ℕ
  pub station : Station
  pub takes : TakesFrame link direction w.time octets channel w.net net
  pub there : slice_get w.stations place ≡ Some station
  pub is_end : clock station.system ≡ (receiver direction channel).clock
  pub hears : Hears place (receiver direction channel).port octets (record w { net = net }) draws answer w'

-- ---- an expiry

-- a timer of a live system runs out now
pub record TimerRunsOut (place : ℕ) (timer : Timer) (w : WorldState) (draws : List Draw)
    (w' : WorldState) : Type 0 where
  pub station : Station
  pub answer : Answer
  pub here : slice_get w.stations place ≡ Some station
  pub now_due : station_due timer station ≡ Some w.time
  pub calls : Calls place (TimerExpires timer)
      (record w { net = record w.net { pending = without_first_entry (Expiry place timer) w.net.pending } })
      draws answer w'
