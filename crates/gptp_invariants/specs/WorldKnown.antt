-- What is known of every item of a world, at every time.
use Rattle.std.specs.Prelude.{◌≡◌, ◌≤◌, ◌+◌, ℕ, ℤ, max, true, List, Some, None, slice_get}
use Rattle.gptp_lists.specs.Members.{In}
use Rattle.gptp_links.specs.declared.link.Direction.{Direction}
use Rattle.gptp_links.specs.Queue.{Frame}
use Rattle.gptp_system.specs.declared.port.Port.{Port}
use Rattle.gptp_setup.specs.Intervals.{AreIntervals, interval_of}
use Rattle.gptp_setup.specs.SettlingParams.{SettlingParams, largest_interval}
use Rattle.gptp_system.specs.Times.{IsInTime}
use Rattle.gptp_scenario.specs.Calm.{NothingLapses}
use Rattle.gptp_model.specs.declared.station.Station.{Station}
use Rattle.gptp_model.specs.Prompt.{HasPace}
use Rattle.gptp_model.specs.World.{Channel, WorldState, world_queue}
use Rattle.gptp_invariants.specs.DelayLinked.{MeasureLinks}
use Rattle.gptp_invariants.specs.DelayMeasuring.{AreMeasuring}
use Rattle.gptp_invariants.specs.WorldShort.{IsShort}
use Rattle.gptp_invariants.specs.SyncView.{KnowTime}

-- A station starts with these parameters and this largest interval, and its system has them. It starts with an interval
-- for each port, none of which is above the largest, and its ports announce at these. Its Lapse timer runs only where
-- something can lapse in the network.
pub record IsSetTo (p : SettlingParams) (station : Station) : Type 0 where
  pub starts : HasPace p station
  pub params : station.system.params ≡ p.params
  pub largest : station.system.largest ≡ p.largest
  pub intervals : AreIntervals station.setup
  pub logs : (i : ℕ) (q : Port) → slice_get station.system.ports i ≡ Some q
      → slice_get station.setup.intervals.items i ≡ Some q.log_interval
  pub lapses : NothingLapses p.params → station.system.lapse ≡ None

-- all stations of a world have the parameters of its network, and its largest interval
abbrev pub AreSet : SettlingParams → WorldState → Type 0
AreSet p w = (place : ℕ) (station : Station) → slice_get w.stations place ≡ Some station → IsSetTo p station

-- one of these stations starts with this announce interval for a port
pub record IsLogAmong (stations : List Station) (log : ℤ) : Type 0 where
  pub place : ℕ
  pub station : Station
  pub here : slice_get stations place ≡ Some station
  pub among : In log station.setup.intervals.items

-- no link has a delay above the announce interval of any port, and each frame in flight arrives within it
abbrev pub FramesArePrompt : WorldState → Type 0
FramesArePrompt w = (log : ℤ) → IsLogAmong w.stations log → IsShort (interval_of log) w

-- the timers of each live system run out within their intervals
abbrev pub AreInTime : WorldState → Type 0
AreInTime w = (place : ℕ) (station : Station) → slice_get w.stations place ≡ Some station → station.live ≡ true
    → IsInTime station.system w.time

-- this is so of each frame in flight, in either direction of each link
abbrev pub OfEachFrame : (Channel → Frame → Type 0) → WorldState → Type 0
OfEachFrame So w = (link : ℕ) (direction : Direction) (channel : Channel) (f : Frame)
    → slice_get w.net.channels link ≡ Some channel → In f (world_queue direction channel) → So channel f

-- no link has a delay above the largest announce interval, and each frame in flight arrives within it
abbrev pub AreNear : SettlingParams → WorldState → Type 0
AreNear p w = IsShort (largest_interval p) w

-- Since the last change: each frame in flight arrives within the greatest delay of its link, or by the largest announce
-- interval after that change, since it doesn't overtake one that was in flight then.
pub record AreFresh (p : SettlingParams) (w : WorldState) : Type 0 where
  pub change : w.last_change ≤ w.time
  pub frames : OfEachFrame (λ channel f.
      f.due ≤ max (w.time + channel.bounds.max) (w.last_change + largest_interval p)) w

-- what is known of a world of a network with these parameters and this largest interval
pub record IsKnown (p : SettlingParams) (w : WorldState) : Type 0 where
  pub set : AreSet p w
  pub prompt : FramesArePrompt w
  pub in_time : AreInTime w
  pub measuring : AreMeasuring p.params w
  pub time : KnowTime w
  pub links : MeasureLinks w
  pub near : AreNear p w
  pub fresh : AreFresh p w
