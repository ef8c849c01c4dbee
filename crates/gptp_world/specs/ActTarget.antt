-- What the code finds an act to be about: links and systems by place.
use Rattle.std.specs.Prelude.{◌≡◌, ℕ, ⊤, slice_get, Some}
use Rattle.gptp_setup.specs.declared.timer.Timer.{Timer}
use Rattle.gptp_system.specs.Steps.{IsTimerOf}
use Rattle.gptp_vector.specs.declared.port.PortId.{PortId}
use Rattle.gptp_world.specs.declared.act_target.ActTarget.{ActTarget}
use Rattle.gptp_world.specs.declared.act_target.ActTarget.TheVariants as aims
use Rattle.gptp_traffic.specs.declared.joined_link.Lane.{Lane}
use Rattle.gptp_scenario.specs.declared.change.Act.{Act}
use Rattle.gptp_scenario.specs.declared.change.Act.TheVariants.{Deliver, Expire, Change as Changing}
use Rattle.gptp_scenario.specs.declared.change.Change.{Change}
use Rattle.gptp_scenario.specs.declared.change.Change.TheVariants as changes
use Rattle.gptp_model.specs.declared.item.Item.{Item}
use Rattle.gptp_model.specs.declared.item.Item.TheVariants.{Expiry, Arrival}
use Rattle.gptp_model.specs.declared.station.Station.{Station}
use Rattle.gptp_model.specs.Acts.{set_to, AtPlace}
use Rattle.gptp_model.specs.Changing.{IsChannel, IsStation}
use Rattle.gptp_model.specs.World.{port_id}
use Rattle.gptp_model.specs.World.{Channel, WorldState, sender, station_due}

-- the link at this place is at the port
pub record IsLinkAt (port : PortId) (w : WorldState) (place : ℕ) : Type 0 where
  pub channel : Channel
  pub is : IsChannel port place w.net channel

-- the lane begins at the port
pub record IsLaneAt (port : PortId) (w : WorldState) (lane : Lane) : Type 0 where
  pub channel : Channel
  pub here : slice_get w.net.channels lane.link ≡ Some channel
  pub begins : sender lane.direction channel ≡ port

-- the system at this place has the clock
pub record PlaceHasClock (number : ℕ) (w : WorldState) (place : ℕ) : Type 0 where
  pub station : Station
  pub is : IsStation number place w station

-- a change is about this
abbrev pub IsTargetOfChange : Change → WorldState → ActTarget → Type 0
IsTargetOfChange (changes.LinkDown number port) w (aims.LinkDown link) = IsLinkAt (port_id number port) w link
IsTargetOfChange (changes.LinkUp number port) w (aims.LinkUp link) = IsLinkAt (port_id number port) w link
IsTargetOfChange (changes.LinkSet number port min max loss) w (aims.LinkSet link bounds) =
    (at : IsLinkAt (port_id number port) w link) × (bounds ≡ set_to min max loss at.channel)
IsTargetOfChange (changes.Fail number) w (aims.Fail place) = PlaceHasClock number w place
IsTargetOfChange (changes.Recover number) w (aims.Recover place) = PlaceHasClock number w place
IsTargetOfChange (changes.Priority1 number value) w (aims.Priority1 place set) = PlaceHasClock number w place
    × (set ≡ value)
IsTargetOfChange (changes.Inject number port octets) w (aims.Inject lane) = IsLaneAt (port_id number port) w lane
IsTargetOfChange change w target = ⊥

-- the system with a clock and a timer
pub record IsTimerAt (number : ℕ) (w : WorldState) (place : ℕ) (timer : Timer) : Type 0 where
  pub station : Station
  pub is : IsStation number place w station
  pub timer_of : IsTimerOf station.system timer

-- an act is about this
abbrev pub IsTargetOf : Act → WorldState → ActTarget → Type 0
IsTargetOf (Deliver link direction) w (aims.Arrival lane) =
    (lane.link ≡ link) × ((lane.direction ≡ direction) × AtPlace link w.net (λ channel. ⊤))
IsTargetOf (Expire number timer) w (aims.Timer place set) = IsTimerAt number w place timer × (set ≡ timer)
IsTargetOf (Changing change) w target = IsTargetOfChange change w target
IsTargetOf act w target = ⊥

-- a timer of the system at a place is due at this time
pub record IsTimerDue (place : ℕ) (timer : Timer) (time : ℕ) (w : WorldState) : Type 0 where
  pub station : Station
  pub here : slice_get w.stations place ≡ Some station
  pub due : station_due timer station ≡ Some time

-- what an item is about
abbrev pub aim_of : Item → ActTarget
aim_of (Expiry place timer) = aims.Timer place timer
aim_of (Arrival link direction) = aims.Arrival (record { link = link; direction = direction })
