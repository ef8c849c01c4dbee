-- What the code keeps of a world.
use Rattle.std.specs.Prelude.{◌≡◌, ◌<◌, ◌≤◌, ◌+◌, ◌*◌, ℕ, ⊤, Bool, true, List, [], length, map, Option, Some, slice_get, slice_set}
use Rattle.gptp_links.specs.declared.bounds.Bounds.{Bounds}
use Rattle.gptp_links.specs.Fate.{Draw, Draws}
use Rattle.gptp_system.specs.declared.answer.Answer.{Answer}
use Rattle.gptp_system.specs.declared.sending.Sending.{Sending}
use Rattle.gptp_setup.specs.Intervals.{IsMoment}
use Rattle.gptp_setup.specs.declared.limits.TheConstants.{MOST_PORTS}
use Rattle.gptp_system.specs.Input.{Input, IsTimely, Steps}
use Rattle.gptp_system.specs.State.{SystemState, clock}
use Rattle.gptp_system.specs.Steps.{HasPortNumber}
use Rattle.gptp_traffic.specs.declared.joined_link.Lane.{Lane}
use Rattle.gptp_model.specs.declared.item.Item.{Item}
use Rattle.gptp_model.specs.declared.item.Item.TheVariants.{Expiry, Arrival}
use Rattle.gptp_world.specs.declared.net.Net.{Net as Between}
use Rattle.gptp_world.specs.declared.world_parts.WorldParts.{WorldParts}
use Rattle.gptp_model.specs.declared.station.Station.{Station}
use Rattle.gptp_model.specs.Act.{in_state, Calls}
use Rattle.gptp_world.specs.Directory.{BeginsAt}
use Rattle.gptp_world.specs.Net.{between, IsNet}
use Rattle.gptp_model.specs.World.{port_id}
use Rattle.gptp_world.specs.Room.{both, for_call, for_sends, for_timers, WorldHasRoom, Need, Uses}
use Rattle.gptp_model.specs.World.{WorldState}

-- the state of the world
abbrev pub world_of : WorldParts → WorldState
world_of parts = record {
  time = parts.now;
  last_change = parts.last_change;
  stations = parts.stations.items;
  net = between parts.net;
}

abbrev pub clock_at_place : Station → ℕ
clock_at_place station = clock station.system

-- The directory knows the systems and the links, and what is pending has a place for each. A link joins ports that
-- systems have. The outbox is empty.
pub record IsWorldParts (parts : WorldParts) : Type 0 where
  pub net : IsNet parts.net
  pub clocks : map clock_at_place parts.stations.items ≡ parts.net.directory.clocks
  pub systems : length parts.stations.items ≤ parts.net.traffic.systems
  pub few : (place : ℕ) (station : Station) → slice_get parts.stations.items place ≡ Some station
      → length station.system.ports ≤ MOST_PORTS
  pub ports : (place : ℕ) (station : Station) (p : ℕ) (lane : Lane)
      → slice_get parts.stations.items place ≡ Some station
      → BeginsAt parts.net.directory.joins (port_id (clock station.system) p) lane → (1 ≤ p)
      × (p ≤ length station.system.ports)
  pub empty : parts.outbox.items ≡ []
  pub moment : IsMoment parts.now

-- the system at a place is live
pub record IsLiveAt (place : ℕ) (parts : WorldParts) : Type 0 where
  pub station : Station
  pub here : slice_get parts.stations.items place ≡ Some station
  pub live : station.live ≡ true

-- the system at a place is live, or isn't
abbrev pub SystemIs : Bool → ℕ → WorldParts → Type 0
SystemIs live place parts =
    (station : Station) → slice_get parts.stations.items place ≡ Some station → station.live ≡ live

-- there is room for whatever a call of the system at a place can leave
pub record HasRoomToCall (place : ℕ) (parts : WorldParts) : Type 0 where
  pub station : Station
  pub here : slice_get parts.stations.items place ≡ Some station
  pub room : WorldHasRoom (for_call station.system) parts.net

-- there is room for one call of each of two systems
pub record HasRoomToCallBoth (first second : ℕ) (parts : WorldParts) : Type 0 where
  pub station_a : Station
  pub station_b : Station
  pub here_a : slice_get parts.stations.items first ≡ Some station_a
  pub here_b : slice_get parts.stations.items second ≡ Some station_b
  pub room : WorldHasRoom (both (for_call station_a.system) (for_call station_b.system)) parts.net

-- a port of the system at a place
pub record IsPortAt (place port : ℕ) (parts : WorldParts) : Type 0 where
  pub station : Station
  pub here : slice_get parts.stations.items place ≡ Some station
  pub port_of : HasPortNumber station.system port

-- the system at a place can be given this input now
abbrev pub IsTimelyAt : Input → ℕ → WorldParts → Type 0
IsTimelyAt input place parts = (station : Station) → slice_get parts.stations.items place ≡ Some station
    → IsTimely station.system parts.now input

-- The live system at a place took a step, and what it sends stands in the outbox. Nothing else has changed.
pub record HasStepped (place : ℕ) (input : Input) (answer : Answer) (parts stage_after : WorldParts) : Type 0 where
  pub station : Station
  pub after : SystemState
  pub here : slice_get parts.stations.items place ≡ Some station
  pub live : station.live ≡ true
  pub steps : Steps input parts.now station.system after stage_after.outbox.items answer
  pub stations : stage_after.stations.items ≡ slice_set parts.stations.items place (in_state after station)
  pub net : stage_after.net ≡ parts.net
  pub now : stage_after.now ≡ parts.now
  pub last_change : stage_after.last_change ≡ parts.last_change

-- what a call left: each timer of the system, and what stands in the outbox
abbrev pub for_left : SystemState → List Sending → Need
for_left s sends = both (for_timers (4 * length s.ports + 3)) (for_sends sends)

-- it can be carried out
pub record CarriesOut (place : ℕ) (parts : WorldParts) : Type 0 where
  pub station : Station
  pub here : slice_get parts.stations.items place ≡ Some station
  pub net : IsNet parts.net
  pub clocks : map clock_at_place parts.stations.items ≡ parts.net.directory.clocks
  pub systems : length parts.stations.items ≤ parts.net.traffic.systems
  pub moment : IsMoment parts.now
  pub few : length station.system.ports ≤ MOST_PORTS
  pub room : WorldHasRoom (for_left station.system parts.outbox.items) parts.net

-- a call uses no more room than a call can
abbrev pub CallUses : ℕ → WorldParts → Between → Type 0
CallUses place parts net = (station : Station) → slice_get parts.stations.items place ≡ Some station
    → Uses (for_call station.system) parts.net net

-- A live system was called and answered so, and what it left was carried out: the fate drew once for each send that a
-- link carries.
pub record Called {F : Type 0} (answers : Bounds → ℕ → F → Option ℕ → F → Type 0) (place : ℕ) (input : Input)
    (answer : Answer)
    (fate fate_after : F) (parts stage_after : WorldParts) : Type 0 where
  pub draws : List Draw
  pub drawn : Draws answers fate draws fate_after
  pub calls : Calls place input (world_of parts) draws answer (world_of stage_after)

-- the system of an item that is a timer is there
abbrev pub IsPlacedItem : Item → WorldParts → Type 0
IsPlacedItem (Arrival link direction) parts = ⊤
IsPlacedItem (Expiry place timer) parts = place < length parts.stations.items
