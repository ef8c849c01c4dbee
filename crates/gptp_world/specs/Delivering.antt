-- What the code makes of a frame that arrives.
use Rattle.std.specs.Prelude.{◌≡◌, ℕ, true, List, Option, Some, slice_get}
use Rattle.gptp_links.specs.declared.bounds.Bounds.{Bounds}
use Rattle.gptp_links.specs.Fate.{Draw, Draws}
use Rattle.gptp_system.specs.declared.answer.Answer.{Answer}
use Rattle.gptp_system.specs.Steps.{IsUp}
use Rattle.gptp_vector.specs.declared.port.PortId.{PortId}
use Rattle.gptp_traffic.specs.declared.joined_link.Lane.{Lane}
use Rattle.gptp_world.specs.declared.world_parts.WorldParts.{WorldParts}
use Rattle.gptp_model.specs.declared.station.Station.{Station}
use Rattle.gptp_model.specs.Act.{Delivers, Hears}
use Rattle.gptp_world.specs.Directory.{direction_end, Join}
use Rattle.gptp_world.specs.WorldParts.{world_of, HasRoomToCall}

-- where the system at a place is live, the link of this port is up
abbrev pub IsHeardAt : ℕ → ℕ → WorldParts → Type 0
IsHeardAt place port parts = (station : Station) → slice_get parts.stations.items place ≡ Some station
    → station.live ≡ true
    → IsUp station.system port

-- a port hears a frame, or the system has failed
pub record HeardAt {F : Type 0} (answers : Bounds → ℕ → F → Option ℕ → F → Type 0) (place port : ℕ) (octets : List ℕ)
    (answer : Option Answer) (fate fate_after : F) (parts stage_after : WorldParts) : Type 0 where
  pub draws : List Draw
  pub drawn : Draws answers fate draws fate_after
  pub hears : Hears place port octets (world_of parts) draws answer (world_of stage_after)

-- where the system at which a lane ends is live, the link of its port there is up
abbrev pub MayHear : Lane → WorldParts → Type 0
MayHear lane parts = (join : Join) (place : ℕ) → slice_get parts.net.directory.joins lane.link ≡ Some join
    → slice_get parts.net.directory.clocks place ≡ Some (direction_end lane.direction join).clock
    → IsHeardAt place (direction_end lane.direction join).port parts

-- there is room for whatever the system there can leave when it hears a frame
abbrev pub HasRoomToHear : Lane → WorldParts → Type 0
HasRoomToHear lane parts = (join : Join) (place : ℕ) → slice_get parts.net.directory.joins lane.link ≡ Some join
    → slice_get parts.net.directory.clocks place ≡ Some (direction_end lane.direction join).clock
    → HasRoomToCall place parts

-- a frame reached a port, and was answered there so
pub record Delivered {F : Type 0} (answers : Bounds → ℕ → F → Option ℕ → F → Type 0) (lane : Lane) (at : PortId)
    (answer : Option Answer) (octets : List ℕ) (fate fate_after : F) (parts stage_after : WorldParts) : Type 0 where
  pub join : Join
  pub there : slice_get parts.net.directory.joins lane.link ≡ Some join
  pub is_end : at ≡ direction_end lane.direction join
  pub draws : List Draw
  pub drawn : Draws answers fate draws fate_after
  pub delivers : Delivers lane.link lane.direction octets (world_of parts) draws answer (world_of stage_after)
