-- Systems of the code's world that start, fail, or get another priority1.
use Rattle.std.specs.Prelude.{◌≡◌, ◌≤◌, ◌<◌, ◌+◌, ◌*◌, ℕ, true, List, Option, Some, length, map, slice_get, slice_set}
use Rattle.std.specs.List.{filter}
use Rattle.gptp_links.specs.declared.bounds.Bounds.{Bounds}
use Rattle.gptp_links.specs.Fate.{Draw, Draws}
use Rattle.gptp_system.specs.Input.{PortUp, Priority}
use Rattle.gptp_setup.specs.declared.limits.TheConstants.{MOST_PORTS}
use Rattle.gptp_setup.specs.Intervals.{AreParams}
use Rattle.gptp_system.specs.State.{SystemState, clock}
use Rattle.gptp_world.specs.declared.world_parts.WorldParts.{WorldParts}
use Rattle.gptp_model.specs.declared.station.Station.{Station}
use Rattle.gptp_model.specs.Act.{all_timers}
use Rattle.gptp_model.specs.Changing.{is_up_at, with_setup, with_station, CallsAll, CallsIfLive, Starts}
use Rattle.gptp_world.specs.Net.{between, OnlyEntries}
use Rattle.gptp_world.specs.Room.{both, for_call, for_timers, repeated, WorldHasRoom, Need}
use Rattle.gptp_model.specs.Sound.{IsItsSetup}
use Rattle.gptp_world.specs.WorldParts.{world_of}

-- ---- one stands for the system at a place

-- it stands there now, and nothing else has changed
pub record StandsReplaced (place : ℕ) (new : Station) (parts stage_after : WorldParts) : Type 0 where
  pub stations : stage_after.stations.items ≡ slice_set parts.stations.items place new
  pub net : stage_after.net ≡ parts.net
  pub now : stage_after.now ≡ parts.now
  pub last_change : stage_after.last_change ≡ parts.last_change
  pub outbox : stage_after.outbox ≡ parts.outbox

-- ---- all timers of a system

-- each timer of a system is set
abbrev pub for_all_timers : SystemState → Need
for_all_timers s = for_timers (4 * length s.ports + 3)

-- those of the system at a place can be set; where it has failed that takes no room
pub record CanSetTimers (place : ℕ) (parts : WorldParts) : Type 0 where
  pub station : Station
  pub here : slice_get parts.stations.items place ≡ Some station
  pub known : place < parts.net.traffic.systems
  pub few : length station.system.ports ≤ MOST_PORTS
  pub room : station.live ≡ true → 4 * length station.system.ports + 3 ≤ parts.net.traffic.room

-- they were set, and nothing else has changed
pub record HasSetTimers (place : ℕ) (parts stage_after : WorldParts) : Type 0 where
  pub station : Station
  pub here : slice_get parts.stations.items place ≡ Some station
  pub only : OnlyEntries (4 * length station.system.ports + 3) parts.net stage_after.net
  pub timers : between stage_after.net ≡ all_timers place station (between parts.net)
  pub stations : stage_after.stations ≡ parts.stations
  pub now : stage_after.now ≡ parts.now
  pub last_change : stage_after.last_change ≡ parts.last_change
  pub outbox : stage_after.outbox ≡ parts.outbox

-- ---- another priority1

-- The system at a place has another priority1 from now on, and where it is live it was told.
pub record Prioritized {F : Type 0} (answers : Bounds → ℕ → F → Option ℕ → F → Type 0) (place value : ℕ)
    (fate fate_after : F)
    (parts stage_after : WorldParts) : Type 0 where
  pub station : Station
  pub here : slice_get parts.stations.items place ≡ Some station
  pub draws : List Draw
  pub drawn : Draws answers fate draws fate_after
  pub calls : CallsIfLive place (Priority value) (with_station place (with_setup value station) (world_of parts)) draws
      (world_of stage_after)

-- ---- a start

-- what the system at a place starts with keeps the limits, and is its own
pub record CanStart (place : ℕ) (parts : WorldParts) : Type 0 where
  pub station : Station
  pub here : slice_get parts.stations.items place ≡ Some station
  pub setup : IsItsSetup station
  pub params : AreParams station.setup.params

-- Of these ports of the system at a place each comes up whose link is up, one after another.
pub record CameUp {F : Type 0} (answers : Bounds → ℕ → F → Option ℕ → F → Type 0) (place : ℕ) (ports : List ℕ)
    (fate fate_after : F)
    (parts stage_after : WorldParts) : Type 0 where
  pub station : Station
  pub here : slice_get parts.stations.items place ≡ Some station
  pub draws : List Draw
  pub drawn : Draws answers fate draws fate_after
  pub calls : CallsAll place
      (map PortUp (filter (λ p. is_up_at (world_of parts).net.channels (clock station.system) p) ports))
      (world_of parts) draws (world_of stage_after)

-- there is room for one call of the system at a place for each of its ports
pub record HasRoomForPorts (place : ℕ) (parts : WorldParts) : Type 0 where
  pub station : Station
  pub here : slice_get parts.stations.items place ≡ Some station
  pub room : WorldHasRoom (repeated (length station.system.ports) (for_call station.system)) parts.net

-- a start: all timers are set, and then each port may come up
abbrev pub for_start : SystemState → Need
for_start s = both (for_all_timers s) (repeated (length s.ports) (for_call s))

-- there is room for a start of the system at a place
pub record HasRoomToStart (place : ℕ) (parts : WorldParts) : Type 0 where
  pub station : Station
  pub here : slice_get parts.stations.items place ≡ Some station
  pub room : WorldHasRoom (for_start station.system) parts.net

-- the system at a place has started
pub record Started {F : Type 0} (answers : Bounds → ℕ → F → Option ℕ → F → Type 0) (place : ℕ) (fate fate_after : F)
    (parts stage_after : WorldParts) : Type 0 where
  pub draws : List Draw
  pub drawn : Draws answers fate draws fate_after
  pub starts : Starts place (world_of parts) draws (world_of stage_after)
