-- A link of a world that goes down or comes up, whose ends are told.
use Rattle.std.specs.Prelude.{◌≡◌, ◌≢◌, ℕ, Bool, true, false, List, Option, Some, slice_get}
use Rattle.gptp_links.specs.declared.bounds.Bounds.{Bounds}
use Rattle.gptp_links.specs.Fate.{Draw, Draws}
use Rattle.gptp_system.specs.Input.{Input, PortUp, PortDown}
use Rattle.gptp_vector.specs.declared.port.PortId.{PortId}
use Rattle.gptp_world.specs.declared.world_parts.WorldParts.{WorldParts}
use Rattle.gptp_world.specs.declared.telling.End.{End}
use Rattle.gptp_model.specs.Changing.{CallsIfLive, ComesUpIf, GoesDownIf}
use Rattle.gptp_world.specs.Directory.{DirectoryState, Join}
use Rattle.gptp_world.specs.WorldParts.{world_of, HasRoomToCallBoth}
use Rattle.gptp_model.specs.World.{Channel}

-- ---- the ends of a link

-- the system at the place of this end has the clock of a port, and the end has its number
pub record IsEndAt (port : PortId) (end : End) (directory : DirectoryState) : Type 0 where
  pub clock : slice_get directory.clocks end.place ≡ Some port.clock
  pub number : end.port ≡ port.port

-- these are the ends of a link, its end a first: ports of two systems
pub record AreEndsOf (link : ℕ) (a b : End) (directory : DirectoryState) : Type 0 where
  pub join : Join
  pub here : slice_get directory.joins link ≡ Some join
  pub at_a : IsEndAt join.a a directory
  pub at_b : IsEndAt join.b b directory
  pub apart : a.place ≢ b.place

-- there is room for one call of each of the systems at the ends of a link
pub record HasRoomAtEnds (link : ℕ) (parts : WorldParts) : Type 0 where
  pub a : End
  pub b : End
  pub ends : AreEndsOf link a b parts.net.directory
  pub room : HasRoomToCallBoth a.place b.place parts

-- ---- what they are told

-- of a link that comes up, or goes down
abbrev pub link_input : Bool → ℕ → Input
link_input true p = PortUp p
link_input false p = PortDown p

-- A live system was given an input, and what its call left was carried out; one that has failed was not.
pub record WasTold {F : Type 0} (answers : Bounds → ℕ → F → Option ℕ → F → Type 0) (place : ℕ) (input : Input)
    (fate fate_after : F) (parts stage_after : WorldParts) : Type 0 where
  pub draws : List Draw
  pub drawn : Draws answers fate draws fate_after
  pub calls : CallsIfLive place input (world_of parts) draws (world_of stage_after)

-- a link went down: what was in flight was lost, and its ends were told
pub record GoneDown {F : Type 0} (answers : Bounds → ℕ → F → Option ℕ → F → Type 0) (link : ℕ) (fate fate_after : F)
    (parts stage_after : WorldParts) : Type 0 where
  pub channel : Channel
  pub here : slice_get (world_of parts).net.channels link ≡ Some channel
  pub draws : List Draw
  pub drawn : Draws answers fate draws fate_after
  pub down : GoesDownIf true link channel (world_of parts) draws (world_of stage_after)

-- a link came up, and its ends were told
pub record ComeUp {F : Type 0} (answers : Bounds → ℕ → F → Option ℕ → F → Type 0) (link : ℕ) (fate fate_after : F)
    (parts stage_after : WorldParts) : Type 0 where
  pub channel : Channel
  pub here : slice_get (world_of parts).net.channels link ≡ Some channel
  pub draws : List Draw
  pub drawn : Draws answers fate draws fate_after
  pub up : ComesUpIf false link channel (world_of parts) draws (world_of stage_after)
