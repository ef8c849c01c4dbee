-- Acts that ask for no memory in the world that they find.
use Rattle.std.specs.Prelude.{◌≡◌, ℕ, ⊤, Bool, true, false}
use Rattle.gptp_model.specs.declared.station.Station.{Station}
use Rattle.gptp_model.specs.Changing.{IsChannel, IsStation}
use Rattle.gptp_model.specs.World.{Channel, WorldState, port_id}
use Rattle.gptp_scenario.specs.declared.change.Act.{Act}
use Rattle.gptp_scenario.specs.declared.change.Act.TheVariants.{Change as Changing}
use Rattle.gptp_scenario.specs.declared.change.Change.{Change}
use Rattle.gptp_scenario.specs.declared.change.Change.TheVariants.{LinkDown, LinkUp, LinkSet, Fail, Recover, Inject}
use Rattle.gptp_vector.specs.declared.port.PortId.{PortId}

-- the link at a port is up already, or down
abbrev pub IsAlready : Bool → PortId → WorldState → Type 0
IsAlready up port w = (place : ℕ) (channel : Channel) → IsChannel port place w.net channel → channel.up ≡ up

-- the system of a clock lives already
abbrev pub LivesAlready : ℕ → WorldState → Type 0
LivesAlready number w = (place : ℕ) (station : Station) → IsStation number place w station → station.live ≡ true

-- A failure asks for none, nor do other bounds of a link. Nor does what changes nothing: a link that goes down and is
-- down, or comes up and is up; a system that starts again and lives; and an injection where the link is down.
abbrev pub ChangesWithoutMemory : Change → WorldState → Type 0
ChangesWithoutMemory (LinkDown number port) w = IsAlready false (port_id number port) w
ChangesWithoutMemory (LinkUp number port) w = IsAlready true (port_id number port) w
ChangesWithoutMemory (LinkSet number port min max loss) w = ⊤
ChangesWithoutMemory (Fail number) w = ⊤
ChangesWithoutMemory (Recover number) w = LivesAlready number w
ChangesWithoutMemory (Inject number port octets) w = IsAlready false (port_id number port) w
ChangesWithoutMemory change w = ⊥

-- acts that are no changes always ask for some
abbrev pub AsksForNoMemory : Act → WorldState → Type 0
AsksForNoMemory (Changing change) w = ChangesWithoutMemory change w
AsksForNoMemory act w = ⊥
