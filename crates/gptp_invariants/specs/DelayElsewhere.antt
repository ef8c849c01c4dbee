-- Changes of a network that leave a link alone.
use Rattle.std.specs.Prelude.{◌≢◌, ⊤, ℕ}
use Rattle.gptp_vector.specs.declared.port.PortId.{PortId}
use Rattle.gptp_scenario.specs.declared.change.Change.{Change}
use Rattle.gptp_scenario.specs.declared.change.Change.TheVariants.{LinkDown, LinkUp, LinkSet, Fail, Recover, Priority1, Inject}
use Rattle.gptp_model.specs.declared.station.Station.{Station}
use Rattle.gptp_model.specs.Changing.{IsChannel, IsStation}
use Rattle.gptp_model.specs.World.{Channel, WorldState, port_id}
use Rattle.gptp_invariants.specs.DelayLinkView.{LinkPlace}

-- another link is at the port
abbrev pub IsOtherLink : LinkPlace → PortId → WorldState → Type 0
IsOtherLink at port w = (place : ℕ) (channel : Channel) → IsChannel port place w.net channel → place ≢ at.link

-- the system of this clock is at neither end of the link
abbrev pub IsOtherSystem : LinkPlace → ℕ → WorldState → Type 0
IsOtherSystem at number w = (place : ℕ) (station : Station) → IsStation number place w station
    → (place ≢ at.asking) × (place ≢ at.answering)

-- The change takes away nothing of a link that is up between two live systems: the link doesn't go down, isn't set and
-- isn't given octets, and no end of it fails. A link that comes up, a system that recovers and a new priority1 never do
-- that.
abbrev pub IsElsewhere : LinkPlace → Change → WorldState → Type 0
IsElsewhere at (LinkDown number port) w = IsOtherLink at (port_id number port) w
IsElsewhere at (LinkUp number port) w = ⊤
IsElsewhere at (LinkSet number port min max loss) w = IsOtherLink at (port_id number port) w
IsElsewhere at (Fail number) w = IsOtherSystem at number w
IsElsewhere at (Recover number) w = ⊤
IsElsewhere at (Priority1 number value) w = ⊤
IsElsewhere at (Inject number port octets) w = IsOtherLink at (port_id number port) w
