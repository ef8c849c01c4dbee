-- Worlds in which all that is held and in flight is sound.
use Rattle.std.specs.Prelude.{◌≡◌, ⊤, ◌≤◌, ◌+◌, ◌*◌, ◌^◌, ◌%◌, ℕ, false}
use Rattle.gptp_vector.specs.declared.port.PortId.{PortId}
use Rattle.gptp_scenario.specs.declared.change.Change.{Change}
use Rattle.gptp_scenario.specs.declared.change.Change.TheVariants.{LinkDown, LinkUp, LinkSet, Fail, Recover, Priority1, Inject}
use Rattle.gptp_model.specs.declared.station.Station.{Station}
use Rattle.gptp_model.specs.Changing.{IsChannel, IsStation}
use Rattle.gptp_model.specs.World.{Channel, WorldState, port_id}
use Rattle.gptp_bmca_machine.specs.SoundEverywhere.{IsSoundEverywhere}
use Rattle.gptp_invariants.specs.WorldStanding.{snapshot_of}
use Rattle.gptp_invariants.specs.ChoiceView.{says_announce, view}

-- Each Announce in flight, and each that a live system holds, comes from a live system, and names a root worse than the
-- best of that, or is wholly clean.
abbrev pub IsSoundWorld : WorldState → Type 0
IsSoundWorld w = IsSoundEverywhere says_announce (snapshot_of w) (view w)

-- a link at the port is down
abbrev pub IsDownAt : PortId → WorldState → Type 0
IsDownAt port w = (place : ℕ) (channel : Channel) → IsChannel port place w.net channel → channel.up ≡ false

-- The change takes nothing away: no link goes down, no system fails, none gets a worse identity, and no octets are put
-- onto a link that is up.
abbrev pub IsGain : Change → WorldState → Type 0
IsGain (LinkDown number port) w = IsDownAt (port_id number port) w
IsGain (LinkUp number port) w = ⊤
IsGain (LinkSet number port min max loss) w = ⊤
IsGain (Fail number) w = (place : ℕ) (station : Station) → IsStation number place w station → station.live ≡ false
IsGain (Recover number) w = ⊤
IsGain (Priority1 number value) w = (place : ℕ) (station : Station) → IsStation number place w station
    → value * 2 ^ 104 + station.system.identity % 2 ^ 104 ≤ station.system.identity
IsGain (Inject number port octets) w = IsDownAt (port_id number port) w
