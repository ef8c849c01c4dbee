-- Changes of a network that change nothing, and what is claimed of a world since news through them.
use Rattle.std.specs.Prelude.{◌≡◌, ◌⊎◌, ◌+◌, ◌*◌, ◌^◌, ◌%◌, ℕ, true, false, List, Option}
use Rattle.gptp_graph.specs.PathBound.{BoundsPaths}
use Rattle.gptp_links.specs.declared.bounds.Bounds.{Bounds}
use Rattle.gptp_setup.specs.SettlingParams.{SettlingParams}
use Rattle.gptp_scenario.specs.declared.change.Act.TheVariants.{Change as Changing}
use Rattle.gptp_scenario.specs.declared.change.Change.{Change}
use Rattle.gptp_scenario.specs.declared.change.Change.TheVariants.{LinkDown, LinkUp, LinkSet, Fail, Recover, Priority1, Inject}
use Rattle.gptp_vector.specs.declared.port.PortId.{PortId}
use Rattle.gptp_model.specs.Acts.{at as at_time}
use Rattle.gptp_model.specs.Advancing.{Advanced, Told}
use Rattle.gptp_model.specs.Changing.{IsChannel, IsStation}
use Rattle.gptp_model.specs.Course.{WasDone}
use Rattle.gptp_model.specs.declared.done.Done.{Done}
use Rattle.gptp_model.specs.declared.station.Station.{Station}
use Rattle.gptp_model.specs.World.{Channel, WorldState, port_id}
use Rattle.gptp_invariants.specs.WorldSettlingInvariant.{KeepsAll}
use Rattle.gptp_invariants.specs.WorldEncodableLaws.{SetsAnOctet}
use Rattle.gptp_invariants.specs.WorldNewsCourse.{HasSettledBy}
use Rattle.gptp_invariants.specs.WorldNews.{IsNews}
use Rattle.gptp_invariants.specs.WorldSound.{IsDownAt}
use Rattle.gptp_invariants.specs.WorldStanding.{snapshot_of}
use Rattle.gptp_theorem.specs.Headline.{WorldIsCalm, IsSettled}

-- a link at the port is up
abbrev pub IsUpAt : PortId → WorldState → Type 0
IsUpAt port w = (place : ℕ) (channel : Channel) → IsChannel port place w.net channel → channel.up ≡ true

-- the system of this clock has failed, or lives
abbrev pub HasFailed : ℕ → WorldState → Type 0
HasFailed number w = (place : ℕ) (station : Station) → IsStation number place w station → station.live ≡ false

abbrev pub Lives : ℕ → WorldState → Type 0
Lives number w = (place : ℕ) (station : Station) → IsStation number place w station → station.live ≡ true

-- the system of this clock has failed, or has the identity that it gets by a priority1 of this value
abbrev pub KeepsPriority : ℕ → ℕ → WorldState → Type 0
KeepsPriority number value w = (place : ℕ) (station : Station) → IsStation number place w station
    → (station.live ≡ false)
    ⊎ (value * 2 ^ 104 + station.system.identity % 2 ^ 104 ≡ station.system.identity)

-- The change makes nothing of what stands: a link goes down that is down, or comes up that is up; a system fails that
-- has failed, or recovers that lives; a priority1 is that of a failed system, or the one that its system has; octets
-- are put onto a link that is down. No other change is counted here.
abbrev pub IsIdle : Change → WorldState → Type 0
IsIdle (LinkDown number port) w = IsDownAt (port_id number port) w
IsIdle (LinkUp number port) w = IsUpAt (port_id number port) w
IsIdle (LinkSet number port min max loss) w = ⊥
IsIdle (Fail number) w = HasFailed number w
IsIdle (Recover number) w = Lives number w
IsIdle (Priority1 number value) w = KeepsPriority number value w
IsIdle (Inject number port octets) w = IsDownAt (port_id number port) w

-- what is claimed of a world since news stays as it was, with the start that it had
abbrev pub IdlesStayNews : {F : Type 0} → (Bounds → ℕ → F → Option ℕ → F → Type 0) → Type 0
IdlesStayNews {F} answers = (p : SettlingParams) (start time : ℕ) (change : Change) (fate fate_after : F)
    (w w' : WorldState)
    (done : Done)
    → KeepsAll p w → IsNews p start w → IsIdle change (at_time time w) → SetsAnOctet (Changing change)
    → WasDone answers (record { at = time; act = Changing change }) fate fate_after w w' done
    → IsNews p start w'

-- A world that has settled is settled at once after a change that makes nothing of what stands, and while it goes on by
-- itself.
abbrev pub IdlesStaySettled : {F : Type 0} → (Bounds → ℕ → F → Option ℕ → F → Type 0) → Type 0
IdlesStaySettled {F} answers = (p : SettlingParams) (start time until m : ℕ) (change : Change) (told : List Told)
    (fate drawn fate_after : F) (w between w' : WorldState) (done : Done)
    → KeepsAll p w → IsNews p start w → IsIdle change (at_time time w) → SetsAnOctet (Changing change)
    → WasDone answers (record { at = time; act = Changing change }) fate drawn w between done
    → Advanced answers until told drawn fate_after between w'
    → WorldIsCalm p w' → BoundsPaths (snapshot_of w') m → HasSettledBy p m start w'
    → IsSettled w'
