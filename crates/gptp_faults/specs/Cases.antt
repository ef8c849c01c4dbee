-- Cases: what fails and comes back (profile).
use Rattle.std.specs.Prelude.{◌≡◌, ℕ, Bool, true, false, if◌then◌else◌, List, [], ◌++◌, map, filter_map, Option, Some, None}
use Rattle.gptp_graph.specs.Snapshot.{Link, PortIdentity, Snapshot}
use Rattle.gptp_network.specs.Document.{DocumentState}
use Rattle.gptp_network.specs.Snapshot.{IsSnapshot}
use Rattle.gptp_scenario.specs.Calm.{last_change}
use Rattle.gptp_scenario.specs.Change.{live_after}
use Rattle.gptp_roles.specs.Selection.{clock_of}
use Rattle.gptp_vector.specs.declared.port.PortId.{PortId}
use Rattle.gptp_faults.specs.declared.cases.Case.{Case}
use Rattle.gptp_faults.specs.declared.cases.Case.TheVariants as cases
use Rattle.gptp_faults.specs.declared.options.Only.{Only}
use Rattle.gptp_faults.specs.declared.options.Only.TheVariants as only

-- a link, by its ends
abbrev pub case_ports : PortIdentity → PortId
case_ports p = record { clock = p.clock; port = p.port }

abbrev pub link_case : Link → Case
link_case l = cases.Link (case_ports l.a) (case_ports l.b)

-- the system that fails
abbrev pub failing_system : Case → Option ℕ
failing_system (cases.Link a b) = None
failing_system (cases.System clock) = Some clock
failing_system (cases.Power clock) = Some clock

-- which kinds there are
abbrev pub has_links : Option Only → Bool
has_links None = true
has_links (Some only.Links) = true
has_links (Some kind) = false

abbrev pub has_systems : Option Only → Bool
has_systems None = true
has_systems (Some only.Systems) = true
has_systems (Some kind) = false

-- power beside another kind, where it is asked for
abbrev pub has_power : Option Only → Bool → Bool
has_power (Some only.Power) asked = true
has_power kind asked = asked

-- the links in use
abbrev pub link_cases : Option Only → Snapshot → List Case
link_cases kind g = if has_links kind then map link_case g.links else []

-- the systems that live after all events
abbrev pub live_clock : ℕ × ℕ → ℕ
live_clock live = clock_of live.0

abbrev pub live_clocks : DocumentState → List ℕ
live_clocks d = map live_clock (filter_map (live_after d.events) d.network.systems)

-- each of them hangs, and each loses its power
abbrev pub system_cases : Option Only → DocumentState → List Case
system_cases kind d = if has_systems kind then map cases.System (live_clocks d) else []

abbrev pub power_cases : Option Only → Bool → DocumentState → List Case
power_cases kind asked d = if has_power kind asked then map cases.Power (live_clocks d) else []

-- The links in use after all events, then the systems that live then, and once more these, each in the order of the
-- document.
pub record AreCases (d : DocumentState) (kind : Option Only) (power : Bool) (all : List Case) : Type 0 where
  pub snapshot : Snapshot
  pub stands : IsSnapshot d (last_change d.events) snapshot
  pub are : all ≡ (link_cases kind snapshot ++ system_cases kind d) ++ power_cases kind power d
