-- What is shown of a system, and when it expects time (profile).
use Rattle.std.specs.Prelude.{ℕ, ◌==◌, ◌&&◌, Bool, false, if◌then◌else◌, List, [], ◌∷◌, Option, Some, None, is_some, nat_eq}
use Rattle.std.specs.Option.{option_eq, option_map, option_map_or}
use Rattle.gptp_model.specs.declared.station.Station.{Station}
use Rattle.gptp_model.specs.World.{WorldState}
use Rattle.gptp_system.specs.State.{SystemState, clock}
use Rattle.gptp_accuracy.specs.TimeErrors.{root_is_capable}
use Rattle.gptp_timeline.specs.Ports.{same_ports, shown_ports}
use Rattle.gptp_timeline.specs.declared.shown.Shown.{Shown}

-- The root that a live system follows, over how many steps and over which Slave port, whether its offset is known, and
-- its ports.
abbrev pub shown_of : SystemState → Shown
shown_of s = record {
  root = s.root;
  steps = s.steps;
  slave = s.slave;
  known = is_some s.offset;
  ports = shown_ports s;
}

-- the live system with a clock
abbrev pub live_among : ℕ → List Station → Option SystemState
live_among name [] = None
live_among name (station ∷ stations) =
    if clock station.system == name then (if station.live then Some station.system else None)
    else live_among name stations

abbrev pub live_system : ℕ → WorldState → Option SystemState
live_system name w = live_among name w.stations

-- what is shown of it; nothing where it has failed
abbrev pub shown : ℕ → WorldState → Option Shown
shown name w = option_map shown_of (live_system name w)

-- ---- what is another

abbrev pub same_slave : Option ℕ → Option ℕ → Bool
same_slave = option_eq nat_eq

-- what is shown of two systems has the same root, steps and Slave port
abbrev pub same_way : Shown → Shown → Bool
same_way a b = a.root == b.root && (a.steps == b.steps && same_slave a.slave b.slave)

-- a system is as before: both failed, or both live with the same root, steps and Slave port
abbrev pub same_choice : Option Shown → Option Shown → Bool
same_choice = option_eq same_way

-- what is shown of two systems has the same root, steps and Slave port, and the same ports
abbrev pub same_way_and_roles : Shown → Shown → Bool
same_way_and_roles a b = same_way a b && same_ports a.ports b.ports

abbrev pub same_roles : Option Shown → Option Shown → Bool
same_roles = option_eq same_way_and_roles

-- it lives and its offset is known
abbrev pub is_known : Option Shown → Bool
is_known shown = option_map_or (λ (s : Shown). s.known) shown false

-- It lives and expects time: it has a Slave port, and its root can be a grandmaster.
abbrev pub is_expecting : Option Shown → Bool
is_expecting shown = option_map_or (λ (s : Shown). is_some s.slave && root_is_capable s.root) shown false
