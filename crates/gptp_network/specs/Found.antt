-- Which members of a network have a clock or a port.
use Rattle.std.specs.Prelude.{ℕ, suc, Bool, false, ◌==◌, ◌||◌, if◌then◌else◌, List, [], ◌∷◌, Option, Some, None}
use Rattle.gptp_vector.specs.declared.port.PortId.{PortId}
use Rattle.gptp_roles.specs.Selection.{clock_of}
use Rattle.gptp_scenario.specs.Network.{same_port}
use Rattle.gptp_scenario.specs.declared.network.SystemSpec.{SystemSpec}
use Rattle.gptp_scenario.specs.declared.network.LinkSpec.{LinkSpec}

-- how many ports a system has, where it has this clock
abbrev pub ports_by : ℕ → ℕ → ℕ → Option ℕ
ports_by clock identity ports = if clock_of identity == clock then Some ports else None

abbrev pub ports_if : ℕ → SystemSpec → Option ℕ
ports_if clock m = ports_by clock m.identity m.ports

-- the number of the first system that has a clock, and of its ports, where the first of these systems has this number
abbrev pub system_from : ℕ → List SystemSpec → ℕ → Option (ℕ × ℕ)
system_from number [] clock = None
system_from number (m ∷ ms) clock =
    if clock_of m.identity == clock then Some (number, m.ports) else system_from (suc number) ms clock

-- a link, if there is one, is at a port
abbrev pub is_either : PortId → PortId → PortId → Bool
is_either port a b = same_port a port || same_port b port

abbrev pub joins : PortId → Option LinkSpec → Bool
joins port None = false
joins port (Some w) = is_either port w.a w.b

-- the number of the first link that is at a port, where the first of these links has this number
abbrev pub link_from : ℕ → List LinkSpec → PortId → Option ℕ
link_from number [] port = None
link_from number (w ∷ ws) port = if joins port (Some w) then Some number else link_from (suc number) ws port
