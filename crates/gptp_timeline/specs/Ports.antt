-- What is shown of the ports of a system (profile).
use Rattle.std.specs.Prelude.{ℕ, ◌==◌, ◌&&◌, Bool, true, false, not, List, [], ◌∷◌, length, map}
use Rattle.std.specs.List.{range_with_len}
use Rattle.gptp_roles.specs.declared.role.Role.{Role}
use Rattle.gptp_roles.specs.declared.role.Role.TheVariants.{Disabled, Master, Slave, Passive}
use Rattle.gptp_system.specs.Start.{role_at}
use Rattle.gptp_system.specs.State.{SystemState, is_capable_at}
use Rattle.gptp_timeline.specs.declared.ports.ShownPort.{ShownPort}

-- the role of a port, and whether it is asCapable
abbrev pub shown_port : SystemState → ℕ → ShownPort
shown_port s port = record { role = role_at s port; capable = is_capable_at s port }

-- what all ports show, by rising number
abbrev pub shown_ports : SystemState → List ShownPort
shown_ports s = map (shown_port s) (range_with_len 1 (length s.ports))

-- roles by number, so that they can be compared
abbrev pub role_number : Role → ℕ
role_number Disabled = 0
role_number Master = 1
role_number Slave = 2
role_number Passive = 3

abbrev pub same_bool : Bool → Bool → Bool
same_bool true b = b
same_bool false b = not b

abbrev pub shows_same_port : ShownPort → ShownPort → Bool
shows_same_port p q = role_number p.role == role_number q.role && same_bool p.capable q.capable

abbrev pub same_ports : List ShownPort → List ShownPort → Bool
same_ports [] [] = true
same_ports [] (q ∷ qs) = false
same_ports (p ∷ ps) [] = false
same_ports (p ∷ ps) (q ∷ qs) = shows_same_port p q && same_ports ps qs
