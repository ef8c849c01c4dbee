-- Certificates as gptp_graph has them (profile).
use Rattle.std.specs.Prelude.{◌≡◌, ◌⊎◌, ℕ, true, List, map}
use Rattle.std.specs.Option.{option_map}
use Rattle.gptp_graph.specs.Labelling.{PortLine, IsBare, line_clocks, port_numbers}
use Rattle.gptp_graph.specs.Labelling as graphs
use Rattle.gptp_lists.specs.Members.{In}
use Rattle.gptp_graph.specs.Order.{IsRising}
use Rattle.gptp_graph.specs.Parent.{ParentLink}
use Rattle.gptp_graph.specs.SettledRole as settled
use Rattle.gptp_roles.specs.declared.role.Role.{Role}
use Rattle.gptp_roles.specs.declared.role.Role.TheVariants.{Disabled, Master, Slave, Passive}
use Rattle.gptp_vector.specs.declared.port.PortId.{PortId}
use Rattle.gptp_certificate_text.specs.declared.certificate.SystemLine.{SystemLine}

abbrev pub role_of : Role → settled.Role
role_of Disabled = settled.Disabled
role_of Master = settled.Master
role_of Slave = settled.Slave
role_of Passive = settled.Passive

-- the own port, and the port at the other end of its link
abbrev pub parent_of : ℕ × PortId → ParentLink
parent_of (own_port, there) = record { own_port = own_port; clock = there.clock; port = there.port }

abbrev pub port_line_of : ℕ × Role → PortLine
port_line_of (number, role) = record { number = number; role = role_of role }

abbrev pub line_of : SystemLine → graphs.SystemLine
line_of line = record {
  clock = line.clock;
  root = line.root;
  steps = line.steps;
  far = line.far;
  parent = option_map parent_of line.parent;
  ports = map port_line_of line.ports.items;
}

abbrev pub lines_of : List SystemLine → List graphs.SystemLine
lines_of = map line_of

-- the lines stand by rising clock, and the port lines of each by rising number
pub record LinesAreInOrder (lines : List graphs.SystemLine) : Type 0 where
  pub clocks : IsRising (line_clocks lines)
  pub ports : (line : graphs.SystemLine) → In line lines → IsRising (port_numbers line)

-- there are two versions
abbrev pub IsVersion : ℕ → Type 0
IsVersion version = (version ≡ 1) ⊎ (version ≡ 2)

-- a certificate, as contracts see it
pub record CertificateContent : Type 0 where
  pub version : ℕ
  pub lines : List graphs.SystemLine

-- what holds of every certificate: its lines stand in order, far ones are bare, and stand in version 2 alone
pub record IsCertificate (version : ℕ) (lines : List graphs.SystemLine) : Type 0 where
  pub is_version : IsVersion version
  pub order : LinesAreInOrder lines
  pub bare : (line : graphs.SystemLine) → In line lines → line.far ≡ true → IsBare line
  pub second : (line : graphs.SystemLine) → In line lines → line.far ≡ true → version ≡ 2
