-- The systems of a snapshot and the lines of a certificate place by place: both stand by rising clock.
use Rattle.std.specs.Prelude.{◌≡◌, ℕ, true, false, List, Some, map, slice_get}
use Rattle.std.specs.List.{range_with_len}
use Rattle.gptp_lists.specs.Members.{In}
use Rattle.gptp_graph.specs.Snapshot.{System}
use Rattle.gptp_graph.specs.Labelling.{PortLine, SystemLine, IsBare, port_numbers}
use Rattle.gptp_certificate_text.specs.Certificate.{port_line_of}
use Rattle.gptp_roles.specs.declared.role.Role.{Role}

-- the numbers of these ports
abbrev pub numbers_of : List (ℕ × Role) → List ℕ
numbers_of ports = map (λ (port : PortLine). port.number) (map port_line_of ports)

-- the line has the clock of the system, and its ports are all the system's, or none where it is far
pub record IsLineFor (s : System) (line : SystemLine) : Type 0 where
  pub clock : line.clock ≡ s.clock
  pub ports : line.far ≡ false → port_numbers line ≡ range_with_len 1 s.ports
  pub bare : line.far ≡ true → IsBare line

-- these are all the ports of a system with so many, or none where the line is far
pub record HasRightPorts (count : ℕ) (line : SystemLine) : Type 0 where
  pub all : line.far ≡ false → port_numbers line ≡ range_with_len 1 count
  pub bare : line.far ≡ true → IsBare line

-- at this place stands a system, and its line
pub record AgreeAt (systems : List System) (lines : List SystemLine) (place : ℕ) : Type 0 where
  pub system : System
  pub line : SystemLine
  pub system_there : slice_get systems place ≡ Some system
  pub line_there : slice_get lines place ≡ Some line
  pub is : IsLineFor system line

-- the line is one of these, and has this clock
pub record IsLineAt (lines : List SystemLine) (clock : ℕ) (line : SystemLine) : Type 0 where
  pub stated : In line lines
  pub has : line.clock ≡ clock

-- the system is one of these, and has this clock
pub record IsSystemAt (systems : List System) (clock : ℕ) (s : System) : Type 0 where
  pub live : In s systems
  pub has : s.clock ≡ clock

-- a system with this clock has this identity
abbrev pub IsIdentityOf : List System → ℕ → ℕ → Type 0
IsIdentityOf systems clock identity = (s : System) × IsSystemAt systems clock s × (s.identity ≡ identity)
