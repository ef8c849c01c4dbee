-- What a certificate states of a network: for each system the root that it follows, its steps, its parent and the
-- role of each port, or that it is too far from its best to follow it (profile).
use Rattle.std.specs.Prelude.{◌≡◌, ℕ, Bool, true, false, List, [], Option, None, map}
use Rattle.std.specs.List.{range_with_len}
use Rattle.gptp_lists.specs.Members.{In, Different}
use Rattle.gptp_graph.specs.Snapshot.{System, Snapshot}
use Rattle.gptp_graph.specs.Parent.{ParentLink}
use Rattle.gptp_graph.specs.SettledRole.{Role}

-- a port line
pub record PortLine : Type 0 where
  pub number : ℕ
  pub role : Role

-- a system line with the port lines after it: the root is a systemIdentity, the steps are the stepsRemoved. A far
-- line is that of a system 255 or more steps from its best: such a system announces nothing that is qualified
-- (IEEE 802.1AS-2020, 10.3.11.2.1), and of it neither parent nor roles are stated.
pub record SystemLine : Type 0 where
  pub clock : ℕ
  pub root : ℕ
  pub steps : ℕ
  pub far : Bool
  pub parent : Option ParentLink
  pub ports : List PortLine

-- the clocks of the lines
abbrev pub line_clocks : List SystemLine → List ℕ
line_clocks lines = map (λ (line : SystemLine). line.clock) lines

-- the numbers of a line's ports
abbrev pub port_numbers : SystemLine → List ℕ
port_numbers line = map (λ (port : PortLine). port.number) line.ports

-- the line states no parent and no ports
pub record IsBare (line : SystemLine) : Type 0 where
  pub parent : line.parent ≡ None
  pub ports : line.ports ≡ []

-- the line is that of the live system s
pub record IsLineOf (g : Snapshot) (lines : List SystemLine) (s : System) (line : SystemLine) : Type 0 where
  pub live : In s g.systems
  pub stated : In line lines
  pub clock : line.clock ≡ s.clock

-- the systems are those of the snapshot, with one line each, in whichever order; the ports of each that isn't far are
-- all its ports, from 1 on, and a far one has a bare line
pub record HasItsSystems (g : Snapshot) (lines : List SystemLine) : Type 0 where
  pub different : Different (line_clocks lines)
  pub all : (s : System) → In s g.systems → (line : SystemLine) × IsLineOf g lines s line
  pub no_other : (line : SystemLine) → In line lines → (s : System) × IsLineOf g lines s line
  pub ports : (s : System) (line : SystemLine) → IsLineOf g lines s line → line.far ≡ false
      → port_numbers line ≡ range_with_len 1 s.ports
  pub bare : (line : SystemLine) → In line lines → line.far ≡ true → IsBare line
