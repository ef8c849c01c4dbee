-- A snapshot of a network: its live systems and the links that are up between two of them. It has no frames, no
-- timers and no vectors.
use Rattle.std.specs.Prelude.{◌≡◌, ◌≢◌, ◌⊎◌, ◌<◌, ◌≤◌, ◌^◌, ◌%◌, ℕ, List, map}
use Rattle.gptp_lists.specs.Members.{In, Different}

-- a live system: its clockIdentity as a number, its systemIdentity as the number of its 14 octets
-- (IEEE 802.1AS-2020, 10.3.2), and the number of its ports
pub record System : Type 0 where
  pub clock : ℕ
  pub identity : ℕ
  pub ports : ℕ

-- a port by the clock of its system and its number, counted from 1 (IEEE 802.1AS-2020, 8.5.2)
pub record PortIdentity : Type 0 where
  pub clock : ℕ
  pub port : ℕ

-- a link between two ports; either end may come first
pub record Link : Type 0 where
  pub a : PortIdentity
  pub b : PortIdentity

-- the live systems, and the links that are up between two of them
pub record Snapshot : Type 0 where
  pub systems : List System
  pub links : List Link

-- port n of the system with clock v
abbrev pub port_of : ℕ → ℕ → PortIdentity
port_of v n = record { clock = v; port = n }

-- the clocks of the systems
abbrev pub clocks : Snapshot → List ℕ
clocks g = map (λ (s : System). s.clock) g.systems

-- a link joins the two ports, whichever of them it names first
abbrev pub Joins : Snapshot → PortIdentity → PortIdentity → Type 0
Joins g p q = In (record { a = p; b = q }) g.links ⊎ In (record { a = q; b = p }) g.links

-- a link joins a port of the one system to a port of the other
abbrev pub Adjacent : Snapshot → ℕ → ℕ → Type 0
Adjacent g v w = (m n : ℕ) × Joins g (port_of v m) (port_of w n)

-- a link is at the port
abbrev pub IsLinked : Snapshot → PortIdentity → Type 0
IsLinked g p = (q : PortIdentity) × Joins g p q

-- the port is one of this system's
pub record IsPortOf (s : System) (p : PortIdentity) : Type 0 where
  pub clock : s.clock ≡ p.clock
  pub first : 1 ≤ p.port
  pub last : p.port ≤ s.ports

-- the identity is 14 octets, of which the last eight are the clock (IEEE 802.1AS-2020, 10.3.2)
pub record IsIdentified (s : System) : Type 0 where
  pub octets : s.identity < 2 ^ 112
  pub clock : s.identity % 2 ^ 64 ≡ s.clock

-- what holds of the snapshot of every network: clocks differ, each system's identity holds its clock, a link ends at
-- ports that exist, a port has one link at most, and no system is linked with itself
pub record IsWellFormed (g : Snapshot) : Type 0 where
  pub different : Different (clocks g)
  pub identified : (s : System) → In s g.systems → IsIdentified s
  pub ends : (p q : PortIdentity) → Joins g p q → (s : System) × In s g.systems × IsPortOf s p
  pub one_link : (p q r : PortIdentity) → Joins g p q → Joins g p r → q ≡ r
  pub apart : (p q : PortIdentity) → Joins g p q → p.clock ≢ q.clock
