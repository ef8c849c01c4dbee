-- Where a certificate fails the test of its fault: the first place that fails (profile).
use Rattle.std.specs.Prelude.{◌≡◌, ◌⊎◌, ◌<◌, ℕ, false, List, Option, Some, None, slice_get}
use Rattle.std.specs.List.{range_with_len}
use Rattle.gptp_lists.specs.Members.{In}
use Rattle.gptp_graph.specs.Snapshot.{System as LiveSystem, Link as GraphLink, Snapshot, Joins, clocks}
use Rattle.gptp_graph.specs.Parent.{ParentLink}
use Rattle.gptp_graph.specs.Labelling.{PortLine, SystemLine, line_clocks, port_numbers}
use Rattle.gptp_graph.specs.LocalTests.{HasStatedRole}
use Rattle.gptp_network.specs.Snapshot.{link_of, port_identity}
use Rattle.gptp_vector.specs.declared.port.PortId.{PortId}
use Rattle.gptp_checker.specs.LineTests.{AgreeOver, IsNoLower, PassesLine}
use Rattle.gptp_checker.specs.Places.{IsLineAt, IsSystemAt}
use Rattle.gptp_checker.specs.declared.fault.Fault.{Fault}
use Rattle.gptp_checker.specs.declared.fault.Fault.TheVariants as faults
use Rattle.gptp_checker.specs.declared.line_test.LineTest.{LineTest}
use Rattle.gptp_checker.specs.declared.line_test.LineTest.TheVariants as tests
use Rattle.gptp_checker.specs.declared.location.Location.{Location}
use Rattle.gptp_checker.specs.declared.location.Location.TheVariants.{System, Link, Port}

-- the least number of which it holds
abbrev pub IsLeastSuch : (ℕ → Type 0) → ℕ → Type 0
IsLeastSuch P n = P n × ((m : ℕ) → m < n → P m → ⊥)

-- ---- systems

-- the line's ports are all those of a system with so many, where it isn't far
abbrev pub HasAllPorts : ℕ → SystemLine → Type 0
HasAllPorts count line = line.far ≡ false → port_numbers line ≡ range_with_len 1 count

-- a system has the clock of the line, with all its ports
abbrev pub IsKnownLine : Snapshot → SystemLine → Type 0
IsKnownLine g line = (s : LiveSystem) × IsSystemAt g.systems line.clock s × HasAllPorts s.ports line

-- of the line with the clock that isn't so
abbrev pub IsStrange : Snapshot → List SystemLine → ℕ → Type 0
IsStrange g lines v = (line : SystemLine) × IsLineAt lines v line × (IsKnownLine g line → ⊥)

-- the clock is of a system, and no line has it
abbrev pub IsMissing : Snapshot → List SystemLine → ℕ → Type 0
IsMissing g lines v = In v (clocks g) × (In v (line_clocks lines) → ⊥)

-- one of both is so
abbrev pub DiffersAt : Snapshot → List SystemLine → ℕ → Type 0
DiffersAt g lines v = IsStrange g lines v ⊎ IsMissing g lines v

-- ---- lines

-- the line fails this test, and those of lower clocks pass it
pub record IsFirstLine (test : LineTest) (g : Snapshot) (lines : List SystemLine) (line : SystemLine) : Type 0 where
  pub stated : In line lines
  pub fails : PassesLine test g lines line → ⊥
  pub first : (other : SystemLine) → In other lines → other.clock < line.clock → PassesLine test g lines other

-- the place is the system of that line
abbrev pub IsAtLine : LineTest → Snapshot → List SystemLine → Location → Type 0
IsAtLine test g lines place =
    (line : SystemLine) × IsFirstLine test g lines line × (place ≡ System line.clock)

-- the port at which the line has its parent, and the port of the parent
abbrev pub own_end : SystemLine → ParentLink → PortId
own_end line l = record { clock = line.clock; port = l.own_port }

abbrev pub parent_end : ParentLink → PortId
parent_end l = record { clock = l.clock; port = l.port }

-- the place is the link to the parent that the line states, or its system where it states none
abbrev pub IsAtParent : SystemLine → Location → Type 0
IsAtParent line place =
    ((l : ParentLink) × (line.parent ≡ Some l) × (place ≡ Link (own_end line l) (parent_end l)))
    ⊎ ((line.parent ≡ None) × (place ≡ System line.clock))

-- ---- ports

-- of the line's ports the first, by its number, that fails
pub record IsFirstPort (Passes : PortLine → Type 0) (line : SystemLine) (port : PortLine) : Type 0 where
  pub stated : In port line.ports
  pub fails : Passes port → ⊥
  pub first : (other : PortLine) → In other line.ports → other.number < port.number → Passes other

-- the number of the first of the line's ports, whose way goes before that of the parent
abbrev pub IsFirstLower : Snapshot → List SystemLine → SystemLine → ParentLink → ℕ → Type 0
IsFirstLower g lines line l n = (port : PortLine) × (port.number ≡ n)
    × IsFirstPort (λ other. IsNoLower g lines line l other.number) line port

-- the link at that port
abbrev pub IsLowerWay : Snapshot → List SystemLine → SystemLine → PortId → PortId → Type 0
IsLowerWay g lines line p q = (l : ParentLink) × (line.parent ≡ Some l) × (p.clock ≡ line.clock)
    × IsFirstLower g lines line l p.port × Joins g (port_identity p) (port_identity q)

-- the number of the line's first port whose role isn't the one that links, parent and steps give it
abbrev pub IsFirstRole : Snapshot → List SystemLine → SystemLine → ℕ → Type 0
IsFirstRole g lines line n = (port : PortLine) × (port.number ≡ n)
    × IsFirstPort (λ other. HasStatedRole g lines line other.number other.role) line port

-- ---- links

-- a port goes before another: by its clock, then by its number
abbrev pub IsBefore : PortId → PortId → Type 0
IsBefore p q = (p.clock < q.clock) ⊎ ((p.clock ≡ q.clock) × (p.port < q.port))

-- over the link from one port to another what is stated doesn't agree
abbrev pub Disagrees : Snapshot → List SystemLine → PortId → PortId → Type 0
Disagrees g lines p q =
    Joins g (port_identity p) (port_identity q) × (AgreeOver lines p.clock q.clock → ⊥)

-- of the ends of such links the first
pub record IsFirstEnd (g : Snapshot) (lines : List SystemLine) (p q : PortId) : Type 0 where
  pub disagrees : Disagrees g lines p q
  pub first : (r s : PortId) → Disagrees g lines r s → IsBefore r p → ⊥

-- ---- the place of a fault

abbrev pub IsLocation : Fault → Snapshot → List SystemLine → Location → Type 0
IsLocation faults.Systems g lines place = (v : ℕ) × IsLeastSuch (DiffersAt g lines) v × (place ≡ System v)
IsLocation faults.TooFar g lines place = IsAtLine tests.TooFar g lines place
IsLocation faults.Root g lines place = IsAtLine tests.Root g lines place
IsLocation faults.Steps g lines place = IsAtLine tests.Steps g lines place
IsLocation faults.Parent g lines place =
    (line : SystemLine) × IsFirstLine tests.Parent g lines line × IsAtParent line place
IsLocation faults.Link g lines place = (p q : PortId) × IsFirstEnd g lines p q × (place ≡ Link p q)
IsLocation faults.Identity g lines place = IsAtLine tests.Identity g lines place
IsLocation faults.Tie g lines place = (line : SystemLine) × (p q : PortId) × IsFirstLine tests.Tie g lines line
    × IsLowerWay g lines line p q × (place ≡ Link p q)
IsLocation faults.Role g lines place = (line : SystemLine) × (p : PortId) × IsFirstLine tests.Role g lines line
    × (p.clock ≡ line.clock) × IsFirstRole g lines line p.port × (place ≡ Port p)

-- ---- what the code keeps: contracts of private functions alone cite this

-- no line is strange, and no system's is missing
abbrev pub LinesAreKnown : Snapshot → List SystemLine → Type 0
LinesAreKnown g lines = (line : SystemLine) → In line lines → IsKnownLine g line

abbrev pub AreStated : Snapshot → List SystemLine → Type 0
AreStated g lines = (v : ℕ) → In v (clocks g) → In v (line_clocks lines)

-- the second end, or the first where there is one that doesn't come later
abbrev pub IsEarliest : Option (PortId × PortId) → PortId × PortId → PortId × PortId → Type 0
IsEarliest None second result = result ≡ second
IsEarliest (Some first) second result =
    ((result ≡ first) × (IsBefore second.0 first.0 → ⊥)) ⊎ ((result ≡ second) × IsBefore second.0 first.0)

-- of the ends of such links at the places before this one the first, if there is any
abbrev pub IsFirstUpTo : Snapshot → List SystemLine → ℕ → Option (PortId × PortId) → Type 0
IsFirstUpTo g lines n None =
    (i : ℕ) (link : GraphLink) → i < n → slice_get g.links i ≡ Some link → AgreeOver lines link.a.clock link.b.clock
IsFirstUpTo g lines n (Some ends) = Disagrees g lines ends.0 ends.1
    × ((r s : PortId) (i : ℕ) → i < n
    → (slice_get g.links i ≡ Some (link_of (r, s))) ⊎ (slice_get g.links i ≡ Some (link_of (s, r)))
    → (AgreeOver lines r.clock s.clock → ⊥) → IsBefore r ends.0 → ⊥)
