-- The tests by which a certificate is checked against a snapshot (profile). Each looks at one system, or at the two
-- ends of one link, and none at a path. They stand in the order in which a checker makes them, each over the whole
-- certificate before the next; each is named for the fault that is found where it fails. One more test, that nothing
-- is too far, is made of certificates that can't state far systems.
use Rattle.std.specs.Prelude.{◌≡◌, ◌⊎◌, ◌+◌, ◌<◌, ◌≤◌, ℕ, true, false, List, Some, None}
use Rattle.gptp_lists.specs.Members.{In}
use Rattle.gptp_graph.specs.Order.{IsLower}
use Rattle.gptp_graph.specs.Snapshot.{System, Snapshot, PortIdentity, port_of, Joins, Adjacent, IsLinked}
use Rattle.gptp_graph.specs.Parent.{ParentLink, key, JoinsAt}
use Rattle.gptp_graph.specs.SettledRole.{Role, RoleBy}
use Rattle.gptp_graph.specs.Labelling.{PortLine, SystemLine, IsLineOf, HasItsSystems}

-- the lines state these steps of the system
abbrev pub StatesSteps : List SystemLine → ℕ → ℕ → Type 0
StatesSteps lines v d = (line : SystemLine) × In line lines × (line.clock ≡ v) × (line.steps ≡ d)

-- the systems are those of the snapshot, the ports of each that isn't far are all its ports, and far ones have none
abbrev pub PassesSystems : Snapshot → List SystemLine → Type 0
PassesSystems = HasItsSystems

-- all steps are below 255
abbrev pub PassesTooFar : List SystemLine → Type 0
PassesTooFar lines = (line : SystemLine) → In line lines → line.steps < 255

-- a system that isn't far and has no parent states its own identity as root
abbrev pub PassesRoot : Snapshot → List SystemLine → Type 0
PassesRoot g lines = (s : System) (line : SystemLine) → IsLineOf g lines s line → line.far ≡ false
    → line.parent ≡ None → line.root ≡ s.identity

-- a system that isn't far has steps 0 where it has no parent, more where it has one, and fewer than 255; a far one has
-- 255 or more
pub record PassesSteps (lines : List SystemLine) : Type 0 where
  pub none : (line : SystemLine) → In line lines → line.far ≡ false → line.parent ≡ None → line.steps ≡ 0
  pub some : (line : SystemLine) (l : ParentLink) → In line lines → line.parent ≡ Some l → 0 < line.steps
  pub near : (line : SystemLine) → In line lines → line.far ≡ false → line.steps < 255
  pub far : (line : SystemLine) → In line lines → line.far ≡ true → 255 ≤ line.steps

-- the lines state one step less of the system v than the line has
abbrev pub StatesOneLess : List SystemLine → ℕ → SystemLine → Type 0
StatesOneLess lines v line = (d : ℕ) × StatesSteps lines v d × (d + 1 ≡ line.steps)

-- a link joins the own port to the parent's port, and the parent's steps are one less; over some link of a far system
-- the steps are one less
pub record PassesParent (g : Snapshot) (lines : List SystemLine) : Type 0 where
  pub near : (line : SystemLine) (l : ParentLink) → In line lines → line.parent ≡ Some l
      → JoinsAt g line.clock l × StatesOneLess lines l.clock line
  pub far : (line : SystemLine) → In line lines → line.far ≡ true
      → (w : ℕ) × Adjacent g line.clock w × StatesOneLess lines w line

-- over a link the roots agree, and the steps differ by one at most
abbrev pub PassesLink : Snapshot → List SystemLine → Type 0
PassesLink g lines = (one other : SystemLine) → In one lines → In other lines → Adjacent g one.clock other.clock
    → (one.root ≡ other.root) × (one.steps ≤ other.steps + 1) × (other.steps ≤ one.steps + 1)

-- no system's identity is lower than its root
abbrev pub PassesIdentity : Snapshot → List SystemLine → Type 0
PassesIdentity g lines = (s : System) (line : SystemLine) → IsLineOf g lines s line → line.root ≤ s.identity

-- no link to a system with steps one less has a lower clock there, port there, own port than the parent's
abbrev pub PassesTie : Snapshot → List SystemLine → Type 0
PassesTie g lines = (line : SystemLine) (l other : ParentLink) (d : ℕ) → In line lines → line.parent ≡ Some l
    → JoinsAt g line.clock other → StatesSteps lines other.clock d → d + 1 ≡ line.steps
    → IsLower (key other) (key l) → ⊥

-- the port is the own port of the parent that is stated
abbrev pub StatesSlave : SystemLine → ℕ → Type 0
StatesSlave line n = (l : ParentLink) × (line.parent ≡ Some l) × (l.own_port ≡ n)

-- over the port's link fewer steps are stated here than at the other end, or as many and the clock here is lower
pub record StatesMaster (g : Snapshot) (lines : List SystemLine) (line : SystemLine) (n : ℕ) : Type 0 where
  pub other : PortIdentity
  pub joins : Joins g (port_of line.clock n) other
  pub there : ℕ
  pub is_there : StatesSteps lines other.clock there
  pub nearer : (line.steps < there) ⊎ ((line.steps ≡ there) × (line.clock < other.clock))

-- the role that links, parent and steps give the port of that number
abbrev pub HasStatedRole : Snapshot → List SystemLine → SystemLine → ℕ → Role → Type 0
HasStatedRole g lines line n =
    RoleBy (IsLinked g (port_of line.clock n)) (StatesSlave line n) (StatesMaster g lines line n)

-- each role is the one that links, parent and steps give the port
abbrev pub PassesRole : Snapshot → List SystemLine → Type 0
PassesRole g lines = (line : SystemLine) (port : PortLine) → In line lines → In port line.ports
    → HasStatedRole g lines line port.number port.role

-- all tests but that nothing is too far
pub record PassesLocalTests (g : Snapshot) (lines : List SystemLine) : Type 0 where
  pub systems : PassesSystems g lines
  pub root : PassesRoot g lines
  pub steps : PassesSteps lines
  pub parent : PassesParent g lines
  pub link : PassesLink g lines
  pub identity : PassesIdentity g lines
  pub tie : PassesTie g lines
  pub role : PassesRole g lines
