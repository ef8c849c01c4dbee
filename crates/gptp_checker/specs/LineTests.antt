-- The local tests line by line, port by port and link by link (profile): a test of a certificate passes where it passes
-- for each.
use Rattle.std.specs.Prelude.{◌≡◌, ◌⊎◌, ◌+◌, ◌<◌, ◌≤◌, ℕ, true, false, List, [], ◌∷◌, Some, None}
use Rattle.gptp_lists.specs.Members.{In}
use Rattle.gptp_graph.specs.Order.{IsLower}
use Rattle.gptp_graph.specs.Snapshot.{System, Snapshot, PortIdentity, Link, port_of, Joins, Adjacent}
use Rattle.gptp_graph.specs.Parent.{ParentLink, key, JoinsAt}
use Rattle.gptp_graph.specs.Labelling.{PortLine, SystemLine}
use Rattle.gptp_graph.specs.LocalTests.{StatesSteps, StatesOneLess, HasStatedRole}
use Rattle.gptp_checker.specs.Places.{IsLineAt, IsSystemAt}
use Rattle.gptp_checker.specs.declared.line_test.LineTest.{LineTest}
use Rattle.gptp_checker.specs.declared.line_test.LineTest.TheVariants.{TooFar, Root, Steps, Parent, Identity, Tie, Role}

-- with no parent, the root is the system's own identity, where it isn't far
abbrev pub HasOwnRoot : Snapshot → SystemLine → Type 0
HasOwnRoot g line = (s : System)
    → IsSystemAt g.systems line.clock s → line.far ≡ false → line.parent ≡ None → line.root ≡ s.identity

-- with no parent steps are 0, with one they are more, and they are below 255; of a far system they are 255 or more
pub record FitsSteps (line : SystemLine) : Type 0 where
  pub none : line.far ≡ false → line.parent ≡ None → line.steps ≡ 0
  pub some : (l : ParentLink) → line.parent ≡ Some l → 0 < line.steps
  pub near : line.far ≡ false → line.steps < 255
  pub far : line.far ≡ true → 255 ≤ line.steps

-- a link joins the own port to the parent's port, and the parent's steps are one less
pub record FollowsParent (g : Snapshot) (lines : List SystemLine) (clock steps : ℕ) (l : ParentLink) : Type 0 where
  pub joins : JoinsAt g clock l
  pub less : (d : ℕ) × StatesSteps lines l.clock d × (d + 1 ≡ steps)

-- from this end a link leads from the line's system to one that states one step less
abbrev pub LeadsFrom : List SystemLine → SystemLine → ℕ → ℕ → Type 0
LeadsFrom lines line here there = (here ≡ line.clock) × StatesOneLess lines there line

-- from one of its ends the link leads from the line's system to one that states one step less
abbrev pub EndLeadsNearer : List SystemLine → SystemLine → Link → Type 0
EndLeadsNearer lines line link =
    LeadsFrom lines line link.a.clock link.b.clock ⊎ LeadsFrom lines line link.b.clock link.a.clock

-- a link of the snapshot leads from a far system to one that states one step less
abbrev pub HasNearer : Snapshot → List SystemLine → SystemLine → Type 0
HasNearer g lines line = (w : ℕ) × Adjacent g line.clock w × StatesOneLess lines w line

-- a parent is followed, and a far system has a link to one that states one step less
pub record FollowsNearer (g : Snapshot) (lines : List SystemLine) (line : SystemLine) : Type 0 where
  pub near : (l : ParentLink) → line.parent ≡ Some l → FollowsParent g lines line.clock line.steps l
  pub far : line.far ≡ true → HasNearer g lines line

-- the root isn't above the system's identity
abbrev pub HasLowRoot : Snapshot → SystemLine → Type 0
HasLowRoot g line = (s : System) → IsSystemAt g.systems line.clock s → line.root ≤ s.identity

-- the other end of the port's link, where the steps there are one less, isn't before the parent's
abbrev pub IsNoLower : Snapshot → List SystemLine → SystemLine → ParentLink → ℕ → Type 0
IsNoLower g lines line l n = (other : PortIdentity) (d : ℕ)
    → Joins g (port_of line.clock n) other → StatesSteps lines other.clock d → d + 1 ≡ line.steps
    → IsLower (other.clock ∷ other.port ∷ n ∷ []) (key l) → ⊥

-- at all ports of the line the other end of the link, where the steps there are one less, isn't before the parent's
abbrev pub AreNoLower : Snapshot → List SystemLine → SystemLine → ParentLink → Type 0
AreNoLower g lines line l = (port : PortLine) → In port line.ports → IsNoLower g lines line l port.number

-- fewer steps are stated in the line than of the other clock, or as many and the line's clock is lower
pub record IsNearer (lines : List SystemLine) (line : SystemLine) (other : ℕ) : Type 0 where
  pub there : ℕ
  pub is_there : StatesSteps lines other there
  pub nearer : (line.steps < there) ⊎ ((line.steps ≡ there) × (line.clock < other))

-- the line passes this test
abbrev pub PassesLine : LineTest → Snapshot → List SystemLine → SystemLine → Type 0
PassesLine TooFar g lines line = line.steps < 255
PassesLine Root g lines line = HasOwnRoot g line
PassesLine Steps g lines line = FitsSteps line
PassesLine Parent g lines line = FollowsNearer g lines line
PassesLine Identity g lines line = HasLowRoot g line
PassesLine Tie g lines line = (l : ParentLink) → line.parent ≡ Some l → AreNoLower g lines line l
PassesLine Role g lines line = (port : PortLine) → In port line.ports
    → HasStatedRole g lines line port.number port.role

-- all lines pass this test
abbrev pub PassesEachLine : LineTest → Snapshot → List SystemLine → Type 0
PassesEachLine test g lines = (line : SystemLine) → In line lines → PassesLine test g lines line

-- the roots of two systems agree, and their steps differ by one at most
pub record AgreeAcross (one other : SystemLine) : Type 0 where
  pub roots : one.root ≡ other.root
  pub here : one.steps ≤ other.steps + 1
  pub there : other.steps ≤ one.steps + 1

-- what is stated of these two clocks agrees
abbrev pub AgreeOver : List SystemLine → ℕ → ℕ → Type 0
AgreeOver lines v w = (one other : SystemLine)
    → IsLineAt lines v one → IsLineAt lines w other → AgreeAcross one other
