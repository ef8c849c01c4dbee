-- How the writer of a certificate tells far systems, and what it states of them, by what each system states of itself
-- and by the links alone (profile).
use Rattle.std.specs.Prelude.{◌≡◌, ◌⊎◌, ◌+◌, ◌<◌, ◌≤◌, ℕ, List, length}
use Rattle.gptp_lists.specs.Members.{In}
use Rattle.gptp_graph.specs.Snapshot.{Snapshot}
use Rattle.gptp_graph.specs.Path.{Route, Reaches}

-- what a system states of itself: its clock, the root that it follows and its steps
pub record Statement : Type 0 where
  pub clock : ℕ
  pub root : ℕ
  pub steps : ℕ

-- the other is stated in the component of the one
pub record IsStatedBeside (g : Snapshot) (all : List Statement) (one other : Statement) : Type 0 where
  pub stated : In other all
  pub reached : Reaches g one.clock other.clock

-- the system is far: its steps are 255 or more, or a lower root than its own is stated in its component. A settled
-- system leaves a lower root to others only where no neighbour has it over fewer than 255 steps, since what is
-- announced with 255 isn't qualified (IEEE 802.1AS-2020, 10.3.11.2.1).
abbrev pub IsFar : Snapshot → List Statement → Statement → Type 0
IsFar g all one =
    (255 ≤ one.steps) ⊎ ((other : Statement) × IsStatedBeside g all one other × (other.root < one.root))

-- the lowest root that is stated in its component
pub record IsLowestRoot (g : Snapshot) (all : List Statement) (one : Statement) (root : ℕ) : Type 0 where
  pub stated : (other : Statement) × IsStatedBeside g all one other × (other.root ≡ root)
  pub least : (other : Statement) → IsStatedBeside g all one other → root ≤ other.root

-- a route from the system leads over the systems of the list to one that isn't far
pub record LeadsToNear (g : Snapshot) (all : List Statement) (one : Statement) (us : List ℕ) : Type 0 where
  pub near : Statement
  pub stated : In near all
  pub is_near : IsFar g all near → ⊥
  pub route : Route g one.clock near.clock us

-- the steps of a far system: 254 and the least number of links from it to a system that isn't far, or 65535 where no
-- route leads to one
abbrev pub AreFarSteps : Snapshot → List Statement → Statement → ℕ → Type 0
AreFarSteps g all one n =
    ((us : List ℕ) × LeadsToNear g all one us × (n ≡ 254 + length us)
    × ((ts : List ℕ) → LeadsToNear g all one ts → length us ≤ length ts))
    ⊎ (((us : List ℕ) → LeadsToNear g all one us → ⊥) × (n ≡ 65535))
