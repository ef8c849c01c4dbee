-- Laws on the writer's rule: in a settled network it tells the far systems, their distances and their best.
use Rattle.std.specs.Prelude.{◌≡◌, ◌↔◌, ◌<◌, ◌≤◌, ℕ, List}
use Rattle.gptp_lists.specs.Members.{In}
use Rattle.gptp_graph.specs.Snapshot.{System, Snapshot, clocks, IsWellFormed}
use Rattle.gptp_graph.specs.Best.{IsBest}
use Rattle.gptp_graph.specs.Distance.{IsDistance}
use Rattle.gptp_graph.specs.Marking.{Statement, IsFar, IsLowestRoot, AreFarSteps}

-- what holds of a statement in a settled network: its root isn't below the best's identity, over fewer steps than the
-- distance it doesn't state that root, and where the distance is below 255 it states both
pub record IsBounded (g : Snapshot) (one : Statement) : Type 0 where
  pub above : (best : System) → IsBest g one.clock best → best.identity ≤ one.root
  pub more : (best : System) (d : ℕ) → IsBest g one.clock best → IsDistance g one.clock d
      → one.root ≡ best.identity → d ≤ one.steps
  pub near : (best : System) (d : ℕ) → IsBest g one.clock best → IsDistance g one.clock d → d < 255
      → (one.root ≡ best.identity) × (one.steps ≡ d)

-- each system has a statement, and each statement is a system's and so bounded
pub record StatementsAreBounded (g : Snapshot) (all : List Statement) : Type 0 where
  pub stated : (v : ℕ) → In v (clocks g) → (one : Statement) × In one all × (one.clock ≡ v)
  pub no_other : (one : Statement) → In one all → In one.clock (clocks g)
  pub bounded : (one : Statement) → In one all → IsBounded g one

-- the far systems are those 255 or more steps from their best
abbrev pub FarIsDistant : Type 0
FarIsDistant = (g : Snapshot) (all : List Statement) (one : Statement) (d : ℕ)
    → IsWellFormed g → StatementsAreBounded g all → In one all → IsDistance g one.clock d
    → IsFar g all one ↔ (255 ≤ d)

-- the steps of a far system are its distance
abbrev pub FarStepsAreDistance : Type 0
FarStepsAreDistance = (g : Snapshot) (all : List Statement) (one : Statement) (d n : ℕ)
    → IsWellFormed g → StatementsAreBounded g all → In one all → IsDistance g one.clock d → 255 ≤ d
    → AreFarSteps g all one n ↔ (n ≡ d)

-- the lowest root stated in a component is the identity of its best
abbrev pub LowestRootIsBests : Type 0
LowestRootIsBests = (g : Snapshot) (all : List Statement) (one : Statement) (best : System) (root : ℕ)
    → IsWellFormed g → StatementsAreBounded g all → In one all → IsBest g one.clock best
    → IsLowestRoot g all one root ↔ (root ≡ best.identity)
