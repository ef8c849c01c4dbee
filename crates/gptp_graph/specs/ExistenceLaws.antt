-- Laws on what a snapshot has once: a best and a distance of each system, a parent of each that isn't best, a role of
-- each port, and a settled choice.
use Rattle.std.specs.Prelude.{◌≡◌, ◌≢◌, ℕ, List}
use Rattle.gptp_graph.specs.Once.{ExistsOnce}
use Rattle.gptp_lists.specs.Members.{In}
use Rattle.gptp_graph.specs.Order.{IsRising}
use Rattle.gptp_graph.specs.Snapshot.{System, PortIdentity, Snapshot, clocks, IsWellFormed}
use Rattle.gptp_graph.specs.Best.{IsBest}
use Rattle.gptp_graph.specs.Distance.{IsDistance}
use Rattle.gptp_graph.specs.Parent.{ParentLink, IsParent}
use Rattle.gptp_graph.specs.SettledRole.{IsSettledRole}
use Rattle.gptp_graph.specs.Labelling.{SystemLine, line_clocks}
use Rattle.gptp_graph.specs.SettledChoice.{IsSettledChoice}

-- the component of a system has one best
abbrev pub BestExistsOnce : Type 0
BestExistsOnce = (g : Snapshot) (v : ℕ)
    → IsWellFormed g → In v (clocks g)
    → ExistsOnce (IsBest g v)

-- a system has one distance
abbrev pub DistanceExistsOnce : Type 0
DistanceExistsOnce = (g : Snapshot) (v : ℕ)
    → IsWellFormed g → In v (clocks g)
    → ExistsOnce (IsDistance g v)

-- a system that isn't the best of its component has one parent
abbrev pub ParentExistsOnce : Type 0
ParentExistsOnce = (g : Snapshot) (v : ℕ) (best : System)
    → IsWellFormed g → IsBest g v best → best.clock ≢ v
    → ExistsOnce (IsParent g v)

-- the best of a component has none
abbrev pub BestHasNoParent : Type 0
BestHasNoParent = (g : Snapshot) (v : ℕ) (best : System) (l : ParentLink)
    → IsWellFormed g → IsBest g v best → best.clock ≡ v
    → IsParent g v l → ⊥

-- a port of a system has one settled role
abbrev pub RoleExistsOnce : Type 0
RoleExistsOnce = (g : Snapshot) (p : PortIdentity)
    → IsWellFormed g → In p.clock (clocks g)
    → ExistsOnce (IsSettledRole g p)

-- one settled choice has its lines by rising clock
abbrev pub ChoiceExistsOnce : Type 0
ChoiceExistsOnce = (g : Snapshot)
    → IsWellFormed g
    → ExistsOnce (λ (lines : List SystemLine). IsSettledChoice g lines × IsRising (line_clocks lines))

-- in whichever order their lines stand, two settled choices have the same lines
abbrev pub ChoicesHaveTheSameLines : Type 0
ChoicesHaveTheSameLines = (g : Snapshot) (xs ys : List SystemLine) (line : SystemLine)
    → IsWellFormed g → IsSettledChoice g xs → IsSettledChoice g ys
    → In line xs → In line ys
