-- What is known of the sums while they are worked out, from the roots down.
use Rattle.std.specs.Prelude.{◌≡◌, ◌<◌, ℕ, suc, false, List, Some, slice_get}
use Rattle.std.specs.List.Sorted.{IsNonDecreasingBy}
use Rattle.gptp_lists.specs.Members.{In}
use Rattle.gptp_graph.specs.Labelling.{SystemLine}
use Rattle.gptp_graph.specs.Parent.{ParentLink}
use Rattle.gptp_graph.specs.Snapshot.{Snapshot}
use Rattle.gptp_scenario.specs.Network.{NetworkState}
use Rattle.gptp_scenario.specs.declared.change.Timed.{Timed}
use Rattle.gptp_network.specs.SnapshotTables.{HasClock}
use Rattle.gptp_error_laws.specs.TimeError.{Way}
use Rattle.gptp_accuracy.specs.Sums.{AreSummed, SumsAreWithin}
use Rattle.gptp_accuracy.specs.Ways.{IsWay}
use Rattle.gptp_accuracy.specs.declared.sums.Sums.{Sums}

-- the first lines, so many, each by its steps and its place
pub record ArePlaces (lines : List SystemLine) (count : ℕ) (places : List (ℕ × ℕ)) : Type 0 where
  pub all : (place : ℕ) (line : SystemLine) → place < count → slice_get lines place ≡ Some line
      → In (line.steps, place) places
  pub only : (steps place : ℕ) → In (steps, place) places
      → (line : SystemLine) × (slice_get lines place ≡ Some line) × (line.steps ≡ steps)

-- all lines, none with more steps than one after it
pub record AreBySteps (lines : List SystemLine) (places : List (ℕ × ℕ)) : Type 0 where
  pub rising : IsNonDecreasingBy (λ (p : ℕ × ℕ). p.0) places
  pub all : (place : ℕ) (line : SystemLine) → slice_get lines place ≡ Some line → In (line.steps, place) places
  pub only : (steps place : ℕ) → In (steps, place) places
      → (line : SystemLine) × (slice_get lines place ≡ Some line) × (line.steps ≡ steps)

-- these are the sums of the way to the system with this clock, which is so many steps from its best
pub record IsSummedUp (n : NetworkState) (events : List Timed) (g : Snapshot) (clock steps : ℕ) (to : Sums) : Type 0
  where
    pub way : Way
    pub is : IsWay n events g steps clock way
    pub summed : AreSummed steps n.params way to

-- at a place stand the sums of the line there, unless it is far
abbrev pub IsDoneAt : NetworkState → List Timed → Snapshot → List SystemLine → List Sums → ℕ → Type 0
IsDoneAt n events g lines sums place = (line : SystemLine) → slice_get lines place ≡ Some line → line.far ≡ false
    → (to : Sums) × (slice_get sums place ≡ Some to) × IsSummedUp n events g line.clock line.steps to

-- the sums of the system with this clock stand at its place
pub record IsDone (n : NetworkState) (events : List Timed) (g : Snapshot) (sums : List Sums) (clock steps : ℕ) : Type 0
  where
    pub place : ℕ
    pub has : HasClock g.systems clock place
    pub to : Sums
    pub there : slice_get sums place ≡ Some to
    pub summed : IsSummedUp n events g clock steps to

-- the sums of a line's parent, where it has one, stand at its place, and the parent is one step nearer to the root
abbrev pub IsParentDone : NetworkState → List Timed → Snapshot → List Sums → SystemLine → Type 0
IsParentDone n events g sums line = (l : ParentLink) → line.parent ≡ Some l
    → (steps : ℕ) × (suc steps ≡ line.steps) × IsDone n events g sums l.clock steps

-- the sums of all lines that aren't far are within the limits
abbrev pub AreNearWithin : List SystemLine → List Sums → Type 0
AreNearWithin lines sums = (place : ℕ) (line : SystemLine) (to : Sums) → slice_get lines place ≡ Some line
    → line.far ≡ false → slice_get sums place ≡ Some to → SumsAreWithin 511 to
