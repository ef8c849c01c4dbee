-- How the components of a document are followed through its times (profile).
use Rattle.std.specs.Prelude.{◌≡◌, ◌≢◌, ◌⊎◌, ℕ, if◌then◌else◌, List, [], ◌∷◌, ◌++◌, Option, Some, None}
use Rattle.std.specs.List.{flat_map}
use Rattle.std.specs.List.Sorted.{IsPermutation, IsSorted}
use Rattle.std.specs.Ordering.{nat_cmp}
use Rattle.gptp_lint.specs.Components.{decides_by_clock}
use Rattle.gptp_lint.specs.Graph.{GraphState, HaveOctets}
use Rattle.gptp_lint.specs.Labels.{bests_in, labels_in, second_in}
use Rattle.gptp_lint.specs.declared.components.Moment.{Moment}
use Rattle.gptp_lint.specs.declared.labels.Label.{Label}

-- these are the bests of the components, sorted
pub record AreSorted (g : GraphState) (bests : List ℕ) : Type 0 where
  pub all : IsPermutation (bests_in (labels_in g)) bests
  pub sorted : IsSorted nat_cmp bests
  pub octets : HaveOctets g.systems

-- a time of this, with the bests then
pub record IsMomentOf (g : GraphState) (at : ℕ) (m : Moment) : Type 0 where
  pub at_is : m.at ≡ at
  pub bests : AreSorted g m.bests.items

-- it is told where the next time is another
abbrev pub MomentIsTold : GraphState → ℕ → ℕ → List Moment → List Moment → Type 0
MomentIsTold g at next old new =
    ((next ≡ at) × (new ≡ old)) ⊎ ((next ≢ at) × ((m : Moment) × IsMomentOf g at m × (new ≡ old ++ m ∷ [])))

-- the two best of the component with this best, where a clock decides between them
abbrev pub chance_if : ℕ → Option ℕ → List (ℕ × ℕ)
chance_if best None = []
chance_if best (Some second) = if decides_by_clock best second then (best, second) ∷ [] else []

abbrev pub chance_at : List Label → ℕ → List (ℕ × ℕ)
chance_at ls best = chance_if best (second_in best None ls)

-- the chances of all components, by their bests
pub record AreChancesOf (g : GraphState) (pairs : List (ℕ × ℕ)) : Type 0 where
  pub bests : List ℕ
  pub are : AreSorted g bests
  pub pairs_are : pairs ≡ flat_map (chance_at (labels_in g)) bests
