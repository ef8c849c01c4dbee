-- What the lines of a settled choice say of a live system.
use Rattle.std.proofs.Common.{◌≡◌, ◌<◌, ◌≤◌, ℕ, Bool, true, false, List, refl, subst, arith}
use Rattle.gptp_lists.specs.Members.{In}
use Rattle.gptp_graph.specs.Snapshot.{Snapshot, IsWellFormed, clocks}
use Rattle.gptp_graph.specs.Distance.{IsDistance}
use Rattle.gptp_graph.specs.Labelling.{SystemLine}
use Rattle.gptp_graph.specs.LocalTests.{StatesSteps}
use Rattle.gptp_graph.specs.SettledChoice.{IsBestIdentity, IsParentIfAny, IsSettledChoice, IsSettledLine}
use Rattle.gptp_graph.proofs.DistanceLemmas.{IsDistance-clock, IsDistance-unique}
use Rattle.gptp_graph.proofs.StatementLemmas.{line_of}
use Rattle.gptp_checker.specs.Places.{IsLineAt}

-- a line with fewer than 255 steps isn't far
pub isn't_far : (g : Snapshot) (line : SystemLine) → IsSettledLine g line → line.steps < 255 → line.far ≡ false
isn't_far g line settled near = by_far line.far refl
  where
    by_far : (far : Bool) → line.far ≡ far → line.far ≡ false
    by_far false is = is
    by_far true is = let more : 255 ≤ line.steps = settled.far is in absurd (omega arith)

module _ (g : Snapshot) (lines : List SystemLine) (choice : IsSettledChoice g lines) (v : ℕ) where
  -- its line states its distance
  pub distance_stated : (line : SystemLine) → IsLineAt lines v line → IsDistance g v line.steps
  distance_stated line at = subst (λ w. IsDistance g w line.steps) at.has (choice.settled line at.stated).steps

  -- and its best
  pub best_stated : (line : SystemLine) → IsLineAt lines v line → IsBestIdentity g v line.root
  best_stated line at = subst (λ w. IsBestIdentity g w line.root) at.has (choice.settled line at.stated).root

module _ (g : Snapshot) (lines : List SystemLine) (wf : IsWellFormed g) (choice : IsSettledChoice g lines) (v : ℕ) where
  -- it has a line
  pub line_there : In v (clocks g) → (line : SystemLine) × IsLineAt lines v line
  line_there live =
      let found = line_of g lines v choice.systems live in
      (found.line, record { stated = found.stated; has = found.clock })

  pub steps_there : In v (clocks g) → (d : ℕ) × StatesSteps lines v d
  steps_there live = let (line, at) = line_there live in (line.steps, (line, at.stated, at.has, refl))

  -- which states its parent, where it isn't far
  pub parent_stated : (d : ℕ) (line : SystemLine) → IsLineAt lines v line → IsDistance g v d → d < 255
      → IsParentIfAny g v line.parent
  parent_stated d line at distance near =
      let settled = choice.settled line at.stated in
      let same : line.steps ≡ d =
      IsDistance-unique g v line.steps d wf (distance_stated g lines choice v line at) distance in
      let few : line.steps < 255 = omega arith in
      subst (λ w. IsParentIfAny g w line.parent) at.has (settled.parent (isn't_far g line settled few))

  -- a system with a distance has a line
  pub line_of_distance : (d : ℕ) → IsDistance g v d → (line : SystemLine) × IsLineAt lines v line
  line_of_distance d distance = line_there (IsDistance-clock g v d wf distance)
