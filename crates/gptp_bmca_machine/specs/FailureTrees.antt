-- What the failure of a system moves: trees that it cuts off from the best of before, each with one top or two, and
-- trees that turn to that by their one way out.
use Rattle.std.specs.Prelude.{◌⊎◌, ◌≤◌, ℕ, List}
use Rattle.gptp_lists.specs.Members.{In}
use Rattle.gptp_graph.specs.Snapshot.{System, Snapshot, clocks, IsWellFormed}
use Rattle.gptp_graph.specs.Best.{IsBest}
use Rattle.gptp_graph.specs.PathBound.{BoundsPaths}
use Rattle.gptp_bmca_machine.specs.CutTree.{CutsOff, LosesSystem, Tree}
use Rattle.gptp_bmca_machine.specs.LossLaws.{IsWhatIsLeft, Unmoved}
use Rattle.gptp_bmca_machine.specs.Network.{Network}
use Rattle.gptp_bmca_machine.specs.TurnTree.{TurnsTree}
use Rattle.gptp_bmca_machine.specs.TwoTops.{CutsOffTwice, First, TopsTree}

-- a tree that turns: its systems, its top, from which of them the one way out leads, and to which system, how far its
-- top was from the best of before, and how much farther each system was
pub record Turning : Type 0 where
  pub tree : List ℕ
  pub top : ℕ
  pub last : ℕ
  pub out : ℕ
  pub base : ℕ
  pub depth : ℕ → ℕ

-- A system fails, and each system that is left is unmoved, or one of a tree that is cut off, maybe with two tops, or
-- one of a tree that turns.
pub record FailureMoves (g : Snapshot) (n : Network) (lost : ℕ) (best : System) (IsCut : Tree → Type 0)
    (IsTurned : Turning → Type 0) (IsTwice : TopsTree → Type 0) : Type 0 where
  pub well : IsWellFormed n.graph
  pub left : IsWhatIsLeft g n
  pub loses : LosesSystem g n lost
  pub cut : (t : Tree) → IsCut t → CutsOff g n t.top best t.next t.base t.depth
  pub cut_top : (t : Tree) → IsCut t → IsBest n.graph t.top t.next
  pub turned : (t : Turning) → IsTurned t → TurnsTree g n t.tree t.top lost t.last t.out best t.base t.depth
  pub turned_top : (t : Turning) → IsTurned t → In t.top t.tree
  pub twice : (t : TopsTree) → IsTwice t → CutsOffTwice g n t.top best t.next t.base t.depth
  pub twice_top : (t : TopsTree) → IsTwice t → IsBest n.graph (t.top First) t.next
  pub all : (v : ℕ) → In v (clocks n.graph) → Unmoved g n v
      ⊎ (((t : Tree) × IsCut t × IsBest n.graph v t.next)
      ⊎ (((t : Turning) × IsTurned t × In v t.tree) ⊎ ((t : TopsTree) × IsTwice t × IsBest n.graph v t.next)))
  pub paths : BoundsPaths n.graph n.reach
  pub few : n.reach ≤ 255
