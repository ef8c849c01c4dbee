-- Laws on snapshots that differ in the order of their systems alone: what a network settles at is the same.
use Rattle.std.specs.Prelude.{◌≡◌, List}
use Rattle.std.specs.List.Sorted.{IsPermutation}
use Rattle.gptp_graph.specs.Labelling.{SystemLine}
use Rattle.gptp_graph.specs.SettledChoice.{IsSettledChoice}
use Rattle.gptp_graph.specs.Snapshot.{Snapshot}

-- they have the same systems, in whichever order, and the same links
pub record AreAlike (g h : Snapshot) : Type 0 where
  pub systems : IsPermutation g.systems h.systems
  pub links : g.links ≡ h.links

-- the settled choice of one is that of the other
abbrev pub SameChoice : Type 0
SameChoice = (g h : Snapshot) (lines : List SystemLine) → AreAlike g h → IsSettledChoice g lines
    → IsSettledChoice h lines
