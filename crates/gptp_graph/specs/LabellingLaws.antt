-- Laws on the tests of a certificate.
use Rattle.std.specs.Prelude.{◌≡◌, ◌↔◌, ℕ, List}
use Rattle.gptp_lists.specs.Members.{In}
use Rattle.gptp_graph.specs.Order.{IsRising}
use Rattle.gptp_graph.specs.Snapshot.{Snapshot, clocks, IsWellFormed}
use Rattle.gptp_graph.specs.Distance.{IsNear}
use Rattle.gptp_graph.specs.Labelling.{SystemLine, line_clocks}
use Rattle.gptp_graph.specs.SettledChoice.{IsSettledChoice}
use Rattle.gptp_graph.specs.LocalTests.{PassesTooFar, PassesLocalTests}

-- the lines pass all local tests exactly where they are the settled choice
abbrev pub LocalTestsDecide : Type 0
LocalTestsDecide = (g : Snapshot) (lines : List SystemLine)
    → IsWellFormed g
    → PassesLocalTests g lines ↔ IsSettledChoice g lines

-- of the labellings with their lines by rising clock one passes at most
abbrev pub OneLabellingPasses : Type 0
OneLabellingPasses = (g : Snapshot) (xs ys : List SystemLine)
    → IsWellFormed g → PassesLocalTests g xs → PassesLocalTests g ys
    → IsRising (line_clocks xs) → IsRising (line_clocks ys)
    → xs ≡ ys

-- some labelling passes with nothing too far exactly where all systems are near
abbrev pub PassesWhereNear : Type 0
PassesWhereNear = (g : Snapshot)
    → IsWellFormed g
    → ((lines : List SystemLine) × PassesLocalTests g lines × PassesTooFar lines)
    ↔ ((v : ℕ) → In v (clocks g) → IsNear g v)
