-- A labelling passes the local tests with nothing too far exactly where all systems are near.
use Rattle.std.proofs.Common.{◌<◌, ℕ, List, subst}
use Rattle.gptp_lists.specs.Members.{In}
use Rattle.gptp_graph.specs.Snapshot.{Snapshot, IsWellFormed, clocks}
use Rattle.gptp_graph.specs.Distance.{IsDistance, IsNear}
use Rattle.gptp_graph.specs.Labelling.{SystemLine}
use Rattle.gptp_graph.specs.SettledChoice.{IsSettledChoice}
use Rattle.gptp_graph.specs.LocalTests.{PassesTooFar, PassesLocalTests}
use Rattle.gptp_graph.proofs.DistanceLemmas.{IsDistance-unique}
use Rattle.gptp_graph.proofs.StatementLemmas.{line_of, line_clock}
use Rattle.gptp_graph.proofs.SoundLemmas.{sound}
use Rattle.gptp_graph.proofs.CompleteLemmas.{complete}
use Rattle.gptp_graph.proofs.ChoiceLemmas.{choice_exists}

-- where lines pass with nothing too far, all systems are near
pub near_where_passed : (g : Snapshot) → IsWellFormed g
    → ((lines : List SystemLine) × PassesLocalTests g lines × PassesTooFar lines)
    → (v : ℕ) → In v (clocks g) → IsNear g v
near_where_passed g wf (lines, h, not_far) v here =
    let l = line_of g lines v h.systems here in
    let d = ((sound g lines wf h).settled l.line l.stated).steps in
    (l.line.steps, subst (λ w. IsDistance g w l.line.steps) l.clock d, not_far l.line l.stated)

-- where all systems are near, the settled choice passes
pub passed_where_near : (g : Snapshot) → IsWellFormed g → ((v : ℕ) → In v (clocks g) → IsNear g v)
    → (lines : List SystemLine) × PassesLocalTests g lines × PassesTooFar lines
passed_where_near g wf near = of_choice (choice_exists g wf).0 (choice_exists g wf).1
  where
    of_choice : (lines : List SystemLine) → IsSettledChoice g lines
        → (lines : List SystemLine) × PassesLocalTests g lines × PassesTooFar lines
    of_choice lines is = (lines, complete g lines wf is, not_far)
      where
        not_far : PassesTooFar lines
        not_far line stated =
            let (d, here, below) = near line.clock (line_clock g lines line is.systems stated) in
            subst (λ n. n < 255) (IsDistance-unique g line.clock d line.steps wf here
            (is.settled line stated).steps) below
