use Rattle.std.proofs.Common.{sym, subst}
use Rattle.gptp_graph.specs.Marking.{IsLowestRoot}
use Rattle.gptp_graph.proofs.MarkingLemmas.{lowest_root, is_lowest_root}
use Rattle.gptp_graph.proofs.marking.lowest_root_is_bests.Goals as goal

pub returns : goal.returns
returns c = λ g all one best root wf h stated is. (
  lowest_root g wf all h one best root is,
  λ e. subst (IsLowestRoot g all one) (sym e) (is_lowest_root g wf all h one best is),
)
