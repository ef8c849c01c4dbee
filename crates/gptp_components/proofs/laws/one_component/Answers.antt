use Rattle.std.proofs.Common.{subst, sym}
use Rattle.gptp_graph.specs.SettledChoice.{IsBestIdentity}
use Rattle.gptp_components.proofs.ComponentLemmas.{one_best, reaches_by_best, same_best}
use Rattle.gptp_components.proofs.laws.one_component.Goals as goal

pub returns : goal.returns
returns c = λ g v w d e wf one other. (
  (λ reached. one_best g w d.root e.root wf (same_best g v w d.root wf one.root reached) other.root),
  (λ same. reaches_by_best g v w d.root wf one.root (subst (IsBestIdentity g w) (sym same) other.root)),
)
