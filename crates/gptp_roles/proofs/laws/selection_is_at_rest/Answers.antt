use Rattle.gptp_roles.proofs.RestLemmas.{at_rest}
use Rattle.gptp_roles.proofs.laws.selection_is_at_rest.Goals as goal

pub returns : goal.returns
returns c = at_rest
