use Rattle.gptp_lists.proofs.SystemSpecLemmas.{pigeonhole}
use Rattle.gptp_lists.proofs.laws.different_members_fit.Goals as goal

pub returns : goal.returns
returns c = pigeonhole
