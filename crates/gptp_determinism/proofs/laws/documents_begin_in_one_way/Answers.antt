use Rattle.gptp_determinism.proofs.SoFarLemmas.{leads_begin_so}
use Rattle.gptp_determinism.proofs.laws.documents_begin_in_one_way.Goals as goal

pub returns : goal.returns
returns g c = leads_begin_so g.F.Fate.answers
