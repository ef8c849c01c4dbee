use Rattle.gptp_determinism.proofs.RunLemmas.{leads_once, plays_once}
use Rattle.gptp_determinism.proofs.laws.documents_have_one_outcome.Goals as goal

pub returns-clause-plays : goal.returns-clause-plays
returns-clause-plays g c = plays_once g.F.Fate.answers

pub returns-clause-leads : goal.returns-clause-leads
returns-clause-leads g c = leads_once g.F.Fate.answers
