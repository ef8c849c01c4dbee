use Rattle.gptp_determinism.proofs.DocumentExistLemmas.{documents_unfold}
use Rattle.gptp_determinism.proofs.LineExistLemmas.{documents_lead}
use Rattle.gptp_determinism.proofs.laws.documents_unfold.Goals as goal

pub returns-clause-unfold : goal.returns-clause-unfold
returns-clause-unfold g c = documents_unfold g.F.Fate.answers

pub returns-clause-lead : goal.returns-clause-lead
returns-clause-lead g c = documents_lead g.F.Fate.answers
