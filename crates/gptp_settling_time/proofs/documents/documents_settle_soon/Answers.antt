use Rattle.gptp_settling_time.proofs.DocumentLemmas.{acts_find_settled, documents_settle_soon}
use Rattle.gptp_settling_time.proofs.documents.documents_settle_soon.Goals as goal

pub returns-clause-documents : goal.returns-clause-documents
returns-clause-documents g c = documents_settle_soon g.F.Fate.answers

pub returns-clause-acts : goal.returns-clause-acts
returns-clause-acts g c = acts_find_settled g.F.Fate.answers
