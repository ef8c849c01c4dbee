use Rattle.gptp_settling_time.proofs.StartLemmas.{starts_settle_at_once}
use Rattle.gptp_settling_time.proofs.StartDocumentLemmas.{documents_start_at_once}
use Rattle.gptp_settling_time.proofs.starts.starts_settle_at_once.Goals as goal

pub returns-clause-worlds : goal.returns-clause-worlds
returns-clause-worlds g c = starts_settle_at_once g.F.Fate.answers

pub returns-clause-documents : goal.returns-clause-documents
returns-clause-documents g c = documents_start_at_once g.F.Fate.answers
