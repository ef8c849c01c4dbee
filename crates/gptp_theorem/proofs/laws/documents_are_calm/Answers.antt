use Rattle.gptp_theorem.proofs.CalmLemmas.{document_calm}
use Rattle.gptp_theorem.proofs.laws.documents_are_calm.Goals as goal

pub returns : goal.returns
returns c = document_calm
