use Rattle.gptp_lint.proofs.EveryLemmas.{each_is_found}
use Rattle.gptp_lint.proofs.laws.every_document_has_findings.Goals as goal

pub returns : goal.returns
returns c = each_is_found
