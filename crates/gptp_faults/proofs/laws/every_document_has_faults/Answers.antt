use Rattle.gptp_faults.proofs.EveryLemmas.{each_has_faults}
use Rattle.gptp_faults.proofs.laws.every_document_has_faults.Goals as goal

pub returns : goal.returns
returns c = each_has_faults
