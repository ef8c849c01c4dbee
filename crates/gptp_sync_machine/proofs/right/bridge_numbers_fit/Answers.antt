use Rattle.gptp_sync_machine.proofs.RightLemmas.{bridge_numbers_fit}
use Rattle.gptp_sync_machine.proofs.right.bridge_numbers_fit.Goals as goal

pub returns : goal.returns
returns c = bridge_numbers_fit
