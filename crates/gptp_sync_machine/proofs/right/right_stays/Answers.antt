use Rattle.gptp_sync_machine.proofs.RightLemmas.{right_stays}
use Rattle.gptp_sync_machine.proofs.right.right_stays.Goals as goal

pub returns : goal.returns
returns c = right_stays
