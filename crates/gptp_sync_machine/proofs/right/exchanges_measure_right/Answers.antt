use Rattle.gptp_sync_machine.proofs.RightLemmas.{exchanges_measure_right}
use Rattle.gptp_sync_machine.proofs.right.exchanges_measure_right.Goals as goal

pub returns : goal.returns
returns c = exchanges_measure_right
