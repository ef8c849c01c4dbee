use Rattle.gptp_sync_machine.proofs.RightLemmas.{bridge_tells_right}
use Rattle.gptp_sync_machine.proofs.right.bridge_tells_right.Goals as goal

pub returns : goal.returns
returns c = bridge_tells_right
