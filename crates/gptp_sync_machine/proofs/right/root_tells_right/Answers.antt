use Rattle.gptp_sync_machine.proofs.RightLemmas.{root_tells_right}
use Rattle.gptp_sync_machine.proofs.right.root_tells_right.Goals as goal

pub returns : goal.returns
returns c = root_tells_right
