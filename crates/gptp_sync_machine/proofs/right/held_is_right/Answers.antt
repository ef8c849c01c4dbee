use Rattle.gptp_sync_machine.proofs.RightLemmas.{held_is_right}
use Rattle.gptp_sync_machine.proofs.right.held_is_right.Goals as goal

pub returns : goal.returns
returns c = held_is_right
