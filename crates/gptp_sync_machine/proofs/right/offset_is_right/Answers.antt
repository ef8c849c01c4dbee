use Rattle.gptp_sync_machine.proofs.RightLemmas.{offset_is_right}
use Rattle.gptp_sync_machine.proofs.right.offset_is_right.Goals as goal

pub returns : goal.returns
returns c = offset_is_right
