use Rattle.gptp_sync_machine.proofs.TreeLemmas.{way_is_one}
use Rattle.gptp_sync_machine.proofs.tree.way_is_one.Goals as goal

pub returns : goal.returns
returns c = way_is_one
