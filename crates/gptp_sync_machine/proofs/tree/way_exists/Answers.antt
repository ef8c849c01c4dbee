use Rattle.gptp_sync_machine.proofs.TreeLemmas.{way_exists}
use Rattle.gptp_sync_machine.proofs.tree.way_exists.Goals as goal

pub returns : goal.returns
returns c = way_exists
