use Rattle.gptp_sync_machine.proofs.TreeLemmas.{way_ends_at_parent}
use Rattle.gptp_sync_machine.proofs.tree.way_ends_at_parent.Goals as goal

pub returns : goal.returns
returns c = way_ends_at_parent
