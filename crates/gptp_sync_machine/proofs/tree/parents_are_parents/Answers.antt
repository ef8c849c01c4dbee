use Rattle.gptp_sync_machine.proofs.TreeLemmas.{parents_are_parents}
use Rattle.gptp_sync_machine.proofs.tree.parents_are_parents.Goals as goal

pub returns : goal.returns
returns c = parents_are_parents
