use Rattle.gptp_sync_machine.proofs.TreeLemmas.{parents_are_measured}
use Rattle.gptp_sync_machine.proofs.tree.parents_are_measured.Goals as goal

pub returns : goal.returns
returns c = parents_are_measured
