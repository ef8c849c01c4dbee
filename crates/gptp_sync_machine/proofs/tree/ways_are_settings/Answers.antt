use Rattle.gptp_sync_machine.proofs.TreeLemmas.{ways_are_settings}
use Rattle.gptp_sync_machine.proofs.tree.ways_are_settings.Goals as goal

pub returns : goal.returns
returns c = ways_are_settings
