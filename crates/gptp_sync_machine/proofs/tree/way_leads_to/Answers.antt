use Rattle.gptp_sync_machine.proofs.TreeLemmas.{way_leads_to}
use Rattle.gptp_sync_machine.proofs.tree.way_leads_to.Goals as goal

pub returns : goal.returns
returns c = way_leads_to
