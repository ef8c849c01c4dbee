use Rattle.gptp_sync_machine.proofs.ModestLemmas.{ways_are_modest}
use Rattle.gptp_sync_machine.proofs.right.ways_are_modest.Goals as goal

pub returns : goal.returns
returns c = ways_are_modest
