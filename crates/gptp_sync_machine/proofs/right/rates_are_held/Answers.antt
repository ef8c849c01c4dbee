use Rattle.gptp_sync_machine.proofs.ModestLemmas.{rates_are_held}
use Rattle.gptp_sync_machine.proofs.right.rates_are_held.Goals as goal

pub returns : goal.returns
returns c = rates_are_held
