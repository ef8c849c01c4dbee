use Rattle.gptp_sync_machine.proofs.SizeLemmas.{corrections_are_small}
use Rattle.gptp_sync_machine.proofs.right.corrections_are_small.Goals as goal

pub returns : goal.returns
returns c = corrections_are_small
