use Rattle.gptp_sync_machine.proofs.TellingLemmas.{root_tells}
use Rattle.gptp_sync_machine.proofs.follower.root_tells.Goals as goal

pub returns : goal.returns
returns c = root_tells
