use Rattle.gptp_system.proofs.SentLemmas.{steps_send}
use Rattle.gptp_system.proofs.laws.sends_what_its_input_asks.Goals as goal

pub returns : goal.returns
returns c = steps_send
