use Rattle.gptp_commands.proofs.EveryCheckLemmas.{each_has_check}
use Rattle.gptp_commands.proofs.laws.every_input_has_a_check.Goals as goal

pub returns : goal.returns
returns c = each_has_check
