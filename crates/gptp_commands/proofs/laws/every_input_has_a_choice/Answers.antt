use Rattle.gptp_commands.proofs.EveryQuestionLemmas.{each_has_choice}
use Rattle.gptp_commands.proofs.laws.every_input_has_a_choice.Goals as goal

pub returns : goal.returns
returns c = each_has_choice
