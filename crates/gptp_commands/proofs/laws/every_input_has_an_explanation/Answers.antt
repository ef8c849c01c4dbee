use Rattle.gptp_commands.proofs.EveryQuestionLemmas.{each_has_explanation}
use Rattle.gptp_commands.proofs.laws.every_input_has_an_explanation.Goals as goal

pub returns : goal.returns
returns c = each_has_explanation
