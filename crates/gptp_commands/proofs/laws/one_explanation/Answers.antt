use Rattle.gptp_commands.proofs.OneQuestionLemmas as lemmas
use Rattle.gptp_commands.proofs.laws.one_explanation.Goals as goal

pub returns : goal.returns
returns c = lemmas.one_explanation
