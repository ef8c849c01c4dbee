use Rattle.gptp_commands.proofs.OneChoiceLemmas as choices
use Rattle.gptp_commands.proofs.laws.one_choice.Goals as goal

pub returns : goal.returns
returns c = choices.one_choice
