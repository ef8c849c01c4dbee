use Rattle.gptp_commands.proofs.EveryComparisonLemmas.{each_has_comparison}
use Rattle.gptp_commands.proofs.laws.every_input_has_a_comparison.Goals as goal

pub returns : goal.returns
returns c = each_has_comparison
