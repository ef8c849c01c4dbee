use Rattle.gptp_commands.proofs.EveryTimelineLemmas.{each_has_timeline}
use Rattle.gptp_commands.proofs.laws.every_input_has_a_timeline.Goals as goal

pub returns : goal.returns
returns c = each_has_timeline
