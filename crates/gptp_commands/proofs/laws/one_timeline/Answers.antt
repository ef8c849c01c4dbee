use Rattle.gptp_commands.proofs.OneTimelineLemmas.{one_timeline}
use Rattle.gptp_commands.proofs.laws.one_timeline.Goals as goal

pub returns : goal.returns
returns c = one_timeline
