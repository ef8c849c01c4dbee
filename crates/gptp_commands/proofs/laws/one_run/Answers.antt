use Rattle.gptp_commands.proofs.OneRunLemmas.{one_run}
use Rattle.gptp_commands.proofs.laws.one_run.Goals as goal

pub returns : goal.returns
returns c = one_run
