use Rattle.gptp_commands.proofs.OneRunLemmas.{run_begins_so}
use Rattle.gptp_commands.proofs.laws.a_run_begins_so.Goals as goal

pub returns : goal.returns
returns c = run_begins_so
