use Rattle.gptp_commands.proofs.OneFaultsLemmas.{one_faults}
use Rattle.gptp_commands.proofs.laws.one_faults.Goals as goal

pub returns : goal.returns
returns c = one_faults
