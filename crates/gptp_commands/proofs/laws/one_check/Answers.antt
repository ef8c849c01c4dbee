use Rattle.gptp_commands.proofs.VerdictLemmas.{one_check}
use Rattle.gptp_commands.proofs.laws.one_check.Goals as goal

pub returns : goal.returns
returns c = one_check
