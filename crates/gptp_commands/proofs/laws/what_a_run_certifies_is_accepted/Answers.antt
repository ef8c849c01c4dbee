use Rattle.gptp_commands.proofs.CertifiedLemmas.{run_accepted}
use Rattle.gptp_commands.proofs.laws.what_a_run_certifies_is_accepted.Goals as goal

pub returns : goal.returns
returns c = run_accepted
