use Rattle.gptp_commands.proofs.LawLemmas.{begins_so}
use Rattle.gptp_commands.proofs.laws.a_comparison_begins_so.Goals as goal

pub returns : goal.returns
returns c = begins_so
