use Rattle.gptp_commands.proofs.LawLemmas.{one_text}
use Rattle.gptp_commands.proofs.laws.one_comparison.Goals as goal

pub returns : goal.returns
returns c = one_text
