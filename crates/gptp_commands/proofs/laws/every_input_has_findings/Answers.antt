use Rattle.gptp_commands.proofs.EveryFindingLemmas.{each_has_findings}
use Rattle.gptp_commands.proofs.laws.every_input_has_findings.Goals as goal

pub returns : goal.returns
returns c = each_has_findings
