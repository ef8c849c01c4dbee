use Rattle.gptp_commands.proofs.EveryRunLemmas.{each_has_run}
use Rattle.gptp_commands.proofs.laws.every_input_has_a_run.Goals as goal

pub returns : goal.returns
returns c = λ options input asked. each_has_run options asked input
