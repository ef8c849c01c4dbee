use Rattle.gptp_commands.proofs.EveryFaultsLemmas.{each_has_faults}
use Rattle.gptp_commands.proofs.laws.every_input_has_faults.Goals as goal

pub returns : goal.returns
returns c = λ options input asked least. each_has_faults options asked least input
