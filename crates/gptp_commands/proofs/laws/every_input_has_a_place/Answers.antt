use Rattle.gptp_commands.proofs.EveryPlaceLemmas.{each_has_place}
use Rattle.gptp_commands.proofs.laws.every_input_has_a_place.Goals as goal

pub returns : goal.returns
returns c = each_has_place
