use Rattle.gptp_commands.proofs.OnePlaceLemmas.{one_place}
use Rattle.gptp_commands.proofs.laws.one_place.Goals as goal

pub returns : goal.returns
returns c = one_place
