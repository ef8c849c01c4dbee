use Rattle.std.proofs.Common.{◌∷◌}
use Rattle.gptp_vector.specs.Vector.{system_vector}
use Rattle.gptp_roles.specs.Choice.{path_vectors}
use Rattle.gptp_roles.proofs.ChoiceLemmas.{one_least}
use Rattle.gptp_roles.proofs.laws.chosen_vector_is_one.Goals as goal

pub returns : goal.returns
returns c = λ identity held v w. one_least (system_vector identity ∷ path_vectors held) v w
