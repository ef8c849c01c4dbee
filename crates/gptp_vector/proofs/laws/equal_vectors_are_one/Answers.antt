use Rattle.gptp_vector.proofs.VectorLemmas.{equal_is_same}
use Rattle.gptp_vector.proofs.laws.equal_vectors_are_one.Goals as goal

pub returns : goal.returns
returns c = equal_is_same
