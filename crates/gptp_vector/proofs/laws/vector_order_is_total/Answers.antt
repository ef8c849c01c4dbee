use Rattle.gptp_vector.proofs.VectorLemmas.{order_is_total}
use Rattle.gptp_vector.proofs.laws.vector_order_is_total.Goals as goal

pub returns : goal.returns
returns c = order_is_total
