use Rattle.std.proofs.Common.{None}
use Rattle.gptp_queue.proofs.BothLemmas.{least_of_both}
use Rattle.gptp_queue.proofs.order.Order.new.Goals as goal

pub returns-clause-none : goal.returns-clause-none
returns-clause-none c =
    least_of_both c.in_ok-ring.ring.parts c.in_ok-far.far.parts None None c.in_ok-ring.ensures.none
    c.in_ok-far.ensures.none
