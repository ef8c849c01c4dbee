use Rattle.gptp_queue.proofs.RingLemmas.{empty_ring}
use Rattle.gptp_queue.proofs.ring.Ring.new.Goals as goal

pub invariant_of-result : goal.invariant_of-result
invariant_of-result c =
    rw c.none.ensures (empty_ring c.in_ok-new.field-0.queues c.in_ok-new.ensures.len c.in_ok-new.ensures.none)
