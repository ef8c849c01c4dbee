use Rattle.gptp_queue.proofs.RingLemmas.{near_later}
use Rattle.gptp_queue.proofs.ring.Ring.move_base.Goals as goal

pub invariant_of-self : goal.invariant_of-self
invariant_of-self c =
    let r = c.self.inside in
    let later = rw (← c.self.view_is) at c.requires in record {
      many = c.self.invariant.many;
      near = near_later r.base c.args.time r.slots.queues c.self.invariant.near later c.if-self-time.true;
      ordered = c.self.invariant.ordered;
    }
