use Rattle.gptp_queue.proofs.ring.Ring.first.Goals as goal

pub returns-clause-least : goal.returns-clause-least
returns-clause-least c = rw (← c.self.view_is) c.self.invariant.ordered.least
