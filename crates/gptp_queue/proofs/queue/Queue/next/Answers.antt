use Rattle.gptp_queue.proofs.QueueLemmas.{first_if, none_if}
use Rattle.gptp_queue.proofs.queue.Queue.next.Goals as goal

pub returns-clause-first : goal.returns-clause-first
returns-clause-first c =
    let q = c.self.inside in
    rw (c.get.ensures, c.first.ensures.first, ← c.self.view_is)
    (first_if q.table.entries q.table.next _ c.self.invariant.holds q.order.first c.self.invariant.there)

pub returns-clause-empty : goal.returns-clause-empty
returns-clause-empty c =
    let q = c.self.inside in
    rw (c.get.ensures, c.first.ensures.first, ← c.self.view_is)
    (none_if q.table.entries q.table.next _ c.self.invariant.holds q.order.first c.self.invariant.there)
