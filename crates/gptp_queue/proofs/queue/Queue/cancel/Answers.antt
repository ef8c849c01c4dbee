use Rattle.gptp_queue.specs.Order.{Within}
use Rattle.gptp_queue.specs.Waiting.{is_at}
use Rattle.std.proofs.Common.{not}
use Rattle.gptp_queue.proofs.QueueLemmas.{holds_filtered, others_cancelled}
use Rattle.gptp_queue.proofs.queue.Queue.cancel.Goals as goal

pub drop_stale_at-requires-clause-holds : goal.drop_stale_at-requires-clause-holds
drop_stale_at-requires-clause-holds c =
    let q = c.self.inside in
    rw c.clear.ensures
    (holds_filtered q.table.entries q.table.next (Within q.order.parts) c.self.invariant.holds
    (λ e. not (is_at c.args.place e)))

pub drop_stale_at-requires-clause-others : goal.drop_stale_at-requires-clause-others
drop_stale_at-requires-clause-others c =
    let q = c.self.inside in
    rw c.clear.ensures
    (others_cancelled q.table.entries q.table.next (Within q.order.parts) c.self.invariant.holds c.args.place q.order.first
    c.self.invariant.there)
