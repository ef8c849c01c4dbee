use Rattle.std.proofs.Common.{arith}
use Rattle.gptp_queue.specs.Waiting.{entry}
use Rattle.gptp_queue.specs.Order.{AddsTo, Within}
use Rattle.gptp_queue.proofs.QueueLemmas.{put_holds, others_put}
use Rattle.gptp_queue.proofs.queue.Queue.put_reserved.Goals as goal

pub put-requires-2-clause-highest : goal.put-requires-2-clause-highest
put-requires-2-clause-highest c = λ e there.
    let less = (c.self.invariant.holds.put e there).given in let next = c.next-number.ensures in
    omega (arith, less, next)

adds : (c : goal.After-drop_stale_at-arg-2-1)
    → AddsTo (Within c.self.inside.order.parts) (Within c.put-2.new.self.parts)
    (entry c.args.time c.self.inside.table.next c.args.place)
adds c = rw c.next-number.ensures at c.put-2.ensures.put

pub drop_stale_at-requires-clause-holds : goal.drop_stale_at-requires-clause-holds
drop_stale_at-requires-clause-holds c =
    let q = c.self.inside in
    rw c.put.ensures
    (put_holds q.table.entries q.table.next (Within q.order.parts) c.self.invariant.holds
    (Within c.put-2.new.self.parts) c.args.time c.args.place (adds c))

pub drop_stale_at-requires-clause-others : goal.drop_stale_at-requires-clause-others
drop_stale_at-requires-clause-others c =
    let q = c.self.inside in
    rw c.put.ensures
    (others_put q.table.entries q.table.next (Within q.order.parts) c.self.invariant.holds
    (Within c.put-2.new.self.parts) c.args.time c.args.place q.order.first c.self.invariant.there (adds c))
