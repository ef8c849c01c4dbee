use Rattle.std.proofs.Common.{arith}
use Rattle.gptp_queue.specs.Order.{Within}
use Rattle.gptp_queue.proofs.QueueLemmas.{none_held}
use Rattle.gptp_queue.proofs.queue.Queue.new.Goals as goal

pub invariant_of-result : goal.invariant_of-result
invariant_of-result c =
    let t = c.in_ok-table.ensures in let o = c.in_ok-order.ensures in
    rw (t.next, t.entries, o.first) (record {
      holds = none_held (Within c.in_ok-order.order.parts) o.none;
      there = o.none;
      fits = omega arith;
      numbers = omega arith;
    })
