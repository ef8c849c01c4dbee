use Rattle.std.proofs.Common.{◌≤◌}
use Rattle.gptp_queue.specs.Order.{size_of, Within}
use Rattle.gptp_queue.specs.Queue.{Holds}
use Rattle.gptp_queue.proofs.queue.drop_stale.Given as goal

-- the parts have all entries as before, and there is no less room
abbrev pub invariant-loop-first : goal.invariant-loop-first
invariant-loop-first l =
    Holds l.table.entries l.table.next (Within l.order.parts) × (l.initial.order.room ≤ l.order.room)

abbrev pub decreases-loop-first : goal.decreases-loop-first
decreases-loop-first l = size_of l.order.parts
