use Rattle.std.proofs.Common.{◌-◌, length}
use Rattle.gptp_traffic.specs.PendingIndex.{MakesFree}
use Rattle.gptp_traffic.proofs.pending.make_places.Given as goal

abbrev pub invariant-loop-queue : goal.invariant-loop-queue
invariant-loop-queue l =
    MakesFree l.initial.queue l.queue l.initial.items.items l.items.items l.initial.free.items l.free.items

abbrev pub decreases-loop-queue : goal.decreases-loop-queue
decreases-loop-queue l = l.count - length l.free.items
