use Rattle.std.specs.BinaryHeap.{heap_items, heap_len}
use Rattle.gptp_queue.proofs.OrderLemmas.{popped}
use Rattle.gptp_queue.proofs.heap.Heap.take.Goals as goal

pub returns-clause-taken : goal.returns-clause-taken
returns-clause-taken c =
    let heap = c.self.inside.entries in
    let pop = c.pop.ensures in
    rw (← c.self.view_is)
    (popped (heap_items heap) (heap_items c.pop.new.self) (heap_len c.pop.new.self) (heap_len heap) c.pop.result
    heap.data.ok.0 pop.variant.1 pop.top pop.permutation pop.unchanged)
