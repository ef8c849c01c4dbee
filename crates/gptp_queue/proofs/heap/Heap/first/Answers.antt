use Rattle.std.proofs.Common.{Option, Some, true, refl, sym, subst}
use Rattle.std.specs.BinaryHeap.{heap_items, heap_len}
use Rattle.gptp_queue.specs.Order.{among, IsLeastOf}
use Rattle.gptp_queue.specs.Entry.{Entry}
use Rattle.gptp_queue.proofs.OrderLemmas.{of_heap, top_is, top_least}
use Rattle.gptp_queue.proofs.heap.Heap.first.Goals as goal

pub returns-in-Some-clause-least : goal.returns-in-Some-clause-least
returns-in-Some-clause-least c =
    let heap = c.self.inside.entries in
    let top = top_is (heap_items heap) (heap_len heap) c.in-Some.field-0.now heap.data.ok.0
    (c.in-Some.ensures.variant.0 (refl {a = true})) c.in-Some.ensures.lookup in
    let P : Option Entry → Type 0 = IsLeastOf (among (of_heap (heap_items heap))) in
    let least : P (Some c.in-Some.field-0.now.0) = subst P (sym top) (top_least (heap_items heap) c.self.invariant) in
    rw (c.of.ensures, ← c.self.view_is) least
