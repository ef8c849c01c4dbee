use Rattle.std.proofs.Common.{◌≡◌, filter, rules}
use Rattle.std.proofs.lemmas.Fn.{filter_same}
use Rattle.std.specs.BinaryHeap.{heap_items}
use Rattle.gptp_queue.proofs.OrderLemmas.{stands_in_heap, swept_heap}
use Rattle.gptp_queue.proofs.heap.Heap.sweep.Goals as goal

-- what the table has is kept
pub returns-clause-swept : goal.returns-clause-swept
returns-clause-swept c =
    let es = c.args.table.now.entries in
    let heap = heap_items c.self.inside.entries in
    let filtered = c.retain.ensures.filtered in
    let is : filtered.0 ≡ filter (stands_in_heap es) heap =
    filter_same _ (stands_in_heap es) _ (λ d b after called. search rules) heap filtered.0 filtered.1 in
    rw (← c.self.view_is) (swept_heap es heap (heap_items c.retain.new.self) (rw is at filtered.2))
