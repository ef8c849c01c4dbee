use Rattle.std.proofs.Common.{◌-◌, ◌<◌, arith}
use Rattle.std.proofs.lemmas.List.Sorted.{IsPermutation-map}
use Rattle.std.specs.declared.cmp.Reverse.{Reverse}
use Rattle.std.specs.BinaryHeap.{heap_len, heap_capacity}
use Rattle.gptp_queue.specs.Entry.{Entry}
use Rattle.gptp_queue.proofs.OrderLemmas.{adds_moved, ok_on}
use Rattle.gptp_queue.proofs.heap.Heap.put.Goals as goal

room : (c : goal.After-push) → heap_len c.self.inside.entries < heap_capacity c.self.inside.entries
room c =
    let h = c.self.inside.entries in
    let some : 0 < heap_capacity h - heap_len h = rw (← c.self.view_is) at c.requires in omega (arith, some)

pub returns-clause-put : goal.returns-clause-put
returns-clause-put c =
    let same = ok_on c.push.result _ (c.push.ensures.succeeds (room c)) c.push.ensures.permutation in
    rw (← c.self.view_is) (adds_moved _ _ c.args.entry (IsPermutation-map (λ (d : Reverse Entry). d.0) _ _ same))

pub returns-clause-room : goal.returns-clause-room
returns-clause-room c =
    let h = c.self.inside.entries in
    let len = ok_on c.push.result _ (c.push.ensures.succeeds (room c)) c.push.ensures.len in
    let capacity = c.push.ensures.capacity in
    rw (← c.self.view_is) (omega (arith, len, capacity))
