use Rattle.std.proofs.Common.{ap}
use Rattle.gptp_queue.specs.Entry.{Entry}
use Rattle.gptp_model.specs.Pending.{IsKnownItem}
use Rattle.gptp_traffic.proofs.PlacedLemmas.{next_is, item_holds, looked_up}
use Rattle.gptp_traffic.proofs.pending.Pending.next.Goals as goal

pub returns-clause-next : goal.returns-clause-next
returns-clause-next c =
    let p = c.self.inside in let d = c.in_ok-first.first in let first = c.in_ok-first.ensures.first in
    let place = ap (λ (e : Entry). e.place) c.first.view_is in let time = ap (λ (e : Entry). e.time) c.first.view_is in
    let item = looked_up p.items.items p.queue.places p.queue.entries d c.index.result.now c.places_differ.ensures.known
    first.member c.self.invariant.1.each_place (rw place at c.index.ensures) in
    rw (← c.self.view_is, time, item)
    (next_is p.items.items p.queue.next d p.queue.entries c.numbers_rise.ensures first)

pub returns-clause-known : goal.returns-clause-known
returns-clause-known c =
    let p = c.self.inside in let d = c.in_ok-first.first in let first = c.in_ok-first.ensures.first in
    let place = ap (λ (e : Entry). e.place) c.first.view_is in
    let item = looked_up p.items.items p.queue.places p.queue.entries d c.index.result.now c.places_differ.ensures.known
    first.member c.self.invariant.1.each_place (rw place at c.index.ensures) in
    rw (← c.self.view_is, item)
    (item_holds p.items.items p.queue.next d (IsKnownItem p.systems p.links) p.queue.entries first.member
    c.self.invariant.0.known)
