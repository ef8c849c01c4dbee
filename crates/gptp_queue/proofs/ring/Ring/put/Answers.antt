use Rattle.std.proofs.Common.{◌∙◌, ap, sym, arith}
use Rattle.gptp_queue.specs.Entry.{Entry}
use Rattle.gptp_queue.proofs.RingLemmas.{ring_adds, ring_before, ring_behind}
use Rattle.gptp_queue.proofs.ring.Ring.put.Goals as goal

pub invariant_of-self : goal.invariant_of-self
invariant_of-self c =
    let r = c.self.inside in let from = c.if-entry-self.false in let near = c.if-entry-self-2.false in
    let time = ap (λ (e : Entry). e.time) c.entry.view_is in
    let highest = rw (← c.self.view_is) at c.requires in
    rw (c.of-self-inside.ensures, c.push.ensures.queues, c.slot_of.ensures)
    (ring_before r.base r.slots.queues r.first c.args.entry c.self.invariant (omega (arith, from, time)) (omega (arith, from, near, time))
    highest (sym c.follows.ensures ∙ c.if-follows.true))

pub invariant_of-self-else-follows : goal.invariant_of-self-else-follows
invariant_of-self-else-follows c =
    let r = c.self.inside in let from = c.if-entry-self.false in let near = c.if-entry-self-2.false in
    let time = ap (λ (e : Entry). e.time) c.entry.view_is in
    let highest = rw (← c.self.view_is) at c.requires in
    rw (c.push.ensures.queues, c.slot_of.ensures)
    (ring_behind r.base r.slots.queues r.first c.args.entry c.self.invariant (omega (arith, from, time)) (omega (arith, from, near, time))
    highest (sym c.follows.ensures ∙ c.if-follows.false))

pub returns-then-follows-clause-put : goal.returns-then-follows-clause-put
returns-then-follows-clause-put c = λ yes.
    let r = c.self.inside in let from = c.if-entry-self.false in let near = c.if-entry-self-2.false in
    let time = ap (λ (e : Entry). e.time) c.entry.view_is in
    let highest = rw (← c.self.view_is) at c.requires in
    rw (c.push.ensures.queues, c.slot_of.ensures, ← c.self.view_is)
    (ring_adds r.base r.slots.queues r.first c.args.entry c.self.invariant (omega (arith, from, time)) (omega (arith, from, near, time))
    highest)

pub returns-else-follows-clause-put : goal.returns-else-follows-clause-put
returns-else-follows-clause-put c = λ yes.
    let r = c.self.inside in let from = c.if-entry-self.false in let near = c.if-entry-self-2.false in
    let time = ap (λ (e : Entry). e.time) c.entry.view_is in
    let highest = rw (← c.self.view_is) at c.requires in
    rw (c.push.ensures.queues, c.slot_of.ensures, ← c.self.view_is)
    (ring_adds r.base r.slots.queues r.first c.args.entry c.self.invariant (omega (arith, from, time)) (omega (arith, from, near, time))
    highest)
