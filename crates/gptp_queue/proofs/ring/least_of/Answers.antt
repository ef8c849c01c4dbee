use Rattle.gptp_queue.proofs.RingLemmas.{ordered_ahead, ordered_empty, ordered_from_0, ordered_none}
use Rattle.gptp_queue.proofs.ring.least_of.Goals as goal

pub returns-then-is_empty : goal.returns-then-is_empty
returns-then-is_empty c =
    rw c.none.ensures
    (ordered_empty c.args.slots.now.queues c.are_many.ensures (c.is_empty.ensures c.if-is_empty.true))

pub returns-in-Some : goal.returns-in-Some
returns-in-Some c =
    rw c.first.ensures
    (ordered_ahead c.args.low c.args.slots.now.queues c.requires c.are_many.ensures c.in-Some.slot c.in-Some.ensures.some)

pub returns-in-Some-first_from : goal.returns-in-Some-first_from
returns-in-Some-first_from c =
    rw c.first-in-Some-first_from.ensures
    (ordered_from_0 c.args.low c.args.slots.now.queues c.requires c.are_many.ensures c.in-None.ensures.none
    c.in-Some-first_from.slot c.in-Some-first_from.ensures.some)

pub returns-in-None-first_from : goal.returns-in-None-first_from
returns-in-None-first_from c =
    rw c.none-in-None-first_from.ensures
    (ordered_none c.args.low c.args.slots.now.queues c.requires c.are_many.ensures c.in-None.ensures.none
    c.in-None-first_from.ensures.none)
