use Rattle.gptp_queue.proofs.SlotLemmas.{filled-none, nothing_queued}
use Rattle.gptp_queue.proofs.slots.Slots.new.Goals as goal

pub invariant_of-result : goal.invariant_of-result
invariant_of-result c =
    filled-none c.in_ok-entries.entries.queues c.in_ok-entries.ensures.len c.in_ok-entries.ensures.none

pub returns-clause-none : goal.returns-clause-none
returns-clause-none c = nothing_queued c.in_ok-entries.entries.queues c.in_ok-entries.ensures.none
