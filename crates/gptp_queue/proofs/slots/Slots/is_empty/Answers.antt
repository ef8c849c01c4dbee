use Rattle.gptp_queue.proofs.SlotLemmas.{nothing_queued}
use Rattle.gptp_queue.proofs.slots.Slots.is_empty.Goals as goal

pub returns : goal.returns
returns c = λ yes. rw (← c.self.view_is) (nothing_queued c.self.inside.entries.queues (c.are_empty.ensures.0 yes))
