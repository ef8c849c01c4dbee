use Rattle.std.proofs.Common.{◌++◌, ◌∷◌, []}
use Rattle.gptp_queue.specs.Order.{part_at}
use Rattle.gptp_queue.proofs.SlotLemmas.{filled-set, push_some}
use Rattle.gptp_queue.proofs.slots.Slots.push.Goals as goal

pub invariant_of-self : goal.invariant_of-self
invariant_of-self c =
    let s = c.self.inside in let queue = part_at s.entries.queues c.args.slot in
    rw c.push.ensures
    (filled-set s.filled s.entries.queues c.args.slot (queue ++ c.args.entry ∷ []) c.requires.slot c.self.invariant
    (push_some queue c.args.entry))
