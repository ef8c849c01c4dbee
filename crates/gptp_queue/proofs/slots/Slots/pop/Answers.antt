use Rattle.std.proofs.Common.{◌≢◌, ◌∙◌, [], arith}
use Rattle.gptp_queue.specs.Order.{part_at, rest_of}
use Rattle.gptp_queue.proofs.SlotLemmas.{filled-clear, filled-same, here, rest_some}
use Rattle.gptp_queue.proofs.slots.Slots.pop.Goals as goal

pub invariant_of-self : goal.invariant_of-self
invariant_of-self c =
    let s = c.self.inside in
    let none = rw c.pop.ensures.rest at (c.is_empty.ensures.0 c.if-is_empty.true) in
    rw c.pop.ensures.rest
    (filled-clear s.filled s.entries.queues c.args.slot (rest_of (part_at s.entries.queues c.args.slot)) c.requires.slot
    c.self.invariant none)

pub invariant_of-self-else-is_empty : goal.invariant_of-self-else-is_empty
invariant_of-self-else-is_empty c =
    let s = c.self.inside in let queue = part_at s.entries.queues c.args.slot in
    let some : part_at c.pop.new.self.queues c.args.slot ≢ [] =
    λ none. grind (arith, c.is_empty.ensures.1 none, c.if-is_empty.false) in
    let left = rw c.pop.ensures.rest at some in
    let same = here s.filled s.entries.queues c.args.slot (rest_of queue) c.requires.slot c.self.invariant in
    rw c.pop.ensures.rest
    (filled-same s.filled s.entries.queues c.args.slot (rest_of queue) c.requires.slot c.self.invariant
    (rest_some queue (λ is. left (same ∙ is))) left)
