use Rattle.std.proofs.Common.{◌≡◌, ℕ, ◌≤◌, ◌<◌, ◌/◌, []}
use Rattle.gptp_queue.specs.Order.{part_at}
use Rattle.gptp_queue.proofs.slots.Slots.first_from.Given as goal

abbrev pub invariant-loop-word : goal.invariant-loop-word
invariant-loop-word l = (k : ℕ) → l.low ≤ k → k / 64 < l.word → part_at l.self.queues k ≡ []
