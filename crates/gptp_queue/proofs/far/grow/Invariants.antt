use Rattle.std.proofs.Common.{◌≡◌, ℕ, length}
use Rattle.gptp_queue.specs.Order.{part_at, IsSwept}
use Rattle.gptp_queue.proofs.far.grow.Given as goal

abbrev pub invariant-loop-kind : goal.invariant-loop-kind
invariant-loop-kind l =
    ((k : ℕ) → IsSwept l.table.entries (part_at l.initial.runs.items k) (part_at l.runs.items k))
    × (length l.runs.items ≡ length l.initial.runs.items)
