use Rattle.std.proofs.Common.{◌≡◌, ◌+◌, ◌≤◌, ◌∷◌}
use Rattle.gptp_queue.specs.Order.{first_of, part_at, IsLeastOf, WithinBelow}
use Rattle.gptp_queue.proofs.far.least_of.Given as goal

abbrev pub invariant-loop-kind : goal.invariant-loop-kind
invariant-loop-kind l =
    (l.at ≤ l.kind)
    × (l.first ≡ first_of (part_at (l.heap.entries ∷ l.runs.items) l.at))
    × IsLeastOf (WithinBelow (l.heap.entries ∷ l.runs.items) (l.kind + 1)) l.first
