use Rattle.std.proofs.Common.{◌≡◌, ℕ, ◌+◌, ◌*◌, ◌<◌, ◌≤◌, List, Some, length}
use denote.Text.{Utf8}
use denote.Shadow.{shadow}
use Rattle.toml.specs.Data.{Items, Members, no_items}
use Rattle.toml.specs.Tables.{Nodes, no_nodes}
use Rattle.toml.specs.Parse.{val, items, members}
use Rattle.gptp_outline.proofs.value.+value.Given as goal

abbrev pub decreases-array_end : goal.decreases-array_end
decreases-array_end l = 2 * l.depth + 2

abbrev pub decreases-table_end : goal.decreases-table_end
decreases-table_end l = 2 * l.depth + 2

abbrev pub decreases-value_end : goal.decreases-value_end
decreases-value_end l = 2 * l.depth + 1

abbrev pub invariant-array_end-items : goal.invariant-array_end-items
invariant-array_end-items l =
    shadow (Utf8 l.rest) × (length l.rest ≤ length l.fn.s)
    × ((n : ℕ) → length l.fn.s < n → (x : Items) (left : List ℕ)
    → items (val l.fn.depth) n no_items l.fn.s ≡ Some (x, left)
    → (m : ℕ) × (found : Items) × (length l.rest < m) × (items (val l.fn.depth) m found l.rest ≡ Some (x, left)))

abbrev pub decreases-array_end-items : goal.decreases-array_end-items
decreases-array_end-items l = length l.rest

abbrev pub invariant-table_end-members : goal.invariant-table_end-members
invariant-table_end-members l =
    shadow (Utf8 l.rest) × (length l.rest ≤ length l.fn.s)
    × ((n : ℕ) → length l.fn.s < n → (x : Members) (left : List ℕ)
    → members (val l.fn.depth) n no_nodes l.fn.s ≡ Some (x, left)
    → (m : ℕ) × (found : Nodes) × (length l.rest < m) × (members (val l.fn.depth) m found l.rest ≡ Some (x, left)))

abbrev pub decreases-table_end-members : goal.decreases-table_end-members
decreases-table_end-members l = length l.rest
