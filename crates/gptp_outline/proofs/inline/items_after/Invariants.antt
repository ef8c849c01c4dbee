-- The items so far and those of the rest are those of the array.
use Rattle.std.proofs.Common.{◌≡◌, ◌++◌, ℕ, ◌<◌, ◌≤◌, List, Some, length, map, option_map}
use denote.Text.{Utf8}
use denote.Shadow.{shadow}
use Rattle.toml.specs.Data.{Items, no_items}
use Rattle.toml.specs.Parse.{items, val}
use Rattle.gptp_outline.specs.Inline.{items_from, keys_view}
use Rattle.gptp_outline.proofs.inline.items_after.Given as goal

abbrev pub invariant-items : goal.invariant-items
invariant-items l =
    shadow (Utf8 l.rest) × (length l.rest ≤ length l.fn.s)
    × ((n : ℕ) (x : Items) (left : List ℕ) → length l.fn.s < n
    → items (val l.fn.depth) n no_items l.fn.s ≡ Some (x, left)
    → (m : ℕ) × (found : Items) × (length l.rest < m) × (items (val l.fn.depth) m found l.rest ≡ Some (x, left))
    × (items_from l.fn.depth n l.fn.s
    ≡ option_map (λ more. map keys_view l.found.items ++ more) (items_from l.fn.depth m l.rest)))

abbrev pub decreases-items : goal.decreases-items
decreases-items l = length l.rest
