-- The keys so far and those of the rest are those of the table.
use Rattle.std.proofs.Common.{◌≡◌, ◌++◌, ℕ, ◌<◌, ◌≤◌, List, Some, length, map, option_map}
use denote.Text.{Utf8}
use denote.Shadow.{shadow}
use Rattle.toml_parser.specs.Reading.{key_view}
use Rattle.toml.specs.Data.{Members}
use Rattle.toml.specs.Tables.{Nodes, no_nodes}
use Rattle.toml.specs.Parse.{members, val}
use Rattle.gptp_outline.specs.Inline.{keys_from}
use Rattle.gptp_outline.proofs.inline.keys_after.Given as goal

abbrev pub invariant-members : goal.invariant-members
invariant-members l =
    shadow (Utf8 l.rest) × (length l.rest ≤ length l.fn.s)
    × ((n : ℕ) (x : Members) (left : List ℕ) → length l.fn.s < n
    → members (val l.fn.depth) n no_nodes l.fn.s ≡ Some (x, left)
    → (m : ℕ) × (found : Nodes) × (length l.rest < m) × (members (val l.fn.depth) m found l.rest ≡ Some (x, left))
    × (keys_from l.fn.depth n l.fn.s
    ≡ option_map (λ more. map key_view l.keys.items ++ more) (keys_from l.fn.depth m l.rest)))

abbrev pub decreases-members : goal.decreases-members
decreases-members l = length l.rest
