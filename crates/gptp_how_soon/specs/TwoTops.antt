-- Whether two systems are the tops of a tree that events cut off: each lost a link (profile).
--
-- How far a system is from a top is what it would choose if the top were better than all.
use Rattle.std.specs.Prelude.{ℕ, ◌+◌, ◌==◌, ◌&&◌, ◌||◌, nat_lt, not, Bool, false, max, min, List, length, Option, Some, None, slice_get, slice_set}
use Rattle.std.specs.List.{list_all, range_with_len}
use Rattle.gptp_topology.specs.declared.nodes.System.{System}
use Rattle.gptp_how_soon.specs.Chosen.{chosen_over}
use Rattle.gptp_how_soon.specs.Tree.{chose_itself, has_better_root, has_same_root, is_below}
use Rattle.gptp_how_soon.specs.TurnedTree.{falls_at}
use Rattle.gptp_how_soon.specs.declared.chosen.Chosen.{Chosen}
use Rattle.gptp_how_soon.specs.declared.chosen.Ends.{Ends}

-- ---- how far systems are from one of them

-- the system at a place, if there is one, is better than all
abbrev pub with_lowest : Option System → List System → ℕ → List System
with_lowest None systems place = systems
with_lowest (Some o) systems place = slice_set systems place (record o { identity = 0 })

abbrev pub lowered : List System → ℕ → List System
lowered systems place = with_lowest (slice_get systems place) systems place

-- what each then chooses
abbrev pub chosen_from : List System → List Ends → ℕ → List Chosen
chosen_from systems links place = chosen_over (lowered systems place) links

-- ---- a tree

-- Before, a system had as many steps as the nearer top leads to it, from those of the tops on. By way of either it
-- would be near.
abbrev pub is_by_nearer : Option Chosen → Option Chosen → Option Chosen → Option Chosen → Bool
is_by_nearer None own first second = false
is_by_nearer (Some top) None first second = false
is_by_nearer (Some top) (Some own) None second = false
is_by_nearer (Some top) (Some own) (Some first) None = false
is_by_nearer (Some top) (Some own) (Some first) (Some second) =
    (own.steps == top.steps + min first.steps second.steps) && nat_lt (top.steps + max first.steps second.steps) 255

-- It is below both tops, by what all choose where the one is better than all, and where the other is. It had their
-- root.
abbrev pub is_below_both : List Ends → List Chosen → List Chosen → List Chosen → List Chosen → ℕ → ℕ → ℕ → Bool
is_below_both links before now by_first by_second first second place =
    is_below links by_first now first place
    && is_below links by_second now second place
    && has_same_root (slice_get before first) (slice_get before place)
    && is_by_nearer (slice_get before first) (slice_get before place) (slice_get by_first place)
    (slice_get by_second place)

-- it falls and so is below both, or it has another root now
abbrev pub is_both_or_apart : List System → List Ends → List Chosen → List Chosen → List Chosen → List Chosen → ℕ → ℕ
    → ℕ → Bool
is_both_or_apart systems links before now by_first by_second first second place =
    not (has_same_root (slice_get now first) (slice_get now place))
    || (falls_at systems before now place
    && is_below_both links before now by_first by_second first second place)

-- these two are the tops of a tree, which falls to a worse root
abbrev pub falls_below_both : List System → List Ends → List Chosen → List Chosen → List Chosen → List Chosen → ℕ → ℕ
    → Bool
falls_below_both systems links before now by_first by_second first second =
    has_better_root (slice_get before first) (slice_get now first)
    && chose_itself (slice_get by_first first)
    && chose_itself (slice_get by_second second)
    && list_all (is_both_or_apart systems links before now by_first by_second first second)
    (range_with_len 0 (length systems))
