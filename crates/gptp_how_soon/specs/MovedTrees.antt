-- Whether events move trees of systems, each by links that its top loses, or its two tops: some are cut off, some
-- turn (profile).
use Rattle.std.specs.Prelude.{ℕ, ◌==◌, ◌&&◌, ◌||◌, not, Bool, true, false, if◌then◌else◌, List, [], ◌∷◌, length, filter, slice_get}
use Rattle.std.specs.List.{list_all, list_any, range_with_len}
use Rattle.gptp_scenario.specs.Network.{NetworkState}
use Rattle.gptp_scenario.specs.declared.change.Timed.{Timed}
use Rattle.gptp_topology.specs.After.{systems_after}
use Rattle.gptp_topology.specs.declared.nodes.System.{System}
use Rattle.gptp_how_soon.specs.Chosen.{chosen_after, chosen_over, is_joined, is_moved_at, lost_ends, used_ends}
use Rattle.gptp_how_soon.specs.Silent.{hears}
use Rattle.gptp_how_soon.specs.Tree.{has_better_root, has_same_root, is_below}
use Rattle.gptp_how_soon.specs.TurnedTree.{falls_at, is_in_part, is_turned_at, leads_within, tree_turns_at}
use Rattle.gptp_how_soon.specs.TwoTops.{chosen_from, falls_below_both}
use Rattle.gptp_how_soon.specs.declared.chosen.Chosen.{Chosen}
use Rattle.gptp_how_soon.specs.declared.chosen.Ends.{Ends}

-- ---- trees that are cut off

-- the system at a place falls, and lost a link: it is a top of a tree
abbrev pub is_top_at : List System → List Ends → List Chosen → List Chosen → ℕ → Bool
is_top_at systems lost before now place = is_joined lost place && falls_at systems before now place

-- of that which has its root now
abbrev pub is_top_with : List System → List Ends → List Chosen → List Chosen → ℕ → ℕ → Bool
is_top_with systems lost before now place top =
    is_top_at systems lost before now top && has_same_root (slice_get now place) (slice_get now top)

abbrev pub tops_with : List System → List Ends → List Chosen → List Chosen → ℕ → List ℕ
tops_with systems lost before now place =
    filter (is_top_with systems lost before now place) (range_with_len 0 (length systems))

-- it falls and so is below the top, or it has another root now
abbrev pub is_below_or_apart : List System → List Ends → List Chosen → List Chosen → ℕ → ℕ → Bool
is_below_or_apart systems links before now top place =
    not (has_same_root (slice_get now top) (slice_get now place))
    || (falls_at systems before now place && is_below links before now top place)

-- it is the one top of a tree, which falls to a worse root
abbrev pub falls_below_one : List System → List Ends → List Chosen → List Chosen → ℕ → Bool
falls_below_one systems links before now top =
    has_better_root (slice_get before top) (slice_get now top)
    && list_all (is_below_or_apart systems links before now top) (range_with_len 0 (length systems))

-- these are the tops of such a tree
abbrev pub falls_below_tops : List System → List Ends → List Chosen → List Chosen → List ℕ → Bool
falls_below_tops systems links before now [] = false
falls_below_tops systems links before now (top ∷ []) = falls_below_one systems links before now top
falls_below_tops systems links before now (first ∷ second ∷ []) =
    falls_below_both systems links before now (chosen_from systems links first) (chosen_from systems links second)
    first second
falls_below_tops systems links before now (first ∷ second ∷ third ∷ others) = false

abbrev pub has_tops : List ℕ → Bool
has_tops [] = false
has_tops (top ∷ others) = true

-- where the system at a place is a top, with others of its tree or alone; else, if it falls, there are such
abbrev pub is_in_tree : List System → List Ends → List Ends → List Chosen → List Chosen → ℕ → Bool
is_in_tree systems lost links before now place =
    if is_top_at systems lost before now place
    then falls_below_tops systems links before now (tops_with systems lost before now place)
    else not (falls_at systems before now place) || has_tops (tops_with systems lost before now place)

-- ---- tops

-- Two systems that are moved had one root. They are the same system if both turn and are of one part.
abbrev pub are_tops : List System → List Chosen → List Chosen → List Chosen → ℕ → ℕ → Bool
are_tops systems before now names one other =
    not (is_moved_at systems before now one && is_moved_at systems before now other)
    || (has_same_root (slice_get before one) (slice_get before other)
    && (not (is_turned_at systems before now one && is_in_part systems before now names one other)
    || (one == other)))

-- so it is of the ends of two links
abbrev pub ends_are_tops : List System → List Chosen → List Chosen → List Chosen → Ends → Ends → Bool
ends_are_tops systems before now names e f =
    are_tops systems before now names e.a f.a
    && are_tops systems before now names e.a f.b
    && are_tops systems before now names e.b f.a
    && are_tops systems before now names e.b f.b

abbrev pub agrees_with : List System → List Ends → List Chosen → List Chosen → List Chosen → Ends → Bool
agrees_with systems lost before now names e = list_all (ends_are_tops systems before now names e) lost

-- ---- all that is moved is cut off

-- the system at a place stays, or gets a worse root
abbrev pub stays_or_gets_worse : List System → List Chosen → List Chosen → ℕ → Bool
stays_or_gets_worse systems before now place =
    not (is_moved_at systems before now place) || has_better_root (slice_get before place) (slice_get now place)

-- each end of a link is moved that lives and was the far end
abbrev pub is_moved_if_far : List System → List Chosen → List Chosen → ℕ → ℕ → Bool
is_moved_if_far systems before now one other =
    not (hears systems before one other) || is_moved_at systems before now one

abbrev pub far_end_moves : List System → List Chosen → List Chosen → Ends → Bool
far_end_moves systems before now e =
    is_moved_if_far systems before now e.a e.b && is_moved_if_far systems before now e.b e.a

-- Each system that is moved gets a worse root, and each live far end of a link that is lost is moved. So what those
-- hold that aren't moved never came over such a link.
abbrev pub cuts_all : List System → List Ends → List Chosen → List Chosen → Bool
cuts_all systems lost before now =
    list_all (stays_or_gets_worse systems before now) (range_with_len 0 (length systems))
    && list_all (far_end_moves systems before now) lost

-- ---- trees that turn

-- What all would choose by the links alone that join two systems that turn: it names the part that each is of.
abbrev pub part_names : List System → List Ends → List Chosen → List Chosen → List Chosen
part_names systems links before now =
    chosen_over systems (filter (leads_within (is_turned_at systems before now)) links)

-- such a link doesn't lead from one part to another
abbrev pub keeps_part : List System → List Chosen → List Chosen → List Chosen → Ends → Bool
keeps_part systems before now names e =
    not (leads_within (is_turned_at systems before now) e) || has_same_root (slice_get names e.a) (slice_get names e.b)

-- an end of a link, if it turns, is the top of a tree that does
abbrev pub stays_or_tree_turns : List System → List Ends → List Chosen → List Chosen → List Chosen → ℕ → Bool
stays_or_tree_turns systems links before now names top =
    not (is_turned_at systems before now top) || tree_turns_at systems links before now names top

abbrev pub trees_turn_at : List System → List Ends → List Chosen → List Chosen → List Chosen → Ends → Bool
trees_turn_at systems links before now names e =
    stays_or_tree_turns systems links before now names e.a && stays_or_tree_turns systems links before now names e.b

-- the system at a place is of the part of an end that turns
abbrev pub turns_with : List System → List Chosen → List Chosen → List Chosen → ℕ → ℕ → Bool
turns_with systems before now names place top =
    is_turned_at systems before now top && is_in_part systems before now names top place

abbrev pub turns_with_end : List System → List Chosen → List Chosen → List Chosen → ℕ → Ends → Bool
turns_with_end systems before now names place e =
    turns_with systems before now names place e.a || turns_with systems before now names place e.b

abbrev pub stays_or_has_end : List System → List Ends → List Chosen → List Chosen → List Chosen → ℕ → Bool
stays_or_has_end systems lost before now names place =
    not (is_turned_at systems before now place)
    || list_any (turns_with_end systems before now names place) lost

abbrev pub parts_turn : List System → List Ends → List Ends → List Chosen → List Chosen → List Chosen → Bool
parts_turn systems lost links before now names =
    list_all (keeps_part systems before now names) links
    && list_all (trees_turn_at systems links before now names) lost
    && list_all (stays_or_has_end systems lost before now names) (range_with_len 0 (length systems))

-- ---- trees

-- Each system that falls is in a tree below one end of a link that is lost, or two, and no other has the root of one.
-- Each that turns is in one below one such end.
abbrev pub trees_move : List System → List Ends → List Ends → List Chosen → List Chosen → List Chosen → Bool
trees_move systems lost links before now names =
    list_all (agrees_with systems lost before now names) lost
    && list_all (is_in_tree systems lost links before now) (range_with_len 0 (length systems))
    && parts_turn systems lost links before now names

unfoldable pub moves_trees : List System → List Ends → List Ends → List Chosen → List Chosen → Bool
moves_trees systems lost links before now =
    trees_move systems lost links before now (part_names systems links before now)

-- between these events and more of them
abbrev pub moves_trees_after : NetworkState → List Timed → List Timed → Bool
moves_trees_after n made events =
    moves_trees (systems_after n events) (lost_ends n made events) (used_ends n events) (chosen_after n made)
    (chosen_after n events)

-- each live far end of a link that is lost between these events is moved
abbrev pub far_ends_move_after : NetworkState → List Timed → List Timed → Bool
far_ends_move_after n made events =
    list_all (far_end_moves (systems_after n events) (chosen_after n made) (chosen_after n events))
    (lost_ends n made events)

abbrev pub cuts_all_after : NetworkState → List Timed → List Timed → Bool
cuts_all_after n made events =
    cuts_all (systems_after n events) (lost_ends n made events) (chosen_after n made) (chosen_after n events)
