-- Whether events move a tree of systems, by one link that is lost, which keep their root and get it by one other link
-- (profile).
use Rattle.std.specs.Prelude.{ℕ, ◌==◌, ◌&&◌, ◌||◌, nat_le, not, Bool, false, List, [], ◌∷◌, length, slice_get}
use Rattle.std.specs.List.{count_by, list_all, range_with_len}
use Rattle.gptp_scenario.specs.Network.{NetworkState}
use Rattle.gptp_scenario.specs.declared.change.Timed.{Timed}
use Rattle.gptp_topology.specs.After.{systems_after}
use Rattle.gptp_topology.specs.declared.nodes.System.{System}
use Rattle.gptp_how_soon.specs.Chosen.{chosen_after, is_moved_at, lost_ends, used_ends}
use Rattle.gptp_how_soon.specs.Tree.{has_no_more_steps, has_same_root, is_one_apart}
use Rattle.gptp_how_soon.specs.Turned.{goes_farther, has_fewer_steps, leads_nearer}
use Rattle.gptp_how_soon.specs.declared.chosen.Chosen.{Chosen}
use Rattle.gptp_how_soon.specs.declared.chosen.Ends.{Ends}

-- ---- who turns

-- the system at a place is moved, keeps its root, and is farther from it
abbrev pub is_turned_at : List System → List Chosen → List Chosen → ℕ → Bool
is_turned_at systems before now place =
    is_moved_at systems before now place && goes_farther (slice_get before place) (slice_get now place)

-- it is moved, and doesn't turn
abbrev pub falls_at : List System → List Chosen → List Chosen → ℕ → Bool
falls_at systems before now place = is_moved_at systems before now place && not (is_turned_at systems before now place)

-- It turns, and has the name of the system at the top. By names parts are told apart of which each turns by itself.
abbrev pub is_in_part : List System → List Chosen → List Chosen → List Chosen → ℕ → ℕ → Bool
is_in_part systems before now names top place =
    is_turned_at systems before now place && has_same_root (slice_get names top) (slice_get names place)

-- it is so if it is moved
abbrev pub stays_or_is_in_part : List System → List Chosen → List Chosen → List Chosen → ℕ → ℕ → Bool
stays_or_is_in_part systems before now names top place =
    not (is_moved_at systems before now place) || is_in_part systems before now names top place

-- ---- links of the tree, by who turns

-- a link leads out of it: one end of it turns, and the other doesn't
abbrev pub leads_out : (ℕ → Bool) → Ends → Bool
leads_out turned e = (turned e.a && not (turned e.b)) || (turned e.b && not (turned e.a))

abbrev pub leads_within : (ℕ → Bool) → Ends → Bool
leads_within turned e = turned e.a && turned e.b

-- one that leads within leads one step on
abbrev pub leads_one_on_within : (ℕ → Bool) → List Chosen → Ends → Bool
leads_one_on_within turned before e =
    not (leads_within turned e) || is_one_apart (slice_get before e.a) (slice_get before e.b)

-- it leads within, from the system at a place to one that had fewer steps
abbrev pub leads_nearer_within : (ℕ → Bool) → List Chosen → ℕ → Ends → Bool
leads_nearer_within turned before place e = leads_within turned e && leads_nearer before place e

-- ---- a tree

-- The system at a place had the root of the top, and no fewer steps than it. At most one link leads from it to one of
-- the tree that was nearer.
abbrev pub turns_below : (ℕ → Bool) → List Ends → List Chosen → ℕ → ℕ → Bool
turns_below turned links before top place =
    has_same_root (slice_get before top) (slice_get before place)
    && has_no_more_steps (slice_get before top) (slice_get before place)
    && nat_le (count_by (leads_nearer_within turned before place) links) 1

abbrev pub stays_or_turns : (ℕ → Bool) → List Ends → List Chosen → ℕ → ℕ → Bool
stays_or_turns turned links before top place = not (turned place) || turns_below turned links before top place

-- The system at the top turns, and each of its part does so below it. Links between them lead one step on, and one link
-- leads out.
abbrev pub tree_turns_at : List System → List Ends → List Chosen → List Chosen → List Chosen → ℕ → Bool
tree_turns_at systems links before now names top =
    is_in_part systems before now names top top
    && list_all (stays_or_turns (is_in_part systems before now names top) links before top)
    (range_with_len 0 (length systems))
    && list_all (leads_one_on_within (is_in_part systems before now names top) before) links
    && (count_by (leads_out (is_in_part systems before now names top)) links == 1)

-- A link is lost that led from the top to the other, which was nearer and isn't moved. Each system that is moved is one
-- of the tree that turns below the top: all have one root.
abbrev pub turns_from : List System → List Ends → List Chosen → List Chosen → ℕ → ℕ → Bool
turns_from systems links before now top other =
    not (is_moved_at systems before now other)
    && has_fewer_steps (slice_get before other) (slice_get before top)
    && list_all (stays_or_is_in_part systems before now now top) (range_with_len 0 (length systems))
    && tree_turns_at systems links before now now top

-- it is so of one end of the one link that is lost
abbrev pub turns_tree : List System → List Ends → List Ends → List Chosen → List Chosen → Bool
turns_tree systems [] links before now = false
turns_tree systems (e ∷ []) links before now =
    turns_from systems links before now e.a e.b || turns_from systems links before now e.b e.a
turns_tree systems (e ∷ f ∷ es) links before now = false

-- between these events and more of them
abbrev pub turns_tree_after : NetworkState → List Timed → List Timed → Bool
turns_tree_after n made events =
    turns_tree (systems_after n events) (lost_ends n made events) (used_ends n events) (chosen_after n made)
    (chosen_after n events)
