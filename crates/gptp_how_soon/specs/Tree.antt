-- Whether a tree of systems falls back to a worse root: events cut it off, by one link that is lost, or its best gets
-- worse (profile).
--
-- What each system of the tree had chosen says where it stands in it: from the one at the top, which lost the link or
-- was the best, each link leads one step farther or one step nearer.
use Rattle.std.specs.Prelude.{ℕ, ◌-◌, ◌==◌, ◌&&◌, ◌||◌, nat_le, nat_lt, not, Bool, false, if◌then◌else◌, List, [], ◌∷◌, length, Option, Some, None, slice_get}
use Rattle.std.specs.List.{count_by, list_all, range_with_len}
use Rattle.gptp_scenario.specs.Network.{NetworkState}
use Rattle.gptp_scenario.specs.declared.change.Timed.{Timed}
use Rattle.gptp_topology.specs.After.{systems_after}
use Rattle.gptp_topology.specs.declared.nodes.System.{System}
use Rattle.gptp_how_soon.specs.Chosen.{chosen_after, is_moved_at, lost_ends, place_of, used_ends}
use Rattle.gptp_how_soon.specs.Turned.{leads_nearer}
use Rattle.gptp_how_soon.specs.declared.chosen.Chosen.{Chosen}
use Rattle.gptp_how_soon.specs.declared.chosen.Ends.{Ends}
use Rattle.gptp_how_soon.specs.declared.kinds.Told.{Told}

-- ---- what two systems choose

-- both have one root
abbrev pub has_same_root : Option Chosen → Option Chosen → Bool
has_same_root None other = false
has_same_root (Some one) None = false
has_same_root (Some one) (Some other) = one.root == other.root

-- the one has a better root than the other
abbrev pub has_better_root : Option Chosen → Option Chosen → Bool
has_better_root None other = false
has_better_root (Some one) None = false
has_better_root (Some one) (Some other) = nat_lt one.root other.root

-- the one has no more steps than the other
abbrev pub has_no_more_steps : Option Chosen → Option Chosen → Bool
has_no_more_steps None far = false
has_no_more_steps (Some near) None = false
has_no_more_steps (Some near) (Some far) = nat_le near.steps far.steps

-- they are one step apart
abbrev pub is_one_apart : Option Chosen → Option Chosen → Bool
is_one_apart None other = false
is_one_apart (Some one) None = false
is_one_apart (Some one) (Some other) = (one.steps - other.steps == 1) || (other.steps - one.steps == 1)

-- ---- the links of a system

-- those at the ends of a link are so, if the system at a place is one of them
abbrev pub leads_one_on : List Chosen → ℕ → Ends → Bool
leads_one_on cs place e =
    (not (e.a == place) || is_one_apart (slice_get cs place) (slice_get cs e.b))
    && (not (e.b == place) || is_one_apart (slice_get cs place) (slice_get cs e.a))

-- at most one link leads from it to one that has chosen fewer steps
abbrev pub has_one_nearer : List Chosen → List Ends → ℕ → Bool
has_one_nearer cs links place = nat_le (count_by (leads_nearer cs place) links) 1

-- ---- a tree

-- The system at a place had the root of the top, no fewer steps than it, and has the root of it now. Its links lead one
-- step on, at most one of them nearer.
abbrev pub is_below : List Ends → List Chosen → List Chosen → ℕ → ℕ → Bool
is_below links before now top place =
    has_same_root (slice_get before top) (slice_get before place)
    && has_no_more_steps (slice_get before top) (slice_get before place)
    && has_same_root (slice_get now top) (slice_get now place)
    && has_one_nearer before links place
    && list_all (leads_one_on before place) links

-- it is moved and so below the top, or it has another root now
abbrev pub is_below_or_apart : List System → List Ends → List Chosen → List Chosen → ℕ → ℕ → Bool
is_below_or_apart systems links before now top place =
    if is_moved_at systems before now place then is_below links before now top place
    else not (has_same_root (slice_get now top) (slice_get now place))

-- the top is moved, to a worse root, and so is each system below it
abbrev pub falls_below : List System → List Ends → List Chosen → List Chosen → ℕ → Bool
falls_below systems links before now top =
    is_moved_at systems before now top
    && has_better_root (slice_get before top) (slice_get now top)
    && list_all (is_below_or_apart systems links before now top) (range_with_len 0 (length systems))

-- a link that led from the top to the other is lost, which isn't moved
abbrev pub cuts_below : List System → List Ends → List Chosen → List Chosen → ℕ → ℕ → Bool
cuts_below systems links before now top other =
    falls_below systems links before now top && not (is_moved_at systems before now other)

-- it is so of one end of the one link that is lost
abbrev pub cuts_tree : List System → List Ends → List Ends → List Chosen → List Chosen → Bool
cuts_tree systems [] links before now = false
cuts_tree systems (e ∷ []) links before now =
    cuts_below systems links before now e.a e.b || cuts_below systems links before now e.b e.a
cuts_tree systems (e ∷ f ∷ es) links before now = false

-- the top had chosen itself
abbrev pub chose_itself : Option Chosen → Bool
chose_itself None = false
chose_itself (Some c) = c.steps == 0

-- the system that the first event names was the best of a tree, which falls back
abbrev pub worsens_best : List System → List Ends → List Chosen → List Chosen → List Told → Bool
worsens_best systems links before now [] = false
worsens_best systems links before now (e ∷ es) =
    chose_itself (slice_get before (place_of systems e.clock))
    && falls_below systems links before now (place_of systems e.clock)

-- between these events and more of them
abbrev pub cuts_tree_after : NetworkState → List Timed → List Timed → Bool
cuts_tree_after n made events =
    cuts_tree (systems_after n events) (lost_ends n made events) (used_ends n events) (chosen_after n made)
    (chosen_after n events)

abbrev pub worsens_best_after : NetworkState → List Timed → List Timed → List Told → Bool
worsens_best_after n made events told =
    worsens_best (systems_after n events) (used_ends n events) (chosen_after n made) (chosen_after n events) told
