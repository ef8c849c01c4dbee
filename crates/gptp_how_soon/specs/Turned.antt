-- Whether events move one system alone, which keeps its root and turns to others for it (profile).
use Rattle.std.specs.Prelude.{ℕ, ◌-◌, ◌==◌, ◌&&◌, ◌||◌, nat_lt, Bool, false, if◌then◌else◌, List, [], ◌∷◌, length, map, filter, Option, Some, None, slice_get}
use Rattle.std.specs.List.{count_by, list_all, range_with_len}
use Rattle.gptp_scenario.specs.Network.{NetworkState}
use Rattle.gptp_scenario.specs.declared.change.Timed.{Timed}
use Rattle.gptp_topology.specs.After.{systems_after}
use Rattle.gptp_topology.specs.declared.nodes.System.{System}
use Rattle.gptp_how_soon.specs.Chosen.{chosen_after, ends_at, is_moved_at, lost_ends, used_ends}
use Rattle.gptp_how_soon.specs.Far.{is_far_end}
use Rattle.gptp_how_soon.specs.declared.chosen.Chosen.{Chosen}
use Rattle.gptp_how_soon.specs.declared.chosen.Ends.{Ends}

-- ---- who is moved

-- the places of the systems that are moved
abbrev pub moved_places : List System → List Chosen → List Chosen → List ℕ
moved_places systems before now = filter (is_moved_at systems before now) (range_with_len 0 (length systems))

-- ---- what a system chooses

-- it keeps its root, and is farther from it than before
abbrev pub goes_farther : Option Chosen → Option Chosen → Bool
goes_farther None now = false
goes_farther (Some before) None = false
goes_farther (Some before) (Some now) = (before.root == now.root) && nat_lt before.steps now.steps

-- it is so by one step
abbrev pub goes_one_farther : Option Chosen → Option Chosen → Bool
goes_one_farther None now = false
goes_one_farther (Some before) None = false
goes_one_farther (Some before) (Some now) = now.steps - before.steps == 1

-- the one has chosen fewer steps than the other
abbrev pub has_fewer_steps : Option Chosen → Option Chosen → Bool
has_fewer_steps None far = false
has_fewer_steps (Some near) None = false
has_fewer_steps (Some near) (Some far) = nat_lt near.steps far.steps

-- ---- its links

-- a link leads from the system at a place to one that has chosen fewer steps
abbrev pub leads_nearer : List Chosen → ℕ → Ends → Bool
leads_nearer cs place e =
    ((e.a == place) && has_fewer_steps (slice_get cs e.b) (slice_get cs place))
    || ((e.b == place) && has_fewer_steps (slice_get cs e.a) (slice_get cs place))

-- the places of its neighbours, one for each of its links
abbrev pub other_end : ℕ → Ends → ℕ
other_end place e = if e.a == place then e.b else e.a

abbrev pub neighbour_places : List Ends → ℕ → List ℕ
neighbour_places links place = map (other_end place) (filter (ends_at place) links)

-- each of these places is there once
abbrev pub is_once : List ℕ → ℕ → Bool
is_once places place = count_by (λ other. other == place) places == 1

abbrev pub are_different : List ℕ → Bool
are_different places = list_all (is_once places) places

-- the systems at these places are far ends of all their links
abbrev pub are_far_ends : List System → List Chosen → List Ends → List ℕ → Bool
are_far_ends systems cs links places = list_all (is_far_end systems cs links) places

-- ---- it turns

-- The system at a place keeps its root, and is farther from it. Each link that is lost led from it to a system that was
-- nearer. It is the far end of each of its links now, and no two of them lead to the same neighbour. It is farther by
-- one step, or each of its neighbours was the far end of its own links.
abbrev pub turns_at : List System → List Ends → List Ends → List Ends → List Chosen → List Chosen → ℕ → Bool
turns_at systems lost links_before links before now place =
    goes_farther (slice_get before place) (slice_get now place)
    && list_all (leads_nearer before place) lost
    && is_far_end systems now links place
    && are_different (neighbour_places links place)
    && (goes_one_farther (slice_get before place) (slice_get now place)
    || are_far_ends systems before links_before (neighbour_places links place))

-- there is one place, and so it is of it
abbrev pub is_of_one : (ℕ → Bool) → List ℕ → Bool
is_of_one is [] = false
is_of_one is (place ∷ []) = is place
is_of_one is (place ∷ other ∷ places) = false

-- one system is moved alone, and turns
abbrev pub turns_one : List System → List Ends → List Ends → List Ends → List Chosen → List Chosen → Bool
turns_one systems lost links_before links before now =
    is_of_one (turns_at systems lost links_before links before now) (moved_places systems before now)

-- between these events and more of them
abbrev pub turns_one_after : NetworkState → List Timed → List Timed → Bool
turns_one_after n made events =
    turns_one (systems_after n events) (lost_ends n made events) (used_ends n made) (used_ends n events)
    (chosen_after n made) (chosen_after n events)
