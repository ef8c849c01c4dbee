-- Whether a system is the far end of each of its links (profile), so that no other gets its choice from it; whether one
-- is cut off that was; and whether each link that is up is in use.
--
-- The far end of a link has chosen more steps, or as many and has the higher clock.
use Rattle.std.specs.Prelude.{ℕ, ◌==◌, ◌&&◌, ◌||◌, nat_lt, not, Bool, false, List, Option, Some, None, slice_get}
use Rattle.std.specs.List.{list_all}
use Rattle.gptp_scenario.specs.Network.{NetworkState}
use Rattle.gptp_scenario.specs.declared.change.Timed.{Timed}
use Rattle.gptp_topology.specs.After.{systems_after}
use Rattle.gptp_topology.specs.Course.{cable_is_used}
use Rattle.gptp_topology.specs.declared.course.Standing.{Standing}
use Rattle.gptp_topology.specs.declared.nodes.System.{System}
use Rattle.gptp_how_soon.specs.Chosen.{chosen_after, is_joined, lost_ends, place_of, used_ends}
use Rattle.gptp_how_soon.specs.Kinds.{makes_nothing}
use Rattle.gptp_how_soon.specs.declared.chosen.Chosen.{Chosen}
use Rattle.gptp_how_soon.specs.declared.chosen.Ends.{Ends}
use Rattle.gptp_how_soon.specs.declared.kinds.Told.{Told}

-- the one system has the lower clock
abbrev pub has_lower_clock : Option System → Option System → Bool
has_lower_clock None far = false
has_lower_clock (Some near) None = false
has_lower_clock (Some near) (Some far) = nat_lt near.clock far.clock

-- the one has chosen fewer steps, or as many and has the lower clock
abbrev pub is_nearer : Option Chosen → Option Chosen → Bool → Bool
is_nearer None far lower = false
is_nearer (Some near) None lower = false
is_nearer (Some near) (Some far) lower = nat_lt near.steps far.steps || ((near.steps == far.steps) && lower)

-- of the systems at two places
abbrev pub is_nearer_at : List System → List Chosen → ℕ → ℕ → Bool
is_nearer_at systems cs near far =
    is_nearer (slice_get cs near) (slice_get cs far)
    (has_lower_clock (slice_get systems near) (slice_get systems far))

-- the system at a place is the far end of a link, if it is at one of its ends
abbrev pub is_far_over : List System → List Chosen → ℕ → Ends → Bool
is_far_over systems cs place e =
    (not (e.a == place) || is_nearer_at systems cs e.b place)
    && (not (e.b == place) || is_nearer_at systems cs e.a place)

abbrev pub is_far_end : List System → List Chosen → List Ends → ℕ → Bool
is_far_end systems cs links place = list_all (is_far_over systems cs place) links

-- so is the system that an event names, if it makes something of what stands
abbrev pub is_far_named : List System → List Chosen → List Ends → Told → Bool
is_far_named systems cs links e = makes_nothing e || is_far_end systems cs links (place_of systems e.clock)

abbrev pub are_far : List System → List Chosen → List Ends → List Told → Bool
are_far systems cs links told = list_all (is_far_named systems cs links) told

-- after these events
abbrev pub are_far_after : NetworkState → List Timed → List Told → Bool
are_far_after n events told = are_far (systems_after n events) (chosen_after n events) (used_ends n events) told

-- ---- cut off

-- the system at a place was the far end of each of its links, and none is at it now
abbrev pub is_cut_at : List System → List Chosen → List Ends → List Ends → ℕ → Bool
is_cut_at systems cs links_before links place =
    is_far_end systems cs links_before place && not (is_joined links place)

-- so is a system at an end of a link
abbrev pub cuts_far_end : List System → List Chosen → List Ends → List Ends → Ends → Bool
cuts_far_end systems cs links_before links e =
    is_cut_at systems cs links_before links e.a || is_cut_at systems cs links_before links e.b

-- so is one at an end of each link that is lost, between these events and more of them
abbrev pub all_cut_far_ends : List System → List Chosen → List Ends → List Ends → List Ends → Bool
all_cut_far_ends systems cs links_before links lost = list_all (cuts_far_end systems cs links_before links) lost

abbrev pub cut_far_ends_after : NetworkState → List Timed → List Timed → Bool
cut_far_ends_after n made events =
    all_cut_far_ends (systems_after n events) (chosen_after n made) (used_ends n made) (used_ends n events)
    (lost_ends n made events)

-- ---- links that are up

-- each link that is up is in use
abbrev pub is_down_or_used : Standing → Bool
is_down_or_used s = not s.cable.up || cable_is_used s

abbrev pub up_is_used : List Standing → Bool
up_is_used standings = list_all is_down_or_used standings
