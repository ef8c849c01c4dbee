-- Which root each system settles at, and how many steps it is away; whom events move (profile).
--
-- At first a system chooses itself. In each round it hears what its neighbours over links in use chose in the round
-- before, a step farther, and takes the best: the lower root, and of one root the fewer steps (IEEE 802.1AS-2020,
-- 10.3.5). After as many rounds as there are systems each has the best of its component, and its distance from it.
use Rattle.std.specs.Prelude.{ℕ, zero, suc, ◌==◌, ◌&&◌, ◌||◌, nat_lt, not, Bool, false, if◌then◌else◌, List, [], ◌∷◌, ◌++◌, length, map, filter, Option, Some, None, slice_get, slice_set}
use Rattle.std.specs.List.{list_any, position_or_len, range_with_len}
use Rattle.gptp_scenario.specs.Network.{NetworkState}
use Rattle.gptp_scenario.specs.declared.change.Timed.{Timed}
use Rattle.gptp_scenario.specs.declared.network.LinkSpec.{LinkSpec}
use Rattle.gptp_topology.specs.After.{standing_then, systems_after}
use Rattle.gptp_topology.specs.Course.{cable_is_used, cable_of}
use Rattle.gptp_topology.specs.Tables.{has_clock}
use Rattle.gptp_topology.specs.declared.course.Cable.{Cable}
use Rattle.gptp_topology.specs.declared.nodes.System.{System}
use Rattle.gptp_how_soon.specs.Links.{is_lost}
use Rattle.gptp_how_soon.specs.declared.chosen.Chosen.{Chosen}
use Rattle.gptp_how_soon.specs.declared.chosen.Ends.{Ends}

-- ---- choices

abbrev pub is_better : Chosen → Chosen → Bool
is_better one other = nat_lt one.root other.root || ((one.root == other.root) && nat_lt one.steps other.steps)

abbrev pub better : Chosen → Chosen → Chosen
better one other = if is_better one other then one else other

abbrev pub farther : Chosen → Chosen
farther c = record { root = c.root; steps = suc c.steps }

abbrev pub itself : System → Chosen
itself o = record { root = o.identity; steps = 0 }

-- ---- rounds

-- the system at a place, which has this choice, hears of another
abbrev pub taking : Chosen → ℕ → List Chosen → Option Chosen → List Chosen
taking heard place cs None = cs
taking heard place cs (Some own) = slice_set cs place (better (farther heard) own)

abbrev pub hearing : Option Chosen → ℕ → List Chosen → List Chosen
hearing None place cs = cs
hearing (Some heard) place cs = taking heard place cs (slice_get cs place)

-- over a link each end hears of what the other chose before; over all of these
abbrev pub passing : List Chosen → List Chosen → Ends → List Chosen
passing before cs e = hearing (slice_get before e.b) e.a (hearing (slice_get before e.a) e.b cs)

abbrev pub passing_all : List Chosen → List Chosen → List Ends → List Chosen
passing_all before cs [] = cs
passing_all before cs (e ∷ es) = passing_all before (passing before cs e) es

abbrev pub round : List Ends → List Chosen → List Chosen
round links cs = passing_all cs cs links

-- so many rounds
abbrev pub rounds : List Ends → ℕ → List Chosen → List Chosen
rounds links zero cs = cs
rounds links (suc count) cs = rounds links count (round links cs)

-- what these systems choose over these links
abbrev pub chosen_over : List System → List Ends → List Chosen
chosen_over systems links = rounds links (length systems) (map itself systems)

-- ---- after events

-- the places of the systems at the ends of a link
abbrev pub place_of : List System → ℕ → ℕ
place_of systems clock = position_or_len (has_clock clock) systems

abbrev pub ends_among : List System → Cable → Ends
ends_among systems c = record { a = place_of systems c.a.clock; b = place_of systems c.b.clock }

abbrev pub ends_of : NetworkState → LinkSpec → Ends
ends_of n w = ends_among (systems_after n []) (cable_of w)

-- those of the links in use
abbrev pub is_used_then : NetworkState → List Timed → LinkSpec → Bool
is_used_then n events w = cable_is_used (standing_then n events w)

abbrev pub used_ends : NetworkState → List Timed → List Ends
used_ends n events = map (ends_of n) (filter (is_used_then n events) n.links)

-- those of the links that are lost between these events and more of them
abbrev pub lost_ends : NetworkState → List Timed → List Timed → List Ends
lost_ends n made events = map (ends_of n) (filter (is_lost n made events) n.links)

-- what each system of a network chooses after events
abbrev pub chosen_after : NetworkState → List Timed → List Chosen
chosen_after n events = chosen_over (systems_after n events) (used_ends n events)

-- the same links, by which of all are in use
abbrev pub used_one : Ends → Bool → List Ends
used_one e used = if used then e ∷ [] else []

abbrev pub ends_in_use : List Ends → List Bool → List Ends
ends_in_use [] used = []
ends_in_use (e ∷ es) [] = used_one e false ++ ends_in_use es []
ends_in_use (e ∷ es) (u ∷ us) = used_one e u ++ ends_in_use es us

-- ---- who is moved

-- a system is moved that lives, and has another root or is more or fewer steps away
abbrev pub differs : Chosen → Chosen → Bool
differs before now = not ((before.root == now.root) && (before.steps == now.steps))

abbrev pub is_moved : Option System → Option Chosen → Option Chosen → Bool
is_moved None before now = false
is_moved (Some o) None now = false
is_moved (Some o) (Some before) None = false
is_moved (Some o) (Some before) (Some now) = o.lives && differs before now

abbrev pub is_moved_at : List System → List Chosen → List Chosen → ℕ → Bool
is_moved_at systems before now place =
    is_moved (slice_get systems place) (slice_get before place) (slice_get now place)

abbrev pub any_moved : List System → List Chosen → List Chosen → Bool
any_moved systems before now = list_any (is_moved_at systems before now) (range_with_len 0 (length systems))

-- so is one that isn't cut off: a link ends at its place, which is one of these
abbrev pub ends_at : ℕ → Ends → Bool
ends_at place e = (e.a == place) || (e.b == place)

abbrev pub is_joined : List Ends → ℕ → Bool
is_joined links place = list_any (ends_at place) links

abbrev pub is_joined_moved_at : List System → List Ends → List Chosen → List Chosen → ℕ → Bool
is_joined_moved_at systems links before now place =
    is_joined links place && is_moved_at systems before now place

abbrev pub any_joined_moved : List System → List Ends → List Chosen → List Chosen → Bool
any_joined_moved systems links before now =
    list_any (is_joined_moved_at systems links before now) (range_with_len 0 (length systems))

-- whether one is, or of those that aren't cut off
abbrev pub any_counted : Bool → List System → List Ends → List Chosen → List Chosen → Bool
any_counted joined systems links before now =
    if joined then any_joined_moved systems links before now else any_moved systems before now

-- between these events and more of them
abbrev pub moves_some : NetworkState → List Timed → List Timed → Bool
moves_some n made events = any_moved (systems_after n events) (chosen_after n made) (chosen_after n events)

abbrev pub moves_joined : NetworkState → List Timed → List Timed → Bool
moves_joined n made events =
    any_joined_moved (systems_after n events) (used_ends n events) (chosen_after n made) (chosen_after n events)

abbrev pub moves_counted : Bool → NetworkState → List Timed → List Timed → Bool
moves_counted joined n made events = if joined then moves_joined n made events else moves_some n made events
