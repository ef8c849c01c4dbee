-- What of a network is in use after events: its live systems, and the links that are up between two of them (profile).
use Rattle.std.specs.Prelude.{ℕ, ◌+◌, max, min, Bool, false, not, ◌&&◌, ◌==◌, if◌then◌else◌, List, [], ◌∷◌, Option, Some, None}
use Rattle.std.specs.List.{count_by, filter_map, list_any}
use Rattle.std.specs.Option.{option_map_or}
use Rattle.gptp_roles.specs.Selection.{clock_of}
use Rattle.gptp_scenario.specs.Change.{link_after, system_after}
use Rattle.gptp_scenario.specs.declared.change.Timed.{Timed}
use Rattle.gptp_scenario.specs.declared.network.SystemSpec.{SystemSpec}
use Rattle.gptp_scenario.specs.declared.network.LinkSpec.{LinkSpec}

-- how many systems live after the events
abbrev pub count_live : List SystemSpec → List Timed → ℕ
count_live systems events = count_by (λ m. (system_after events m).live) systems

-- a system with this clock lives after the events
abbrev pub lives : List SystemSpec → List Timed → ℕ → Bool
lives systems events clock = list_any (λ m. clock_of m.identity == clock && (system_after events m).live) systems

-- the link, as the events leave it, is up between two live systems
abbrev pub is_used : List SystemSpec → List Timed → LinkSpec → Bool
is_used systems events w = w.up && lives systems events w.a.clock && lives systems events w.b.clock

-- the greater of a delay and that of a link, where the link is in use as the events leave it
abbrev pub with_delay : List SystemSpec → List Timed → LinkSpec → ℕ → ℕ
with_delay systems events w delay =
    if is_used systems events (link_after events w) then max (link_after events w).bounds.max delay else delay

-- the greatest delay of those of the links that are in use, as the events leave them; 0 where none is
abbrev pub greatest_delay : List SystemSpec → List Timed → List LinkSpec → ℕ
greatest_delay systems events [] = 0
greatest_delay systems events (w ∷ ws) = with_delay systems events w (greatest_delay systems events ws)

-- the system that the link joins to the one with this clock
abbrev pub far_clock : ℕ → LinkSpec → Option ℕ
far_clock clock w =
    if w.a.clock == clock then Some w.b.clock else if w.b.clock == clock then Some w.a.clock else None

-- the system that the link joins to the one with this clock, where the link is in use after the events
abbrev pub neighbour : List SystemSpec → List Timed → ℕ → LinkSpec → Option ℕ
neighbour systems events clock w = if is_used systems events (link_after events w) then far_clock clock w else None

-- the systems that links in use join to the one with this clock
abbrev pub neighbours : List SystemSpec → List LinkSpec → List Timed → ℕ → List ℕ
neighbours systems links events clock = filter_map (neighbour systems events clock) links

-- two of these differ: one is another than the first
abbrev pub any_differ : List ℕ → Bool
any_differ [] = false
any_differ (x ∷ xs) = list_any (λ y. not (y == x)) xs

-- a link in use joins the system with this clock to another than the first
abbrev pub leads_elsewhere : List SystemSpec → List Timed → ℕ → ℕ → LinkSpec → Bool
leads_elsewhere systems events clock first w =
    option_map_or (λ far. not (far == first)) (neighbour systems events clock w) false

-- the system lives, and links in use join it to two different systems
abbrev pub lives_between : List SystemSpec → List LinkSpec → List Timed → SystemSpec → Bool
lives_between systems links events m =
    (system_after events m).live && any_differ (neighbours systems links events (clock_of m.identity))

-- How many systems a path over the live systems and the links in use has at most: all systems of a path but its first
-- and its last are joined to two different systems, and it has no more systems than live.
unfoldable pub path_systems : List SystemSpec → List LinkSpec → List Timed → ℕ
path_systems systems links events =
    min (count_by (lives_between systems links events) systems + 2) (count_live systems events)
