-- How long it counts what came over links of which an end fails at a time (profile).
use Rattle.std.specs.Prelude.{ℕ, ℤ, ◌+◌, ◌-◌, ◌*◌, ◌==◌, ◌&&◌, ◌||◌, max, min, nat_lt, Bool, false, if◌then◌else◌, not, List, [], ◌∷◌, length, map, Option, Some, None, slice_get}
use Rattle.std.specs.List.{list_any, range_with_len}
use Rattle.std.specs.Option.{option_or}
use Rattle.gptp_roles.specs.Selection.{clock_of}
use Rattle.gptp_setup.specs.Intervals.{interval_of}
use Rattle.gptp_setup.specs.SettlingParams.{largest_interval, longest_span}
use Rattle.gptp_scenario.specs.Network.{NetworkState, pace_of}
use Rattle.gptp_scenario.specs.SettlingTime.{silence_span}
use Rattle.gptp_scenario.specs.declared.change.Timed.{Timed}
use Rattle.gptp_scenario.specs.declared.network.LinkSpec.{LinkSpec}
use Rattle.gptp_scenario.specs.declared.network.SystemSpec.{SystemSpec}
use Rattle.gptp_topology.specs.After.{standing_then, standings_after, systems_after}
use Rattle.gptp_topology.specs.Course.{cable_is_used}
use Rattle.gptp_topology.specs.declared.course.Standing.{Standing}
use Rattle.gptp_topology.specs.declared.nodes.System.{System}
use Rattle.gptp_vector.specs.declared.port.PortId.{PortId}
use Rattle.gptp_how_soon.specs.Chosen.{chosen_after, ends_of}
use Rattle.gptp_how_soon.specs.Far.{is_nearer_at}
use Rattle.gptp_how_soon.specs.declared.bounds.SettlingTime.{SettlingTime}
use Rattle.gptp_how_soon.specs.declared.chosen.Chosen.{Chosen}
use Rattle.gptp_how_soon.specs.declared.chosen.Ends.{Ends}

-- ---- intervals

-- the interval of a port, as a logarithm to base 2 of seconds, where the system with this identity has such a port
abbrev pub log_by : PortId → ℕ → List ℤ → Option ℤ
log_by p identity logs = if clock_of identity == p.clock then slice_get logs (p.port - 1) else None

abbrev pub log_if : PortId → SystemSpec → Option ℤ
log_if p m = log_by p m.identity m.intervals.items

-- that of the first of these systems that has such a port
abbrev pub log_from : PortId → List SystemSpec → Option ℤ
log_from p [] = None
log_from p (m ∷ ms) = option_or (log_if p m) (log_from p ms)

-- The intervals of ports count at a time where an announce interval and the longest receipt timeout have passed since
-- the time before. All that is held then was told since, and names the interval of its port.
abbrev pub own_intervals : NetworkState → Option SettlingTime → ℕ → Bool
own_intervals n None at = false
own_intervals n (Some b) at = nat_lt (b.at + largest_interval (pace_of n) + longest_span (pace_of n)) at

-- ---- how long something is held

-- what a port told, by its interval, if that counts
abbrev pub timeout_of : NetworkState → Option ℤ → ℕ
timeout_of n None = longest_span (pace_of n)
timeout_of n (Some log) = n.params.timeout * interval_of log

abbrev pub hold_span : NetworkState → Bool → PortId → ℕ
hold_span n own p = if own then timeout_of n (log_from p n.systems) else longest_span (pace_of n)

-- What a port told over a link comes within its greatest delay. It counts for no longer than the port at the other end
-- stays capable.
abbrev pub held_from : NetworkState → Bool → ℕ → PortId → ℕ
held_from n own delay p = min (hold_span n own p + delay) (silence_span (pace_of n))

-- only what a system told that has failed has to age
abbrev pub held_end : NetworkState → Bool → ℕ → PortId → Bool → ℕ
held_end n own delay p lives = if lives then 0 else held_from n own delay p

abbrev pub held_over : NetworkState → Bool → Standing → ℕ
held_over n own s =
    max (held_end n own s.cable.bounds.max s.cable.a s.a_lives) (held_end n own s.cable.bounds.max s.cable.b s.b_lives)

-- ---- far ends that live

-- the system is there, and lives
abbrev pub is_live : Option System → Bool
is_live None = false
is_live (Some o) = o.lives

-- the system at the one place lives, and was the far end of a link with that at the other
abbrev pub hears : List System → List Chosen → ℕ → ℕ → Bool
hears systems before one other = is_live (slice_get systems one) && is_nearer_at systems before other one

-- so it is of an end of a link, if there is a link
abbrev pub hears_over : List System → List Chosen → Option Ends → Bool
hears_over systems before None = false
hears_over systems before (Some e) = hears systems before e.a e.b || hears systems before e.b e.a

-- which links were in use before and have a far end that lives
abbrev pub heard_links : List System → List Chosen → List Bool → List Ends → List Bool
heard_links systems before [] es = []
heard_links systems before (u ∷ us) [] = (u && false) ∷ heard_links systems before us []
heard_links systems before (u ∷ us) (e ∷ es) =
    (u && hears_over systems before (Some e)) ∷ heard_links systems before us es

-- between these events and more of them
abbrev pub is_heard_link : NetworkState → List Timed → List Timed → LinkSpec → Bool
is_heard_link n made events w =
    cable_is_used (standing_then n made w)
    && hears_over (systems_after n events) (chosen_after n made) (Some (ends_of n w))

-- ---- silent links

-- A link is silent that was in use before the events of a time, and is up after them, where one of its ends lives and
-- the other has failed.
abbrev pub is_silent : Bool → Standing → Bool
is_silent used_before s = used_before && s.cable.up && ((s.a_lives && not s.b_lives) || (s.b_lives && not s.a_lives))

abbrev pub is_silent_by : Option Bool → Option Standing → Bool
is_silent_by None s = false
is_silent_by (Some used_before) None = false
is_silent_by (Some used_before) (Some s) = is_silent used_before s

abbrev pub is_silent_at : List Bool → List Standing → ℕ → Bool
is_silent_at used_before standings place = is_silent_by (slice_get used_before place) (slice_get standings place)

-- one of these links is, by which of them were in use before
abbrev pub any_silent : List Bool → List Standing → Bool
any_silent used_before standings = list_any (is_silent_at used_before standings) (range_with_len 0 (length used_before))

-- between these events and more of them
abbrev pub silent_after : NetworkState → List Timed → List Timed → Bool
silent_after n made events = any_silent (map cable_is_used (standings_after n made)) (standings_after n events)

-- What came over such a link has to age where its live end is the far end. No other has what it tells of the best from
-- there.
abbrev pub held_one : NetworkState → Bool → Bool → Standing → ℕ
held_one n own heard s = if heard && s.cable.up then held_over n own s else 0

abbrev pub held_at : NetworkState → Bool → Bool → Option Standing → ℕ
held_at n own heard None = 0
held_at n own heard (Some s) = held_one n own heard s

-- the longest over these links, by which of them have a far end that lives; 0 where none of these is silent
abbrev pub held_among : NetworkState → Bool → List Bool → List Standing → ℕ
held_among n own [] ss = 0
held_among n own (u ∷ us) [] = 0
held_among n own (u ∷ us) (s ∷ ss) = max (held_one n own u s) (held_among n own us ss)

-- between these events and more of them
abbrev pub held_after : NetworkState → Bool → List Timed → List Timed → ℕ
held_after n own made events =
    held_among n own (map (is_heard_link n made events) n.links) (standings_after n events)
