-- Which links of a network are new at a time, and which are lost; over which delays vary, and the greatest delay that
-- one has had (profile).
use Rattle.std.specs.Prelude.{ℕ, ◌*◌, ◌&&◌, not, nat_le, max, Bool, false, if◌then◌else◌, List, [], ◌∷◌, ◌++◌, map, filter, Option, Some, None, slice_get}
use Rattle.gptp_scenario.specs.Change.{link_after}
use Rattle.gptp_scenario.specs.Network.{NetworkState}
use Rattle.gptp_scenario.specs.declared.change.Act.{Act}
use Rattle.gptp_scenario.specs.declared.change.Act.TheVariants as acts
use Rattle.gptp_scenario.specs.declared.change.Change.{Change}
use Rattle.gptp_scenario.specs.declared.change.Change.TheVariants as changes
use Rattle.gptp_scenario.specs.declared.change.Timed.{Timed}
use Rattle.gptp_scenario.specs.declared.network.LinkSpec.{LinkSpec}
use Rattle.gptp_topology.specs.After.{standing_then}
use Rattle.gptp_topology.specs.Course.{cable_is_used, cable_of}
use Rattle.gptp_topology.specs.declared.course.Cable.{Cable}
use Rattle.gptp_topology.specs.declared.course.Standing.{Standing}
use Rattle.gptp_topology.specs.Tables.{cables_of}

-- the greatest delay of a link is twice the least or more
abbrev pub varies : Cable → Bool
varies c = nat_le (2 * c.bounds.min) c.bounds.max

-- A link is new that is in use after the events of a time and wasn't before; at the first time each in use is.
abbrev pub is_new : NetworkState → List Timed → List Timed → Bool → LinkSpec → Bool
is_new n made events first w =
    cable_is_used (standing_then n events w) && not (not first && cable_is_used (standing_then n made w))

abbrev pub new_links : NetworkState → List Timed → List Timed → Bool → List Cable
new_links n made events first =
    map (λ w. cable_of (link_after events w)) (filter (is_new n made events first) n.links)

-- the same, by how links stand and which of them were in use before
abbrev pub is_used_by : Option Bool → Bool
is_used_by None = false
is_used_by (Some used) = used

abbrev pub is_used_at : List Bool → ℕ → Bool
is_used_at used place = is_used_by (slice_get used place)

abbrev pub is_old_at : Bool → List Bool → ℕ → Bool
is_old_at first used place = not first && is_used_at used place

abbrev pub new_one : Standing → Bool → List Cable
new_one s used_before = if cable_is_used s && not used_before then s.cable ∷ [] else []

abbrev pub new_among : Bool → List Standing → List Bool → List Cable
new_among first [] used = []
new_among first (s ∷ ss) [] = new_one s (not first && false) ++ new_among first ss []
new_among first (s ∷ ss) (u ∷ us) = new_one s (not first && u) ++ new_among first ss us

-- ---- lost links

-- A link is lost that was in use before the events of a time, and isn't after them.
abbrev pub is_lost : NetworkState → List Timed → List Timed → LinkSpec → Bool
is_lost n made events w =
    cable_is_used (standing_then n made w) && not (cable_is_used (standing_then n events w))

-- the same of each, by which of all were in use and are
abbrev pub lost_among : List Bool → List Bool → List Bool
lost_among [] used = []
lost_among (before ∷ used_before) [] = before ∷ lost_among used_before []
lost_among (before ∷ used_before) (now ∷ used) = (before && not now) ∷ lost_among used_before used

-- ---- the greatest delay

-- that of some links, in ns, or 0
abbrev pub longest_among : List Cable → ℕ
longest_among [] = 0
longest_among (c ∷ cs) = max c.bounds.max (longest_among cs)

-- that which an act lets a link have, or 0
abbrev pub delay_changed : Change → ℕ
delay_changed (changes.LinkDown clock port) = 0
delay_changed (changes.LinkUp clock port) = 0
delay_changed (changes.LinkSet clock port least greatest loss) = greatest
delay_changed (changes.Fail clock) = 0
delay_changed (changes.Recover clock) = 0
delay_changed (changes.Priority1 clock value) = 0
delay_changed (changes.Inject clock port octets) = 0

abbrev pub delay_set : Act → ℕ
delay_set (acts.Change change) = delay_changed change
delay_set (acts.Deliver link direction) = 0
delay_set (acts.Expire clock timer) = 0

abbrev pub longest_set : List Timed → ℕ
longest_set [] = 0
longest_set (t ∷ ts) = max (delay_set t.act) (longest_set ts)

-- that which a link has had, before all events or by one of these
abbrev pub longest_delay : NetworkState → List Timed → ℕ
longest_delay n events = max (longest_among (cables_of n)) (longest_set events)
