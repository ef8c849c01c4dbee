-- How the systems and the links of a document stand, by place, and what bounds its settling then (profile).
use Rattle.std.specs.Prelude.{◌≡◌, ℕ, zero, suc, ◌+◌, ◌==◌, ◌&&◌, ◌||◌, max, min, nat_le, not, Bool, false, if◌then◌else◌, List, [], ◌∷◌, ◌++◌, map, Option, Some, None, slice_get}
use Rattle.std.specs.List.{count_by, flat_map, list_any}
use Rattle.std.specs.Option.{is_some, option_or}
use Rattle.gptp_roles.specs.Selection.{clock_of}
use Rattle.gptp_setup.specs.SettlingParams.{lapse_span}
use Rattle.gptp_setup.specs.declared.setup.Params.{Params}
use Rattle.gptp_scenario.specs.Change.{system_acted, system_changed}
use Rattle.gptp_scenario.specs.Network.{NetworkState, pace_of}
use Rattle.gptp_scenario.specs.SettlingTime.{settling_span_with}
use Rattle.gptp_scenario.specs.SyncWait.{sync_wait}
use Rattle.gptp_scenario.specs.declared.change.Act.{Act}
use Rattle.gptp_scenario.specs.declared.change.Change.{Change}
use Rattle.gptp_scenario.specs.declared.network.SystemSpec.{SystemSpec}
use Rattle.gptp_scenario.specs.declared.sync_wait.SyncPaths.{SyncPaths}
use Rattle.gptp_topology.specs.Course.{acted, cable_of, cable_is_used, is_link_named, named}
use Rattle.gptp_topology.specs.Trouble.{is_troubled}
use Rattle.gptp_topology.specs.declared.course.Cable.{Cable}
use Rattle.gptp_topology.specs.declared.course.Standing.{Standing}
use Rattle.gptp_topology.specs.declared.times.CalmTime.{CalmTime}
use Rattle.gptp_topology.specs.declared.nodes.Neighbour.{Neighbour}
use Rattle.gptp_topology.specs.declared.nodes.Node.{Node}
use Rattle.gptp_topology.specs.declared.nodes.System.{System}
use Rattle.gptp_topology.specs.declared.tables.Mark.{Mark}
use Rattle.gptp_topology.specs.declared.tables.Tables.{Tables}

-- the links of a network
abbrev pub cables_of : NetworkState → List Cable
cables_of n = map cable_of n.links

-- the link, as one at the system with this clock, if it is
abbrev pub led : ℕ → Cable → List Neighbour
led clock c =
    if c.a.clock == clock then record { link = c.bounds.link; clock = c.b.clock } ∷ []
    else if c.b.clock == clock then record { link = c.bounds.link; clock = c.a.clock } ∷ [] else []

abbrev pub neighbours_of : ℕ → List Cable → List Neighbour
neighbours_of clock = flat_map (led clock)

-- a system, and the links at it
pub record NodeState : Type 0 where
  pub system : System
  pub neighbours : List Neighbour

abbrev pub tables_seen : Node → NodeState
tables_seen o = record { system = o.system; neighbours = o.neighbours.items }

abbrev pub node_with : List Cable → System → NodeState
node_with cables s = record { system = s; neighbours = neighbours_of s.clock cables }

abbrev pub clocks_of : NetworkState → List ℕ
clocks_of n = map (λ (m : SystemSpec). clock_of m.identity) n.systems

-- what a change makes of a system, and an act
abbrev pub changed_system : Change → System → System
changed_system change s = record {
  clock = s.clock;
  identity = (system_changed change s.clock (record { identity = s.identity; live = s.lives })).identity;
  lives = (system_changed change s.clock (record { identity = s.identity; live = s.lives })).live;
}

abbrev pub acted_system : Act → System → System
acted_system act s = record {
  clock = s.clock;
  identity = (system_acted act s.clock (record { identity = s.identity; live = s.lives })).identity;
  lives = (system_acted act s.clock (record { identity = s.identity; live = s.lives })).live;
}

abbrev pub node_acted : Act → Node → Node
node_acted act o = record { system = acted_system act o.system; neighbours = o.neighbours }

-- the systems, and whether one has this clock
abbrev pub systems_in : List Node → List System
systems_in = map (λ (o : Node). o.system)

abbrev pub has_clock : ℕ → System → Bool
has_clock clock s = s.clock == clock

-- the links at the system with a clock
abbrev pub neighbours_at : ℕ → List Node → List Neighbour
neighbours_at clock [] = []
neighbours_at clock (o ∷ os) = if o.system.clock == clock then o.neighbours.items else neighbours_at clock os

-- links stand so, of which an act meets the one at a place, or these one after another
abbrev pub acted_at : Act → ℕ → List Standing → List Standing
acted_at act place [] = []
acted_at act zero (s ∷ ss) = acted act s ∷ ss
acted_at act (suc place) (s ∷ ss) = s ∷ acted_at act place ss

abbrev pub acted_along : Act → List Neighbour → List Standing → List Standing
acted_along act [] ss = ss
acted_along act (o ∷ os) ss = acted_along act os (acted_at act o.link ss)

-- the greatest delay of a link in use, or 0
abbrev pub delay_in_use : Standing → ℕ
delay_in_use s = if cable_is_used s then s.cable.bounds.max else 0

-- whether a link is in use, and then isn't good or loses frames, and its greatest delay
abbrev pub mark_of : Params → Standing → Mark
mark_of p s = record {
  used = cable_is_used s;
  troubled = is_troubled p s;
  delay = delay_in_use s;
}

-- the greatest of these delays
abbrev pub greatest_used : List Mark → ℕ
greatest_used [] = 0
greatest_used (m ∷ ms) = max m.delay (greatest_used ms)

abbrev pub is_marked : Option Mark → Bool
is_marked None = false
is_marked (Some m) = m.used

abbrev pub used_at : List Mark → ℕ → Bool
used_at marks link = is_marked (slice_get marks link)

-- the system that the first link in use leads to
abbrev pub first_used : List Mark → List Neighbour → Option ℕ
first_used marks [] = None
first_used marks (o ∷ os) = if used_at marks o.link then Some o.clock else first_used marks os

-- a link in use leads to another than this one
abbrev pub marked_elsewhere : List Mark → ℕ → List Neighbour → Bool
marked_elsewhere marks clock = list_any (λ (o : Neighbour). not (o.clock == clock) && used_at marks o.link)

abbrev pub elsewhere : List Mark → List Neighbour → Option ℕ → Bool
elsewhere marks os None = false
elsewhere marks os (Some clock) = marked_elsewhere marks clock os

-- links in use lead to two different systems
abbrev pub leads_to_two : List Mark → List Neighbour → Bool
leads_to_two marks os = elsewhere marks os (first_used marks os)

abbrev pub marked_between : List Mark → Node → Bool
marked_between marks o = o.system.lives && leads_to_two marks o.neighbours.items

-- how many systems a path has at most
abbrev pub marked_path_bound : List Mark → List Node → ℕ
marked_path_bound marks os = min (count_by (marked_between marks) os + 2) (count_by (λ (o : Node). o.system.lives) os)

-- something may lapse for want of Sync
abbrev pub may_lapse : Params → Bool
may_lapse p = not (p.sync_timeout == 0)

-- for how long at most a settled system waits for Sync, where that isn't below the timeout
abbrev pub late_of : Params → SyncPaths → Option ℕ
late_of p paths =
    if may_lapse p && nat_le (lapse_span p) (sync_wait p paths) then Some (sync_wait p paths) else None

-- neither is Sync late, nor is a link in use too long or loses frames
abbrev pub are_calm : Params → SyncPaths → List Mark → Bool
are_calm p paths marks = not (is_some (late_of p paths) || list_any (λ (m : Mark). m.troubled) marks)

-- the span, where the network is calm
abbrev pub bound_of : NetworkState → SyncPaths → List Mark → Option ℕ
bound_of n paths marks =
    if are_calm n.params paths marks then Some (settling_span_with (pace_of n) paths paths.systems) else None

-- how many systems a path has at most, and the greatest delay of a link in use
abbrev pub marked_paths : List Mark → List Node → SyncPaths
marked_paths marks os = record { systems = marked_path_bound marks os; delay = greatest_used marks }

-- how the link at a place stands, if an act names a port of it; and the first of these links of which it names one
abbrev pub named_among : Act → Option Standing → Option Standing
named_among act None = None
named_among act (Some s) = if is_link_named act s.cable then Some s else None

abbrev pub named_there : List Standing → Act → ℕ → Option Standing
named_there ss act link = named_among act (slice_get ss link)

abbrev pub link_named : List Standing → Act → List Neighbour → Option Standing
link_named ss act [] = None
link_named ss act (o ∷ os) = option_or (named_there ss act o.link) (link_named ss act os)

-- what is told of a time
abbrev pub time_of : NetworkState → List Mark → List Node → ℕ → CalmTime
time_of n marks os at = record {
  at = at;
  bound = bound_of n (marked_paths marks os) marks;
  needs = late_of n.params (marked_paths marks os);
}

-- it is told where the next time is another
abbrev pub told_times : ℕ → CalmTime → List CalmTime → List CalmTime
told_times next time times = if next == time.at then times else times ++ time ∷ []

-- what is kept of the links agrees with how they stand
abbrev pub AreMarked : Tables → Type 0
AreMarked t = t.marks.items ≡ map (mark_of t.params) t.standings.items

-- what an act makes of the tables
pub record TablesActed (act : Act) (old new : Tables) : Type 0 where
  pub params : new.params ≡ old.params
  pub nodes : new.nodes.items ≡ map (node_acted act) old.nodes.items
  pub standings : new.standings.items ≡ acted_along act (neighbours_at (named act) old.nodes.items) old.standings.items
  pub marks : AreMarked new
