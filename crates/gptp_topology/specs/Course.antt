-- How a link stands at each time of a document (profile).
use Rattle.std.specs.Prelude.{ℕ, Bool, true, false, ◌&&◌, ◌||◌, ◌==◌, if◌then◌else◌, List, [], ◌∷◌, ◌++◌, filter, map}
use Rattle.gptp_scenario.specs.Change.{is_at, link_acted, system_acted}
use Rattle.gptp_scenario.specs.declared.change.Act.{Act}
use Rattle.gptp_scenario.specs.declared.change.Act.TheVariants as acts
use Rattle.gptp_scenario.specs.declared.change.Change.{Change}
use Rattle.gptp_scenario.specs.declared.change.Change.TheVariants as changes
use Rattle.gptp_scenario.specs.declared.change.Timed.{Timed}
use Rattle.gptp_scenario.specs.declared.network.LinkSpec.{LinkSpec}
use Rattle.gptp_topology.specs.declared.course.Cable.{Cable}
use Rattle.gptp_topology.specs.declared.course.Standing.{Standing}

-- a link as gptp_scenario has it
abbrev pub cable_wire : Cable → LinkSpec
cable_wire c = record { a = c.a; b = c.b; bounds = c.bounds; up = c.up }

abbrev pub cable_of : LinkSpec → Cable
cable_of w = record { a = w.a; b = w.b; bounds = w.bounds; up = w.up }

-- whether the system with a clock lives after an act, and whether it did before
abbrev pub lives_acted : Act → ℕ → Bool → Bool
lives_acted act clock lives = (system_acted act clock (record { identity = 0; live = lives })).live

-- what an act makes of a link and of the systems at its ends
abbrev pub acted : Act → Standing → Standing
acted act s = record {
  at = s.at;
  cable = cable_of (link_acted act (cable_wire s.cable));
  a_lives = lives_acted act s.cable.a.clock s.a_lives;
  b_lives = lives_acted act s.cable.b.clock s.b_lives;
}

abbrev pub course_at_time : ℕ → Standing → Standing
course_at_time at s = record { at = at; cable = s.cable; a_lives = s.a_lives; b_lives = s.b_lives }

-- how it stood so far, where the time is another: this is the last of that
abbrev pub past : ℕ → Standing → List Standing → List Standing
past at s ss = if s.at == at then ss else ss ++ s ∷ []

-- how a link stands at the time of this standing and at those of the events after it
abbrev pub course_from : Standing → List Timed → List Standing
course_from s [] = s ∷ []
course_from s (t ∷ ts) = past t.at s [] ++ course_from (acted t.act (course_at_time t.at s)) ts

-- a link at first
abbrev pub first : LinkSpec → Standing
first w = record { at = 0; cable = cable_of w; a_lives = true; b_lives = true }

abbrev pub course_of : List Timed → LinkSpec → List Standing
course_of events w = course_from (first w) events

-- it is up between two live systems
abbrev pub cable_is_used : Standing → Bool
cable_is_used s = s.cable.up && (s.a_lives && s.b_lives)

-- the system that a change names, and an act; no document has one that names none
abbrev pub named_by : Change → ℕ
named_by (changes.LinkDown clock port) = clock
named_by (changes.LinkUp clock port) = clock
named_by (changes.LinkSet clock port least greatest loss) = clock
named_by (changes.Fail clock) = clock
named_by (changes.Recover clock) = clock
named_by (changes.Priority1 clock value) = clock
named_by (changes.Inject clock port octets) = clock

abbrev pub named : Act → ℕ
named (acts.Change change) = named_by change
named (acts.Expire clock timer) = clock
named (acts.Deliver link direction) = 0

abbrev pub names_of : List Timed → List ℕ
names_of = map (λ (t : Timed). named t.act)

-- a system at one of the link's ends is named so
abbrev pub is_cable_end : Cable → ℕ → Bool
is_cable_end c clock = (clock == c.a.clock) || (clock == c.b.clock)

-- the link is at the port that a change names, or an act
abbrev pub names_link : Change → Cable → Bool
names_link (changes.LinkDown clock port) c = is_at clock port (cable_wire c)
names_link (changes.LinkUp clock port) c = is_at clock port (cable_wire c)
names_link (changes.LinkSet clock port least greatest loss) c = is_at clock port (cable_wire c)
names_link (changes.Fail clock) c = false
names_link (changes.Recover clock) c = false
names_link (changes.Priority1 clock value) c = false
names_link (changes.Inject clock port octets) c = is_at clock port (cable_wire c)

abbrev pub is_link_named : Act → Cable → Bool
is_link_named (acts.Change change) c = names_link change c
is_link_named (acts.Expire clock timer) c = false
is_link_named (acts.Deliver link direction) c = false

-- the events that name one of these systems: no other changes how the link stands
abbrev pub naming : Cable → List Timed → List Timed
naming c = filter (λ (t : Timed). is_cable_end c (named t.act))
