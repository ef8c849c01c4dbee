-- What changes make of the systems and links of a network (profile).
use Rattle.std.specs.Prelude.{ℕ, ◌+◌, ◌*◌, ◌%◌, ◌^◌, Bool, true, false, ◌||◌, ◌==◌, if◌then◌else◌, List, [], ◌∷◌, Option, Some, None}
use Rattle.gptp_vector.specs.declared.port.PortId.{PortId}
use Rattle.gptp_roles.specs.Selection.{clock_of}
use Rattle.gptp_scenario.specs.Network.{same_port}
use Rattle.gptp_scenario.specs.declared.calm.Standing.{Standing}
use Rattle.gptp_scenario.specs.declared.change.Act.{Act}
use Rattle.gptp_scenario.specs.declared.change.Act.TheVariants as acts
use Rattle.gptp_scenario.specs.declared.change.Change.{Change}
use Rattle.gptp_scenario.specs.declared.change.Change.TheVariants as changes
use Rattle.gptp_scenario.specs.declared.change.Timed.{Timed}
use Rattle.gptp_scenario.specs.declared.network.SystemSpec.{SystemSpec}
use Rattle.gptp_scenario.specs.declared.network.LinkSpec.{LinkSpec}

-- at first a system lives, and has the identity that it was given
abbrev pub standing : SystemSpec → Standing
standing m = record { identity = m.identity; live = true }

abbrev pub with_live : Bool → Standing → Standing
with_live live s = record { identity = s.identity; live = live }

-- priority1 is the first of the fourteen octets (IEEE 802.1AS-2020, 10.3.2)
abbrev pub with_priority1 : ℕ → Standing → Standing
with_priority1 value s = record { identity = value * 2 ^ 104 + s.identity % 2 ^ 104; live = s.live }

-- what a change makes of a system
abbrev pub system_changed : Change → ℕ → Standing → Standing
system_changed (changes.LinkDown clock port) own s = s
system_changed (changes.LinkUp clock port) own s = s
system_changed (changes.LinkSet clock port least greatest loss) own s = s
system_changed (changes.Fail clock) own s = if clock == own then with_live false s else s
system_changed (changes.Recover clock) own s = if clock == own then with_live true s else s
system_changed (changes.Priority1 clock value) own s = if clock == own then with_priority1 value s else s
system_changed (changes.Inject clock port octets) own s = s

abbrev pub with_up : Bool → LinkSpec → LinkSpec
with_up up w = record { a = w.a; b = w.b; bounds = w.bounds; up = up }

abbrev pub member_with_bounds : ℕ → ℕ → ℕ → LinkSpec → LinkSpec
member_with_bounds least greatest loss w = record {
  a = w.a;
  b = w.b;
  bounds = record { link = w.bounds.link; min = least; max = greatest; loss = loss };
  up = w.up;
}

-- the link is at this port
abbrev pub is_at : ℕ → ℕ → LinkSpec → Bool
is_at clock port w =
    same_port w.a (record { clock = clock; port = port }) || same_port w.b (record { clock = clock; port = port })

-- what a change makes of a link
abbrev pub link_changed : Change → LinkSpec → LinkSpec
link_changed (changes.LinkDown clock port) w = if is_at clock port w then with_up false w else w
link_changed (changes.LinkUp clock port) w = if is_at clock port w then with_up true w else w
link_changed (changes.LinkSet clock port least greatest loss) w =
    if is_at clock port w then member_with_bounds least greatest loss w else w
link_changed (changes.Fail clock) w = w
link_changed (changes.Recover clock) w = w
link_changed (changes.Priority1 clock value) w = w
link_changed (changes.Inject clock port octets) w = w

-- frames and timers change no system and no link
abbrev pub system_acted : Act → ℕ → Standing → Standing
system_acted (acts.Deliver link direction) own s = s
system_acted (acts.Expire clock timer) own s = s
system_acted (acts.Change change) own s = system_changed change own s

abbrev pub link_acted : Act → LinkSpec → LinkSpec
link_acted (acts.Deliver link direction) w = w
link_acted (acts.Expire clock timer) w = w
link_acted (acts.Change change) w = link_changed change w

-- what acts make, one after another, of the system with this clock, and of a link
abbrev pub system_stands : List Timed → ℕ → Standing → Standing
system_stands [] own s = s
system_stands (t ∷ ts) own s = system_stands ts own (system_acted t.act own s)

abbrev pub link_after : List Timed → LinkSpec → LinkSpec
link_after [] w = w
link_after (t ∷ ts) w = link_after ts (link_acted t.act w)

-- a system after these acts
abbrev pub system_after : List Timed → SystemSpec → Standing
system_after ts m = system_stands ts (clock_of m.identity) (standing m)

-- a system that lives after these acts: its identity then, and how many ports it has
abbrev pub live_after : List Timed → SystemSpec → Option (ℕ × ℕ)
live_after ts m = if (system_after ts m).live then Some ((system_after ts m).identity, m.ports) else None

-- the ports of a link that is up after these acts
abbrev pub joined_after : List Timed → LinkSpec → Option (PortId × PortId)
joined_after ts w = if (link_after ts w).up then Some (w.a, w.b) else None
