-- The sections `[[event]]`, or why they are refused and where (profile).
use Rattle.std.specs.Prelude.{ℕ, nat_lt, if◌then◌else◌, bytes_eq, codes, List, [], ◌∷◌, ◌++◌, Result, Ok, Err}
use Rattle.toml.specs.Data.{Data, Members, as_table}
use Rattle.gptp_setup.specs.Intervals.{interval_of}
use Rattle.gptp_vector.specs.declared.port.PortId.{PortId}
use Rattle.gptp_scenario.specs.Calm.{last_change}
use Rattle.gptp_scenario.specs.Network.{NetworkState, smallest_of}
use Rattle.gptp_scenario.specs.declared.change.Change.{Change}
use Rattle.gptp_scenario.specs.declared.change.Change.TheVariants as changes
use Rattle.gptp_scenario.specs.declared.change.Timed.{Timed}
use Rattle.gptp_scenario.specs.declared.fault.NetworkFault.{NetworkFault}
use Rattle.gptp_scenario.specs.declared.fault.NetworkFault.TheVariants as networks
use Rattle.gptp_network.specs.Events.{change_fault, timed}
use Rattle.gptp_network.specs.Faults.{◌>>=◌}
use Rattle.gptp_network.specs.Found.{system_from}
use Rattle.gptp_network.specs.Links.{port_numbered}
use Rattle.gptp_network.specs.ReadLinks.{is_there, no_port}
use Rattle.gptp_network.specs.ReadMembers.{limited_in, read_each, section_in}
use Rattle.gptp_network.specs.Reading.{clock_at, kind_at, natural_at, octets_at, text_at}
use Rattle.gptp_network.specs.Why.{front_of, told}
use Rattle.gptp_network.specs.declared.events.Event.{Event}
use Rattle.gptp_network.specs.declared.keys.Name.TheVariants as names
use Rattle.gptp_network.specs.declared.keys.TheConstants.{AT, MAX, MIN, PORT, SET_LOSS, VALUE}
use Rattle.gptp_network.specs.declared.place.Section.TheVariants as sections
use Rattle.gptp_network.specs.declared.why.Refusal.{Refusal}
use Rattle.gptp_network.specs.declared.why.Why.{Why}
use Rattle.gptp_network.specs.declared.why.Why.TheVariants as whys

-- the keys of each kind, in their order
unfoldable pub read_link_down : Members → Result Change Why
read_link_down t = do
  name ← clock_at names.Clock t
  port ← natural_at PORT t
  Ok (changes.LinkDown name port)

unfoldable pub read_link_up : Members → Result Change Why
read_link_up t = do
  name ← clock_at names.Clock t
  port ← natural_at PORT t
  Ok (changes.LinkUp name port)

unfoldable pub read_link_set : Members → Result Change Why
read_link_set t = do
  name ← clock_at names.Clock t
  port ← natural_at PORT t
  least ← natural_at MIN t
  greatest ← natural_at MAX t
  loss ← natural_at SET_LOSS t
  Ok (changes.LinkSet name port least greatest loss)

unfoldable pub read_fail : Members → Result Change Why
read_fail t = do
  name ← clock_at names.Clock t
  Ok (changes.Fail name)

unfoldable pub read_recover : Members → Result Change Why
read_recover t = do
  name ← clock_at names.Clock t
  Ok (changes.Recover name)

unfoldable pub read_priority1 : Members → Result Change Why
read_priority1 t = do
  name ← clock_at names.Clock t
  value ← natural_at VALUE t
  Ok (changes.Priority1 name value)

unfoldable pub read_inject : Members → Result Change Why
read_inject t = do
  name ← clock_at names.Clock t
  port ← natural_at PORT t
  frame ← octets_at names.Octets t
  Ok (changes.Inject name port frame)

-- an event of this kind
unfoldable pub read_change : List ℕ → Members → Result Change Why
read_change kind t =
    if bytes_eq kind (codes "link_down") then read_link_down t
    else if bytes_eq kind (codes "link_up") then read_link_up t
    else if bytes_eq kind (codes "link_set") then read_link_set t
    else if bytes_eq kind (codes "fail") then read_fail t
    else if bytes_eq kind (codes "recover") then read_recover t
    else if bytes_eq kind (codes "priority1") then read_priority1 t
    else if bytes_eq kind (codes "inject") then read_inject t
    else Err (whys.Text names.Kind (front_of kind))

-- the keys of an event: its time, its kind, and those of its kind
unfoldable pub read_event : Members → Result Event Why
read_event t = do
  at ← natural_at AT t
  kind ← text_at names.Kind t
  change ← read_change kind t
  Ok (record { at = at; change = change })

-- no link is at a port: its system isn't there, or has fewer ports, or nothing is joined to it
abbrev pub unlinked : NetworkState → PortId → Why
unlinked n port =
    if is_there port (system_from 0 n.systems port.clock) then whys.Unlinked port
    else no_port port (system_from 0 n.systems port.clock)

-- why a change can't be made that names this port
abbrev pub port_why : NetworkState → PortId → NetworkFault → Why
port_why n port networks.NoSuchPort = unlinked n port
port_why n port networks.OutOfMemory = whys.Memory
port_why n port fault = whys.Other fault

-- one that names this system
abbrev pub clock_why : ℕ → NetworkFault → Why
clock_why clock networks.NoSuchPort = whys.UnknownClock clock
clock_why clock networks.OutOfMemory = whys.Memory
clock_why clock fault = whys.Other fault

-- one that sets these bounds of the link at this port
abbrev pub bounds_why : NetworkState → PortId → ℕ → ℕ → NetworkFault → Why
bounds_why n port least greatest networks.OutOfRange = whys.Above least greatest
bounds_why n port least greatest networks.DelayTooLong = whys.TooLong greatest (interval_of (smallest_of n))
bounds_why n port least greatest networks.NoSuchPort = unlinked n port
bounds_why n port least greatest networks.OutOfMemory = whys.Memory
bounds_why n port least greatest fault = whys.Other fault

abbrev pub change_why : NetworkState → Change → NetworkFault → Why
change_why n (changes.LinkDown name port) fault = port_why n (port_numbered name port) fault
change_why n (changes.LinkUp name port) fault = port_why n (port_numbered name port) fault
change_why n (changes.LinkSet name port least greatest loss) fault =
    bounds_why n (port_numbered name port) least greatest fault
change_why n (changes.Fail name) fault = clock_why name fault
change_why n (changes.Recover name) fault = clock_why name fault
change_why n (changes.Priority1 name value) fault = clock_why name fault
change_why n (changes.Inject name port frame) fault = port_why n (port_numbered name port) fault

-- an event is no earlier than the one before
abbrev pub no_earlier : ℕ → Event → Result Event Why
no_earlier last e = if nat_lt e.at last then Err (whys.Before e.at last) else Ok e

abbrev pub put_event : NetworkState → Event → List Timed → Result (List Timed) Why
put_event n e es = do
  later ← no_earlier (last_change es) e
  told (change_why n later.change) (change_fault n later.change) (es ++ timed later ∷ [])

-- the events with one more
unfoldable pub read_with_event : NetworkState → Data → List Timed → Result (List Timed) Why
read_with_event n d es = do
  t ← kind_at names.Event d (as_table d)
  e ← read_event t
  put_event n e es

-- the events of a document, 4,096 at most
unfoldable pub read_events : Members → NetworkState → Result (List Timed) Refusal
read_events t n = do
  ds ← section_in sections.Event t
  few ← limited_in sections.Event ds
  read_each sections.Event (read_with_event n) 0 few []
