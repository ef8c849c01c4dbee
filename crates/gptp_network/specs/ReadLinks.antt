-- The sections `[[link]]`, or why they are refused and where (profile).
use Rattle.std.specs.Prelude.{ℕ, nat_le, if◌then◌else◌, Bool, true, false, List, length, Option, Some, None, Result, Ok}
use Rattle.toml.specs.Data.{Data, Members, as_table}
use Rattle.gptp_setup.specs.Intervals.{interval_of}
use Rattle.gptp_vector.specs.declared.port.PortId.{PortId}
use Rattle.gptp_scenario.specs.Network.{NetworkState, is_taken, link_fault, smallest_of, with_link}
use Rattle.gptp_scenario.specs.declared.fault.NetworkFault.{NetworkFault}
use Rattle.gptp_scenario.specs.declared.fault.NetworkFault.TheVariants as networks
use Rattle.gptp_scenario.specs.declared.network.SystemSpec.{SystemSpec}
use Rattle.gptp_scenario.specs.declared.network.LinkSpec.{LinkSpec}
use Rattle.gptp_network.specs.Faults.{◌>>=◌}
use Rattle.gptp_network.specs.Found.{link_from, system_from}
use Rattle.gptp_network.specs.Links.{port_numbered, wire_of}
use Rattle.gptp_network.specs.ReadMembers.{limited_in, read_each, section_in}
use Rattle.gptp_network.specs.Reading.{clock_at, flag_at, kind_at, natural_at}
use Rattle.gptp_network.specs.Why.{told}
use Rattle.gptp_network.specs.declared.keys.Name.TheVariants as names
use Rattle.gptp_network.specs.declared.keys.TheConstants.{A_PORT, B_PORT, LOSS, MAX, MIN}
use Rattle.gptp_network.specs.declared.links.Link.{Link}
use Rattle.gptp_network.specs.declared.place.Section.TheVariants as sections
use Rattle.gptp_network.specs.declared.why.Refusal.{Refusal}
use Rattle.gptp_network.specs.declared.why.Why.{Why}
use Rattle.gptp_network.specs.declared.why.Why.TheVariants as whys

-- the keys of a link, in their order
unfoldable pub read_link : Members → Result Link Why
read_link t = do
  a ← clock_at names.A t
  a_port ← natural_at A_PORT t
  b ← clock_at names.B t
  b_port ← natural_at B_PORT t
  least ← natural_at MIN t
  greatest ← natural_at MAX t
  loss ← natural_at LOSS t
  up ← flag_at names.Up true t
  Ok (record {
    a = port_numbered a a_port;
    b = port_numbered b b_port;
    min = least;
    max = greatest;
    loss = loss;
    up = up;
  })

-- no system has the port, or its system has fewer
abbrev pub no_port : PortId → Option (ℕ × ℕ) → Why
no_port port None = whys.UnknownClock port.clock
no_port port (Some found) = whys.Beyond port found.1

-- an earlier link is at the port
abbrev pub taken : PortId → Option ℕ → Why
taken port (Some link) = whys.Taken port link
taken port None = whys.Other networks.PortTaken

-- the port is one of its system
abbrev pub is_there : PortId → Option (ℕ × ℕ) → Bool
is_there port None = false
is_there port (Some found) = nat_le port.port found.1

-- the first end of a link that is at no port, and the first at which another link is
abbrev pub first_without : List SystemSpec → Link → PortId
first_without systems l = if is_there l.a (system_from 0 systems l.a.clock) then l.b else l.a

abbrev pub first_taken : List LinkSpec → Link → PortId
first_taken links l = if is_taken links l.a then l.a else l.b

-- why a link can't be added
abbrev pub link_why : NetworkState → Link → NetworkFault → Why
link_why n l networks.OutOfRange = whys.Above l.min l.max
link_why n l networks.SelfLink = whys.BothEnds l.a.clock
link_why n l networks.NoSuchPort =
    no_port (first_without n.systems l) (system_from 0 n.systems (first_without n.systems l).clock)
link_why n l networks.PortTaken = taken (first_taken n.links l) (link_from 0 n.links (first_taken n.links l))
link_why n l networks.DelayTooLong = whys.TooLong l.max (interval_of (smallest_of n))
link_why n l networks.OutOfMemory = whys.Memory
link_why n l fault = whys.Other fault

abbrev pub put_link : Link → NetworkState → Result NetworkState Why
put_link l n =
    told (link_why n l) (link_fault n (wire_of (length n.links) l)) (with_link (wire_of (length n.links) l) n)

-- the network with one more link
unfoldable pub read_with_link : Data → NetworkState → Result NetworkState Why
read_with_link d n = do
  t ← kind_at names.Link d (as_table d)
  l ← read_link t
  put_link l n

-- the network with the links of a document, 2,048 at most
unfoldable pub read_with_links : Members → NetworkState → Result NetworkState Refusal
read_with_links t n = do
  ds ← section_in sections.Link t
  few ← limited_in sections.Link ds
  read_each sections.Link read_with_link 0 few n
