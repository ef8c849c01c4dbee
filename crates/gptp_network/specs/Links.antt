-- The sections `[[link]]` (profile).
use Rattle.std.specs.Prelude.{ℕ, codes, true, length, Some, None, Result, Ok}
use Rattle.toml.specs.Data.{Data, Members, as_table}
use Rattle.gptp_vector.specs.declared.port.PortId.{PortId}
use Rattle.gptp_setup.specs.declared.limits.TheConstants.{MOST_PORTS}
use Rattle.gptp_scenario.specs.Network.{NetworkState, wire, with_link, link_fault}
use Rattle.gptp_scenario.specs.declared.network.LinkSpec.{LinkSpec}
use Rattle.gptp_network.specs.Faults.{◌>>=◌, tested}
use Rattle.gptp_network.specs.Members.{limited, each_of}
use Rattle.gptp_network.specs.Values.{clock, natural, flag, kind_of, array_at}
use Rattle.gptp_network.specs.declared.fault.DocumentFault.{DocumentFault}
use Rattle.gptp_network.specs.declared.links.Link.{Link}

-- the port with this number of the system with this clock
abbrev pub port_numbered : ℕ → ℕ → PortId
port_numbered name number = record { clock = name; port = number }

-- the keys of a link, in their order, with their ranges and defaults
unfoldable pub link_of : Members → Result Link DocumentFault
link_of t = do
  a ← clock (codes "a") t
  a_port ← natural (codes "a_port") 1 MOST_PORTS None t
  b ← clock (codes "b") t
  b_port ← natural (codes "b_port") 1 MOST_PORTS None t
  least ← natural (codes "min") 1 16000000000 None t
  greatest ← natural (codes "max") 1 16000000000 None t
  loss ← natural (codes "loss") 0 1000 (Some 0) t
  up ← flag (codes "up") true t
  Ok (record {
    a = port_numbered a a_port;
    b = port_numbered b b_port;
    min = least;
    max = greatest;
    loss = loss;
    up = up;
  })

-- links are numbered from 0 in their order
abbrev pub wire_of : ℕ → Link → LinkSpec
wire_of number l = wire number l.a l.b l.min l.max l.loss l.up

-- the network with one more link
unfoldable pub with_link_of : Data → NetworkState → Result NetworkState DocumentFault
with_link_of d n = do
  t ← kind_of (as_table d)
  l ← link_of t
  tested (link_fault n (wire_of (length n.links) l)) (with_link (wire_of (length n.links) l) n)

-- the network with the links of a document, 2,048 at most
unfoldable pub with_links : Members → NetworkState → Result NetworkState DocumentFault
with_links t n = do
  ds ← array_at (codes "link") t
  few ← limited 2048 ds
  each_of with_link_of few n
