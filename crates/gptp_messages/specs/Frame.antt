-- Octets and numbers in a frame, all of them most significant octet first (IEEE 1588-2019, 5.3.1).
use Rattle.std.specs.Prelude.{ℕ, ◌+◌, ◌/◌, ◌%◌, ◌^◌, ◌<◌, List, ◌++◌, drop, slice_index}
use Rattle.byteorder.specs.Endian.{big_bytes, big_number}
use Rattle.gptp_vector.specs.declared.port.PortId.{PortId}

-- the octet at a place
abbrev pub octet : ℕ → List ℕ → ℕ
octet i f = slice_index f i

-- the number in the n octets from place i
unfoldable pub field : ℕ → ℕ → List ℕ → ℕ
field n i f = big_number n (drop i f)

-- the high and the low four bits of an octet
abbrev pub high_nibble : ℕ → ℕ
high_nibble x = x / 16

abbrev pub low_nibble : ℕ → ℕ
low_nibble x = x % 16

-- the portIdentity at a place: clockIdentity and portNumber (IEEE 1588-2019, 5.3.5)
abbrev pub port_at : ℕ → List ℕ → PortId
port_at i f = record { clock = field 8 i f; port = field 2 (i + 8) f }

abbrev pub written_port : PortId → List ℕ
written_port p = big_bytes 8 p.clock ++ big_bytes 2 p.port

-- clock and port fit their octets
pub record PortFits (p : PortId) : Type 0 where
  pub clock : p.clock < 2 ^ 64
  pub port : p.port < 2 ^ 16
