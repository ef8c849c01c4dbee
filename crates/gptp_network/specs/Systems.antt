-- The sections `[[system]]` (profile).
use Rattle.std.specs.Prelude.{ℕ, ℤ, pos, neg_ℤ, false, codes, ◌∷◌, ◌++◌, Some, Result, Ok}
use Rattle.byteorder.specs.Endian.{big_bytes, big_number}
use Rattle.toml.specs.Data.{Data, Members, as_table}
use Rattle.gptp_setup.specs.declared.limits.TheConstants.{MOST_PORTS}
use Rattle.gptp_scenario.specs.Network.{NetworkState, member, with_system, system_fault}
use Rattle.gptp_scenario.specs.declared.network.SystemSpec.{SystemSpec}
use Rattle.gptp_network.specs.Faults.{◌>>=◌, tested}
use Rattle.gptp_network.specs.Intervals.{intervals}
use Rattle.gptp_network.specs.Members.{needed, limited, each_of}
use Rattle.gptp_network.specs.Values.{clock, flag, natural, whole, kind_of, array_at}
use Rattle.gptp_network.specs.declared.fault.DocumentFault.{DocumentFault}
use Rattle.gptp_network.specs.declared.systems.System.{System}

-- the identity of these parts, in the order of their octets (IEEE 802.1AS-2020, 10.3.2)
abbrev pub identity_of : ℕ → ℕ → ℕ → ℕ → ℕ → ℕ → ℕ
identity_of priority1 class accuracy variance priority2 name =
    big_number 14 (priority1 ∷ class ∷ accuracy ∷ big_bytes 2 variance ++ priority2 ∷ big_bytes 8 name)

-- the keys of a system of a document of this version, in their order, with their ranges and defaults, where ports
-- announce at this interval by default
unfoldable pub system_of : ℕ → ℤ → Members → Result System DocumentFault
system_of version announce t = do
  name ← clock (codes "clock") t
  priority1 ← natural (codes "priority1") 0 255 (Some 246) t
  class ← natural (codes "class") 0 255 (Some 248) t
  accuracy ← natural (codes "accuracy") 0 255 (Some 254) t
  variance ← natural (codes "variance") 0 65535 (Some 17258) t
  priority2 ← natural (codes "priority2") 0 255 (Some 248) t
  phase ← natural (codes "phase") 0 1000000000000000000 (Some 0) t
  drift ← whole (codes "drift") (neg_ℤ (pos 219902325)) (pos 219902325) (Some (pos 0)) t
  continues ← flag (codes "continues") false t
  ports ← natural (codes "ports") 0 MOST_PORTS (Some 1) t
  logs ← intervals version ports announce t
  Ok (record {
    identity = identity_of priority1 class accuracy variance priority2 name;
    ports = ports;
    phase = phase;
    drift = drift;
    continues = continues;
    intervals = record { items = logs };
  })

abbrev pub member_of : System → SystemSpec
member_of s = member s.identity s.ports s.phase s.drift s.continues s.intervals

-- the network with one more system
unfoldable pub with_system_of : ℕ → Data → NetworkState → Result NetworkState DocumentFault
with_system_of version d n = do
  t ← kind_of (as_table d)
  s ← system_of version n.params.announce t
  tested (system_fault n (member_of s)) (with_system (member_of s) n)

-- the network with the systems of a document: one at least, 512 at most
unfoldable pub with_systems : ℕ → Members → NetworkState → Result NetworkState DocumentFault
with_systems version t n = do
  ds ← array_at (codes "system") t
  some ← needed ds
  few ← limited 512 some
  each_of (with_system_of version) few n
