-- The sections `[[system]]`, or why they are refused and where (profile).
use Rattle.std.specs.Prelude.{ℕ, ℤ, int_lt, false, if◌then◌else◌, List, [], ◌∷◌, Option, Some, None, Result, Ok}
use Rattle.toml.specs.Data.{Data, Members, as_table}
use Rattle.gptp_roles.specs.Selection.{clock_of}
use Rattle.gptp_scenario.specs.Network.{NetworkState, system_fault, with_system}
use Rattle.gptp_scenario.specs.declared.fault.NetworkFault.{NetworkFault}
use Rattle.gptp_scenario.specs.declared.fault.NetworkFault.TheVariants as networks
use Rattle.gptp_network.specs.Faults.{◌>>=◌}
use Rattle.gptp_network.specs.Found.{system_from}
use Rattle.gptp_network.specs.ReadIntervals.{read_intervals}
use Rattle.gptp_network.specs.ReadMembers.{limited_in, needed_in, read_each, section_in}
use Rattle.gptp_network.specs.Reading.{clock_at, flag_at, kind_at, natural_at, whole_at}
use Rattle.gptp_network.specs.Systems.{identity_of, member_of}
use Rattle.gptp_network.specs.Why.{told}
use Rattle.gptp_network.specs.declared.keys.Name.TheVariants as names
use Rattle.gptp_network.specs.declared.keys.TheConstants.{ACCURACY, CLASS, DRIFT, PHASE, PORTS, PRIORITY1, PRIORITY2, VARIANCE}
use Rattle.gptp_network.specs.declared.place.Section.TheVariants as sections
use Rattle.gptp_network.specs.declared.systems.System.{System}
use Rattle.gptp_network.specs.declared.why.Refusal.{Refusal}
use Rattle.gptp_network.specs.declared.why.Why.{Why}
use Rattle.gptp_network.specs.declared.why.Why.TheVariants as whys

-- the keys of a system of a document of this version, in their order, where ports announce at this interval by default
unfoldable pub read_system : ℕ → ℤ → Members → Result System Why
read_system version announce t = do
  name ← clock_at names.Clock t
  priority1 ← natural_at PRIORITY1 t
  class ← natural_at CLASS t
  accuracy ← natural_at ACCURACY t
  variance ← natural_at VARIANCE t
  priority2 ← natural_at PRIORITY2 t
  phase ← natural_at PHASE t
  drift ← whole_at DRIFT t
  continues ← flag_at names.Continues false t
  ports ← natural_at PORTS t
  logs ← read_intervals version ports announce t
  Ok (record {
    identity = identity_of priority1 class accuracy variance priority2 name;
    ports = ports;
    phase = phase;
    drift = drift;
    continues = continues;
    intervals = record { items = logs };
  })

-- the first of these intervals that is shorter than this one; the other where none is
abbrev pub first_shorter : ℤ → List ℤ → ℤ → ℤ
first_shorter least [] other = other
first_shorter least (log ∷ logs) other = if int_lt log least then log else first_shorter least logs other

-- an earlier system has the clock
abbrev pub duplicate : ℕ → Option (ℕ × ℕ) → Why
duplicate clock (Some found) = whys.Duplicate clock found.0
duplicate clock None = whys.Other networks.DuplicateClock

-- why a system with this clock, one of whose ports announces at this interval, can't be added
abbrev pub system_why : NetworkState → ℕ → ℤ → NetworkFault → Why
system_why n clock log networks.Timing = whys.Timing n.params log
system_why n clock log networks.DuplicateClock = duplicate clock (system_from 0 n.systems clock)
system_why n clock log networks.OutOfMemory = whys.Memory
system_why n clock log fault = whys.Other fault

abbrev pub put_system : System → NetworkState → Result NetworkState Why
put_system s n =
    told (system_why n (clock_of s.identity) (first_shorter n.params.pdelay s.intervals.items n.params.announce))
    (system_fault n (member_of s)) (with_system (member_of s) n)

-- the network with one more system
unfoldable pub read_with_system : ℕ → Data → NetworkState → Result NetworkState Why
read_with_system version d n = do
  t ← kind_at names.System d (as_table d)
  s ← read_system version n.params.announce t
  put_system s n

-- the network with the systems of a document: one at least, 512 at most
unfoldable pub read_with_systems : ℕ → Members → NetworkState → Result NetworkState Refusal
read_with_systems version t n = do
  ds ← section_in sections.System t
  some ← needed_in ds
  few ← limited_in sections.System some
  read_each sections.System (read_with_system version) 0 few n
