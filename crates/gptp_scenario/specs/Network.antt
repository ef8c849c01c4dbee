-- Networks: systems, and links that join two of their ports (profile).
use Rattle.std.specs.Prelude.{◌≡◌, ◌≢◌, ◌<◌, ◌≤◌, ◌⊎◌, ℕ, ◌^◌, ℤ, ◌≤ℤ◌, Bool, not, ◌&&◌, ◌||◌, ◌==◌, nat_lt, nat_le, int_le, unsigned_abs, List, [], ◌∷◌, ◌++◌, length, Option, Some, slice_get}
use Rattle.std.specs.Int.{int_max, int_min}
use Rattle.std.specs.List.{All, flat_map, list_all, list_any, reduce}
use Rattle.std.specs.Option.{unwrap_or}
use Rattle.arrayvec.specs.ArrayVec.{ArrayVec}
use Rattle.gptp_lists.specs.Members.{In}
use Rattle.gptp_vector.specs.declared.port.PortId.{PortId}
use Rattle.gptp_roles.specs.Selection.{clock_of}
use Rattle.gptp_links.specs.Bounds.{Fit}
use Rattle.gptp_links.specs.declared.bounds.Bounds.{Bounds}
use Rattle.gptp_pdelay.specs.Clock.{IsDrift}
use Rattle.gptp_setup.specs.Intervals.{interval_of, IsLog}
use Rattle.gptp_setup.specs.SettlingParams.{SettlingParams}
use Rattle.gptp_setup.specs.declared.limits.TheConstants.{MOST_PORTS}
use Rattle.gptp_setup.specs.declared.setup.Params.{Params}
use Rattle.gptp_scenario.specs.Faults.{first_fault}
use Rattle.gptp_scenario.specs.Params.{is_between, is_log, KeepParams}
use Rattle.gptp_scenario.specs.declared.fault.NetworkFault.{NetworkFault}
use Rattle.gptp_scenario.specs.declared.fault.NetworkFault.TheVariants.{OutOfRange, DuplicateClock, SelfLink, PortTaken, NoSuchPort, DelayTooLong, TooMany, Timing}
use Rattle.gptp_scenario.specs.declared.network.SystemSpec.{SystemSpec}
use Rattle.gptp_scenario.specs.declared.network.LinkSpec.{LinkSpec}

-- a network: what is the same for all systems, and its systems and links in the order in which they were added; and the
-- seed from which the systems draw the noise of their time stamps
pub record NetworkState : Type 0 where
  pub params : Params
  pub systems : List SystemSpec
  pub links : List LinkSpec
  pub seed : ℕ

-- the seed is 1 at first
abbrev pub without_members : Params → NetworkState
without_members params = record { params = params; systems = []; links = []; seed = 1 }

-- a system of this identity, with so many ports, whose clock has this phase and drift, which goes on with the time that
-- it read where it becomes grandmaster, or doesn't, and whose ports announce at these intervals
abbrev pub member : ℕ → ℕ → ℕ → ℤ → Bool → ArrayVec ℤ → SystemSpec
member identity ports phase drift continues intervals = record {
  identity = identity;
  ports = ports;
  phase = phase;
  drift = drift;
  continues = continues;
  intervals = intervals;
}

-- the link with this number
abbrev pub wire : ℕ → PortId → PortId → ℕ → ℕ → ℕ → Bool → LinkSpec
wire number a b least greatest loss up = record {
  a = a;
  b = b;
  bounds = record { link = number; min = least; max = greatest; loss = loss };
  up = up;
}

-- one more system or link, after the others
abbrev pub with_system : SystemSpec → NetworkState → NetworkState
with_system m n = record n { systems = n.systems ++ m ∷ [] }

abbrev pub with_link : LinkSpec → NetworkState → NetworkState
with_link w n = record n { links = n.links ++ w ∷ [] }

-- noise is drawn from this seed
abbrev pub seeded : ℕ → NetworkState → NetworkState
seeded seed n = record n { seed = seed }

-- what the ports of a network announce at, as logarithms to base 2 of seconds, in the order of systems and ports
abbrev pub logs_of : NetworkState → List ℤ
logs_of n = flat_map (λ (m : SystemSpec). m.intervals.items) n.systems

-- the smallest and the largest of them; of a network without a port that of its parameters
unfoldable pub smallest_of : NetworkState → ℤ
smallest_of n = unwrap_or (reduce int_min (logs_of n)) n.params.announce

unfoldable pub largest_of : NetworkState → ℤ
largest_of n = unwrap_or (reduce int_max (logs_of n)) n.params.announce

-- by what the settling of a network is counted
abbrev pub pace_of : NetworkState → SettlingParams
pace_of n = record { params = n.params; largest = largest_of n }

-- each value lies in its range, and there is an interval for each port
abbrev pub is_member_in_range : SystemSpec → Bool
is_member_in_range m =
    nat_le m.ports MOST_PORTS
    && nat_le m.phase 1000000000000000000
    && nat_le (unsigned_abs m.drift) 219902325
    && (length m.intervals.items == m.ports)
    && list_all is_log m.intervals.items

-- requests are no rarer than the announcements of any of its ports
abbrev pub is_member_timed : Params → SystemSpec → Bool
is_member_timed p m = list_all (λ log. int_le p.pdelay log) m.intervals.items

-- the greatest delay of one of these links is above this interval
abbrev pub is_any_slower : List LinkSpec → ℤ → Bool
is_any_slower links log = list_any (λ w. nat_lt (interval_of log) w.bounds.max) links

-- a system has this clock
abbrev pub members_have_clock : List SystemSpec → ℕ → Bool
members_have_clock systems clock = list_any (λ m. clock_of m.identity == clock) systems

-- the first test that one more system fails
abbrev pub system_fault : NetworkState → SystemSpec → Option NetworkFault
system_fault n m = first_fault (
    (nat_le 512 (length n.systems), TooMany)
    ∷ (not (is_member_in_range m), OutOfRange)
    ∷ (not (is_member_timed n.params m), Timing)
    ∷ (members_have_clock n.systems (clock_of m.identity), DuplicateClock)
    ∷ (list_any (is_any_slower n.links) m.intervals.items, DelayTooLong)
    ∷ [])

abbrev pub are_bounds_in_range : Bounds → Bool
are_bounds_in_range b =
    is_between 1 16000000000 b.min && is_between 1 16000000000 b.max && nat_le b.loss 1000 && nat_le b.min b.max

abbrev pub is_wire_in_range : LinkSpec → Bool
is_wire_in_range w =
    is_between 1 MOST_PORTS w.a.port && is_between 1 MOST_PORTS w.b.port && are_bounds_in_range w.bounds

abbrev pub same_port : PortId → PortId → Bool
same_port p q = (p.clock == q.clock) && (p.port == q.port)

-- the system with the clock of this port has so many ports
abbrev pub has_port : List SystemSpec → PortId → Bool
has_port systems p = list_any (λ m. (clock_of m.identity == p.clock) && nat_le p.port m.ports) systems

-- a link is at this port
abbrev pub is_taken : List LinkSpec → PortId → Bool
is_taken links p = list_any (λ w. same_port w.a p || same_port w.b p) links

-- the first test that one more link fails
abbrev pub link_fault : NetworkState → LinkSpec → Option NetworkFault
link_fault n w = first_fault (
    (nat_le 2048 (length n.links), TooMany)
    ∷ (not (is_wire_in_range w), OutOfRange)
    ∷ (w.a.clock == w.b.clock, SelfLink)
    ∷ (not (has_port n.systems w.a && has_port n.systems w.b), NoSuchPort)
    ∷ (is_taken n.links w.a || is_taken n.links w.b, PortTaken)
    ∷ (nat_lt (interval_of (smallest_of n)) w.bounds.max, DelayTooLong)
    ∷ [])

-- a system is within the limits
pub record IsMember (m : SystemSpec) : Type 0 where
  pub ports : m.ports ≤ MOST_PORTS
  pub phase : m.phase ≤ 10 ^ 18
  pub drift : IsDrift m.drift
  pub many : length m.intervals.items ≡ m.ports
  pub logs : All IsLog m.intervals.items

-- requests are no rarer than the announcements of any of its ports
abbrev pub IsMemberTimed : Params → SystemSpec → Type 0
IsMemberTimed p m = All (λ log. p.pdelay ≤ℤ log) m.intervals.items

-- each frame on one of these links arrives within this interval
abbrev pub ArePrompt : List LinkSpec → ℤ → Type 0
ArePrompt links log = (i : ℕ) (w : LinkSpec) → slice_get links i ≡ Some w → w.bounds.max ≤ interval_of log

-- the port is one of a system of the network; ports are numbered from 1
pub record IsPort (systems : List SystemSpec) (p : PortId) : Type 0 where
  pub place : ℕ
  pub system : SystemSpec
  pub there : slice_get systems place ≡ Some system
  pub clock : clock_of system.identity ≡ p.clock
  pub first : 1 ≤ p.port
  pub last : p.port ≤ system.ports

-- a link of the network: it joins ports of two systems, and each of its frames arrives within the announce interval of
-- each port of the network
pub record IsWire (n : NetworkState) (place : ℕ) (w : LinkSpec) : Type 0 where
  pub number : w.bounds.link ≡ place
  pub fit : Fit w.bounds
  pub prompt : (log : ℤ) → In log (logs_of n) → w.bounds.max ≤ interval_of log
  pub a : IsPort n.systems w.a
  pub b : IsPort n.systems w.b
  pub apart : w.a.clock ≢ w.b.clock

-- the link is at this port
abbrev pub IsEnd : PortId → LinkSpec → Type 0
IsEnd p w = (w.a ≡ p) ⊎ (w.b ≡ p)

-- no system has this clock
abbrev pub IsNewClock : List SystemSpec → ℕ → Type 0
IsNewClock systems clock = (i : ℕ) (m : SystemSpec) → slice_get systems i ≡ Some m → clock_of m.identity ≢ clock

-- no link is at this port
abbrev pub IsFree : List LinkSpec → PortId → Type 0
IsFree links p = (i : ℕ) (w : LinkSpec) → slice_get links i ≡ Some w → IsEnd p w → ⊥

-- Such a system can be added: there is room, its values are within the limits, no other system has its clock, and its
-- ports announce no more often than requests are sent, and no faster than frames cross the links.
pub record CanAddSystem (n : NetworkState) (m : SystemSpec) : Type 0 where
  pub room : length n.systems < 512
  pub limits : IsMember m
  pub timed : IsMemberTimed n.params m
  pub fresh : IsNewClock n.systems (clock_of m.identity)
  pub prompt : All (ArePrompt n.links) m.intervals.items

-- such a link can be added: there is room, it is a link of the network, and no other link is at its ports
pub record CanAddLink (n : NetworkState) (w : LinkSpec) : Type 0 where
  pub room : length n.links < 2048
  pub limits : IsWire n (length n.links) w
  pub free_a : IsFree n.links w.a
  pub free_b : IsFree n.links w.b

-- What holds of every network: its values are within the limits, identities have fourteen octets, clocks differ,
-- requests are no rarer than the announcements of any port, a link joins ports of two systems, and a port has one link
-- at most.
pub record IsNetwork (n : NetworkState) : Type 0 where
  pub params : KeepParams n.params
  pub few_systems : length n.systems ≤ 512
  pub few_links : length n.links ≤ 2048
  pub systems : (i : ℕ) (m : SystemSpec) → slice_get n.systems i ≡ Some m → IsMember m
  pub identities : (i : ℕ) (m : SystemSpec) → slice_get n.systems i ≡ Some m → m.identity < 2 ^ 112
  pub clocks : (i j : ℕ) (l m : SystemSpec) → slice_get n.systems i ≡ Some l → slice_get n.systems j ≡ Some m
      → clock_of l.identity ≡ clock_of m.identity → i ≡ j
  pub timed : (i : ℕ) (m : SystemSpec) → slice_get n.systems i ≡ Some m → IsMemberTimed n.params m
  pub links : (i : ℕ) (w : LinkSpec) → slice_get n.links i ≡ Some w → IsWire n i w
  pub one_link : (i j : ℕ) (v w : LinkSpec) (p : PortId) → slice_get n.links i ≡ Some v → slice_get n.links j ≡ Some w
      → IsEnd p v → IsEnd p w → i ≡ j

-- what is kept of a network: beside its members the smallest and the largest of the intervals, where it has a port
pub record IsKeptNetwork (n : NetworkState) (least greatest : Option ℤ) : Type 0 where
  pub network : IsNetwork n
  pub smallest : least ≡ reduce int_min (logs_of n)
  pub largest : greatest ≡ reduce int_max (logs_of n)
