-- The state of one system (IEEE 802.1AS-2020, 10.2.4 and 10.3.9: its per-instance and per-port variables).
use Rattle.std.specs.Prelude.{ℕ, zero, suc, ◌+◌, ◌/◌, ◌^◌, nat_lt, ℤ, Bool, true, false, ◌&&◌, if◌then◌else◌}
use Rattle.std.specs.Prelude.{List, [], ◌∷◌, slice_get, Option, Some, None}
use Rattle.std.specs.Option.{option_map, option_map_or, option_and_then}
use Rattle.gptp_vector.specs.declared.port.PortId.{PortId}
use Rattle.gptp_receipt.specs.declared.held.Held.{Held}
use Rattle.gptp_receipt.specs.declared.held.Held.TheVariants as helds
use Rattle.gptp_receipt.specs.declared.held.Reception.{Reception}
use Rattle.gptp_receipt.specs.Held.{received}
use Rattle.gptp_roles.specs.Selection.{clock_of}
use Rattle.gptp_roles.specs.SystemTrace.{system_trace}
use Rattle.gptp_scaled.specs.declared.time_stamp.Stamping.{Stamping}
use Rattle.gptp_pdelay.specs.Clock.{clock_stamp, local_clock}
use Rattle.gptp_pdelay.specs.Peer.{PeerState, is_capable}
use Rattle.gptp_correction.specs.SyncIn.{KeptSync}
use Rattle.gptp_correction.specs.declared.sync_in.SyncInfo.{SyncInfo}
use Rattle.gptp_system.specs.declared.port.Port.{Port}
use Rattle.gptp_system.specs.declared.reading.TimeRead.{TimeRead}
use Rattle.gptp_setup.specs.declared.setup.Params.{Params}
use Rattle.gptp_setup.specs.declared.timer.Timer.{Timer}
use Rattle.gptp_setup.specs.declared.timer.Timer.TheVariants as timers
use Rattle.gptp_setup.specs.SettlingParams.{has_sync_timeout, lapse_span, span_by}

-- What a system knows; `largest` is the largest announce interval of its network. The first port stands first in both
-- lists, and has the number 1. Times of timers are in ns, and the base, by which the time that it tells is ahead of its
-- own clock, is in units of 2^-16 ns.
pub record SystemState : Type 0 where
  pub params : Params
  pub largest : ℤ
  pub phase : ℕ
  pub drift : ℤ
  pub continues : Bool
  pub seed : ℕ
  pub identity : ℕ
  pub held : List Held
  pub ports : List Port
  pub root : ℕ
  pub steps : ℕ
  pub slave : Option ℕ
  pub sync_in : Option KeptSync
  pub known : Option SyncInfo
  pub offset : Option ℤ
  pub reads : Option TimeRead
  pub base : ℤ
  pub sync : ℕ
  pub relay : Option ℕ
  pub lapse : Option ℕ

-- ---- places

-- what stands at a port's number; no port has the number 0
abbrev pub number : {X : Type 0} → List X → ℕ → Option X
number xs zero = None
number xs (suc i) = slice_get xs i

-- a list with one member changed, that at this place
abbrev pub change_at : {X : Type 0} → (X → X) → ℕ → List X → List X
change_at f i [] = []
change_at f zero (x ∷ xs) = f x ∷ xs
change_at f (suc i) (x ∷ xs) = x ∷ change_at f i xs

-- a list with what stands at a port's number changed
abbrev pub change : {X : Type 0} → (X → X) → ℕ → List X → List X
change f zero xs = xs
change f (suc i) xs = change_at f i xs

-- ---- what a state says

-- the clockIdentity
abbrev pub clock : SystemState → ℕ
clock s = clock_of s.identity

-- the portIdentity of a port
abbrev pub own : SystemState → ℕ → PortId
own s p = record { clock = clock s; port = p }

-- what the local clock shows, in units of 2^-16 ns
abbrev pub local_time : SystemState → ℕ → ℤ
local_time s now = local_clock s.phase s.drift now

-- how it stamps time
abbrev pub stamping : SystemState → Stamping
stamping s = record {
  granularity = s.params.granularity;
  most_noise = s.params.noise;
  seed = s.seed;
  clock = clock s;
}

-- the time stamp that it takes now of its local clock, in units of 2^-16 ns
abbrev pub stamp_time : SystemState → ℕ → ℤ
stamp_time s now = clock_stamp (stamping s) s.phase s.drift now

-- what a port holds; Disabled where there is none
abbrev pub held_at : SystemState → ℕ → Held
held_at s p = option_map_or (λ h. h) (number s.held p) helds.Disabled

-- a port is asCapable (11.2.2)
abbrev pub is_capable_at : SystemState → ℕ → Bool
is_capable_at s p = option_map_or (λ (q : Port). is_capable q.peer) (number s.ports p) false

-- the pathTrace that the system announces (10.3.9.23)
abbrev pub trace : SystemState → List ℕ
trace s = system_trace (clock s) s.held s.slave

-- the port that what is held came from
abbrev pub held_source : Held → Option PortId
held_source h = option_map (λ (r : Reception). r.vector.source) (received h)

-- the Slave port, if there is one, and the port that it follows (parentPortIdentity, IEEE 1588-2019, 8.2.3.2)
abbrev pub parent : SystemState → Option (ℕ × PortId)
parent s = option_and_then (λ p. option_map (λ source. (p, source)) (held_source (held_at s p))) s.slave

-- ---- timers

-- a Master port holds what it announces
abbrev pub is_mine : Held → Bool
is_mine (helds.Mine root steps) = true
is_mine _ = false

-- the Announce timer runs on Master ports alone
abbrev pub announce_due : Port → Held → Option ℕ
announce_due q (helds.Mine root steps) = Some q.announce
announce_due q _ = None

-- the Age timer runs on ports that received, by the interval that was heard (10.7.3.2)
abbrev pub age_due : Params → ℤ → Held → Option ℕ
age_due params largest h =
    option_map (λ (r : Reception). r.at + span_by params.timeout largest r.interval) (received h)

-- when a timer runs out, where it runs
abbrev pub due : Timer → SystemState → Option ℕ
due (timers.Announce p) s = option_and_then (λ q. announce_due q (held_at s p)) (number s.ports p)
due (timers.Age p) s = option_and_then (λ (q : Port). age_due s.params s.largest (held_at s p)) (number s.ports p)
due (timers.Pdelay p) s = option_and_then (λ (q : Port). q.pdelay) (number s.ports p)
due (timers.Respond p) s = option_and_then (λ (q : Port). q.respond) (number s.ports p)
due timers.Sync s = Some s.sync
due timers.Relay s = s.relay
due timers.Lapse s = s.lapse

-- a system of this identity may be grandmaster: its priority1 is below 255 (10.3.2)
abbrev pub can_lead : ℕ → Bool
can_lead identity = nat_lt (identity / 2 ^ 104) 255

-- When the Lapse timer runs out that is started now: it runs where the network has a syncReceiptTimeout, there is a
-- Slave port, and the root can send time (gmPresent).
abbrev pub lapse_of : Params → ℕ → Option ℕ → ℕ → Option ℕ
lapse_of params root None now = None
lapse_of params root (Some slave) now =
    if has_sync_timeout params && can_lead root then Some (now + lapse_span params) else None

-- ---- changes of one port

abbrev pub on_port : ℕ → (Port → Port) → SystemState → SystemState
on_port p f s = record s { ports = change f p s.ports }

abbrev pub on_held : ℕ → (Held → Held) → SystemState → SystemState
on_held p f s = record s { held = change f p s.held }

-- its peer becomes another
abbrev pub with_peer : ℕ → (PeerState → PeerState) → SystemState → SystemState
with_peer p f s = on_port p (λ q. record q { peer = f q.peer }) s
