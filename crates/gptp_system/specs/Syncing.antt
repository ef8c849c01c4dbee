-- Time: what a Sync, a Follow_Up and the timers of both make of a system (IEEE 802.1AS-2020, 10.2.9, 11.2.14, 11.2.15).
use Rattle.std.specs.Prelude.{◌≡◌, ◌⊎◌, ℕ, ◌+◌, ◌==◌, ◌&&◌, ℤ, pos, ◌-ℤ◌, ◌≤ℤ◌, Bool, true, false}
use Rattle.std.specs.Prelude.{if◌then◌else◌, List, [], ◌∷◌, Option, Some, None}
use Rattle.std.specs.Option.{option_and_then, option_map, option_map_or, unwrap_or}
use Rattle.gptp_vector.specs.declared.port.PortId.{PortId}
use Rattle.gptp_messages.specs.declared.head.Head.{Head}
use Rattle.gptp_messages.specs.declared.follow_up.FollowUp.{FollowUp}
use Rattle.gptp_receipt.specs.declared.held.Held.{Held}
use Rattle.gptp_receipt.specs.declared.held.Reception.{Reception}
use Rattle.gptp_receipt.specs.Held.{received}
use Rattle.gptp_scaled.specs.ScaledNs.{FitsScaled}
use Rattle.gptp_scaled.specs.Stamp.{Timestamp, IsSplit, scaled_of}
use Rattle.gptp_pdelay.specs.Peer.{delay_of, rate_of_peer}
use Rattle.gptp_correction.specs.declared.correction.Hop.{Hop}
use Rattle.gptp_correction.specs.declared.correction.Relayed.{Relayed}
use Rattle.gptp_correction.specs.declared.sync_in.SyncInfo.{SyncInfo}
use Rattle.gptp_correction.specs.SyncIn.{kept, information}
use Rattle.gptp_correction.specs.Correction.{bridge, carried, carried_on, held_sum, receipt, relayed, BridgeFits}
use Rattle.gptp_correction.specs.Correction.{SlaveFits}
use Rattle.gptp_system.specs.declared.answer.Answer.{Answer}
use Rattle.gptp_system.specs.declared.answer.Answer.TheVariants as answers
use Rattle.gptp_system.specs.declared.port.Port.{Port}
use Rattle.gptp_system.specs.declared.reading.Reading.{Reading}
use Rattle.gptp_system.specs.declared.reading.TimeRead.{TimeRead}
use Rattle.gptp_system.specs.declared.reading.TimeRead.TheVariants as reads
use Rattle.gptp_system.specs.declared.sending.Sending.{Sending}
use Rattle.gptp_system.specs.declared.sending.Body.TheVariants as bodies
use Rattle.gptp_setup.specs.Intervals.{interval_of}
use Rattle.gptp_setup.specs.SettlingParams.{has_sync_timeout}
use Rattle.gptp_system.specs.State.{SystemState, number, clock, held_at, is_capable_at, is_mine, stamp_time}
use Rattle.gptp_system.specs.State.{can_lead, lapse_of}
use Rattle.gptp_system.specs.Sends.{head_from, next_sequence}
use Rattle.gptp_system.specs.Selection.{Becomes}
use Rattle.gptp_system.specs.Reading.{reading_of}
use Rattle.gptp_system.specs.Takeover.{leading, told_stamp, told_time}

-- ---- sending

-- the Sync of a port, and the Follow_Up of the same number after it, which says this (11.4.3 and 11.4.4)
abbrev pub sync_of : PortId → ℤ → Port → Sending
sync_of own log_interval q = record {
  port = own.port;
  head = head_from own q.syncs (pos 0) log_interval true;
  body = bodies.Sync;
}

abbrev pub follow_up_of : PortId → ℤ → Relayed → Port → Sending
follow_up_of own log_interval told q = record {
  port = own.port;
  head = head_from own q.syncs told.correction log_interval false;
  body = bodies.FollowUp told.origin told.rate;
}

-- each Master port sends both, the first port having this number
abbrev pub syncs : ℕ → ℤ → Relayed → ℕ → List Held → List Port → List Sending
syncs clock log_interval told p [] qs = []
syncs clock log_interval told p (h ∷ hs) [] = []
syncs clock log_interval told p (h ∷ hs) (q ∷ qs) =
    let own : PortId = record { clock = clock; port = p } in
    if is_mine h
    then sync_of own log_interval q ∷ follow_up_of own log_interval told q ∷ syncs clock log_interval told (p + 1) hs qs
    else syncs clock log_interval told (p + 1) hs qs

-- a port counts one Sync more
abbrev pub counting : Port → Port
counting q = record q { syncs = next_sequence q.syncs }

abbrev pub counted_by_rates : List Held → List Port → List Port
counted_by_rates [] qs = qs
counted_by_rates (h ∷ hs) [] = []
counted_by_rates (h ∷ hs) (q ∷ qs) = (if is_mine h then counting q else q) ∷ counted_by_rates hs qs

-- all Master ports tell this time
abbrev pub telling : SystemState → SystemState
telling s = record s { ports = counted_by_rates s.held s.ports }

abbrev pub told_by : Relayed → SystemState → List Sending
told_by told s = syncs (clock s) s.params.sync told 1 s.held s.ports

-- a time of the own: as it is now, at the own rate
abbrev pub own_time : Timestamp → ℕ → Relayed
own_time stamp rest = record { origin = stamp; correction = pos rest; rate = pos 0 }

-- this time, told so
pub record IsOwnTime (time : ℤ) (told : Relayed) : Type 0 where
  pub stamp : Timestamp
  pub rest : ℕ
  pub split : IsSplit time stamp rest
  pub told_is : told ≡ own_time stamp rest

-- ---- the Sync timer

-- the system is its own root, and may be grandmaster
abbrev pub is_leading : SystemState → Bool
is_leading s = s.root == s.identity && can_lead s.identity

-- the timer runs on
abbrev pub restarted : ℕ → SystemState → SystemState
restarted now s = record s { sync = now + interval_of s.params.sync }

-- It takes over where it didn't yet, and tells its time, that of its clock with its base, which is from 0 on: it sends
-- the time stamp of that.
pub record LeadsTime (now : ℕ) (s s' : SystemState) (sends : List Sending) : Type 0 where
  pub stamp : Timestamp
  pub rest : ℕ
  pub from : pos 0 ≤ℤ told_time (leading now s) now
  pub split : IsSplit (told_stamp (leading now s) now) stamp rest
  pub state : s' ≡ telling (restarted now (leading now s))
  pub sends_are : sends ≡ told_by (own_time stamp rest) s

abbrev pub SyncsIf : Bool → ℕ → SystemState → SystemState → List Sending → Type 0
SyncsIf true now s s' sends = LeadsTime now s s' sends
SyncsIf false now s s' sends = Becomes (restarted now s) s' sends

abbrev pub SyncExpires : ℕ → SystemState → SystemState → List Sending → Type 0
SyncExpires now s s' sends = SyncsIf (is_leading s) now s s' sends

-- ---- a Sync

-- two ports are the same
abbrev pub is_port : PortId → PortId → Bool
is_port a b = a.clock == b.clock && a.port == b.port

-- the port is the Slave port
abbrev pub is_slave_at : SystemState → ℕ → Bool
is_slave_at s p = option_map_or (λ slave. slave == p) s.slave false

-- what a port received came from this port
abbrev pub came_from : PortId → Held → Bool
came_from source h = option_map_or (λ (r : Reception). is_port r.vector.source source) (received h) false

-- a Sync of two steps on the Slave port, from the port that is followed
abbrev pub is_followed : ℕ → Head → SystemState → Bool
is_followed p head s = head.two_step && (is_slave_at s p && came_from head.source (held_at s p))

abbrev pub keeping : Head → ℕ → SystemState → SystemState
keeping head now s = record s { sync_in = Some (kept head.source head.sequence (stamp_time s now)) }

-- what is made of a Sync or a Follow_Up on a port that isn't asCapable
pub record IsOff (s s' : SystemState) (sends : List Sending) (answer : Answer) : Type 0 where
  pub becomes : Becomes s s' sends
  pub answer_is : answer ≡ answers.Disabled

-- what is made of a Sync or a Follow_Up that is for nobody here
pub record IsIgnored (s s' : SystemState) (sends : List Sending) (answer : Answer) : Type 0 where
  pub becomes : Becomes s s' sends
  pub answer_is : answer ≡ answers.Ignored

pub record IsKeptSync (head : Head) (now : ℕ) (s s' : SystemState) (sends : List Sending)
    (answer : Answer) : Type 0 where
  pub becomes : Becomes (keeping head now s) s' sends
  pub answer_is : answer ≡ answers.Used

abbrev pub KeepsIf : Bool → Head → ℕ → SystemState → SystemState → List Sending → Answer → Type 0
KeepsIf true head now s s' sends answer = IsKeptSync head now s s' sends answer
KeepsIf false head now s s' sends answer = IsIgnored s s' sends answer

abbrev pub HearsSyncIf : Bool → ℕ → Head → ℕ → SystemState → SystemState → List Sending → Answer → Type 0
HearsSyncIf false p head now s s' sends answer = IsOff s s' sends answer
HearsSyncIf true p head now s s' sends answer = KeepsIf (is_followed p head s) head now s s' sends answer

abbrev pub HearsSync : ℕ → Head → ℕ → SystemState → SystemState → List Sending → Answer → Type 0
HearsSync p head now s s' sends answer = HearsSyncIf (is_capable_at s p) p head now s s' sends answer

-- ---- a Follow_Up

-- meanLinkDelay and neighbour rate of a port; 0 where nothing was measured
abbrev pub delay_at : SystemState → ℕ → ℤ
delay_at s p = option_map_or (λ (q : Port). option_map_or (λ d. d) (delay_of q.peer) (pos 0)) (number s.ports p) (pos 0)

abbrev pub root_rate_at : SystemState → ℕ → ℤ
root_rate_at s p = option_map_or (λ (q : Port). rate_of_peer q.peer) (number s.ports p) (pos 0)

-- what a Follow_Up and the Sync that is kept say together, on the Slave port
abbrev pub said_on : ℕ → FollowUp → SystemState → Option SyncInfo
said_on p m s = if is_slave_at s p then information s.sync_in m else None

-- when the Sync came, by the grandmaster's clock, and how far the own clock is ahead of that
abbrev pub receipt_of : SyncInfo → ℤ → ℤ → ℤ
receipt_of info delay rate = receipt (scaled_of info.origin) (carried info) delay rate

abbrev pub offset_of : SyncInfo → ℤ → ℤ → ℤ
offset_of info delay rate = info.ingress -ℤ receipt_of info delay rate

-- all numbers on the way fit
pub record OffsetFits (info : SyncInfo) (delay rate : ℤ) : Type 0 where
  pub receipt : SlaveFits (scaled_of info.origin) (carried info) delay rate
  pub offset : FitsScaled (offset_of info delay rate)

-- the time is known and read, and is sent on one residence later
abbrev pub knowing : SyncInfo → ℤ → ℤ → ℕ → SystemState → SystemState
knowing info offset rate now s = record s {
  known = Some info;
  offset = Some offset;
  reads = Some (reads.Received (reading_of info offset rate));
  relay = Some (now + s.params.residence);
}

-- what was kept is forgotten
abbrev pub forgetting : SystemState → SystemState
forgetting s = record s { sync_in = None; known = None; offset = None }

-- the numbers fit: the offset is known
pub record OffsetIsKnown (info : SyncInfo) (delay rate : ℤ) (now : ℕ) (s s' : SystemState) (sends : List Sending)
    (answer : Answer) : Type 0 where
  pub fits : OffsetFits info delay rate
  pub becomes : Becomes (knowing info (offset_of info delay rate) rate now s) s' sends
  pub answer_is : answer ≡ answers.Used

-- one doesn't
pub record IsForgotten (info : SyncInfo) (delay rate : ℤ) (s s' : SystemState) (sends : List Sending)
    (answer : Answer) : Type 0 where
  pub unfit : OffsetFits info delay rate → ⊥
  pub becomes : Becomes (forgetting s) s' sends
  pub answer_is : answer ≡ answers.Ignored

-- how far the own clock is ahead, where the numbers on the way fit
abbrev pub IsOffset : SyncInfo → ℤ → ℤ → Option ℤ → Type 0
IsOffset info delay rate offset =
    (OffsetFits info delay rate × (offset ≡ Some (offset_of info delay rate)))
    ⊎ ((OffsetFits info delay rate → ⊥) × (offset ≡ None))

-- what is read then: without an offset what was read before
abbrev pub reads_with : SyncInfo → Option ℤ → ℤ → Option TimeRead → Option TimeRead
reads_with info None rate before = before
reads_with info (Some offset) rate before = Some (reads.Received (reading_of info offset rate))

-- The time is known: a Relay timer that runs keeps its time, and sends this on then; the Lapse timer begins anew.
abbrev pub refreshing : SyncInfo → Option ℤ → ℤ → ℕ → SystemState → SystemState
refreshing info offset rate now s = record s {
  known = Some info;
  offset = offset;
  reads = reads_with info offset rate s.reads;
  relay = Some (unwrap_or s.relay (now + s.params.residence));
  lapse = lapse_of s.params s.root s.slave now;
}

-- where the network has a syncReceiptTimeout time is known in any case, by a sum of rates held at its limits (profile)
pub record IsRefreshed (info : SyncInfo) (delay rate : ℤ) (now : ℕ) (s s' : SystemState) (sends : List Sending)
    (answer : Answer) : Type 0 where
  pub offset : Option ℤ
  pub offset_is : IsOffset (held_sum info rate) delay rate offset
  pub becomes : Becomes (refreshing info offset rate now s) s' sends
  pub answer_is : answer ≡ answers.Used

abbrev pub KnowsBy : Bool → SyncInfo → ℤ → ℤ → ℕ → SystemState → SystemState → List Sending → Answer → Type 0
KnowsBy true info delay rate now s s' sends answer = IsRefreshed info delay rate now s s' sends answer
KnowsBy false info delay rate now s s' sends answer =
    OffsetIsKnown info delay rate now s s' sends answer ⊎ IsForgotten info delay rate s s' sends answer

abbrev pub KnowsIf : Option SyncInfo → ℤ → ℤ → ℕ → SystemState → SystemState → List Sending → Answer → Type 0
KnowsIf None delay rate now s s' sends answer = IsIgnored s s' sends answer
KnowsIf (Some info) delay rate now s s' sends answer =
    KnowsBy (has_sync_timeout s.params) info delay rate now s s' sends answer

abbrev pub HearsFollowUpIf : Bool → ℕ → FollowUp → ℕ → SystemState → SystemState → List Sending → Answer → Type 0
HearsFollowUpIf false p m now s s' sends answer = IsOff s s' sends answer
HearsFollowUpIf true p m now s s' sends answer =
    KnowsIf (said_on p m s) (delay_at s p) (root_rate_at s p) now s s' sends answer

abbrev pub HearsFollowUp : ℕ → FollowUp → ℕ → SystemState → SystemState → List Sending → Answer → Type 0
HearsFollowUp p m now s s' sends answer = HearsFollowUpIf (is_capable_at s p) p m now s s' sends answer

-- ---- the Relay timer

abbrev pub timer_stopped : SystemState → SystemState
timer_stopped s = record s { relay = None }

-- the delay and the neighbour's rate of the Slave port as they are now
abbrev pub slave_delay : SystemState → ℤ
slave_delay s = option_map_or (delay_at s) s.slave (pos 0)

abbrev pub slave_rate : SystemState → ℤ
slave_rate s = option_map_or (root_rate_at s) s.slave (pos 0)

-- what the system holds of the Follow_Up that it used last, as long as it knows an offset, by the neighbour's rate
abbrev pub reading_by : SystemState → SyncInfo → ℤ → Reading
reading_by s known offset = reading_of known offset (slave_rate s)

abbrev pub held_reading : SystemState → Option Reading
held_reading s = option_and_then (λ known. option_map (λ offset. reading_by s known offset) s.offset) s.known

-- the hop of this bridge, by these
abbrev pub hop_of : SyncInfo → ℕ → SystemState → Hop
hop_of info now s = bridge info (slave_delay s) (slave_rate s) (stamp_time s now)

abbrev pub HopFits : SyncInfo → ℕ → SystemState → Type 0
HopFits info now s = BridgeFits (hop_of info now s) (carried_on (carried info) (hop_of info now s))

-- the time is sent on
pub record IsRelayed (info : SyncInfo) (now : ℕ) (s s' : SystemState) (sends : List Sending) : Type 0 where
  pub fits : HopFits info now s
  pub state : s' ≡ telling (timer_stopped s)
  pub sends_are : sends ≡ told_by (relayed info (hop_of info now s)) s

-- a number doesn't fit, and nothing is sent
pub record IsDropped (info : SyncInfo) (now : ℕ) (s s' : SystemState) (sends : List Sending) : Type 0 where
  pub unfit : HopFits info now s → ⊥
  pub becomes : Becomes (timer_stopped s) s' sends

-- what came, unchanged
abbrev pub as_received : SyncInfo → Relayed
as_received info = record { origin = info.origin; correction = info.correction; rate = info.rate }

-- what is told by a sum of rates held at its limits: what came, where a number doesn't fit all the same (profile)
abbrev pub IsToldAtLimits : SyncInfo → ℕ → SystemState → Relayed → Type 0
IsToldAtLimits info now s told =
    let held = held_sum info (slave_rate s) in
    (HopFits held now s × (told ≡ relayed held (hop_of held now s)))
    ⊎ ((HopFits held now s → ⊥) × (told ≡ as_received info))

-- where the network has a syncReceiptTimeout time is sent on in any case
pub record IsSentOn (info : SyncInfo) (now : ℕ) (s s' : SystemState) (sends : List Sending) : Type 0 where
  pub told : Relayed
  pub told_is : IsToldAtLimits info now s told
  pub state : s' ≡ telling (timer_stopped s)
  pub sends_are : sends ≡ told_by told s

abbrev pub RelaysBy : Bool → SyncInfo → ℕ → SystemState → SystemState → List Sending → Type 0
RelaysBy true info now s s' sends = IsSentOn info now s s' sends
RelaysBy false info now s s' sends = IsRelayed info now s s' sends ⊎ IsDropped info now s s' sends

abbrev pub RelaysIf : Option SyncInfo → ℕ → SystemState → SystemState → List Sending → Type 0
RelaysIf None now s s' sends = Becomes (timer_stopped s) s' sends
RelaysIf (Some info) now s s' sends = RelaysBy (has_sync_timeout s.params) info now s s' sends

abbrev pub RelayExpires : ℕ → SystemState → SystemState → List Sending → Type 0
RelayExpires now s s' sends = RelaysIf s.known now s s' sends
