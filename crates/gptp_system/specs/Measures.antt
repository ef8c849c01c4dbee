-- What a step makes of the measuring of one port: a function of that port's part alone (IEEE 802.1AS-2020, 11.2.19 and
-- 11.2.20).
use Rattle.std.specs.Prelude.{◌≡◌, ◌⊎◌, ◌+◌, ◌==◌, ℕ, suc, if◌then◌else◌, List, Option, Some, None, slice_get}
use Rattle.gptp_messages.specs.declared.head.Head.{Head}
use Rattle.gptp_messages.specs.declared.message.Message.{Message}
use Rattle.gptp_messages.specs.declared.message.Message.TheVariants as messages
use Rattle.gptp_messages.specs.Grammar.{Reads}
use Rattle.gptp_pdelay.specs.Peer.{PeerState, after_follow_up, after_interval, after_response, answered, answering}
use Rattle.gptp_pdelay.specs.Peer.{requested, reset_peer}
use Rattle.gptp_system.specs.declared.port.Port.{Port}
use Rattle.gptp_setup.specs.declared.timer.Timer.TheVariants as timers
use Rattle.gptp_setup.specs.Intervals.{interval_of}
use Rattle.gptp_system.specs.State.{SystemState, stamp_time}
use Rattle.gptp_system.specs.Input.{Input, PortUp, PortDown, Frame, Expires, Priority}

-- what a port measures its link with, and when it asks and answers next
pub record Part : Type 0 where
  pub peer : PeerState
  pub pdelay : Option ℕ
  pub respond : Option ℕ

abbrev pub measure_at : Port → Part
measure_at q = record { peer = q.peer; pdelay = q.pdelay; respond = q.respond }

-- the measuring takes a step
abbrev pub part_stepped : (PeerState → PeerState) → Part → Part
part_stepped step x = record x { peer = step x.peer }

-- it takes a step, and then the port asks, and again one interval later
abbrev pub part_asked : SystemState → ℕ → (PeerState → PeerState) → Part → Part
part_asked s now step x =
    record x { peer = requested (stamp_time s now) (step x.peer); pdelay = Some (now + interval_of s.params.pdelay) }

-- the link is down
abbrev pub part_down : Part → Part
part_down x = record { peer = reset_peer x.peer; pdelay = None; respond = None }

-- the port answered
abbrev pub part_answered : Part → Part
part_answered x = record x { peer = answered x.peer; respond = None }

-- a request is to be answered one turnaround later
abbrev pub part_owing : SystemState → ℕ → Head → Part → Part
part_owing s now head x = record x {
  peer = answering (record { requester = head.source; sequence = head.sequence; t2 = stamp_time s now }) x.peer;
  respond = Some (now + s.params.turnaround);
}

-- a message is heard
abbrev pub part_heard : SystemState → ℕ → Message → Part → Part
part_heard s now (messages.PdelayReq head) x = part_owing s now head x
part_heard s now (messages.PdelayResp m) x = part_stepped (after_response m (stamp_time s now)) x
part_heard s now (messages.PdelayRespFollowUp m) x = part_stepped (after_follow_up m) x
part_heard s now _ x = x

-- what happens to port p happens to no other port n
abbrev pub only_at : ℕ → (Part → Part) → ℕ → Part → Part
only_at p f n x = if n == p then f x else x

-- the frame reads as a message, which the port hears, or it doesn't
abbrev pub HearsPart : SystemState → ℕ → ℕ → List ℕ → ℕ → Part → Part → Type 0
HearsPart s now p octets n x x' =
    ((m : Message) × Reads octets m × (x' ≡ only_at p (part_heard s now m) n x))
    ⊎ (((m : Message) → Reads octets m → ⊥) × (x' ≡ x))

-- what an input makes of the part of port n
abbrev pub IsPartAfter : SystemState → ℕ → Input → ℕ → Part → Part → Type 0
IsPartAfter s now (PortUp p) n x x' = x' ≡ only_at p (part_asked s now reset_peer) n x
IsPartAfter s now (PortDown p) n x x' = x' ≡ only_at p part_down n x
IsPartAfter s now (Frame p octets) n x x' = HearsPart s now p octets n x x'
IsPartAfter s now (Expires (timers.Pdelay p)) n x x' = x' ≡ only_at p (part_asked s now after_interval) n x
IsPartAfter s now (Expires (timers.Respond p)) n x x' = x' ≡ only_at p part_answered n x
IsPartAfter s now (Expires (timers.Announce p)) n x x' = x' ≡ x
IsPartAfter s now (Expires (timers.Age p)) n x x' = x' ≡ x
IsPartAfter s now (Expires timers.Sync) n x x' = x' ≡ x
IsPartAfter s now (Expires timers.Relay) n x x' = x' ≡ x
IsPartAfter s now (Expires timers.Lapse) n x x' = x' ≡ x
IsPartAfter s now (Priority value) n x x' = x' ≡ x

-- the part of the port at every place is what the input makes of it, from the new state back to the old one
abbrev pub MeasuresAtEachPlace : SystemState → ℕ → Input → SystemState → Type 0
MeasuresAtEachPlace s now input s' = (i : ℕ) (q' : Port) → slice_get s'.ports i ≡ Some q'
    → (q : Port) × (slice_get s.ports i ≡ Some q) × IsPartAfter s now input (suc i) (measure_at q) (measure_at q')
