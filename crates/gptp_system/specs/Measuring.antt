-- The measuring of links: what it makes of a system (IEEE 802.1AS-2020, 11.2.19 and 11.2.20).
use Rattle.std.specs.Prelude.{◌≡◌, ℕ, ◌+◌, ℤ, Bool, true, false, List, [], ◌∷◌, Option, Some, None}
use Rattle.std.specs.Option.{option_map_or}
use Rattle.gptp_messages.specs.declared.head.Head.{Head}
use Rattle.gptp_messages.specs.declared.peer_delay.PdelayResp.{PdelayResp}
use Rattle.gptp_messages.specs.declared.peer_delay.PdelayRespFollowUp.{PdelayRespFollowUp}
use Rattle.gptp_receipt.specs.declared.held.Held.{Held}
use Rattle.gptp_receipt.specs.declared.held.Held.TheVariants as helds
use Rattle.gptp_scaled.specs.Stamp.{Timestamp, IsSplit}
use Rattle.gptp_pdelay.specs.declared.answer.Answer.{Answer as Owed}
use Rattle.gptp_pdelay.specs.declared.step.Step.{Step}
use Rattle.gptp_pdelay.specs.declared.step.Step.TheVariants as steps
use Rattle.gptp_pdelay.specs.Peer.{PeerState, is_capable, changes_capability, reset_peer, requested, answering}
use Rattle.gptp_pdelay.specs.Peer.{answered, after_interval, after_response, response_step, after_follow_up}
use Rattle.gptp_pdelay.specs.Peer.{follow_up_step}
use Rattle.gptp_system.specs.declared.answer.Answer.{Answer}
use Rattle.gptp_system.specs.declared.answer.Answer.TheVariants as answers
use Rattle.gptp_system.specs.declared.port.Port.{Port}
use Rattle.gptp_system.specs.declared.sending.Sending.{Sending}
use Rattle.gptp_setup.specs.Intervals.{interval_of}
use Rattle.gptp_system.specs.State.{SystemState, number, is_capable_at, own, on_port, on_held, stamp_time, with_peer}
use Rattle.gptp_system.specs.Sends.{pdelay_request, pdelay_response, response_follow_up, with_send}
use Rattle.gptp_system.specs.Selection.{Selects, Becomes}

-- a port that becomes asCapable has heard nothing; one that stops being so takes no part
abbrev pub held_if : Bool → Held
held_if true = helds.Aged
held_if false = helds.Disabled

-- a step of the measuring at a port that has this peer makes the port asCapable, or ends it
abbrev pub is_turned : (PeerState → PeerState) → Option Port → Bool
is_turned step q = option_map_or (λ (q : Port). changes_capability q.peer (step q.peer)) q false

-- what the port holds then
abbrev pub held_turned : (PeerState → PeerState) → Option Port → Held → Held
held_turned step q h = option_map_or (λ (q : Port). held_if (is_capable (step q.peer))) q h

abbrev pub turned : ℕ → (PeerState → PeerState) → SystemState → SystemState
turned p step s = on_held p (held_turned step (number s.ports p)) (with_peer p step s)

-- The measuring of a port takes a step. Where the port becomes asCapable or stops being so, what it holds follows, and
-- selection.
abbrev pub TurnsIf : Bool → ℕ → (PeerState → PeerState) → ℕ → SystemState → SystemState → List Sending → Type 0
TurnsIf true p step now s s' sends = Selects now (turned p step s) s' sends
TurnsIf false p step now s s' sends = Becomes (with_peer p step s) s' sends

abbrev pub Turns : ℕ → (PeerState → PeerState) → ℕ → SystemState → SystemState → List Sending → Type 0
Turns p step now s s' sends = TurnsIf (is_turned step (number s.ports p)) p step now s s' sends

-- what the port holds follows from whether it is asCapable
abbrev pub settled : ℕ → SystemState → SystemState
settled p s = on_held p (λ h. held_if (is_capable_at s p)) s

-- where a port became asCapable or stopped being so, what it holds follows from that, and selection follows
abbrev pub SettlesIf : Bool → ℕ → ℕ → SystemState → SystemState → List Sending → Type 0
SettlesIf true p now s s' sends = Selects now (settled p s) s' sends
SettlesIf false p now s s' sends = Becomes s s' sends

-- the port asks its neighbour, and again one interval later
abbrev pub asking : ℤ → ℕ → Port → Port
asking t1 due q = record q { peer = requested t1 q.peer; pdelay = Some due }

abbrev pub port_asks : ℕ → ℕ → SystemState → SystemState
port_asks p now s = on_port p (asking (stamp_time s now) (now + interval_of s.params.pdelay)) s

-- the request has the next sequence number of the port
abbrev pub request_of : ℕ → SystemState → Sending
request_of p s =
    pdelay_request (own s p) s.params.pdelay (option_map_or (λ (q : Port). q.peer.next) (number s.ports p) 0)

-- The measuring takes a step, and then the port asks: its request goes after what the step sends on this port and the
-- lower ones.
pub record TurnsAndAsks (p : ℕ) (step : PeerState → PeerState) (now : ℕ) (s s' : SystemState)
    (sends : List Sending) : Type 0 where
  pub between : SystemState
  pub first : List Sending
  pub turns : Turns p step now s between first
  pub state : s' ≡ port_asks p now between
  pub sends_are : sends ≡ with_send (request_of p between) first

-- ---- the link of a port comes up or goes down

-- the port begins anew, and asks
abbrev pub ComesUp : ℕ → ℕ → SystemState → SystemState → List Sending → Type 0
ComesUp p now s s' sends = TurnsAndAsks p reset_peer now s s' sends

-- the port's measuring is forgotten, its timers stop, and it takes no part
abbrev pub silenced : Port → Port
silenced q = record q { peer = reset_peer q.peer; pdelay = None; respond = None }

abbrev pub down : ℕ → SystemState → SystemState
down p s = on_held p (λ h. helds.Disabled) (on_port p silenced s)

abbrev pub GoesDown : ℕ → ℕ → SystemState → SystemState → List Sending → Type 0
GoesDown p now s s' sends = Selects now (down p s) s' sends

-- ---- timers

-- an interval of requests ends: an open request is lost, and the next one goes
abbrev pub PdelayExpires : ℕ → ℕ → SystemState → SystemState → List Sending → Type 0
PdelayExpires p now s s' sends = TurnsAndAsks p after_interval now s s' sends

-- the port answers what it owes
abbrev pub answering_done : Port → Port
answering_done q = record q { peer = answered q.peer; respond = None }

abbrev pub responded : ℕ → SystemState → SystemState
responded p s = on_port p answering_done s

-- the two responses: the time stamps of the request as it came, and of now
pub record Responds (p now : ℕ) (s : SystemState) (owed : Owed) (sends : List Sending) : Type 0 where
  pub came : Timestamp
  pub came-rest : ℕ
  pub went : Timestamp
  pub went-rest : ℕ
  pub came_is : IsSplit owed.t2 came came-rest
  pub went_is : IsSplit (stamp_time s now) went went-rest
  pub sends_are : sends ≡ pdelay_response (own s p) owed came came-rest ∷ response_follow_up
      (own s p) owed went went-rest ∷ []

abbrev pub RespondsIf : Option Owed → ℕ → ℕ → SystemState → List Sending → Type 0
RespondsIf None p now s sends = sends ≡ []
RespondsIf (Some owed) p now s sends = Responds p now s owed sends

-- what a port owes
abbrev pub owed_at : SystemState → ℕ → Option Owed
owed_at s p = option_map_or (λ (q : Port). q.peer.waiting) (number s.ports p) None

pub record RespondExpires (p now : ℕ) (s s' : SystemState) (sends : List Sending) : Type 0 where
  pub state : s' ≡ responded p s
  pub responds : RespondsIf (owed_at s p) p now s sends

-- ---- messages

-- a request is answered one turnaround later, in place of an older one
abbrev pub owing : Owed → ℕ → Port → Port
owing owed due q = record q { peer = answering owed q.peer; respond = Some due }

abbrev pub owes : ℕ → Head → ℕ → SystemState → SystemState
owes p head now s =
    let owed : Owed = record { requester = head.source; sequence = head.sequence; t2 = stamp_time s now } in
    on_port p (owing owed (now + s.params.turnaround)) s

pub record HearsRequest (p : ℕ) (head : Head) (now : ℕ) (s s' : SystemState) (sends : List Sending)
    (answer : Answer) : Type 0 where
  pub becomes : Becomes (owes p head now s) s' sends
  pub answer_is : answer ≡ answers.Used

-- what the measuring makes of a message
abbrev pub measuring_answer : Step → Answer
measuring_answer steps.Ignored = answers.Ignored
measuring_answer _ = answers.Used

abbrev pub step_at : (PeerState → Step) → Option Port → Step
step_at f q = option_map_or (λ (q : Port). f q.peer) q steps.Ignored

pub record HearsResponse (p : ℕ) (m : PdelayResp) (now : ℕ) (s s' : SystemState) (sends : List Sending)
    (answer : Answer) : Type 0 where
  pub becomes : Becomes (with_peer p (after_response m (stamp_time s now)) s) s' sends
  pub answer_is : answer ≡ measuring_answer (step_at (response_step m (stamp_time s now)) (number s.ports p))

pub record HearsResponseFollowUp (p : ℕ) (m : PdelayRespFollowUp) (now : ℕ) (s s' : SystemState)
    (sends : List Sending) (answer : Answer) : Type 0 where
  pub turns : Turns p (after_follow_up m) now s s' sends
  pub answer_is : answer ≡ measuring_answer (step_at (follow_up_step m) (number s.ports p))
