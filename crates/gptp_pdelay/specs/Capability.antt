-- When a port is capable (asCapable, IEEE 802.1AS-2020, 11.2.2; how exchanges and lost requests count is this
-- project's profile).
use Rattle.std.specs.Prelude.{◌≡◌, ◌↔◌, ℕ, ◌+◌, ◌*◌, ◌≤◌, ℤ, pos, ◌<ℤ◌, true, false, ⊤, ◌&&◌, if◌then◌else◌, List, [], ◌∷◌, IfSome, IsSomeAnd}
use Rattle.std.specs.Option.{option_map_or}
use Rattle.gptp_vector.specs.declared.port.PortId.{PortId}
use Rattle.gptp_messages.specs.declared.peer_delay.PdelayResp.{PdelayResp}
use Rattle.gptp_messages.specs.declared.peer_delay.PdelayRespFollowUp.{PdelayRespFollowUp}
use Rattle.gptp_pdelay.specs.declared.answer.Answer.{Answer}
use Rattle.gptp_pdelay.specs.declared.exchange.Measurement.{Measurement}
use Rattle.gptp_pdelay.specs.Exchange.{IsWithinThreshold}
use Rattle.gptp_pdelay.specs.Peer.{PeerState, new_peer, reset_peer, requested, answering, answered, after_interval, after_response, after_follow_up, delay_of, is_capable, is_open, loses_too_many, measured_by}

-- what comes to a port: each is a call of `Peer`
pub data Event : Type 0 where
  Resets : Event
  Asks : (t1 : ℤ) → Event
  IsAsked : (answer : Answer) → Event
  Answers : Event
  HearsResponse : (response : PdelayResp) → (t4 : ℤ) → Event
  HearsFollowUp : (follow_up : PdelayRespFollowUp) → Event
  IntervalEnds : Event

-- the state after an event
abbrev pub after : Event → PeerState → PeerState
after Resets p = reset_peer p
after (Asks t1) p = requested t1 p
after (IsAsked answer) p = answering answer p
after Answers p = answered p
after (HearsResponse r t4) p = after_response r t4 p
after (HearsFollowUp f) p = after_follow_up f p
after IntervalEnds p = after_interval p

-- the state after these events, one after the other
abbrev pub after_all : List Event → PeerState → PeerState
after_all [] p = p
after_all (e ∷ es) p = after_all es (after e p)

-- how many full exchanges have come since the reset, after an event, where n had come before it
abbrev pub exchanges_after : Event → PeerState → ℕ → ℕ
exchanges_after Resets p n = 0
exchanges_after (HearsFollowUp f) p n = option_map_or (λ _. n + 1) (measured_by f p.own p.last p.past p.progress) n
exchanges_after IntervalEnds p n = if is_open p.progress && loses_too_many p then 0 else n
exchanges_after _ p n = n

-- how many full exchanges have come since the reset, after these events, where n had come before them
abbrev pub exchanges_after_all : List Event → PeerState → ℕ → ℕ
exchanges_after_all [] p n = n
exchanges_after_all (e ∷ es) p n = exchanges_after_all es (after e p) (exchanges_after e p n)

-- the port is capable exactly where n is two or more and its last delay is at most the threshold
abbrev pub IsCapableBy : ℕ → PeerState → Type 0
IsCapableBy n p = (is_capable p ≡ true) ↔ ((2 ≤ n) × IfSome (delay_of p) (IsWithinThreshold p.threshold))

-- Whatever comes to a new port, it is capable exactly where at least two full exchanges have come since its reset,
-- and the last of them gave a delay of at most the threshold.
abbrev pub CapableByTwoExchanges : Type 0
CapableByTwoExchanges = (own : PortId) (threshold allowed window : ℕ) (events : List Event)
    → IsCapableBy (exchanges_after_all events (new_peer own threshold allowed window) 0)
    (after_all events (new_peer own threshold allowed window))

-- what makes a port capable: a full exchange that isn't the first since the reset, and whose delay is at most the
-- threshold
abbrev pub MakesCapable : Event → PeerState → Type 0
MakesCapable (HearsFollowUp f) p =
    IsSomeAnd (measured_by f p.own p.last p.past p.progress)
    (λ (m : Measurement). (m.again ≡ true) × IsWithinThreshold p.threshold m.delay)
MakesCapable _ p = ⊥

-- What ends it: a reset, a full exchange whose delay is above the threshold, or an open request at the end of its
-- interval that is one too many lost in a row.
abbrev pub EndsCapable : Event → PeerState → Type 0
EndsCapable Resets p = ⊤
EndsCapable (HearsFollowUp f) p =
    IsSomeAnd (measured_by f p.own p.last p.past p.progress) (λ (m : Measurement). pos (65536 * p.threshold) <ℤ m.delay)
EndsCapable IntervalEnds p = (is_open p.progress ≡ true) × (loses_too_many p ≡ true)
EndsCapable _ p = ⊥

-- a port becomes capable, and stops being so, by these alone
pub record CapabilityTurns : Type 0 where
  pub becomes : (e : Event) (p : PeerState) → is_capable p ≡ false → (is_capable (after e p) ≡ true) ↔ MakesCapable e p
  pub stops : (e : Event) (p : PeerState) → is_capable p ≡ true → (is_capable (after e p) ≡ false) ↔ EndsCapable e p

-- The requests that count as lost in a row never are more than are allowed.
abbrev pub LostStaysAllowed : Type 0
LostStaysAllowed = (e : Event) (p : PeerState) → p.lost ≤ p.allowed → (after e p).lost ≤ (after e p).allowed
