use Rattle.std.proofs.Common.{◌≡◌, ◌↔◌, ◌⊎◌, ℕ, ◌+◌, ◌*◌, ◌≤◌, pos, ◌<ℤ◌, Bool, true, false, ◌&&◌, if◌then◌else◌, Option, Some, None, is_some, List, [], ◌∷◌, rules, arith, inl, inr, ap, refl, sym, ◌∙◌}
use Rattle.std.specs.Option.{IsSomeAnd, IfSome, option_map, option_map_or}
use Rattle.gptp_vector.specs.declared.port.PortId.{PortId}
use Rattle.gptp_messages.specs.declared.peer_delay.PdelayRespFollowUp.{PdelayRespFollowUp}
use Rattle.gptp_pdelay.specs.declared.exchange.Measurement.{Measurement}
use Rattle.gptp_pdelay.specs.declared.exchange.Times.{Times}
use Rattle.gptp_pdelay.specs.declared.progress.Progress.{Progress}
use Rattle.gptp_pdelay.specs.declared.progress.Progress.TheVariants.{Closed, Sent, Answered}
use Rattle.gptp_pdelay.specs.Exchange.{IsWithinThreshold, shows_neighbor, measurement_of, carried_time, oldest}
use Rattle.gptp_pdelay.specs.Progress.{is_follow_up_to}
use Rattle.gptp_pdelay.specs.Peer.{PeerState, is_capable, is_open, loses_too_many, reset_peer, completed, answered_by, after_response, measured_by, new_peer}
use Rattle.gptp_pdelay.specs.Capability.{Event, Resets, Asks, IsAsked, Answers, HearsResponse, HearsFollowUp, IntervalEnds, after, after_all, exchanges_after, exchanges_after_all, MakesCapable, EndsCapable, CapabilityTurns, CapableByTwoExchanges, LostStaysAllowed}

-- an exchange shows the neighbour exactly where it isn't the first and its delay is at most the threshold
shows : (threshold : ℕ) (m : Measurement)
    → (shows_neighbor threshold m ≡ true) ↔ ((m.again ≡ true) × IsWithinThreshold threshold m.delay)
shows threshold m = (λ h. (search rules, search rules), λ h. search rules)

-- one that isn't the first shows none exactly where its delay is above the threshold
shows_none : (threshold : ℕ) (m : Measurement) → m.again ≡ true
    → (shows_neighbor threshold m ≡ false) ↔ (pos (65536 * threshold) <ℤ m.delay)
shows_none threshold m h = (λ e. search rules, λ e. search rules)

-- what isn't so can't be, and what is so can't fail
never : (b : Bool) → b ≡ false → (b ≡ true) ↔ ⊥
never b h = (λ e. search rules, λ e. absurd e)

always : (b : Bool) → b ≡ true → (b ≡ false) ↔ ⊥
always b h = (λ e. search rules, λ e. absurd e)

-- the state where the progress is another
abbrev progresses : Option Progress → PeerState → PeerState
progresses o p = option_map_or (λ progress. record p { progress = progress }) o p

-- how far a request has come doesn't matter
kept : (o : Option Progress) (p : PeerState) → is_capable (progresses o p) ≡ is_capable p
kept None p = refl
kept (Some progress) p = refl

-- the state after an exchange, if there is one
abbrev exchanges : Option Measurement → PeerState → PeerState
exchanges o p = option_map_or (λ m. completed m p) o p

-- the state at the end of an interval, by whether a request is open, and too many are lost
abbrev ends : Bool → Bool → PeerState → PeerState
ends open' many p =
    if open' then (if many then reset_peer p else record p { progress = Closed; lost = p.lost + 1 }) else p

-- what makes capable, by each event that may
exchange_becomes : (o : Option Measurement) (p : PeerState) → is_capable p ≡ false
    → (is_capable (exchanges o p) ≡ true)
    ↔ IsSomeAnd o (λ (m : Measurement). (m.again ≡ true) × IsWithinThreshold p.threshold m.delay)
exchange_becomes None p h = never (is_capable p) h
exchange_becomes (Some m) p h = shows p.threshold m

interval_becomes : (open' many : Bool) (p : PeerState) → is_capable p ≡ false
    → (is_capable (ends open' many p) ≡ true) ↔ ⊥
interval_becomes true true p h = never false refl
interval_becomes true false p h = never (is_capable p) h
interval_becomes false many p h = never (is_capable p) h

becomes : (e : Event) (p : PeerState) → is_capable p ≡ false → (is_capable (after e p) ≡ true) ↔ MakesCapable e p
becomes Resets p h = never false refl
becomes (Asks t1) p h = never (is_capable p) h
becomes (IsAsked answer) p h = never (is_capable p) h
becomes Answers p h = never (is_capable p) h
becomes (HearsResponse r t4) p h =
    never (is_capable (after_response r t4 p)) (kept (answered_by r t4 p.own p.progress) p ∙ h)
becomes (HearsFollowUp f) p h = exchange_becomes (measured_by f p.own p.last p.past p.progress) p h
becomes IntervalEnds p h = interval_becomes (is_open p.progress) (loses_too_many p) p h

-- what a follow-up measures isn't the first measurement exactly where there was one
when : (t : Bool) (m m' : Measurement) → (if t then Some m else None) ≡ Some m' → m.again ≡ m'.again
when true m m' e = ap (λ o. option_map_or (λ (x : Measurement). x.again) o true) e
when false m m' e = search rules

measured_again : (f : PdelayRespFollowUp) (own : PortId) (last : Option Measurement) (past : List Times)
    (progress : Progress) (m : Measurement) → measured_by f own last past progress ≡ Some m → m.again ≡ is_some last
measured_again f own last past Closed m e = search rules
measured_again f own last past (Sent request) m e = search rules
measured_again f own last past (Answered request response) m e =
    let measured =
    measurement_of (oldest past) (is_some last) request response (carried_time f.stamp f.head.correction) in
    sym (when (is_follow_up_to own request response f) measured m e)

-- a capable port has measured
has_measured : (last : Option Measurement) (threshold : ℕ)
    → option_map_or (shows_neighbor threshold) last false ≡ true → is_some last ≡ true
has_measured None threshold h = h
has_measured (Some m) threshold h = refl

-- what ends it, by each event that may
exchange_stops : (o : Option Measurement) (p : PeerState)
    → ((m : Measurement) → o ≡ Some m → m.again ≡ true) → is_capable p ≡ true
    → (is_capable (exchanges o p) ≡ false) ↔ IsSomeAnd o (λ (m : Measurement). pos (65536 * p.threshold) <ℤ m.delay)
exchange_stops None p again h = always (is_capable p) h
exchange_stops (Some m) p again h = shows_none p.threshold m (again m refl)

interval_stops : (open' many : Bool) (p : PeerState) → is_capable p ≡ true
    → (is_capable (ends open' many p) ≡ false) ↔ ((open' ≡ true) × (many ≡ true))
interval_stops true true p h = (λ e. (refl, refl), λ e. refl)
interval_stops true false p h = (λ e. search rules, λ e. search rules)
interval_stops false many p h = (λ e. search rules, λ e. search rules)

stops : (e : Event) (p : PeerState) → is_capable p ≡ true → (is_capable (after e p) ≡ false) ↔ EndsCapable e p
stops Resets p h = (λ e. tt, λ e. refl)
stops (Asks t1) p h = always (is_capable p) h
stops (IsAsked answer) p h = always (is_capable p) h
stops Answers p h = always (is_capable p) h
stops (HearsResponse r t4) p h =
    always (is_capable (after_response r t4 p)) (kept (answered_by r t4 p.own p.progress) p ∙ h)
stops (HearsFollowUp f) p h =
    exchange_stops (measured_by f p.own p.last p.past p.progress) p
    (λ m e. measured_again f p.own p.last p.past p.progress m e ∙ has_measured p.last p.threshold h) h
stops IntervalEnds p h = interval_stops (is_open p.progress) (loses_too_many p) p h

-- capability turns by these events alone
pub capability_turns : CapabilityTurns
capability_turns = record { becomes = becomes; stops = stops }

-- The last measurement tells how many there were: none, one, or more.
abbrev IsCount : Option Measurement → ℕ → Type 0
IsCount None n = n ≡ 0
IsCount (Some m) n = ((m.again ≡ true) × (2 ≤ n)) ⊎ ((m.again ≡ false) × (n ≡ 1))

-- the next measurement counts one more
counts_next : (last : Option Measurement) (m : Measurement) (n : ℕ) → m.again ≡ is_some last
    → IsCount last n → IsCount (Some m) (n + 1)
counts_next None m n e h = inr (e, omega (arith, h))
counts_next (Some before) m n e (inl h) = inl (e, omega (arith, h.1))
counts_next (Some before) m n e (inr h) = inl (e, omega (arith, h.1))

counts_exchange : (o : Option Measurement) (p : PeerState) (n : ℕ)
    → ((m : Measurement) → o ≡ Some m → m.again ≡ is_some p.last)
    → IsCount p.last n → IsCount (exchanges o p).last (option_map_or (λ _. n + 1) o n)
counts_exchange None p n again h = h
counts_exchange (Some m) p n again h = counts_next p.last m n (again m refl) h

counts_response : (o : Option Progress) (p : PeerState) (n : ℕ) → IsCount p.last n → IsCount (progresses o p).last n
counts_response None p n h = h
counts_response (Some progress) p n h = h

counts_interval : (open' many : Bool) (p : PeerState) (n : ℕ)
    → IsCount p.last n → IsCount (ends open' many p).last (if open' && many then 0 else n)
counts_interval true true p n h = refl
counts_interval true false p n h = h
counts_interval false many p n h = h

-- each event keeps the count
counts_on : (e : Event) (p : PeerState) (n : ℕ) → IsCount p.last n → IsCount (after e p).last (exchanges_after e p n)
counts_on Resets p n h = refl
counts_on (Asks t1) p n h = h
counts_on (IsAsked answer) p n h = h
counts_on Answers p n h = h
counts_on (HearsResponse r t4) p n h = counts_response (answered_by r t4 p.own p.progress) p n h
counts_on (HearsFollowUp f) p n h =
    counts_exchange (measured_by f p.own p.last p.past p.progress) p n
    (λ m e. measured_again f p.own p.last p.past p.progress m e) h
counts_on IntervalEnds p n h = counts_interval (is_open p.progress) (loses_too_many p) p n h

counts_all : (es : List Event) (p : PeerState) (n : ℕ)
    → IsCount p.last n → IsCount (after_all es p).last (exchanges_after_all es p n)
counts_all [] p n h = h
counts_all (e ∷ es) p n h = counts_all es (after e p) (exchanges_after e p n) (counts_on e p n h)

-- a count of two or more is one of a measurement that isn't the first
capable_by_count : (last : Option Measurement) (threshold n : ℕ) → IsCount last n
    → (option_map_or (shows_neighbor threshold) last false ≡ true)
    ↔ ((2 ≤ n) × IfSome (option_map (λ (m : Measurement). m.delay) last) (IsWithinThreshold threshold))
capable_by_count None threshold n h = (λ e. search rules, λ e. absurd (omega (arith, h, e.0)))
capable_by_count (Some m) threshold n (inl h) =
    (λ e. (h.1, ((shows threshold m).0 e).1), λ e. (shows threshold m).1 (h.0, e.1))
capable_by_count (Some m) threshold n (inr h) = (λ e. search rules, λ e. absurd (omega (arith, h.1, e.0)))

-- so the count since the reset and the last delay say whether the port is capable
pub capable_by_two_exchanges : CapableByTwoExchanges
capable_by_two_exchanges own threshold allowed window events =
    let start = new_peer own threshold allowed window in
    let p = after_all events start in
    let n = exchanges_after_all events start 0 in
    capable_by_count p.last p.threshold n (counts_all events start 0 refl)

-- a lost request is counted only where it is allowed
lost_exchange : (o : Option Measurement) (p : PeerState) → p.lost ≤ p.allowed
    → (exchanges o p).lost ≤ (exchanges o p).allowed
lost_exchange None p h = h
lost_exchange (Some m) p h = omega arith

lost_response : (o : Option Progress) (p : PeerState) → p.lost ≤ p.allowed
    → (progresses o p).lost ≤ (progresses o p).allowed
lost_response None p h = h
lost_response (Some progress) p h = h

lost_interval : (open' many : Bool) (p : PeerState) → loses_too_many p ≡ many → p.lost ≤ p.allowed
    → (ends open' many p).lost ≤ (ends open' many p).allowed
lost_interval true true p e h = omega arith
lost_interval true false p e h = search rules
lost_interval false many p e h = h

-- so they stay within what is allowed
pub lost_stays_allowed : LostStaysAllowed
lost_stays_allowed Resets p h = omega arith
lost_stays_allowed (Asks t1) p h = h
lost_stays_allowed (IsAsked answer) p h = h
lost_stays_allowed Answers p h = h
lost_stays_allowed (HearsResponse r t4) p h = lost_response (answered_by r t4 p.own p.progress) p h
lost_stays_allowed (HearsFollowUp f) p h = lost_exchange (measured_by f p.own p.last p.past p.progress) p h
lost_stays_allowed IntervalEnds p h = lost_interval (is_open p.progress) (loses_too_many p) p refl h
