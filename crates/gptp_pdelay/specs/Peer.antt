-- The state of a port that measures its link, and what each call does to it (profile, for IEEE 802.1AS-2020, 11.2.2,
-- 11.2.19 and 11.2.20).
use Rattle.std.specs.Prelude.{ℕ, ◌+◌, ◌%◌, ◌≤◌, ℤ, pos, Bool, true, false, not, if◌then◌else◌, nat_lt, Option, Some, None, is_some, option_map}
use Rattle.std.specs.Prelude.{List, [], ◌∷◌, length, take}
use Rattle.std.specs.List.{AllByRecursion}
use Rattle.std.specs.Option.{ForSome, option_map_or}
use Rattle.gptp_vector.specs.declared.port.PortId.{PortId}
use Rattle.gptp_messages.specs.declared.peer_delay.PdelayResp.{PdelayResp}
use Rattle.gptp_messages.specs.declared.peer_delay.PdelayRespFollowUp.{PdelayRespFollowUp}
use Rattle.gptp_pdelay.specs.declared.answer.Answer.{Answer}
use Rattle.gptp_pdelay.specs.declared.exchange.Measurement.{Measurement}
use Rattle.gptp_pdelay.specs.declared.exchange.Times.{Times}
use Rattle.gptp_pdelay.specs.declared.progress.Progress.{Progress}
use Rattle.gptp_pdelay.specs.declared.progress.Progress.TheVariants.{Closed, Sent, Answered}
use Rattle.gptp_pdelay.specs.declared.step.Step.{Step}
use Rattle.gptp_pdelay.specs.declared.step.Step.TheVariants.{Ignored, Recorded, Exchange}
use Rattle.gptp_pdelay.specs.Exchange.{AreTimes, IsMeasured, carried_time, measurement_of, oldest, shows_neighbor, times_of}
use Rattle.gptp_pdelay.specs.Progress.{HasTimes, is_response_to, response_of, is_follow_up_to}

-- The port, its threshold in ns, how many requests in a row may be lost, and over how many exchanges a rate is
-- measured; how far the last request has come; the last full exchange since the reset, if any; the full exchanges since
-- the reset, the newest first, at most as many as the window has; how many requests in a row were lost; the sequence
-- number of the next request; the answer that waits, if any.
pub record PeerState : Type 0 where
  pub own : PortId
  pub threshold : ℕ
  pub allowed : ℕ
  pub window : ℕ
  pub progress : Progress
  pub last : Option Measurement
  pub past : List Times
  pub lost : ℕ
  pub next : ℕ
  pub waiting : Option Answer

-- what is true of the state of every port
pub record IsPeerState (p : PeerState) : Type 0 where
  pub progress : HasTimes p.progress
  pub last : ForSome p.last IsMeasured
  pub past : AllByRecursion AreTimes p.past
  pub few : length p.past ≤ p.window
  pub lost : p.lost ≤ p.allowed

-- a port that has measured nothing
abbrev pub new_peer : PortId → ℕ → ℕ → ℕ → PeerState
new_peer own threshold allowed window = record {
  own = own;
  threshold = threshold;
  allowed = allowed;
  window = window;
  progress = Closed;
  last = None;
  past = [];
  lost = 0;
  next = 0;
  waiting = None;
}

-- The port forgets what it measured and its open request, and counts no lost request. Its sequence numbers go on,
-- and an answer waits on.
abbrev pub reset_peer : PeerState → PeerState
reset_peer p = record p { progress = Closed; last = None; past = []; lost = 0 }

-- a request is sent at t1, in place of one that is open
abbrev pub requested : ℤ → PeerState → PeerState
requested t1 p = record p { progress = Sent (record { sequence = p.next; t1 = t1 }); next = (p.next + 1) % 65536 }

-- an answer waits, in place of one that waited
abbrev pub answering : Answer → PeerState → PeerState
answering answer p = record p { waiting = Some answer }

-- no answer waits
abbrev pub answered : PeerState → PeerState
answered p = record p { waiting = None }

-- what becomes of a request by a response that was received at t4, where it waits for this one
abbrev pub answered_by : PdelayResp → ℤ → PortId → Progress → Option Progress
answered_by r t4 own (Sent request) =
    if is_response_to own request r then Some (Answered request (response_of r t4)) else None
answered_by r t4 own _ = None

-- a response is received at t4: the one that the open request waits for is recorded
abbrev pub after_response : PdelayResp → ℤ → PeerState → PeerState
after_response r t4 p =
    option_map_or (λ progress. record p { progress = progress }) (answered_by r t4 p.own p.progress) p

-- what the port makes of it
abbrev pub response_step : PdelayResp → ℤ → PeerState → Step
response_step r t4 p = option_map_or (λ _. Recorded) (answered_by r t4 p.own p.progress) Ignored

-- What is measured by a follow-up, where a request waits for this one. The last measurement came before it, and the
-- rate is that since the oldest exchange of the window.
abbrev pub measured_by : PdelayRespFollowUp → PortId → Option Measurement → List Times → Progress → Option Measurement
measured_by f own last past (Answered request response) =
    if is_follow_up_to own request response f
    then
    Some (measurement_of (oldest past) (is_some last) request response (carried_time f.stamp f.head.correction))
    else None
measured_by f own last past _ = None

-- a full exchange: it closes the request, and no request is lost then
abbrev pub completed : Measurement → PeerState → PeerState
completed m p =
    record p { progress = Closed; last = Some m; past = take p.window (times_of m ∷ p.past); lost = 0 }

-- a follow-up is received: the one that the recorded response waits for completes the exchange
abbrev pub after_follow_up : PdelayRespFollowUp → PeerState → PeerState
after_follow_up f p = option_map_or (λ m. completed m p) (measured_by f p.own p.last p.past p.progress) p

-- the port is capable (asCapable): its last full exchange since the reset shows the neighbour
abbrev pub is_capable : PeerState → Bool
is_capable p = option_map_or (shows_neighbor p.threshold) p.last false

-- of two states one is capable and the other isn't
abbrev pub changes_capability : PeerState → PeerState → Bool
changes_capability before after = if is_capable before then not (is_capable after) else is_capable after

-- what the port makes of a follow-up
abbrev pub follow_up_step : PdelayRespFollowUp → PeerState → Step
follow_up_step f p =
    option_map_or (λ m. Exchange (changes_capability p (completed m p))) (measured_by f p.own p.last p.past p.progress)
    Ignored

-- a request is open
abbrev pub is_open : Progress → Bool
is_open Closed = false
is_open _ = true

-- one more request in a row is lost than is allowed
abbrev pub loses_too_many : PeerState → Bool
loses_too_many p = nat_lt p.allowed (p.lost + 1)

-- the open request is given up: it counts as lost, and where that is one too many the port is reset
abbrev pub given_up : PeerState → PeerState
given_up p = if loses_too_many p then reset_peer p else record p { progress = Closed; lost = p.lost + 1 }

-- an interval ends: a request that is still open is given up
abbrev pub after_interval : PeerState → PeerState
after_interval p = if is_open p.progress then given_up p else p

-- the delay of the last full exchange since the reset, if there is one
abbrev pub delay_of : PeerState → Option ℤ
delay_of p = option_map (λ (m : Measurement). m.delay) p.last

-- its neighbour rate, and 0 where there is none
abbrev pub rate_of_peer : PeerState → ℤ
rate_of_peer p = option_map_or (λ (m : Measurement). m.rate) p.last (pos 0)
