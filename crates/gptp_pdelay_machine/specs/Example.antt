-- One exchange, step by step, and a run that makes it twice.
use Rattle.std.specs.Prelude.{◌≡◌, ℕ, ◌+◌, ◌*◌, ◌++◌, ◌<◌, ℤ, pos, negsuc, true, false, List, [], ◌∷◌, Option, Some}
use Rattle.std.specs.Prelude.{None}
use Rattle.gptp_graph.specs.Snapshot.{PortIdentity, port_of}
use Rattle.gptp_pdelay.specs.Clock.{local_clock}
use Rattle.gptp_pdelay.specs.GoodLink.{IsGoodLink}
use Rattle.gptp_pdelay_machine.specs.Lanes.{LaneFrame}
use Rattle.gptp_pdelay_machine.specs.Messages.{Request, Reply, Response, FollowUp}
use Rattle.gptp_pdelay_machine.specs.Setting.{Setting}
use Rattle.gptp_pdelay_machine.specs.Asker.{Asker, Asked, Answered, own_request, asker_after_interval, asks_now, asker_completed}
use Rattle.gptp_pdelay_machine.specs.Answerer.{Waiting, noted}
use Rattle.gptp_pdelay_machine.specs.Pair.{Pair, pair_at_time}
use Rattle.gptp_pdelay_machine.specs.Invariant.{IsJustChanged}
use Rattle.gptp_pdelay_machine.specs.ExchangeLaws.{ReadsClocks}
use Rattle.gptp_pdelay_machine.specs.Runs.{IsPortRun}

-- the announce interval and the interval between two requests: a second
abbrev pub second : ℕ
second = 1000000000

-- Port 1 of clock 1 asks port 1 of clock 2. A frame takes up to 500 ns, an answer waits for 1,000 ns, and nine requests
-- may be lost. The other system's clock is a microsecond ahead, and slow.
abbrev pub example_link : Setting
example_link = record {
  asking = port_of 1 1;
  answering = port_of 2 1;
  most = 500;
  turnaround = 1000;
  period = second;
  allowed = 9;
  window = 1;
  asking_clock = local_clock 0 (pos 0);
  answering_clock = local_clock 1000 (negsuc 99999999);
}

-- a spelling of the messages: the messageType, the port that sends it, what it repeats, and the stamp
abbrev pub port_octets : PortIdentity → List ℕ → List ℕ
port_octets p rest = p.clock ∷ p.port ∷ rest

abbrev pub request_octets : Request → List ℕ
request_octets r = 2 ∷ port_octets r.source (r.sequence ∷ [])

abbrev pub stamp_octets : ℤ → List ℕ
stamp_octets (pos n) = n ∷ []
stamp_octets (negsuc n) = 0 ∷ n ∷ []

abbrev pub reply_octets : Reply → List ℕ
reply_octets (Response source r t2) = 3 ∷ port_octets source (port_octets r.source (r.sequence ∷ stamp_octets t2))
reply_octets (FollowUp source r t3) = 10 ∷ port_octets source (port_octets r.source (r.sequence ∷ stamp_octets t3))

-- octets are the message that is spelled so
abbrev pub spells_request : List ℕ → Request → Type 0
spells_request octets r = octets ≡ request_octets r

abbrev pub replies : List ℕ → Reply → Type 0
replies octets r = octets ≡ reply_octets r

-- a state of the machine
abbrev pub example_port_state : ℕ → Asker → Option Waiting → List LaneFrame → List LaneFrame → Pair
example_port_state time asker waits out back = record
    { time = time; asker = asker; waits = waits; out = out; back = back }

-- where an exchange begins: the port as it was before, and the time and the sequence of the request that it sends
pub record Start : Type 0 where
  pub before : Asker
  pub sent : ℕ
  pub sequence : ℕ

-- Each of the three frames takes all of the 500 ns.
module _ (x : Start) where
  abbrev pub frame_came : ℕ
  frame_came = x.sent + example_link.most

  abbrev pub answered_port : ℕ
  answered_port = frame_came + example_link.turnaround

  abbrev pub home : ℕ
  home = answered_port + example_link.most

  abbrev pub request : Request
  request = own_request example_link x.sequence

  abbrev pub response : Reply
  response = Response example_link.answering request (example_link.answering_clock frame_came)

  abbrev pub follow_up : Reply
  follow_up = FollowUp example_link.answering request (example_link.answering_clock answered_port)

  abbrev pub request_frame : LaneFrame
  request_frame = record { due = frame_came; octets = request_octets request }

  abbrev pub response_frame : LaneFrame
  response_frame = record { due = home; octets = reply_octets response }

  abbrev pub follow_up_frame : LaneFrame
  follow_up_frame = record { due = home; octets = reply_octets follow_up }

  -- the port when it has sent the request, when it has the response, and when it has the follow-up
  abbrev pub asking_port : Asker
  asking_port = asks_now x.sent x.sequence (example_link.asking_clock x.sent)
      (asker_after_interval example_link.allowed x.before.progress x.before)

  abbrev pub recorded : Asker
  recorded = record asking_port {
    progress = Answered x.sequence example_link.answering (example_link.asking_clock x.sent)
        (example_link.answering_clock frame_came)
        (example_link.asking_clock home);
  }

  abbrev pub done : Asker
  done = asker_completed true recorded

  -- the states of the exchange: the one before it, in which nothing is pending
  abbrev pub timer_due : Pair
  timer_due = example_port_state x.sent x.before None [] []

  -- the request timer expires, and a moment comes
  abbrev pub request_sent : Pair
  request_sent = example_port_state x.sent asking_port None (request_frame ∷ []) []

  abbrev pub request_due : Pair
  request_due = pair_at_time request_sent frame_came

  -- the request arrives, and a moment comes
  abbrev pub request_heard : Pair
  request_heard = example_port_state frame_came asking_port (Some (noted example_link request frame_came)) [] []

  abbrev pub answer_due : Pair
  answer_due = pair_at_time request_heard answered_port

  -- the answer's timer expires, and a moment comes
  abbrev pub answer_sent : Pair
  answer_sent = example_port_state answered_port asking_port None [] (response_frame ∷ follow_up_frame ∷ [])

  abbrev pub replies_due : Pair
  replies_due = pair_at_time answer_sent home

  -- the response arrives, and the follow-up arrives
  abbrev pub response_heard : Pair
  response_heard = example_port_state home recorded None [] (follow_up_frame ∷ [])

  abbrev pub follow_up_heard : Pair
  follow_up_heard = example_port_state home done None [] []

  -- the moment of the next request comes
  abbrev pub next_due : Pair
  next_due = pair_at_time follow_up_heard (x.sent + example_link.period)

  -- the states in turn
  abbrev pub exchange : List Pair
  exchange = request_sent ∷ request_due ∷ request_heard ∷ answer_due ∷ answer_sent ∷ replies_due ∷ response_heard
      ∷ follow_up_heard ∷ next_due ∷ []

-- the exchange of the first second: the request before it was lost with the link, and is still open
abbrev pub first_exchange : Start
first_exchange = record {
  before = record { asked = 0; progress = Asked 0 (pos 0); measured = false; lost = 0; capable = false };
  sent = second;
  sequence = 1;
}

-- the exchange of the second after
abbrev pub next : Start
next = record { before = done first_exchange; sent = 2 * second; sequence = 2 }

-- The two exchanges are a run: the port isn't capable after the first, and is after the second. All that the laws
-- suppose of a port on a good link is so here, with the last change at 0 and a threshold of 800 ns.
pub record TwoExchangesMakeCapable : Type 0 where
  pub link_is_good : IsGoodLink example_link.most example_link.turnaround 800
  pub clocks : ReadsClocks 0 example_link
  pub timing : 2 * 800 + example_link.turnaround < example_link.period
  pub fresh : IsJustChanged example_link second (2 * second) (timer_due first_exchange)
  pub run : IsPortRun example_link spells_request replies second (timer_due first_exchange)
      (exchange first_exchange ++ exchange next)
  pub one : (done first_exchange).capable ≡ false
  pub two : (done next).capable ≡ true
