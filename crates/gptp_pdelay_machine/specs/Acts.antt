-- The acts that two ports and their lanes see, on a link that loses nothing. How long a frame takes isn't said here:
-- the due times of frames are facts of the state before and after.
--
-- Each act of a world but a change is one of these, or time that passes. A change begins the laws anew.
use Rattle.std.specs.Prelude.{◌≡◌, ◌++◌, ℕ, ◌+◌, List, ◌∷◌, Some, None}
use Rattle.gptp_pdelay_machine.specs.Lanes.{LaneFrame, AreMute, FirstIs}
use Rattle.gptp_pdelay_machine.specs.Messages.{Request, Reply, Response, FollowUp}
use Rattle.gptp_pdelay_machine.specs.Setting.{Setting}
use Rattle.gptp_pdelay_machine.specs.Asker.{own_request, asker_after_interval, asks_now, TakesReply}
use Rattle.gptp_pdelay_machine.specs.Answerer.{Waiting, Notes}
use Rattle.gptp_pdelay_machine.specs.Pair.{Pair}

-- of the frames one is this request, and no other is a request
abbrev pub SendsRequest : (List ℕ → Request → Type 0) → Request → List LaneFrame → Type 0
SendsRequest asks request news =
    FirstIs asks (λ (f : LaneFrame). asks f.octets request) (AreMute asks) news

-- of the frames one is this reply, Q holds of those after it, and those before it are no replies
abbrev pub SendsReply : (List ℕ → Reply → Type 0) → Reply → (List LaneFrame → Type 0) → List LaneFrame → Type 0
SendsReply replies reply Q news = FirstIs replies (λ (f : LaneFrame). replies f.octets reply) Q news

-- of the frames two are replies: the response to the request that waited, with its t2, and after it the follow-up,
-- which has the time stamp of the answer as t3
abbrev pub SendsAnswer : Setting → (List ℕ → Reply → Type 0) → Waiting → ℕ → List LaneFrame → Type 0
SendsAnswer k replies waiting time news = SendsReply replies (Response k.answering waiting.request waiting.t2)
    (SendsReply replies (FollowUp k.answering waiting.request (k.answering_clock time)) (AreMute replies)) news

module _ (k : Setting) (asks : List ℕ → Request → Type 0) (replies : List ℕ → Reply → Type 0) (p p' : Pair) where
  -- The request timer expires, one period after the last request: an open request is given up, and the next one is
  -- sent. This is the Pdelay timer of the port that asks, which sends one Pdelay_Req (own_timers_act of
  -- gptp_invariants). It sends one otherwise only where its link comes up, which is a change.
  pub record RequestTimerExpires : Type 0 where
    pub time : p'.time ≡ p.time
    pub waits : p'.waits ≡ p.waits
    pub back : p'.back ≡ p.back
    pub now : p.asker.asked + k.period ≡ p.time
    pub sequence : ℕ
    pub asker : p'.asker
        ≡ asks_now p.time sequence (k.asking_clock p.time) (asker_after_interval k.allowed p.asker.progress p.asker)
    pub news : List LaneFrame
    pub out : p'.out ≡ p.out ++ news
    pub sent : SendsRequest asks (own_request k sequence) news

  -- The oldest frame arrives at the port that asks, which sends no request now. Shown of worlds by
  -- own_deliveries_are_heard.
  pub record AskerHears : Type 0 where
    pub time : p'.time ≡ p.time
    pub waits : p'.waits ≡ p.waits
    pub front : LaneFrame
    pub rest : List LaneFrame
    pub was : p.back ≡ front ∷ rest
    pub now : front.due ≡ p.time
    pub back : p'.back ≡ rest
    pub asker : TakesReply k replies p.time front.octets p.asker p'.asker
    pub news : List LaneFrame
    pub out : p'.out ≡ p.out ++ news
    pub mute : AreMute asks news

  -- The oldest frame arrives at the port that answers, which answers nothing now: that is left to its Respond timer.
  -- Shown of worlds by own_deliveries_are_heard.
  pub record AnswererHears : Type 0 where
    pub time : p'.time ≡ p.time
    pub asker : p'.asker ≡ p.asker
    pub front : LaneFrame
    pub rest : List LaneFrame
    pub was : p.out ≡ front ∷ rest
    pub now : front.due ≡ p.time
    pub out : p'.out ≡ rest
    pub waits : Notes k asks p.time front.octets p.waits p'.waits
    pub news : List LaneFrame
    pub back : p'.back ≡ p.back ++ news
    pub mute : AreMute replies news

  -- The answer's timer expires: the answer is sent, and nothing waits. This is the Respond timer of the port that
  -- answers, which sends both replies once and in turn. What is encoded reads back, a time below 2^48 seconds too.
  -- Shown of worlds by own_timers_act.
  pub record AnswerTimerExpires : Type 0 where
    pub time : p'.time ≡ p.time
    pub asker : p'.asker ≡ p.asker
    pub out : p'.out ≡ p.out
    pub waiting : Waiting
    pub was : p.waits ≡ Some waiting
    pub now : waiting.due ≡ p.time
    pub waits : p'.waits ≡ None
    pub news : List LaneFrame
    pub back : p'.back ≡ p.back ++ news
    pub sent : SendsAnswer k replies waiting p.time news

  -- Either port may send, as when the other end asks on its own account: no request of the one, no reply of the other,
  -- since each port sends these only by the two timers above. This is any other act of a world.
  pub record OthersSend : Type 0 where
    pub time : p'.time ≡ p.time
    pub asker : p'.asker ≡ p.asker
    pub waits : p'.waits ≡ p.waits
    pub ahead : List LaneFrame
    pub behind : List LaneFrame
    pub out : p'.out ≡ p.out ++ ahead
    pub back : p'.back ≡ p.back ++ behind
    pub asks_nothing : AreMute asks ahead
    pub replies_nothing : AreMute replies behind

  -- One act. It happens when its timer or its frame is due, and changes the state of one system. What that system sends
  -- is appended to its lanes, each once and in order. A delivery takes away the oldest frame of one lane. Shown of
  -- worlds by expiries_are_acts and deliveries_are_acts.
  pub data PortActs : Type 0 where
    asks_again : RequestTimerExpires → PortActs
    asker_hears : AskerHears → PortActs
    answerer_hears : AnswererHears → PortActs
    answers : AnswerTimerExpires → PortActs
    others_send : OthersSend → PortActs
