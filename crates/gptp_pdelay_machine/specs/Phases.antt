-- The phases of an exchange that began with nothing old in flight, where each frame takes `least` ns or more, and at
-- most the greatest delay.
use Rattle.std.specs.Prelude.{◌≡◌, ◌≤◌, ℕ, ◌+◌, List, Option, Some, None}
use Rattle.gptp_pdelay_machine.specs.Lanes.{LaneFrame, AreMute, FirstIs}
use Rattle.gptp_pdelay_machine.specs.Messages.{Request, Reply, Response, FollowUp}
use Rattle.gptp_pdelay_machine.specs.Setting.{Setting, IsBetween}
use Rattle.gptp_pdelay_machine.specs.Asker.{Asker, Closed, Asked, Answered, own_request}
use Rattle.gptp_pdelay_machine.specs.Answerer.{Waiting, noted}

module _ (k : Setting) (least : ℕ) (asks : List ℕ → Request → Type 0) (replies : List ℕ → Reply → Type 0)
    (sequence : ℕ) where
  -- the frame is the request that was sent then, due between the least and the greatest delay
  abbrev pub IsLastRequest : ℕ → LaneFrame → Type 0
  IsLastRequest asked f = asks f.octets (own_request k sequence) × IsBetween asked f.due least k.most

  -- the frame is the response to that request, which came then, due between the least and the greatest delay
  abbrev pub IsItsResponse : ℕ → LaneFrame → Type 0
  IsItsResponse came f = replies f.octets (Response k.answering (own_request k sequence) (k.answering_clock came))
      × IsBetween (came + k.turnaround) f.due least k.most

  -- the frame is the follow-up of that response, due within the greatest delay
  abbrev pub IsItsFollowUp : ℕ → LaneFrame → Type 0
  IsItsFollowUp came f =
      replies f.octets (FollowUp k.answering (own_request k sequence) (k.answering_clock (came + k.turnaround)))
      × (f.due ≤ came + k.turnaround + k.most)

  -- the request is the only one in flight
  abbrev pub RequestInFlight : ℕ → List LaneFrame → Type 0
  RequestInFlight asked out = FirstIs asks (IsLastRequest asked) (AreMute asks) out

  -- the follow-up is the only reply in flight
  abbrev pub FollowUpInFlight : ℕ → List LaneFrame → Type 0
  FollowUpInFlight came back = FirstIs replies (IsItsFollowUp came) (AreMute replies) back

  -- response and follow-up are the only replies in flight, in this order
  abbrev pub ResponseInFlight : ℕ → List LaneFrame → Type 0
  ResponseInFlight came back = FirstIs replies (IsItsResponse came) (FollowUpInFlight came) back

module _ (k : Setting) (least : ℕ) (asks : List ℕ → Request → Type 0) (replies : List ℕ → Reply → Type 0)
    (a : Asker) where
  -- Where the exchange of the last request stands. It rests; its request is in flight; the request came at one time and
  -- waits; response and follow-up are in flight; the response is back, and the follow-up is in flight. Nothing else of
  -- any exchange is pending.
  pub data Phase (waits : Option Waiting) (out back : List LaneFrame) : Type 0 where
    Rests : a.progress ≡ Closed → AreMute asks out → waits ≡ None → AreMute replies back
        → Phase waits out back
    RequestGoes : (sequence : ℕ) → a.progress ≡ Asked sequence (k.asking_clock a.asked)
        → RequestInFlight k least asks replies sequence a.asked out → waits ≡ None → AreMute replies back
        → Phase waits out back
    AnswerWaits : (sequence came : ℕ) → IsBetween a.asked came least k.most
        → a.progress ≡ Asked sequence (k.asking_clock a.asked) → AreMute asks out
        → waits ≡ Some (noted k (own_request k sequence) came) → AreMute replies back → Phase waits out back
    ResponseComes : (sequence came : ℕ) → IsBetween a.asked came least k.most
        → a.progress ≡ Asked sequence (k.asking_clock a.asked) → AreMute asks out → waits ≡ None
        → ResponseInFlight k least asks replies sequence came back → Phase waits out back
    FollowUpComes : (sequence came heard : ℕ) → IsBetween a.asked came least k.most
        → IsBetween (came + k.turnaround) heard least k.most
        → a.progress ≡ Answered sequence k.answering (k.asking_clock a.asked) (k.answering_clock came)
        (k.asking_clock heard) → AreMute asks out → waits ≡ None
        → FollowUpInFlight k least asks replies sequence came back → Phase waits out back
