-- From phase to phase: what each act does to an exchange that began with nothing old in flight.
use Rattle.std.proofs.Common.{◌≡◌, ◌+◌, ◌++◌, ℕ, List, ◌∷◌, Option, Some, None, refl, sym, ap, subst, ◌∙◌, inl}
use Rattle.std.proofs.Common.{inr, arith}
use Rattle.gptp_lists.specs.Members.{In}
use Rattle.gptp_pdelay_machine.specs.Lanes.{LaneFrame, IsMute, AreMute}
use Rattle.gptp_pdelay_machine.specs.Messages.{Request, Reply, Response, FollowUp}
use Rattle.gptp_pdelay_machine.specs.Setting.{Setting, IsBetween}
use Rattle.gptp_pdelay_machine.specs.Asker.{Asker, Closed, own_request, asks_now}
use Rattle.gptp_pdelay_machine.specs.Answerer.{Waiting, noted, Notes}
use Rattle.gptp_pdelay_machine.specs.Acts.{SendsRequest, SendsReply, SendsAnswer}
use Rattle.gptp_pdelay_machine.specs.Phases.{Phase, Rests, RequestGoes, AnswerWaits, ResponseComes, FollowUpComes}
use Rattle.gptp_pdelay_machine.specs.Phases.{IsLastRequest, IsItsResponse, IsItsFollowUp, FollowUpInFlight}
use Rattle.gptp_pdelay_machine.specs.Phases.{RequestInFlight, ResponseInFlight}
use Rattle.gptp_pdelay_machine.proofs.LaneLemmas.{mute_append, mute_rest, first_append, first_behind, first_map}
use Rattle.gptp_pdelay_machine.proofs.LaneLemmas.{first_is_there}

module _ (k : Setting) (least : ℕ) (asks : List ℕ → Request → Type 0) (replies : List ℕ → Reply → Type 0)
    (a : Asker) where
  -- frames that are no replies, after the follow-up
  follow_up_append : (sequence came : ℕ) (back news : List LaneFrame) → AreMute replies news
      → FollowUpInFlight k least asks replies sequence came back
      → FollowUpInFlight k least asks replies sequence came (back ++ news)
  follow_up_append sequence came back news mute =
      first_append replies (IsItsFollowUp k least asks replies sequence came) (AreMute replies)
      back news (λ gs old. mute_append replies gs news old mute)

  -- frames that are no requests, sent to the port that answers, change no phase
  pub more_out : (waits : Option Waiting) (out back news : List LaneFrame) → AreMute asks news
      → Phase k least asks replies a waits out back → Phase k least asks replies a waits (out ++ news) back
  more_out waits out back news mute (Rests closed asks_none none replies_none) =
      Rests closed (mute_append asks out news asks_none mute) none replies_none
  more_out waits out back news mute (RequestGoes sequence progress request none replies_none) =
      RequestGoes sequence progress
      (first_append asks (IsLastRequest k least asks replies sequence a.asked) (AreMute asks) out news
      (λ gs old. mute_append asks gs news old mute) request) none replies_none
  more_out waits out back news mute (AnswerWaits sequence came there progress asks_none is replies_none) =
      AnswerWaits sequence came there progress (mute_append asks out news asks_none mute) is replies_none
  more_out waits out back news mute (ResponseComes sequence came there progress asks_none none response) =
      ResponseComes sequence came there progress (mute_append asks out news asks_none mute) none response
  more_out waits out back news mute (FollowUpComes sequence came heard there home progress asks_none none follow_up) =
      FollowUpComes sequence came heard there home progress (mute_append asks out news asks_none mute) none follow_up

  -- frames that are no replies, sent to the port that asks, change no phase
  pub more_back : (waits : Option Waiting) (out back news : List LaneFrame) → AreMute replies news
      → Phase k least asks replies a waits out back → Phase k least asks replies a waits out (back ++ news)
  more_back waits out back news mute (Rests closed asks_none none replies_none) =
      Rests closed asks_none none (mute_append replies back news replies_none mute)
  more_back waits out back news mute (RequestGoes sequence progress request none replies_none) =
      RequestGoes sequence progress request none (mute_append replies back news replies_none mute)
  more_back waits out back news mute (AnswerWaits sequence came there progress asks_none is replies_none) =
      AnswerWaits sequence came there progress asks_none is (mute_append replies back news replies_none mute)
  more_back waits out back news mute (ResponseComes sequence came there progress asks_none none response) =
      ResponseComes sequence came there progress asks_none none
      (first_append replies (IsItsResponse k least asks replies sequence came)
      (FollowUpInFlight k least asks replies sequence came) back news
      (λ gs. follow_up_append sequence came gs news mute) response)
  more_back waits out back news mute (FollowUpComes sequence came heard there home progress asks_none none follow_up) =
      FollowUpComes sequence came heard there home progress asks_none none
      (follow_up_append sequence came back news mute follow_up)

  -- octets that are no request leave what waits
  kept_waiting : (time : ℕ) (front : LaneFrame) (waits waits' : Option Waiting) → IsMute asks front
      → Notes k asks time front.octets waits waits' → waits' ≡ waits
  kept_waiting time front waits waits' mute (inl (nothing, kept)) = kept
  kept_waiting time front waits waits' mute (inr (request, one, new)) = absurd (mute request one.said)

  -- octets that are the last request make it wait
  now_waiting : (sequence time : ℕ) (front : LaneFrame) (waits waits' : Option Waiting)
      → asks front.octets (own_request k sequence)
      → Notes k asks time front.octets waits waits' → waits' ≡ Some (noted k (own_request k sequence) time)
  now_waiting sequence time front waits waits' said (inl (nothing, kept)) =
      absurd (nothing (own_request k sequence) said)
  now_waiting sequence time front waits waits' said (inr (request, one, new)) =
      subst (λ (r : Request). waits' ≡ Some (noted k r time)) (sym (one.only (own_request k sequence) said)) new

  -- the port that answers hears the oldest frame: where that is the last request, it waits now
  pub answerer_heard : (waits waits' : Option Waiting) (front : LaneFrame) (rest back : List LaneFrame) (time : ℕ)
      → front.due ≡ time → Notes k asks time front.octets waits waits'
      → Phase k least asks replies a waits (front ∷ rest) back → Phase k least asks replies a waits' rest back
  answerer_heard waits waits' front rest back time now notes (Rests closed asks_none none replies_none) =
      Rests closed (mute_rest asks front rest asks_none)
      (kept_waiting time front waits waits' (asks_none front (inl refl)) notes ∙ none) replies_none
  answerer_heard waits waits' front rest back time now notes
      (RequestGoes sequence progress (inl ((said, between), behind)) none replies_none) = AnswerWaits sequence time
      (subst (λ t. IsBetween a.asked t least k.most) now between) progress behind
      (now_waiting sequence time front waits waits' said notes) replies_none
  answerer_heard waits waits' front rest back time now notes
      (RequestGoes sequence progress (inr (mute, later)) none replies_none) = RequestGoes sequence progress later
      (kept_waiting time front waits waits' mute notes ∙ none) replies_none
  answerer_heard waits waits' front rest back time now notes
      (AnswerWaits sequence came there progress asks_none is replies_none) = AnswerWaits sequence came there progress
      (mute_rest asks front rest asks_none)
      (kept_waiting time front waits waits' (asks_none front (inl refl)) notes ∙ is) replies_none
  answerer_heard waits waits' front rest back time now notes
      (ResponseComes sequence came there progress asks_none none response) = ResponseComes sequence came there progress
      (mute_rest asks front rest asks_none)
      (kept_waiting time front waits waits' (asks_none front (inl refl)) notes ∙ none) response
  answerer_heard waits waits' front rest back time now notes
      (FollowUpComes sequence came heard there home progress asks_none none follow_up) =
      FollowUpComes sequence came heard there home
      progress (mute_rest asks front rest asks_none)
      (kept_waiting time front waits waits' (asks_none front (inl refl)) notes ∙ none) follow_up

  -- the answer to the last request is response and follow-up, in this order
  answer_in_flight : (sequence came : ℕ) (news : List LaneFrame)
      → ((f : LaneFrame) (reply : Reply) → In f news → replies f.octets reply
      → IsBetween (came + k.turnaround) f.due least k.most)
      → SendsAnswer k replies (noted k (own_request k sequence) came) (came + k.turnaround) news
      → ResponseInFlight k least asks replies sequence came news
  answer_in_flight sequence came news in_time sent = first_map replies
      (λ f. replies f.octets (Response k.answering (own_request k sequence) (k.answering_clock came)))
      (IsItsResponse k least asks replies sequence came)
      (SendsReply replies (FollowUp k.answering (own_request k sequence) (k.answering_clock (came + k.turnaround)))
      (AreMute replies))
      (FollowUpInFlight k least asks replies sequence came) news
      (λ f at said. (
        said,
        in_time f (Response k.answering (own_request k sequence) (k.answering_clock came)) at said,
      ))
      (λ gs part. first_map replies
      (λ f. replies f.octets
      (FollowUp k.answering (own_request k sequence) (k.answering_clock (came + k.turnaround))))
      (IsItsFollowUp k least asks replies sequence came) (AreMute replies) (AreMute replies) gs
      (λ f at said. (
        said,
        (in_time f (FollowUp k.answering (own_request k sequence) (k.answering_clock (came + k.turnaround))) (part f at)
            said).1,
      ))
      (λ hs same mute. mute)) sent

  -- the answer's timer expires: what waited is in flight
  pub answered : (waiting : Waiting) (out back news : List LaneFrame) (time : ℕ) → waiting.due ≡ time
      → ((f : LaneFrame) (reply : Reply) → In f news → replies f.octets reply → IsBetween time f.due least k.most)
      → SendsAnswer k replies waiting time news
      → Phase k least asks replies a (Some waiting) out back → Phase k least asks replies a None out (back ++ news)
  answered waiting out back news time now in_time sent (Rests closed asks_none none replies_none) = absurd cc
  answered waiting out back news time now in_time sent (RequestGoes sequence progress request none replies_none) =
      absurd cc
  answered waiting out back news time now in_time sent
      (AnswerWaits sequence came there progress asks_none is replies_none) =
      let same : waiting ≡ noted k (own_request k sequence) came = cc in
      let then : time ≡ came + k.turnaround = sym now ∙ ap (λ (w : Waiting). w.due) same in
      let own_sent : SendsAnswer k replies (noted k (own_request k sequence) came) (came + k.turnaround) news =
      subst (λ (w : Waiting). SendsAnswer k replies w (came + k.turnaround) news) same
      (subst (λ t. SendsAnswer k replies waiting t news) then sent) in
      let due : (f : LaneFrame) (reply : Reply) → In f news → replies f.octets reply
      → IsBetween (came + k.turnaround) f.due least k.most =
      subst (λ t. (f : LaneFrame) (reply : Reply) → In f news → replies f.octets reply → IsBetween t f.due least k.most)
      then in_time in
      ResponseComes sequence came there progress asks_none refl
      (first_behind replies (IsItsResponse k least asks replies sequence came)
      (FollowUpInFlight k least asks replies sequence came) back news
      replies_none (answer_in_flight sequence came news due own_sent))
  answered waiting out back news time now in_time sent
      (ResponseComes sequence came there progress asks_none none response) =
      absurd cc
  answered waiting out back news time now in_time sent
      (FollowUpComes sequence came heard there home progress asks_none none follow_up) = absurd cc

  -- no reply is in flight while a request waits
  pub silent_while_waiting : (waits : Option Waiting) (out back : List LaneFrame) (w : Waiting) → waits ≡ Some w
      → Phase k least asks replies a waits out back → AreMute replies back
  silent_while_waiting waits out back w some (Rests closed asks_none none replies_none) = replies_none
  silent_while_waiting waits out back w some (RequestGoes sequence progress request none replies_none) = replies_none
  silent_while_waiting waits out back w some (AnswerWaits sequence came there progress asks_none is replies_none) =
      replies_none
  silent_while_waiting waits out back w some (ResponseComes sequence came there progress asks_none none response) =
      absurd cc
  silent_while_waiting waits out back w some
      (FollowUpComes sequence came heard there home progress asks_none none follow_up) = absurd cc

  -- where nothing is pending, no request is open
  pub closed_where_nothing_pends : (waits : Option Waiting) (out back : List LaneFrame) → AreMute asks out
      → waits ≡ None
      → AreMute replies back → Phase k least asks replies a waits out back → a.progress ≡ Closed
  closed_where_nothing_pends waits out back asks_none none replies_none (Rests closed a1 n1 r1) = closed
  closed_where_nothing_pends waits out back asks_none none replies_none (RequestGoes sequence progress request n1 r1) =
      let (f, at, is) =
      first_is_there asks (IsLastRequest k least asks replies sequence a.asked) (AreMute asks) out request in
      absurd (asks_none f at (own_request k sequence) is.0)
  closed_where_nothing_pends waits out back asks_none none replies_none
      (AnswerWaits sequence came there progress a1 is r1) =
      absurd cc
  closed_where_nothing_pends waits out back asks_none none replies_none
      (ResponseComes sequence came there progress a1 n1 response) =
      let (f, at, is) = first_is_there replies (IsItsResponse k least asks replies sequence came)
      (FollowUpInFlight k least asks replies sequence came) back response in
      absurd (replies_none f at (Response k.answering (own_request k sequence) (k.answering_clock came)) is.0)
  closed_where_nothing_pends waits out back asks_none none replies_none
      (FollowUpComes sequence came heard there home progress a1 n1 follow_up) =
      let (f, at, is) =
      first_is_there replies (IsItsFollowUp k least asks replies sequence came) (AreMute replies) back follow_up in
      absurd (replies_none f at
      (FollowUp k.answering (own_request k sequence) (k.answering_clock (came + k.turnaround))) is.0)

  -- a request that is sent where none is in flight is the only one
  pub request_is_only : (out news : List LaneFrame) (time sequence : ℕ) → AreMute asks out
      → ((f : LaneFrame) → In f news → asks f.octets (own_request k sequence) → IsBetween time f.due least k.most)
      → SendsRequest asks (own_request k sequence) news
      → RequestInFlight k least asks replies sequence time (out ++ news)
  request_is_only out news time sequence asks_none in_time sent =
      first_behind asks (IsLastRequest k least asks replies sequence time)
      (AreMute asks) out news asks_none
      (first_map asks (λ f. asks f.octets (own_request k sequence))
      (IsLastRequest k least asks replies sequence time) (AreMute asks)
      (AreMute asks) news (λ f at said. (said, in_time f at said)) (λ gs same mute. mute) sent)

  -- where nothing else is pending it begins an exchange
  pub request_goes : (waits : Option Waiting) (out back news : List LaneFrame) (time sequence : ℕ) → AreMute asks out
      → waits ≡ None → AreMute replies back
      → ((f : LaneFrame) → In f news → asks f.octets (own_request k sequence) → IsBetween time f.due least k.most)
      → SendsRequest asks (own_request k sequence) news
      → Phase k least asks replies (asks_now time sequence (k.asking_clock time) a) waits (out ++ news) back
  request_goes waits out back news time sequence asks_none none replies_none in_time sent =
      RequestGoes sequence refl (request_is_only out news time sequence asks_none in_time sent) none replies_none

-- whatever the least delay is, a phase is one where nothing is known of it
pub phase_forgets : (k : Setting) (least : ℕ) (asks : List ℕ → Request → Type 0) (replies : List ℕ → Reply → Type 0)
    (a : Asker) (waits : Option Waiting) (out back : List LaneFrame) → Phase k least asks replies a waits out back
    → Phase k 0 asks replies a waits out back
phase_forgets k least asks replies a waits out back (Rests closed asks_none none replies_none) =
    Rests closed asks_none none replies_none
phase_forgets k least asks replies a waits out back (RequestGoes sequence progress request none replies_none) =
    RequestGoes sequence progress
    (first_map asks (IsLastRequest k least asks replies sequence a.asked)
    (IsLastRequest k 0 asks replies sequence a.asked) (AreMute asks) (AreMute asks) out
    (λ f at is. (is.0, (let long = is.1.0 in omega (arith, long), is.1.1))) (λ gs part mute. mute) request)
    none replies_none
phase_forgets k least asks replies a waits out back
    (AnswerWaits sequence came there progress asks_none is replies_none) =
    AnswerWaits sequence came (let long = there.0 in omega (arith, long), there.1) progress asks_none is replies_none
phase_forgets k least asks replies a waits out back
    (ResponseComes sequence came there progress asks_none none response) =
    ResponseComes sequence came (let long = there.0 in omega (arith, long), there.1) progress asks_none none
    (first_map replies (IsItsResponse k least asks replies sequence came) (IsItsResponse k 0 asks replies sequence came)
    (FollowUpInFlight k least asks replies sequence came) (FollowUpInFlight k 0 asks replies sequence came) back
    (λ f at is. (is.0, (let long = is.1.0 in omega (arith, long), is.1.1))) (λ gs part follow_up. follow_up) response)
phase_forgets k least asks replies a waits out back
    (FollowUpComes sequence came heard there home progress asks_none none follow_up) =
    FollowUpComes sequence came heard (let long = there.0 in omega (arith, long), there.1)
    (let long = home.0 in omega (arith, long), home.1) progress asks_none none follow_up
