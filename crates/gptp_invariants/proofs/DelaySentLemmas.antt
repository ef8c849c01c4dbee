-- What a system sends at one port in answer to its input, as frames that say a request, a reply or neither.
use Rattle.std.proofs.Common.{◌≡◌, ◌≢◌, ◌⊎◌, ◌<◌, ◌^◌, ℕ, ℤ, pos, Bool, true, false, List, [], ◌∷◌, ◌++◌, map, take, drop, take-append-drop, Option, Some, None, FitsSigned, w8, refl, sym, ap, subst, ◌∙◌, inl, inr, arith}
use Rattle.std.specs.Prelude.{if◌then◌else◌}
use Rattle.std.specs.Int.{w64}
use Rattle.std.proofs.lemmas.Int.{ints}
use Rattle.gptp_lists.specs.Members.{In}
use Rattle.gptp_lists.proofs.SystemSpecLemmas.{In-left, In-right}
use Rattle.gptp_vector.specs.declared.port.PortId.{PortId}
use Rattle.gptp_messages.specs.declared.head.Head.{Head}
use Rattle.gptp_messages.specs.declared.message.Message.TheVariants as messages
use Rattle.gptp_messages.specs.declared.peer_delay.PdelayResp.{PdelayResp}
use Rattle.gptp_messages.specs.declared.peer_delay.PdelayRespFollowUp.{PdelayRespFollowUp}
use Rattle.gptp_messages.specs.Frame.{PortFits}
use Rattle.gptp_messages.specs.Grammar.{Reads}
use Rattle.gptp_messages.specs.Head.{HeadFits}
use Rattle.gptp_links.specs.Queue.{Frame}
use Rattle.gptp_pdelay.specs.declared.answer.Answer.{Answer as Owed}
use Rattle.gptp_pdelay.specs.Progress.{same_identity}
use Rattle.gptp_system.specs.declared.sending.Sending.{Sending}
use Rattle.gptp_setup.specs.declared.timer.Timer.TheVariants as timers
use Rattle.gptp_system.specs.Input.{Input, PortUp, PortDown, Frame as FrameHeard, Expires, Priority}
use Rattle.gptp_setup.specs.Intervals.{IsLog}
use Rattle.gptp_system.specs.Measuring.{Responds, RespondsIf, owed_at, request_of}
use Rattle.gptp_system.specs.Messages.{Announcing, Answering, AreSent, Asking, AsksOnce, Kind, Telling, message_kind}
use Rattle.gptp_system.specs.Sends.{head_from, pdelay_response, response_follow_up, sends_up_to}
use Rattle.gptp_system.specs.State.{SystemState, own, stamp_time, trace}
use Rattle.gptp_system.proofs.SendLemmas.{responds_answer, with_send-from}
use Rattle.gptp_model.specs.Sends.{written}
use Rattle.gptp_pdelay_machine.specs.Lanes.{LaneFrame as SeenFrame, AreMute, FirstIs}
use Rattle.gptp_pdelay_machine.specs.Messages.{Request, Reply, Response, FollowUp}
use Rattle.gptp_invariants.specs.DelayLinkView.{RequestFits, RequestSaysWhatFits, reads_as_request, link_frame_view, link_identity, reads_as_reply, request_from}
use Rattle.gptp_invariants.specs.ChoiceSaid.{said_at, sends_at}
use Rattle.gptp_invariants.proofs.DelayLinkLaneLemmas.{said_here, true_same}
use Rattle.gptp_invariants.proofs.DelayLinkOctetLemmas.{asks_not, follow_up_said, no_request_read, one_request, replies_not, request_back, response_said}

-- ---- frames by their octets

abbrev pub octets_of : List Frame → List (List ℕ)
octets_of news = map (λ (f : Frame). f.octets) news

-- frames are mute where their octets are
pub mute_news : {X : Type 0} (says : List ℕ → X → Type 0) (news : List Frame)
    → ((octets : List ℕ) → In octets (octets_of news) → (x : X) → says octets x → ⊥)
    → AreMute says (map link_frame_view news)
mute_news says [] mute f member = absurd member
mute_news says (one ∷ news) mute f (inl here) =
    λ x said. mute one.octets (inl refl) x (subst (λ (g : SeenFrame). says g.octets x) here said)
mute_news says (one ∷ news) mute f (inr later) =
    mute_news says news (λ octets member. mute octets (inr member)) f later

pub same_first : {X : Type 0} (a b : X) (xs ys : List X) → a ∷ xs ≡ b ∷ ys → (a ≡ b) × (xs ≡ ys)
same_first a b xs ys e = (cc, cc)

-- where octets that say this come after mute ones, their frame is the first that isn't mute
pub first_news : {X : Type 0} (says : List ℕ → X → Type 0) (x : X) (Q : List SeenFrame → Type 0) (news : List Frame)
    (before : List (List ℕ)) (octets : List ℕ) (after : List (List ℕ)) → octets_of news ≡ before ++ octets ∷ after
    → ((o : List ℕ) → In o before → (y : X) → says o y → ⊥) → says octets x
    → ((rest : List Frame) → octets_of rest ≡ after → Q (map link_frame_view rest))
    → FirstIs says (λ (f : SeenFrame). says f.octets x) Q (map link_frame_view news)
first_news says x Q [] [] octets after is mute said behind = absurd cc
first_news says x Q [] (o ∷ before) octets after is mute said behind = absurd cc
first_news says x Q (one ∷ news) [] octets after is mute said behind =
    let both = same_first one.octets octets (octets_of news) after is in
    inl (subst (λ o. says o x) (sym both.0) said, behind news both.1)
first_news says x Q (one ∷ news) (o ∷ before) octets after is mute said behind =
    let both = same_first one.octets o (octets_of news) (before ++ octets ∷ after) is in
    inr (
      λ y spoken. mute o (inl refl) y (subst (λ z. says z y) both.0 spoken),
      first_news says x Q news before octets after both.1 (λ z member. mute z (inr member)) said behind,
    )

-- ---- the sends of a port

-- octets said at a port are those of a send of that port
pub said_from : (s : SystemState) (port : PortId) (xs : List Sending) (octets : List ℕ)
    → In octets (said_at s port xs) → (x : Sending) × In x xs × (own s x.port ≡ port) × (octets ≡ written s x)
said_from s port [] octets member = absurd member
said_from s port (x ∷ xs) octets member =
    go (same_identity (own s x.port) port) refl (said_from s port xs octets) member
  where
    go : (b : Bool) → same_identity (own s x.port) port ≡ b
        → (In octets (said_at s port xs) → (y : Sending) × In y xs × (own s y.port ≡ port) × (octets ≡ written s y))
        → In octets (map (written s) (if b then x ∷ sends_at s port xs else sends_at s port xs))
        → (y : Sending) × In y (x ∷ xs) × (own s y.port ≡ port) × (octets ≡ written s y)
    go true same ih (inl here) = (x, inl refl, true_same (own s x.port) port same, here)
    go true same ih (inr later) = let (y, among, from, is) = ih later in (y, inr among, from, is)
    go false other ih later = let (y, among, from, is) = ih later in (y, inr among, from, is)

pub said_append : (s : SystemState) (port : PortId) (xs ys : List Sending)
    → said_at s port (xs ++ ys) ≡ said_at s port xs ++ said_at s port ys
said_append s port [] ys = refl
said_append s port (x ∷ xs) ys = go (same_identity (own s x.port) port) (said_append s port xs ys)
  where
    go : (b : Bool) → said_at s port (xs ++ ys) ≡ said_at s port xs ++ said_at s port ys
        → map (written s) (if b then x ∷ sends_at s port (xs ++ ys) else sends_at s port (xs ++ ys))
        ≡ map (written s) (if b then x ∷ sends_at s port xs else sends_at s port xs) ++ said_at s port ys
    go true ih = ap (λ os. written s x ∷ os) ih
    go false ih = ih

-- ---- who sends what

-- a request is sent where its port's Pdelay timer expires or its link comes up
pub asking_input : (s : SystemState) (now : ℕ) (input : Input) (sends : List Sending) → AreSent s now input sends
    → (x : Sending) → In x sends → message_kind x.body ≡ Asking
    → (input ≡ Expires (timers.Pdelay x.port)) ⊎ (input ≡ PortUp x.port)
asking_input s now (PortUp p) sends sent x member kind =
    go (with_send-from (request_of p s) x sent.announces (subst (In x) sent.is member))
  where
    go : (x ≡ request_of p s) ⊎ In x sent.announces
        → (PortUp p ≡ Expires (timers.Pdelay x.port)) ⊎ (PortUp p ≡ PortUp x.port)
    go (inl it) = inr (ap (λ (y : Sending). PortUp y.port) (sym it))
    go (inr other) = let e = sent.all x other in absurd cc
asking_input s now (PortDown p) sends sent x member kind = let e = sent x member in absurd cc
asking_input s now (FrameHeard p octets) sends sent x member kind = let e = sent x member in absurd cc
asking_input s now (Expires (timers.Announce p)) sends sent x member kind = let e = sent x member in absurd cc
asking_input s now (Expires (timers.Age p)) sends sent x member kind = let e = sent x member in absurd cc
asking_input s now (Expires (timers.Pdelay p)) sends sent x member kind =
    go (with_send-from (request_of p s) x sent.announces (subst (In x) sent.is member))
  where
    go : (x ≡ request_of p s) ⊎ In x sent.announces
        → (Expires (timers.Pdelay p) ≡ Expires (timers.Pdelay x.port)) ⊎ (Expires (timers.Pdelay p) ≡ PortUp x.port)
    go (inl it) = inl (ap (λ (y : Sending). Expires (timers.Pdelay y.port)) (sym it))
    go (inr other) = let e = sent.all x other in absurd cc
asking_input s now (Expires (timers.Respond p)) sends sent x member kind =
    let e = responds_answer (owed_at s p) p now s sends sent x member in absurd cc
asking_input s now (Expires timers.Sync) sends sent x member kind = let e = sent x member in absurd cc
asking_input s now (Expires timers.Relay) sends sent x member kind = let e = sent x member in absurd cc
asking_input s now (Expires timers.Lapse) sends sent x member kind = let e = sent x member in absurd cc
asking_input s now (Priority value) sends sent x member kind = let e = sent x member in absurd cc

responds_port : (owed : Option Owed) (p now : ℕ) (s : SystemState) (sends : List Sending)
    → RespondsIf owed p now s sends → (x : Sending) → In x sends → p ≡ x.port
responds_port None p now s sends none x member = absurd (subst (In x) none member)
responds_port (Some owed) p now s sends k x member = go (subst (In x) k.sends_are member)
  where
    go : In x (pdelay_response (own s p) owed k.came k.came-rest ∷ response_follow_up
        (own s p) owed k.went k.went-rest ∷ [])
        → p ≡ x.port
    go (inl here) = ap (λ (y : Sending). y.port) (sym here)
    go (inr (inl here)) = ap (λ (y : Sending). y.port) (sym here)
    go (inr (inr later)) = absurd later

asks_once_kind : (s : SystemState) (p : ℕ) (sends : List Sending) → AsksOnce s p sends → (x : Sending) → In x sends
    → message_kind x.body ≢ Answering
asks_once_kind s p sends sent x member =
    go (with_send-from (request_of p s) x sent.announces (subst (In x) sent.is member))
  where
    go : (x ≡ request_of p s) ⊎ In x sent.announces → message_kind x.body ≢ Answering
    go (inl it) kind = let e : message_kind x.body ≡ Asking = ap (λ (y : Sending). message_kind y.body) it in absurd cc
    go (inr other) kind = let e = sent.all x other in absurd cc

-- an answer is sent where its port's Respond timer expires
pub answering_input : (s : SystemState) (now : ℕ) (input : Input) (sends : List Sending) → AreSent s now input sends
    → (x : Sending) → In x sends → message_kind x.body ≡ Answering → input ≡ Expires (timers.Respond x.port)
answering_input s now (PortUp p) sends sent x member kind = absurd (asks_once_kind s p sends sent x member kind)
answering_input s now (PortDown p) sends sent x member kind = let e = sent x member in absurd cc
answering_input s now (FrameHeard p octets) sends sent x member kind = let e = sent x member in absurd cc
answering_input s now (Expires (timers.Announce p)) sends sent x member kind = let e = sent x member in absurd cc
answering_input s now (Expires (timers.Age p)) sends sent x member kind = let e = sent x member in absurd cc
answering_input s now (Expires (timers.Pdelay p)) sends sent x member kind =
    absurd (asks_once_kind s p sends sent x member kind)
answering_input s now (Expires (timers.Respond p)) sends sent x member kind =
    ap (λ n. Expires (timers.Respond n)) (responds_port (owed_at s p) p now s sends sent x member)
answering_input s now (Expires timers.Sync) sends sent x member kind = let e = sent x member in absurd cc
answering_input s now (Expires timers.Relay) sends sent x member kind = let e = sent x member in absurd cc
answering_input s now (Expires timers.Lapse) sends sent x member kind = let e = sent x member in absurd cc
answering_input s now (Priority value) sends sent x member kind = let e = sent x member in absurd cc

-- ---- what is sent says

module _ (s s' : SystemState) (now : ℕ) (input : Input) (sends : List Sending) (sent : AreSent s now input sends)
    (port : PortId) (news : List Frame) (said : octets_of news ≡ said_at s' port sends) where
  -- no request, unless the port's Pdelay timer expires or its link comes up
  pub asks_nothing : input ≢ Expires (timers.Pdelay port.port) → input ≢ PortUp port.port
      → AreMute reads_as_request (map link_frame_view news)
  asks_nothing timer up =
      mute_news reads_as_request news (λ octets member.
      go (said_from s' port sends octets (subst (In octets) said member)))
    where
      go : {octets : List ℕ}
          → ((x : Sending) × In x sends × (own s' x.port ≡ port) × (octets ≡ written s' x))
          → (r : Request) → reads_as_request octets r → ⊥
      go (x, among, from, is) r spoken =
          asks_not (trace s') x.head x.body (λ kind. by (asking_input s now input sends sent x among kind)) r
          (subst (λ o. reads_as_request o r) is spoken)
        where
          at : x.port ≡ port.port
          at = ap (λ (p : PortId). p.port) from

          by : (input ≡ Expires (timers.Pdelay x.port)) ⊎ (input ≡ PortUp x.port) → ⊥
          by (inl e) = timer (e ∙ ap (λ n. Expires (timers.Pdelay n)) at)
          by (inr e) = up (e ∙ ap PortUp at)

  -- and no reply, unless its Respond timer expires
  pub replies_nothing : input ≢ Expires (timers.Respond port.port) → AreMute reads_as_reply (map link_frame_view news)
  replies_nothing timer =
      mute_news reads_as_reply news (λ octets member.
      go (said_from s' port sends octets (subst (In octets) said member)))
    where
      go : {octets : List ℕ}
          → ((x : Sending) × In x sends × (own s' x.port ≡ port) × (octets ≡ written s' x))
          → (r : Reply) → reads_as_reply octets r → ⊥
      go (x, among, from, is) r spoken =
          replies_not (trace s') x.head x.body
          (λ kind. timer (answering_input s now input sends sent x among kind
          ∙ ap (λ n. Expires (timers.Respond n)) (ap (λ (p : PortId). p.port) from))) r
          (subst (λ o. reads_as_reply o r) is spoken)

-- ---- a request

-- the header of a message that this port sends fits
pub head_fits : (port : PortId) (sequence : ℕ) (correction log : ℤ) (two_step : Bool) → RequestFits port sequence
    → FitsSigned w64 correction → FitsSigned w8 log → HeadFits (head_from port sequence correction log two_step)
head_fits port sequence correction log two_step fits small short =
    record { source = fits.from; sequence = fits.numbered; correction = small; log_interval = short }

-- the next sequence number of a port
abbrev pub next_of : SystemState → ℕ → ℕ
next_of s p = (request_of p s).head.sequence

-- what a port writes as its request reads back
request_written : (s s' : SystemState) (p : ℕ) → IsLog s.params.pdelay → RequestFits (own s p) (next_of s p)
    → Reads (written s' (request_of p s)) (messages.PdelayReq (request_of p s).head)
request_written s s' p log fits =
    request_back (request_of p s).head
    (head_fits (own s p) (next_of s p) (pos 0) s.params.pdelay false fits (omega (arith, ints))
    (omega (arith, ints, log.low, log.high)))

module _ (s s' : SystemState) (p : ℕ) (sends : List Sending) (sent : AsksOnce s p sends)
    (log : IsLog s.params.pdelay) (fits : RequestFits (own s p) (next_of s p)) (same : own s' p ≡ own s p)
    (news : List Frame) (said : octets_of news ≡ said_at s' (own s p) sends) where
  abbrev front : List Sending
  front = take (sends_up_to p sent.announces) sent.announces

  abbrev behind : List Sending
  behind = drop (sends_up_to p sent.announces) sent.announces

  announces_mute : (some : List Sending) → ((x : Sending) → In x some → In x (front ++ behind)) → (octets : List ℕ)
      → In octets (said_at s' (own s p) some) → (r : Request) → reads_as_request octets r → ⊥
  announces_mute some among octets member r spoken = go (said_from s' (own s p) some octets member)
    where
      go : ((x : Sending) × In x some × (own s' x.port ≡ own s p) × (octets ≡ written s' x)) → ⊥
      go (x, there, from, is) =
          asks_not (trace s') x.head x.body
          (λ kind. let e = sent.all x (subst (In x) (take-append-drop (sends_up_to p sent.announces) sent.announces)
          (among x there)) in absurd cc) r
          (subst (λ o. reads_as_request o r) is spoken)

  -- the frames of the port are its request, and some that ask nothing before and after it
  pub sends_request : FirstIs reads_as_request
      (λ (f : SeenFrame). reads_as_request f.octets (request_from (own s p) (next_of s p)))
      (AreMute reads_as_request) (map link_frame_view news)
  sends_request =
      let whole : octets_of news
      ≡ said_at s' (own s p) front ++ written s' (request_of p s) ∷ said_at s' (own s p) behind =
      said ∙ ap (said_at s' (own s p)) sent.is
      ∙ said_append s' (own s p) front (request_of p s ∷ behind)
      ∙ ap (λ os. said_at s' (own s p) front ++ os) (said_here s' (own s p) (request_of p s) behind same) in
      first_news reads_as_request (request_from (own s p) (next_of s p)) (AreMute reads_as_request) news
      (said_at s' (own s p) front)
      (written s' (request_of p s)) (said_at s' (own s p) behind) whole
      (announces_mute front (λ x there. In-left x front behind there))
      ((request_of p s).head, request_written s s' p log fits, refl)
      (λ rest is. mute_news reads_as_request rest (λ octets member.
      announces_mute behind (λ x there. In-right x front behind there) octets (subst (In octets) is member)))

-- ---- an answer

module _ (s s' : SystemState) (p now : ℕ) (owed : Owed) (sends : List Sending) (sent : Responds p now s owed sends)
    (own_fits : PortFits (own s p)) (fits : RequestFits owed.requester owed.sequence) (same : own s' p ≡ own s p)
    (news : List Frame) (said : octets_of news ≡ said_at s' (own s p) sends) where
  abbrev answered_request : Request
  answered_request = request_from owed.requester owed.sequence

  -- what the port sends as response and as follow-up
  abbrev first : Sending
  first = pdelay_response (own s p) owed sent.came sent.came-rest

  abbrev second : Sending
  second = response_follow_up (own s p) owed sent.went sent.went-rest

  own_head : (rest : ℕ) (two_step : Bool) → rest < 2 ^ 16
      → HeadFits (head_from (own s p) owed.sequence (pos rest) (pos 0x7F) two_step)
  own_head rest two_step small =
      head_fits (own s p) owed.sequence (pos rest) (pos 0x7F) two_step
      (record { from = own_fits; numbered = fits.numbered }) (omega (arith, ints)) (omega (arith, ints))

  first_said : reads_as_reply (written s' first) (Response (link_identity (own s p)) answered_request owed.t2)
  first_said =
      let message : PdelayResp = record { head = first.head; stamp = sent.came; requester = owed.requester } in
      subst (λ t. reads_as_reply (written s' first) (Response (link_identity (own s p)) answered_request t))
      sent.came_is.whole
      (response_said message
      (record {
        head = own_head sent.came-rest true sent.came_is.small;
        stamp = sent.came_is.stamp;
        requester = fits.from;
      }))

  second_said : reads_as_reply (written s' second)
      (FollowUp (link_identity (own s p)) answered_request (stamp_time s now))
  second_said =
      let message : PdelayRespFollowUp = record { head = second.head; stamp = sent.went; requester = owed.requester } in
      subst (λ t. reads_as_reply (written s' second) (FollowUp (link_identity (own s p)) answered_request t))
      sent.went_is.whole
      (follow_up_said message
      (record {
        head = own_head sent.went-rest false sent.went_is.small;
        stamp = sent.went_is.stamp;
        requester = fits.from;
      }))

  -- the frames of the port are the response and after it the follow-up
  pub sends_answer : FirstIs reads_as_reply
      (λ (f : SeenFrame). reads_as_reply f.octets (Response (link_identity (own s p)) answered_request owed.t2))
      (FirstIs reads_as_reply
      (λ (f : SeenFrame). reads_as_reply f.octets
      (FollowUp (link_identity (own s p)) answered_request (stamp_time s now)))
      (AreMute reads_as_reply))
      (map link_frame_view news)
  sends_answer =
      let whole : octets_of news ≡ written s' first ∷ written s' second ∷ [] =
      said ∙ ap (said_at s' (own s p)) sent.sends_are ∙ said_here s' (own s p) first (second ∷ []) same
      ∙ ap (λ os. written s' first ∷ os) (said_here s' (own s p) second [] same) in
      first_news reads_as_reply (Response (link_identity (own s p)) answered_request owed.t2) _ news []
      (written s' first)
      (written s' second ∷ []) whole (λ o member. absurd member) first_said
      (λ rest is. first_news reads_as_reply (FollowUp (link_identity (own s p)) answered_request (stamp_time s now))
      (AreMute reads_as_reply) rest [] (written s' second) [] is (λ o member. absurd member) second_said
      (λ none is. mute_news reads_as_reply none (λ octets member. absurd (subst (In octets) is member))))

-- ---- what is sent fits

-- a request that a port sends is that of the port
request_sent : (s : SystemState) (now : ℕ) (input : Input) (sends : List Sending) → AreSent s now input sends
    → (x : Sending) → In x sends → message_kind x.body ≡ Asking → x ≡ request_of x.port s
request_sent s now input sends sent x member kind = by input sent (asking_input s now input sends sent x member kind)
  where
    once : (p : ℕ) → AsksOnce s p sends → x ≡ request_of x.port s
    once p sent = go (with_send-from (request_of p s) x sent.announces (subst (In x) sent.is member))
      where
        go : (x ≡ request_of p s) ⊎ In x sent.announces → x ≡ request_of x.port s
        go (inl it) = it ∙ ap (λ (n : ℕ). request_of n s) (sym (ap (λ (y : Sending). y.port) it))
        go (inr other) = let e = sent.all x other in absurd cc

    by : (input : Input) → AreSent s now input sends
        → (input ≡ Expires (timers.Pdelay x.port)) ⊎ (input ≡ PortUp x.port) → x ≡ request_of x.port s
    by input sent (inl e) = once x.port (subst (λ i. AreSent s now i sends) e sent)
    by input sent (inr e) = once x.port (subst (λ i. AreSent s now i sends) e sent)

-- what a system sends says a request that fits, or none, where the requests of its ports fit
pub written_fits : (s s' : SystemState) (now : ℕ) (input : Input) (sends : List Sending)
    → AreSent s now input sends → IsLog s.params.pdelay → (x : Sending) → In x sends
    → (message_kind x.body ≡ Asking → RequestFits (own s x.port) (next_of s x.port))
    → RequestSaysWhatFits (written s' x)
written_fits s s' now input sends sent log x member fits head reads = by (kinds (message_kind x.body))
  where
    kinds : (k : Kind) → (k ≡ Asking) ⊎ (k ≢ Asking)
    kinds Announcing = inr (λ e. absurd cc)
    kinds Telling = inr (λ e. absurd cc)
    kinds Asking = inl refl
    kinds Answering = inr (λ e. absurd cc)

    by : (message_kind x.body ≡ Asking) ⊎ (message_kind x.body ≢ Asking) → RequestFits head.source head.sequence
    by (inr other) = absurd (no_request_read (trace s') x.head x.body other head reads)
    by (inl kind) =
        let it : x ≡ request_of x.port s = request_sent s now input sends sent x member kind in
        let own_head : Head = (request_of x.port s).head in
        let same : head ≡ own_head =
        one_request (written s' x) head own_head reads
        (subst (λ o. Reads o (messages.PdelayReq own_head)) (ap (written s') (sym it))
        (request_written s s' x.port log (fits kind))) in
        subst (λ (h : Head). RequestFits h.source h.sequence) (sym same) (fits kind)

-- so every frame that a port sends does, where its request fits
pub sent_fits : (s s' : SystemState) (now : ℕ) (input : Input) (sends : List Sending) (port : PortId)
    → AreSent s now input sends → IsLog s.params.pdelay → RequestFits (own s port.port) (next_of s port.port)
    → (octets : List ℕ) → In octets (said_at s' port sends) → RequestSaysWhatFits octets
sent_fits s s' now input sends port sent log fits octets member =
    let (x, among, from, is) = said_from s' port sends octets member in
    let at : x.port ≡ port.port = ap (λ (p : PortId). p.port) from in
    subst RequestSaysWhatFits (sym is)
    (written_fits s s' now input sends sent log x among
    (λ kind. subst (λ n. RequestFits (own s n) (next_of s n)) (sym at) fits))
