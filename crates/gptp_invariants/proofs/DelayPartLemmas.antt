-- What an input makes of a port's measuring is what the machine of gptp_pdelay_machine makes of its two parts.
use Rattle.std.proofs.Common.{◌≡◌, ◌≢◌, ◌+◌, ℕ, ℤ, Bool, true, false, nat_lt, Some, refl, sym, ap, ◌∙◌, arith, eq-eqb}
use Rattle.std.specs.Prelude.{if◌then◌else◌, ◌==◌}
use Rattle.std.proofs.lemmas.Bool.Decides.{nat_tests}
use Rattle.gptp_vector.specs.declared.port.PortId.{PortId}
use Rattle.gptp_messages.specs.declared.head.Head.{Head}
use Rattle.gptp_messages.specs.declared.message.Message.{Message}
use Rattle.gptp_messages.specs.declared.message.Message.TheVariants as messages
use Rattle.gptp_messages.specs.declared.peer_delay.PdelayResp.{PdelayResp}
use Rattle.gptp_messages.specs.declared.peer_delay.PdelayRespFollowUp.{PdelayRespFollowUp}
use Rattle.gptp_graph.specs.Snapshot.{PortIdentity}
use Rattle.gptp_pdelay.specs.declared.progress.Progress.{Progress}
use Rattle.gptp_pdelay.specs.declared.progress.Request.{Request}
use Rattle.gptp_pdelay.specs.declared.progress.Response.{Response}
use Rattle.gptp_pdelay.specs.Progress.{is_response_to}
use Rattle.gptp_pdelay.specs.declared.progress.Progress.TheVariants as progresses
use Rattle.gptp_pdelay.specs.Peer.{PeerState, after_interval, given_up, is_open, requested, reset_peer}
use Rattle.gptp_setup.specs.Intervals.{interval_of}
use Rattle.gptp_system.specs.Measures.{Part, part_asked, part_answered, part_heard}
use Rattle.gptp_system.specs.State.{SystemState, stamp_time}
use Rattle.gptp_system.proofs.MeasuringLemmas.{follow_up_keeps, interval_keeps, response_keeps}
use Rattle.gptp_system.proofs.SentLemmas.{interval_next}
use Rattle.gptp_pdelay_machine.specs.Asker.{Closed, Asked, Answered, asks_now, asker_after_interval as gives_up, asker_given_up as lost_one}
use Rattle.gptp_invariants.proofs.DelayLinkLaneLemmas.{same_true}
use Rattle.gptp_invariants.specs.DelayLinkView.{asked_at, asker_view, kept_view, link_identity, progress_view, waits_by, waits_view}

-- what the port asked and what it measured is as it was
abbrev pub AsksAsBefore : ℕ → Part → Part → Type 0
AsksAsBefore period x x' = (asker_view period x' ≡ asker_view period x) × (kept_view x'.peer ≡ kept_view x.peer)

pub asks_still : (period : ℕ) (x x' : Part) → x' ≡ x → AsksAsBefore period x x'
asks_still period x x' is = (ap (asker_view period) is, ap (λ (y : Part). kept_view y.peer) is)

-- ---- the Pdelay timer

-- the peer with how far the request has come, and the same for the machine
closed : (x : Part) → x.peer.progress ≡ progresses.Closed → after_interval x.peer ≡ x.peer
closed x is = ap (λ (p : Progress). if is_open p then given_up x.peer else x.peer) is

opened : (x : Part) → is_open x.peer.progress ≡ true → after_interval x.peer ≡ given_up x.peer
opened x is = ap (λ (b : Bool). if b then given_up x.peer else x.peer) is

-- the last request was sent when the next one is due one period later
asked_now : (now period : ℕ) → asked_at period (Some (now + period)) ≡ now
asked_now now period = omega arith

-- what is seen of a port that asks, whatever it did before
pub asking_seen : (now period : ℕ) (t1 : ℤ) (peer : PeerState) (x : Part)
    → asker_view period (record x { peer = requested t1 peer; pdelay = Some (now + period) })
    ≡ asks_now now peer.next t1 (asker_view period (record x { peer = peer }))
asking_seen now period t1 peer x =
    ap (λ asked. record (asker_view period (record x { peer = peer })) {
      asked = asked;
      progress = Asked peer.next t1;
    }) (asked_now now period)

-- an open request is given up
given_up_seen : (period : ℕ) (x : Part)
    → asker_view period (record x { peer = given_up x.peer })
    ≡ lost_one x.peer.allowed (asker_view period x)
given_up_seen period x = go (nat_lt x.peer.allowed (x.peer.lost + 1))
  where
    go : (b : Bool)
        → asker_view period
        (record x {
          peer = if b then reset_peer x.peer
              else record x.peer { progress = progresses.Closed; lost = x.peer.lost + 1 };
        })
        ≡ (if b then record (asker_view period x) { progress = Closed; measured = false; lost = 0; capable = false }
        else record (asker_view period x) { progress = Closed; lost = x.peer.lost + 1 })
    go true = refl
    go false = refl

-- what an interval that ends leaves
gives_up_seen : (period : ℕ) (x : Part)
    → asker_view period (record x { peer = after_interval x.peer })
    ≡ gives_up x.peer.allowed (progress_view x.peer.progress) (asker_view period x)
gives_up_seen period x = go x.peer.progress refl
  where
    open_one : is_open x.peer.progress ≡ true
        → asker_view period (record x { peer = after_interval x.peer }) ≡ lost_one x.peer.allowed (asker_view period x)
    open_one is = ap (λ q. asker_view period (record x { peer = q })) (opened x is) ∙ given_up_seen period x

    go : (g : Progress) → x.peer.progress ≡ g
        → asker_view period (record x { peer = after_interval x.peer })
        ≡ gives_up x.peer.allowed (progress_view x.peer.progress) (asker_view period x)
    go progresses.Closed is =
        ap (λ q. asker_view period (record x { peer = q })) (closed x is)
        ∙ ap (λ g. gives_up x.peer.allowed (progress_view g) (asker_view period x)) (sym is)
    go (progresses.Sent request) is =
        open_one (ap is_open is)
        ∙ ap (λ g. gives_up x.peer.allowed (progress_view g) (asker_view period x)) (sym is)
    go (progresses.Answered request response) is =
        open_one (ap is_open is)
        ∙ ap (λ g. gives_up x.peer.allowed (progress_view g) (asker_view period x)) (sym is)

-- the port's Pdelay timer expires: what was open is given up, and the next request goes
pub asked_seen : (s : SystemState) (now : ℕ) (x : Part)
    → asker_view (interval_of s.params.pdelay) (part_asked s now after_interval x)
    ≡ asks_now now x.peer.next (stamp_time s now)
    (gives_up x.peer.allowed (progress_view x.peer.progress) (asker_view (interval_of s.params.pdelay) x))
asked_seen s now x =
    let period = interval_of s.params.pdelay in
    asking_seen now period (stamp_time s now) (after_interval x.peer) x
    ∙ ap (λ n. asks_now now n (stamp_time s now) (asker_view period (record x { peer = after_interval x.peer })))
    (interval_next x.peer)
    ∙ ap (asks_now now x.peer.next (stamp_time s now)) (gives_up_seen period x)

-- where no request was open what was measured stays
pub asked_measured : (s : SystemState) (now : ℕ) (x : Part) → progress_view x.peer.progress ≡ Closed
    → kept_view (part_asked s now after_interval x).peer ≡ kept_view x.peer
asked_measured s now x is = go x.peer.progress refl is
  where
    go : (g : Progress) → x.peer.progress ≡ g → progress_view g ≡ Closed
        → kept_view (part_asked s now after_interval x).peer ≡ kept_view x.peer
    go progresses.Closed e shut = ap kept_view (closed x e)
    go (progresses.Sent request) e shut = absurd cc
    go (progresses.Answered request response) e shut = absurd cc

-- and what waits there waits on
pub asked_waits : (s : SystemState) (now : ℕ) (x : Part) → waits_view (part_asked s now after_interval x) ≡ waits_view x
asked_waits s now x = ap (waits_by x.respond) (interval_keeps x.peer)

-- ---- the Respond timer

-- a port that answered asks as before
pub answered_asks : (period : ℕ) (x : Part) → AsksAsBefore period x (part_answered x)
answered_asks period x = (refl, refl)

-- ---- messages

-- where a message is no reply, what the port asked stands as it did
pub heard_asks : (s : SystemState) (now period : ℕ) (m : Message) (x : Part)
    → ((r : PdelayResp) → m ≢ messages.PdelayResp r) → ((r : PdelayRespFollowUp) → m ≢ messages.PdelayRespFollowUp r)
    → AsksAsBefore period x (part_heard s now m x)
heard_asks s now period (messages.Sync head) x response follow_up = (refl, refl)
heard_asks s now period (messages.PdelayReq head) x response follow_up = (refl, refl)
heard_asks s now period (messages.PdelayResp m) x response follow_up = absurd (response m refl)
heard_asks s now period (messages.FollowUp m) x response follow_up = (refl, refl)
heard_asks s now period (messages.PdelayRespFollowUp m) x response follow_up = absurd (follow_up m refl)
heard_asks s now period (messages.Announce a) x response follow_up = (refl, refl)

-- no message starts a Pdelay timer
pub heard_asked : (s : SystemState) (now : ℕ) (m : Message) (x : Part) → (part_heard s now m x).pdelay ≡ x.pdelay
heard_asked s now (messages.Sync head) x = refl
heard_asked s now (messages.PdelayReq head) x = refl
heard_asked s now (messages.PdelayResp m) x = refl
heard_asked s now (messages.FollowUp m) x = refl
heard_asked s now (messages.PdelayRespFollowUp m) x = refl
heard_asked s now (messages.Announce a) x = refl

-- where a message is no request, what waited waits on
pub heard_waits : (s : SystemState) (now : ℕ) (m : Message) (x : Part) → ((head : Head) → m ≢ messages.PdelayReq head)
    → waits_view (part_heard s now m x) ≡ waits_view x
heard_waits s now (messages.Sync head) x other = refl
heard_waits s now (messages.PdelayReq head) x other = absurd (other head refl)
heard_waits s now (messages.PdelayResp m) x other =
    ap (waits_by x.respond) (response_keeps m (stamp_time s now) x.peer)
heard_waits s now (messages.FollowUp m) x other = refl
heard_waits s now (messages.PdelayRespFollowUp m) x other = ap (waits_by x.respond) (follow_up_keeps m x.peer)
heard_waits s now (messages.Announce a) x other = refl

-- ---- a response

-- ports are what their identities say
pub same_identity : (p q : PortId) → link_identity p ≡ link_identity q → p ≡ q
same_identity p q e = λ i. record { clock = (e i).clock; port = (e i).port }

-- the test of a response passes
pub response_passes : (own answering : PortId) (request : Request) (m : PdelayResp) → m.requester ≡ own
    → m.head.sequence ≡ request.sequence → m.head.source ≡ answering → own.clock ≢ answering.clock
    → is_response_to own request m ≡ true
response_passes own answering request m requester sequence source other =
    let first = same_true m.requester own requester in
    let second : (m.head.sequence == request.sequence) ≡ true = eq-eqb m.head.sequence request.sequence sequence in
    let apart : m.head.source.clock ≢ own.clock = λ e. other (sym e ∙ ap (λ (p : PortId). p.clock) source) in
    let third : (m.head.source.clock == own.clock) ≡ false = grind (arith, nat_tests) in
    rw (first, second, third) refl

-- a request that is seen as open is the one that was sent
pub sent_is : (g : Progress) (sequence : ℕ) (t1 : ℤ) → progress_view g ≡ Asked sequence t1
    → (request : Request) × (g ≡ progresses.Sent request) × (request.sequence ≡ sequence) × (request.t1 ≡ t1)
sent_is progresses.Closed sequence t1 e = absurd cc
sent_is (progresses.Sent request) sequence t1 e = (request, refl, cc, cc)
sent_is (progresses.Answered request response) sequence t1 e = absurd cc

-- one that is recorded as answered too, with its response
pub answered_is : (g : Progress) (sequence : ℕ) (source : PortIdentity) (t1 t2 t4 : ℤ)
    → progress_view g ≡ Answered sequence source t1 t2 t4
    → (request : Request) × (response : Response) × (g ≡ progresses.Answered request response)
    × (request.sequence ≡ sequence) × (link_identity response.source ≡ source) × (request.t1 ≡ t1)
    × (response.t2 ≡ t2) × (response.t4 ≡ t4)
answered_is progresses.Closed sequence source t1 t2 t4 e = absurd cc
answered_is (progresses.Sent request) sequence source t1 t2 t4 e = absurd cc
answered_is (progresses.Answered request response) sequence source t1 t2 t4 e =
    (request, response, refl, cc, cc, cc, cc, cc)
