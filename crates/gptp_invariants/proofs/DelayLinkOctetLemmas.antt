-- What octets that a system writes say: a request, a reply, or neither.
use Rattle.std.proofs.Common.{◌≡◌, ◌≢◌, ℕ, List, refl, sym, ◌∙◌, inl, inr, arith}
use Rattle.gptp_messages.specs.declared.head.Head.{Head}
use Rattle.gptp_messages.specs.declared.message.Message.{Message}
use Rattle.gptp_messages.specs.declared.message.Message.TheVariants as messages
use Rattle.gptp_messages.specs.declared.peer_delay.PdelayResp.{PdelayResp}
use Rattle.gptp_messages.specs.declared.peer_delay.PdelayRespFollowUp.{PdelayRespFollowUp}
use Rattle.gptp_messages.specs.Grammar.{MessageFits, Reads, Written}
use Rattle.gptp_messages.specs.Head.{message_type, HeadFits}
use Rattle.gptp_messages.proofs.GrammarLemmas.{one_reading}
use Rattle.gptp_system.specs.declared.sending.Body.{Body}
use Rattle.gptp_system.specs.declared.sending.Body.TheVariants as bodies
use Rattle.gptp_system.specs.Messages.{Answering, Asking, message_kind}
use Rattle.gptp_system.specs.Sends.{sent_message}
use Rattle.gptp_system.proofs.OctetLemmas.{written_reads}
use Rattle.gptp_system.proofs.TypeLemmas.{type_is, type_number}
use Rattle.gptp_pdelay_machine.specs.Messages.{Request, Reply}
use Rattle.gptp_invariants.specs.DelayLinkView.{reads_as_request, follow_up_view, reads_as_reply, response_view}

-- ---- the kind of a message

-- what is written has the messageType of the message, whatever its fields
written_type : (m : Message) → message_type (Written m) ≡ type_number m
written_type (messages.Sync head) = refl
written_type (messages.PdelayReq head) = refl
written_type (messages.PdelayResp m) = refl
written_type (messages.FollowUp m) = refl
written_type (messages.PdelayRespFollowUp m) = refl
written_type (messages.Announce a) = refl

-- so it is read as no message of another type
pub same_type : (m n : Message) → Reads (Written m) n → type_number n ≡ type_number m
same_type m n reads = sym (type_is (Written m) n reads) ∙ written_type m

-- what doesn't ask reads as no Pdelay_Req
pub no_request_read : (path : List ℕ) (head : Head) (body : Body) → message_kind body ≢ Asking → (h : Head)
    → Reads (Written (sent_message path head body)) (messages.PdelayReq h) → ⊥
no_request_read path head (bodies.Announce body) other h reads =
    let e = same_type (sent_message path head (bodies.Announce body)) (messages.PdelayReq h) reads
    in absurd (omega arith)
no_request_read path head bodies.Sync other h reads =
    let e = same_type (sent_message path head bodies.Sync) (messages.PdelayReq h) reads in absurd (omega arith)
no_request_read path head (bodies.FollowUp origin rate) other h reads =
    let e = same_type (sent_message path head (bodies.FollowUp origin rate)) (messages.PdelayReq h) reads in
    absurd (omega arith)
no_request_read path head bodies.PdelayReq other h reads = other refl
no_request_read path head (bodies.PdelayResp stamp requester) other h reads =
    let e = same_type (sent_message path head (bodies.PdelayResp stamp requester)) (messages.PdelayReq h) reads in
    absurd (omega arith)
no_request_read path head (bodies.PdelayRespFollowUp stamp requester) other h reads =
    let e = same_type (sent_message path head (bodies.PdelayRespFollowUp stamp requester))
    (messages.PdelayReq h) reads in
    absurd (omega arith)

pub asks_not : (path : List ℕ) (head : Head) (body : Body) → message_kind body ≢ Asking → (request : Request)
    → reads_as_request (Written (sent_message path head body)) request → ⊥
asks_not path head body other request (h, reads, is) = no_request_read path head body other h reads

-- the number of a reply's type is that of a body that answers
reply_type : (path : List ℕ) (head : Head) (body : Body) → message_kind body ≢ Answering
    → (type_number (sent_message path head body) ≢ 0x3) × (type_number (sent_message path head body) ≢ 0xA)
reply_type path head (bodies.Announce body) other = (λ e. omega arith, λ e. omega arith)
reply_type path head bodies.Sync other = (λ e. omega arith, λ e. omega arith)
reply_type path head (bodies.FollowUp origin rate) other = (λ e. omega arith, λ e. omega arith)
reply_type path head bodies.PdelayReq other = (λ e. omega arith, λ e. omega arith)
reply_type path head (bodies.PdelayResp stamp requester) other = absurd (other refl)
reply_type path head (bodies.PdelayRespFollowUp stamp requester) other = absurd (other refl)

pub replies_not : (path : List ℕ) (head : Head) (body : Body) → message_kind body ≢ Answering → (reply : Reply)
    → reads_as_reply (Written (sent_message path head body)) reply → ⊥
replies_not path head body other reply (inl (m, reads, is)) =
    (reply_type path head body other).0 (sym (same_type (sent_message path head body) (messages.PdelayResp m) reads))
replies_not path head body other reply (inr (m, reads, is)) =
    (reply_type path head body other).1
    (sym (same_type (sent_message path head body) (messages.PdelayRespFollowUp m) reads))

-- ---- what is written reads back

pub request_back : (head : Head) → HeadFits head → Reads (Written (messages.PdelayReq head)) (messages.PdelayReq head)
request_back head fits = written_reads (messages.PdelayReq head) fits

pub response_said : (m : PdelayResp) → MessageFits (messages.PdelayResp m)
    → reads_as_reply (Written (messages.PdelayResp m)) (response_view m)
response_said m fits = inl (m, written_reads (messages.PdelayResp m) fits, refl)

pub follow_up_said : (m : PdelayRespFollowUp) → MessageFits (messages.PdelayRespFollowUp m)
    → reads_as_reply (Written (messages.PdelayRespFollowUp m)) (follow_up_view m)
follow_up_said m fits = inr (m, written_reads (messages.PdelayRespFollowUp m) fits, refl)

-- ---- octets say one thing

-- octets are one request at most
pub one_request : (octets : List ℕ) (h k : Head) → Reads octets (messages.PdelayReq h)
    → Reads octets (messages.PdelayReq k) → h ≡ k
one_request octets h k first second =
    let e = one_reading octets (messages.PdelayReq h) (messages.PdelayReq k) first second in cc
