-- How far a request has come, and which messages are for it (IEEE 802.1AS-2020, 11.2.19).
use Rattle.std.specs.Prelude.{◌==◌, ◌&&◌, not, Bool, ℤ, ⊤}
use Rattle.gptp_vector.specs.declared.port.PortId.{PortId}
use Rattle.gptp_messages.specs.declared.peer_delay.PdelayResp.{PdelayResp}
use Rattle.gptp_messages.specs.declared.peer_delay.PdelayRespFollowUp.{PdelayRespFollowUp}
use Rattle.gptp_pdelay.specs.declared.progress.Request.{Request}
use Rattle.gptp_pdelay.specs.declared.progress.Response.{Response}
use Rattle.gptp_pdelay.specs.declared.progress.Progress.{Progress}
use Rattle.gptp_pdelay.specs.declared.progress.Progress.TheVariants.{Closed, Sent, Answered}
use Rattle.gptp_pdelay.specs.Clock.{IsTime}
use Rattle.gptp_pdelay.specs.Exchange.{IsCarriedTime, carried_time}

-- two ports are the same
abbrev pub same_identity : PortId → PortId → Bool
same_identity a b = a.clock == b.clock && a.port == b.port

-- a response is for this request of the port: it names the port and the request, and comes from another clock
abbrev pub is_response_to : PortId → Request → PdelayResp → Bool
is_response_to own request r =
    same_identity r.requester own && r.head.sequence == request.sequence && not (r.head.source.clock == own.clock)

-- what is kept of a response that was received at t4
abbrev pub response_of : PdelayResp → ℤ → Response
response_of r t4 = record { source = r.head.source; t2 = carried_time r.stamp r.head.correction; t4 = t4 }

-- a follow-up is for this request of the port and its response: it names the port and the request, and comes from
-- the port that responded
abbrev pub is_follow_up_to : PortId → Request → Response → PdelayRespFollowUp → Bool
is_follow_up_to own request response f =
    same_identity f.requester own && f.head.sequence == request.sequence && same_identity f.head.source response.source

-- what the times of a request that is open can be
abbrev pub HasTimes : Progress → Type 0
HasTimes Closed = ⊤
HasTimes (Sent request) = IsTime request.t1
HasTimes (Answered request response) = IsTime request.t1 × IsCarriedTime response.t2 × IsTime response.t4
