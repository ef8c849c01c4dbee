-- Which messages a step sends (IEEE 802.1AS-2020, 10.3.16, 11.2.14, 11.2.15, 11.2.19 and 11.2.20).
use Rattle.std.specs.Prelude.{◌≡◌, ℕ, List}
use Rattle.gptp_lists.specs.Members.{In}
use Rattle.gptp_system.specs.declared.sending.Body.{Body}
use Rattle.gptp_system.specs.declared.sending.Body.TheVariants as bodies
use Rattle.gptp_system.specs.declared.sending.Sending.{Sending}
use Rattle.gptp_setup.specs.declared.timer.Timer.TheVariants as timers
use Rattle.gptp_system.specs.State.{SystemState}
use Rattle.gptp_system.specs.Sends.{with_send}
use Rattle.gptp_system.specs.Measuring.{RespondsIf, owed_at, request_of}
use Rattle.gptp_system.specs.Input.{Input, PortUp, PortDown, Frame, Expires, Priority}

-- what a message serves: it announces, tells time, asks a neighbour or answers one
pub data Kind : Type 0 where
  Announcing Telling Asking Answering : Kind

abbrev pub message_kind : Body → Kind
message_kind (bodies.Announce announce) = Announcing
message_kind bodies.Sync = Telling
message_kind (bodies.FollowUp origin rate) = Telling
message_kind bodies.PdelayReq = Asking
message_kind (bodies.PdelayResp stamp requester) = Answering
message_kind (bodies.PdelayRespFollowUp stamp requester) = Answering

-- all serve this
abbrev pub AllAre : Kind → List Sending → Type 0
AllAre kind sends = (x : Sending) → In x sends → message_kind x.body ≡ kind

-- one request of this port goes, and else Announces alone
pub record AsksOnce (s : SystemState) (p : ℕ) (sends : List Sending) : Type 0 where
  pub announces : List Sending
  pub all : AllAre Announcing announces
  pub is : sends ≡ with_send (request_of p s) announces

-- What an input sends. A port asks when its link comes up and when its timer expires, and answers when that timer
-- expires; the Sync and the Relay timer tell time; all else can only announce.
abbrev pub AreSent : SystemState → ℕ → Input → List Sending → Type 0
AreSent s now (PortUp p) sends = AsksOnce s p sends
AreSent s now (PortDown p) sends = AllAre Announcing sends
AreSent s now (Frame p octets) sends = AllAre Announcing sends
AreSent s now (Expires (timers.Announce p)) sends = AllAre Announcing sends
AreSent s now (Expires (timers.Age p)) sends = AllAre Announcing sends
AreSent s now (Expires (timers.Pdelay p)) sends = AsksOnce s p sends
AreSent s now (Expires (timers.Respond p)) sends = RespondsIf (owed_at s p) p now s sends
AreSent s now (Expires timers.Sync) sends = AllAre Telling sends
AreSent s now (Expires timers.Relay) sends = AllAre Telling sends
AreSent s now (Expires timers.Lapse) sends = AllAre Announcing sends
AreSent s now (Priority value) sends = AllAre Announcing sends
