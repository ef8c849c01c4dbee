-- The messages that a system sends (IEEE 802.1AS-2020, 10.6 and 11.4): the fields that they have.
use Rattle.std.specs.Prelude.{ℕ, ◌+◌, ◌%◌, ℤ, pos, Bool, true, false, List, [], ◌∷◌, if◌then◌else◌, ◌++◌, take, drop}
use Rattle.std.specs.Prelude.{nat_le}
use Rattle.gptp_vector.specs.declared.port.PortId.{PortId}
use Rattle.gptp_scaled.specs.Stamp.{Timestamp}
use Rattle.gptp_messages.specs.declared.announce.AnnounceBody.{AnnounceBody}
use Rattle.gptp_messages.specs.declared.head.Head.{Head}
use Rattle.gptp_messages.specs.declared.message.Message.{Message}
use Rattle.gptp_messages.specs.declared.message.Message.TheVariants as messages
use Rattle.gptp_pdelay.specs.declared.answer.Answer.{Answer}
use Rattle.gptp_system.specs.declared.port.Port.{Port}
use Rattle.gptp_system.specs.declared.sending.Sending.{Sending}
use Rattle.gptp_system.specs.declared.sending.Body.{Body}
use Rattle.gptp_system.specs.declared.sending.Body.TheVariants as bodies
use Rattle.gptp_system.specs.declared.sending.Sent.{Sent}
use Rattle.gptp_system.specs.declared.sending.Sent.TheVariants as sents

-- the header of a message that a port sends
abbrev pub head_from : PortId → ℕ → ℤ → ℤ → Bool → Head
head_from source sequence correction log_interval two_step = record {
  source = source;
  sequence = sequence;
  correction = correction;
  log_interval = log_interval;
  two_step = two_step;
}

-- sequence numbers wrap
abbrev pub next_sequence : ℕ → ℕ
next_sequence n = (n + 1) % 65536

-- what an Announce says: the root and the steps that the system has chosen; currentUtcOffset is 37, and timeSource
-- INTERNAL_OSCILLATOR (10.6.3; the values are of the profile)
abbrev pub announce_body : ℕ → ℕ → AnnounceBody
announce_body root steps = record { utc_offset = pos 37; root = root; steps = steps; time_source = 0xA0 }

-- the Announce of a port
abbrev pub announcement : PortId → ℕ → ℕ → Port → Sending
announcement own root steps q = record {
  port = own.port;
  head = head_from own q.announces (pos 0) q.log_interval false;
  body = bodies.Announce (announce_body root steps);
}

-- the Pdelay_Req of a port (11.4.5)
abbrev pub pdelay_request : PortId → ℤ → ℕ → Sending
pdelay_request own log_interval sequence = record {
  port = own.port;
  head = head_from own sequence (pos 0) log_interval false;
  body = bodies.PdelayReq;
}

-- logMessageInterval of the responses, which have none (IEEE 1588-2019, table 42)
abbrev pub no_interval : ℤ
no_interval = pos 0x7F

-- the Pdelay_Resp to a request: when it came, the part below a nanosecond as correctionField (11.4.6; profile)
abbrev pub pdelay_response : PortId → Answer → Timestamp → ℕ → Sending
pdelay_response own answer stamp rest = record {
  port = own.port;
  head = head_from own answer.sequence (pos rest) no_interval true;
  body = bodies.PdelayResp stamp answer.requester;
}

-- the Pdelay_Resp_Follow_Up to a request: when the response went (11.4.7)
abbrev pub response_follow_up : PortId → Answer → Timestamp → ℕ → Sending
response_follow_up own answer stamp rest = record {
  port = own.port;
  head = head_from own answer.sequence (pos rest) no_interval false;
  body = bodies.PdelayRespFollowUp stamp answer.requester;
}

-- The message of a send: an Announce has this path, that of its system as the call leaves it (10.3.9.23).
abbrev pub sent_message : List ℕ → Head → Body → Message
sent_message path head (bodies.Announce body) = messages.Announce (record { head = head; body = body; path = path })
sent_message path head bodies.Sync = messages.Sync head
sent_message path head (bodies.FollowUp origin rate) =
    messages.FollowUp (record { head = head; origin = origin; rate = rate })
sent_message path head bodies.PdelayReq = messages.PdelayReq head
sent_message path head (bodies.PdelayResp stamp requester) =
    messages.PdelayResp (record { head = head; stamp = stamp; requester = requester })
sent_message path head (bodies.PdelayRespFollowUp stamp requester) =
    messages.PdelayRespFollowUp (record { head = head; stamp = stamp; requester = requester })

-- the message that was sent, whose path isn't needed
abbrev pub message_sent : Sent → Message
message_sent (sents.Sync head) = messages.Sync head
message_sent (sents.PdelayReq head) = messages.PdelayReq head
message_sent (sents.PdelayResp m) = messages.PdelayResp m
message_sent (sents.FollowUp m) = messages.FollowUp m
message_sent (sents.PdelayRespFollowUp m) = messages.PdelayRespFollowUp m

-- how many sends in front are of ports up to this one
abbrev pub sends_up_to : ℕ → List Sending → ℕ
sends_up_to p [] = 0
sends_up_to p (x ∷ xs) = if nat_le x.port p then 1 + sends_up_to p xs else 0

-- a send after those of its own port and the lower ones
abbrev pub with_send : Sending → List Sending → List Sending
with_send x xs = take (sends_up_to x.port xs) xs ++ x ∷ drop (sends_up_to x.port xs) xs

-- how many of the sends are such
abbrev pub count_such : (Sending → Bool) → List Sending → ℕ
count_such such [] = 0
count_such such (x ∷ xs) = if such x then 1 + count_such such xs else count_such such xs
