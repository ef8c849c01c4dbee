-- Which frame reads as which message, and how every other frame is refused.
use Rattle.std.specs.Prelude.{◌≡◌, ◌≤◌, ◌⊎◌, ℕ, ℤ, ◌==◌, Bool, nat_lt, not, ◌&&◌, if◌then◌else◌, List, [], ◌∷◌, length, Option, Some, None, is_none, ◌++◌}
use Rattle.std.specs.Option.{option_map_or}
use Rattle.gptp_messages.specs.declared.message.Message.{Message}
use Rattle.gptp_messages.specs.declared.message.Message.TheVariants as messages
use Rattle.gptp_messages.specs.declared.message_type.MessageType.{MessageType}
use Rattle.gptp_messages.specs.declared.message_type.MessageType.TheVariants.{Sync, PdelayReq, PdelayResp, FollowUp, PdelayRespFollowUp, Announce}
use Rattle.gptp_messages.specs.declared.refused.Refused.{Refused}
use Rattle.gptp_messages.specs.declared.refused.Refused.TheVariants as refusals
use Rattle.gptp_messages.specs.Head.{head_of, major_sdo_id, message_type, version_ptp, message_length, domain_number, minor_sdo_id, HeadFits, written_message}
use Rattle.gptp_messages.specs.MessageType.{type_of, least_length}
use Rattle.gptp_messages.specs.Timestamp.{stamp_of, HasStamp}
use Rattle.gptp_messages.specs.Announce.{announce_body_of, announce_tlvs, ReadsPath, written_announce, AnnounceFits}
use Rattle.gptp_messages.specs.PeerDelay.{requester_of, written_request, written_response, ResponseFits}
use Rattle.gptp_messages.specs.FollowUp.{follow_up_tlvs, ReadsRate, written_sync, written_follow_up, FollowUpFits}

-- What is tested of a header, in this order: when a test fails, and how the frame is refused then
-- (IEEE 802.1AS-2020, 10.6.2 and 11.4.2; the order is this project's choice).
abbrev pub header_tests : List ℕ → List (Bool × Refused)
header_tests f =
    (nat_lt (length f) 34, refusals.Short)
    ∷ (not (major_sdo_id f == 1 && minor_sdo_id f == 0), refusals.NotGptp)
    ∷ (not (version_ptp f == 2), refusals.Version)
    ∷ (is_none (type_of (message_type f)), refusals.UnknownType)
    ∷ (nat_lt (message_length f) (option_map_or least_length (type_of (message_type f)) 0), refusals.LengthField)
    ∷ (nat_lt (length f) (message_length f), refusals.Short)
    ∷ (not (domain_number f == 0), refusals.Domain)
    ∷ []

-- the refusal of the first test that fails
abbrev pub first_failed : List (Bool × Refused) → Option Refused
first_failed [] = None
first_failed (test ∷ tests) = if test.0 then Some test.1 else first_failed tests

abbrev pub header_fault : List ℕ → Option Refused
header_fault f = first_failed (header_tests f)

-- the header passes its tests, and the frame has the whole of a message of this type
pub record PassesHeader (f : List ℕ) (kind : MessageType) : Type 0 where
  pub header : header_fault f ≡ None
  pub kind_is : type_of (message_type f) ≡ Some kind
  pub least : least_length kind ≤ message_length f
  pub whole : message_length f ≤ length f

-- the TLVs after the fixed part say this: of an Announce the path, of a Follow_Up the rate. Other messages have none.
abbrev pub ReadsTlvs : MessageType → List ℕ → List ℕ → ℤ → Type 0
ReadsTlvs Announce f path rate = ReadsPath (announce_tlvs f) path
ReadsTlvs FollowUp f path rate = ReadsRate (follow_up_tlvs f) rate
ReadsTlvs _ f path rate = Unit {0}

abbrev pub TlvsAreRead : MessageType → List ℕ → Type 0
TlvsAreRead kind f = (path : List ℕ) × (rate : ℤ) × ReadsTlvs kind f path rate

-- a message that has a timestamp has one within its range
abbrev pub StampIsRead : MessageType → List ℕ → Type 0
StampIsRead FollowUp f = HasStamp f
StampIsRead PdelayResp f = HasStamp f
StampIsRead PdelayRespFollowUp f = HasStamp f
StampIsRead _ f = Unit {0}

-- the message of a type that has the fields of the frame at their places, and what its TLVs say
abbrev pub message_of : MessageType → List ℕ → List ℕ → ℤ → Message
message_of Sync f path rate = messages.Sync (head_of f)
message_of PdelayReq f path rate = messages.PdelayReq (head_of f)
message_of PdelayResp f path rate =
    messages.PdelayResp (record { head = head_of f; stamp = stamp_of f; requester = requester_of f })
message_of FollowUp f path rate =
    messages.FollowUp (record { head = head_of f; origin = stamp_of f; rate = rate })
message_of PdelayRespFollowUp f path rate =
    messages.PdelayRespFollowUp (record { head = head_of f; stamp = stamp_of f; requester = requester_of f })
message_of Announce f path rate =
    messages.Announce (record { head = head_of f; body = announce_body_of f; path = path })

-- A frame reads as a message: no test of the header fails, TLVs and timestamp are read, and each field is what stands
-- at its place.
pub record Reads (f : List ℕ) (m : Message) : Type 0 where
  pub kind : MessageType
  pub header : PassesHeader f kind
  pub path : List ℕ
  pub rate : ℤ
  pub tlvs : ReadsTlvs kind f path rate
  pub stamp : StampIsRead kind f
  pub is : m ≡ message_of kind f path rate

-- the header passes, and what comes after the fixed part has no reading
pub record RefusesTlvs (f : List ℕ) (e : Refused) : Type 0 where
  pub kind : MessageType
  pub header : PassesHeader f kind
  pub unread : TlvsAreRead kind f → ⊥
  pub is : e ≡ refusals.Tlv

-- header and TLVs pass, and the timestamp is out of its range
pub record RefusesStamp (f : List ℕ) (e : Refused) : Type 0 where
  pub kind : MessageType
  pub header : PassesHeader f kind
  pub tlvs : TlvsAreRead kind f
  pub unread : StampIsRead kind f → ⊥
  pub is : e ≡ refusals.StampRange

-- a frame is refused by the first test that it fails
abbrev pub RefusesFrame : List ℕ → Refused → Type 0
RefusesFrame f e = (header_fault f ≡ Some e) ⊎ (RefusesTlvs f e ⊎ RefusesStamp f e)

-- the one spelling of a message
abbrev pub Written : Message → List ℕ
Written (messages.Sync head) = written_message Sync head written_sync
Written (messages.PdelayReq head) = written_message PdelayReq head written_request
Written (messages.PdelayResp m) = written_message PdelayResp m.head (written_response m.stamp m.requester)
Written (messages.FollowUp m) = written_message FollowUp m.head (written_follow_up m.origin m.rate)
Written (messages.PdelayRespFollowUp m) =
    written_message PdelayRespFollowUp m.head (written_response m.stamp m.requester)
Written (messages.Announce a) = written_message Announce a.head (written_announce a.body a.path)

-- the path of an Announce has no more clocks than a trace holds
abbrev pub PathHasRoom : Message → Type 0
PathHasRoom (messages.Announce a) = length a.path ≤ 256
PathHasRoom _ = Unit {0}

-- a message whose fields fit their octets
abbrev pub MessageFits : Message → Type 0
MessageFits (messages.Sync head) = HeadFits head
MessageFits (messages.PdelayReq head) = HeadFits head
MessageFits (messages.PdelayResp m) = ResponseFits m.head m.stamp m.requester
MessageFits (messages.FollowUp m) = FollowUpFits m
MessageFits (messages.PdelayRespFollowUp m) = ResponseFits m.head m.stamp m.requester
MessageFits (messages.Announce a) = AnnounceFits a

-- What is written reads as it was, whatever octets follow, and as nothing else.
pub record ReadsBack (m : Message) (rest : List ℕ) : Type 0 where
  pub same : Reads (Written m ++ rest) m
  pub only : (n : Message) → Reads (Written m ++ rest) n → n ≡ m
  pub never_refused : (e : Refused) → RefusesFrame (Written m ++ rest) e → ⊥
