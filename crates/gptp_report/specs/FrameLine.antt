-- The line of a frame that reached a port (profile).
use Rattle.std.specs.Prelude.{◌≡◌, ◌⊎◌, ℕ, List, ◌++◌, codes, Option, Some, None}
use Rattle.std.specs.Fmt.{decimal}
use Rattle.hex.specs.Hex.{encode_lower}
use Rattle.gptp_messages.specs.declared.message.Message.{Message}
use Rattle.gptp_messages.specs.declared.message.Message.TheVariants as messages
use Rattle.gptp_messages.specs.declared.refused.Refused.{Refused}
use Rattle.gptp_messages.specs.declared.refused.Refused.TheVariants as refusals
use Rattle.gptp_messages.specs.Grammar.{Reads, RefusesFrame}
use Rattle.gptp_system.specs.declared.answer.Answer.{Answer}
use Rattle.gptp_system.specs.declared.answer.Answer.TheVariants as answers
use Rattle.gptp_report.specs.declared.frame_line.FrameType.{FrameType}
use Rattle.gptp_report.specs.declared.frame_line.FrameType.TheVariants as types
use Rattle.gptp_words.specs.Digits.{clock_text}

-- the type of a message (IEEE 802.1AS-2020, 10.6.2.2.1 and 11.4.2.1)
abbrev pub frame_type_of : Message → FrameType
frame_type_of (messages.Announce announce) = types.Announce
frame_type_of (messages.Sync head) = types.Sync
frame_type_of (messages.FollowUp message) = types.FollowUp
frame_type_of (messages.PdelayReq head) = types.PdelayReq
frame_type_of (messages.PdelayResp message) = types.PdelayResp
frame_type_of (messages.PdelayRespFollowUp message) = types.PdelayRespFollowUp

-- the octets read as a message of this type, or as none
abbrev pub IsOfType : List ℕ → FrameType → Type 0
IsOfType octets kind =
    ((message : Message) × Reads octets message × (kind ≡ frame_type_of message))
    ⊎ ((refused : Refused) × RefusesFrame octets refused × (kind ≡ types.Unread))

abbrev pub type_text : FrameType → List ℕ
type_text types.Announce = codes "announce"
type_text types.Sync = codes "sync"
type_text types.FollowUp = codes "follow_up"
type_text types.PdelayReq = codes "pdelay_req"
type_text types.PdelayResp = codes "pdelay_resp"
type_text types.PdelayRespFollowUp = codes "pdelay_resp_follow_up"
type_text types.Unread = codes "unread"

-- the number of a refusal
abbrev pub refusal_number : Refused → ℕ
refusal_number refusals.Short = 1
refusal_number refusals.NotGptp = 2
refusal_number refusals.Version = 3
refusal_number refusals.UnknownType = 4
refusal_number refusals.LengthField = 5
refusal_number refusals.Domain = 6
refusal_number refusals.Tlv = 7
refusal_number refusals.StampRange = 8

-- what became of it; a system that has failed is silent
abbrev pub frame_answer_text : Option Answer → List ℕ
frame_answer_text None = codes "silent"
frame_answer_text (Some (answers.Refused refused)) = codes "refused-" ++ decimal (refusal_number refused)
frame_answer_text (Some answers.Disabled) = codes "disabled"
frame_answer_text (Some answers.Used) = codes "used"
frame_answer_text (Some answers.Ignored) = codes "ignored"
frame_answer_text (Some answers.Superior) = codes "superior"
frame_answer_text (Some answers.Repeated) = codes "repeated"
frame_answer_text (Some answers.Inferior) = codes "inferior"
frame_answer_text (Some answers.Own) = codes "own"
frame_answer_text (Some answers.Steps) = codes "steps"
frame_answer_text (Some answers.Loop) = codes "loop"
frame_answer_text (Some answers.Long) = codes "long"

-- when a frame reached which port of which system, its type, what became of it, and its octets
abbrev pub frame_line : ℕ → ℕ → ℕ → FrameType → Option Answer → List ℕ → List ℕ
frame_line at clock port kind answer octets =
    codes "frame " ++ decimal at
    ++ codes " " ++ clock_text clock
    ++ codes " " ++ decimal port
    ++ codes " " ++ type_text kind
    ++ codes " " ++ frame_answer_text answer
    ++ codes " " ++ encode_lower octets
