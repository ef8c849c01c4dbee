-- The messages that are read (IEEE 1588-2019, table 36; IEEE 802.1AS-2020, 10.6.3 and 11.4.3 to 11.4.7).
use Rattle.std.specs.Prelude.{ℕ, ◌==◌, if◌then◌else◌, Option, Some, None}
use Rattle.gptp_messages.specs.declared.message_type.MessageType.{MessageType}
use Rattle.gptp_messages.specs.declared.message_type.MessageType.TheVariants.{Sync, PdelayReq, PdelayResp, FollowUp, PdelayRespFollowUp, Announce}

-- the messageType of a message
abbrev pub number_of : MessageType → ℕ
number_of Sync = 0x0
number_of PdelayReq = 0x2
number_of PdelayResp = 0x3
number_of FollowUp = 0x8
number_of PdelayRespFollowUp = 0xA
number_of Announce = 0xB

-- the message that a messageType stands for
abbrev pub type_of : ℕ → Option MessageType
type_of n =
    if n == 0x0 then Some Sync
    else if n == 0x2 then Some PdelayReq
    else if n == 0x3 then Some PdelayResp
    else if n == 0x8 then Some FollowUp
    else if n == 0xA then Some PdelayRespFollowUp
    else if n == 0xB then Some Announce
    else None

-- the least messageLength: the header and the fixed part after it, and of a Follow_Up its information TLV too
abbrev pub least_length : MessageType → ℕ
least_length Sync = 44
least_length PdelayReq = 54
least_length PdelayResp = 54
least_length FollowUp = 76
least_length PdelayRespFollowUp = 54
least_length Announce = 64
