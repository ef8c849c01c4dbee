-- The common header of a message (IEEE 1588-2019, 13.3; IEEE 802.1AS-2020, 10.6.2).
use Rattle.std.specs.Prelude.{ℕ, ◌+◌, ◌/◌, ◌%◌, ◌^◌, ◌<◌, ◌==◌, if◌then◌else◌, List, [], ◌∷◌, ◌++◌, length, FitsSigned}
use Rattle.std.specs.Int.{w8, w64, cast_signed, cast_unsigned}
use Rattle.byteorder.specs.Endian.{big_bytes}
use Rattle.gptp_messages.specs.declared.head.Head.{Head}
use Rattle.gptp_messages.specs.declared.message_type.MessageType.{MessageType}
use Rattle.gptp_messages.specs.MessageType.{number_of}
use Rattle.gptp_messages.specs.Frame.{octet, field, high_nibble, low_nibble, port_at, written_port, PortFits}

abbrev pub major_sdo_id : List ℕ → ℕ
major_sdo_id f = high_nibble (octet 0 f)

abbrev pub message_type : List ℕ → ℕ
message_type f = low_nibble (octet 0 f)

abbrev pub version_ptp : List ℕ → ℕ
version_ptp f = low_nibble (octet 1 f)

abbrev pub message_length : List ℕ → ℕ
message_length f = field 2 2 f

abbrev pub domain_number : List ℕ → ℕ
domain_number f = octet 4 f

abbrev pub minor_sdo_id : List ℕ → ℕ
minor_sdo_id f = octet 5 f

-- The fields of a header. Reserved octets, minorVersionPTP, messageTypeSpecific, controlField and the
-- flags other than twoStep may hold anything.
abbrev pub head_of : List ℕ → Head
head_of f = record {
  source = port_at 20 f;
  sequence = field 2 30 f;
  correction = cast_signed w64 (field 8 8 f);
  log_interval = cast_signed w8 (octet 33 f);
  two_step = octet 6 f / 2 % 2 == 1;
}

-- The 34 octets of a header as they are written: the fields in their places, majorSdoId 1, version 2.1,
-- the flag ptpTimescale, and 0 in every other octet.
abbrev pub written_head : MessageType → ℕ → Head → List ℕ
written_head kind length h =
    (0x10 + number_of kind) ∷ 0x12 ∷ big_bytes 2 length
    ++ (0 ∷ 0 ∷ (if h.two_step then 2 else 0) ∷ 8 ∷ big_bytes 8 (cast_unsigned w64 h.correction))
    ++ (0 ∷ 0 ∷ 0 ∷ 0 ∷ written_port h.source)
    ++ big_bytes 2 h.sequence
    ++ (0 ∷ cast_unsigned w8 h.log_interval ∷ [])

-- each field of a header fits its octets
pub record HeadFits (h : Head) : Type 0 where
  pub source : PortFits h.source
  pub sequence : h.sequence < 2 ^ 16
  pub correction : FitsSigned w64 h.correction
  pub log_interval : FitsSigned w8 h.log_interval

-- The one spelling of a message: its header, whose messageLength is that of the whole, and what comes after it.
abbrev pub written_message : MessageType → Head → List ℕ → List ℕ
written_message kind head behind = written_head kind (34 + length behind) head ++ behind
