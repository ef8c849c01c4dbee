-- Sync and Follow_Up (IEEE 1588-2019, 13.6 and 13.7; IEEE 802.1AS-2020, 11.4.3 and 11.4.4).
use Rattle.std.specs.Prelude.{◌≡◌, ◌⊎◌, ℕ, ℤ, List, [], ◌∷◌, ◌++◌, length, slice_range, Some}
use Rattle.std.specs.Int.{w32, cast_signed, cast_unsigned}
use Rattle.byteorder.specs.Endian.{big_bytes}
use Rattle.gptp_scaled.specs.Stamp.{Timestamp, IsTimestamp}
use Rattle.gptp_scaled.specs.Rate.{FitsRate}
use Rattle.gptp_messages.specs.declared.follow_up.FollowUp.{FollowUp}
use Rattle.gptp_messages.specs.declared.tlv.TlvKind.TheVariants.{Information}
use Rattle.gptp_messages.specs.declared.refused.Refused.{Refused}
use Rattle.gptp_messages.specs.declared.refused.Refused.TheVariants.{Tlv, StampRange}
use Rattle.gptp_messages.specs.Frame.{field}
use Rattle.gptp_messages.specs.Head.{message_length, HeadFits}
use Rattle.gptp_messages.specs.Tlv.{Tlv as TypedValue, FirstTlv, spelled, tlv_type_of}
use Rattle.gptp_messages.specs.Timestamp.{HasStamp, written_stamp}

-- what comes after the header of a Sync: reserved octets
abbrev pub written_sync : List ℕ
written_sync = 0 ∷ 0 ∷ 0 ∷ 0 ∷ 0 ∷ 0 ∷ 0 ∷ 0 ∷ 0 ∷ 0 ∷ []

-- the octets after the timestamp of a Follow_Up, up to messageLength
abbrev pub follow_up_tlvs : List ℕ → List ℕ
follow_up_tlvs f = slice_range f 44 (message_length f)

-- The octets are TLVs, the first Follow_Up information TLV of which has 28 octets and this cumulativeScaledRateOffset
-- (IEEE 802.1AS-2020, 11.4.4.3).
pub record ReadsRate (octets : List ℕ) (rate : ℤ) : Type 0 where
  pub value : List ℕ
  pub first : FirstTlv Information octets (Some value)
  pub long : length value ≡ 28
  pub is : rate ≡ cast_signed w32 (field 4 6 value)

-- the TLVs have no such reading, or else the timestamp is out of its range
abbrev pub RefusesFollowUp : List ℕ → Refused → Type 0
RefusesFollowUp f e =
    ((e ≡ Tlv) × ((rate : ℤ) → ReadsRate (follow_up_tlvs f) rate → ⊥))
    ⊎ ((e ≡ StampRange) × ((rate : ℤ) × ReadsRate (follow_up_tlvs f) rate) × (HasStamp f → ⊥))

-- organizationId, organizationSubType and the rate; gmTimeBaseIndicator, lastGmPhaseChange and scaledLastGmFreqChange
-- are 0
abbrev pub information_tlv : ℤ → TypedValue
information_tlv rate = record {
  tlv_type = tlv_type_of Information;
  value =
      (0x00 ∷ 0x80 ∷ 0xC2 ∷ 0x00 ∷ 0x00 ∷ 0x01 ∷ big_bytes 4 (cast_unsigned w32 rate))
      ++ (0 ∷ 0 ∷ 0 ∷ 0 ∷ 0 ∷ 0 ∷ 0 ∷ 0 ∷ 0 ∷ 0 ∷ 0 ∷ 0 ∷ 0 ∷ 0 ∷ 0 ∷ 0 ∷ 0 ∷ 0 ∷ []);
}

-- what comes after the header of a Follow_Up
abbrev pub written_follow_up : Timestamp → ℤ → List ℕ
written_follow_up origin rate = written_stamp origin ++ spelled (information_tlv rate)

pub record FollowUpFits (m : FollowUp) : Type 0 where
  pub head : HeadFits m.head
  pub origin : IsTimestamp m.origin
  pub rate : FitsRate m.rate
