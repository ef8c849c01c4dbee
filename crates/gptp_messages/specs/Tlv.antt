-- TLVs (IEEE 1588-2019, 14.1): tlvType, lengthField and valueField, one after the other.
use Rattle.std.specs.Prelude.{◌≡◌, ℕ, ◌<◌, ◌^◌, ◌==◌, Bool, nat_lt, not, ◌&&◌, if◌then◌else◌, List, [], ◌∷◌, ◌++◌, length, Option, Some, None}
use Rattle.std.specs.List.{flat_map, AllByRecursion}
use Rattle.byteorder.specs.Endian.{big_bytes}
use Rattle.gptp_messages.specs.declared.tlv.TlvKind.{TlvKind}
use Rattle.gptp_messages.specs.declared.tlv.TlvKind.TheVariants.{PathTrace, Information}
use Rattle.gptp_messages.specs.Frame.{field}

pub record Tlv : Type 0 where
  pub tlv_type : ℕ
  pub value : List ℕ

-- two octets of type, two of length, and the value
abbrev pub spelled : Tlv → List ℕ
spelled t = (big_bytes 2 t.tlv_type ++ big_bytes 2 (length t.value)) ++ t.value

-- type and length fit their octets
pub record Fits (t : Tlv) : Type 0 where
  pub tlv_type : t.tlv_type < 2 ^ 16
  pub length : length t.value < 2 ^ 16

-- the octets are these TLVs and nothing else
pub record AreTlvs (octets : List ℕ) (ts : List Tlv) : Type 0 where
  pub fit : AllByRecursion Fits ts
  pub spelling : octets ≡ flat_map spelled ts

-- the octets are some TLVs and nothing else
abbrev pub HasTlvs : List ℕ → Type 0
HasTlvs octets = (ts : List Tlv) × AreTlvs octets ts

-- the octets begin with this TLV, and the rest comes after it
pub record IsFront (octets : List ℕ) (tlv_type : ℕ) (value rest : List ℕ) : Type 0 where
  pub fits : Fits (record { tlv_type = tlv_type; value = value })
  pub spelling : octets ≡ spelled (record { tlv_type = tlv_type; value = value }) ++ rest

-- the octets begin with a TLV
abbrev pub HasFront : List ℕ → Type 0
HasFront octets = (tlv_type : ℕ) × (value : List ℕ) × (rest : List ℕ) × IsFront octets tlv_type value rest

-- the tlvType of each kind that is looked for (IEEE 1588-2019, table 52)
abbrev pub tlv_type_of : TlvKind → ℕ
tlv_type_of PathTrace = 0x0008
tlv_type_of Information = 0x0003

-- organizationId 00-80-C2 and organizationSubType 00-00-01 stand in front (IEEE 802.1AS-2020, 11.4.4.3.3 and
-- 11.4.4.3.4)
abbrev pub is_information : List ℕ → Bool
is_information value = not (nat_lt (length value) 6) && field 6 0 value == 0x0080C2000001

-- A TLV of an organization is the information TLV where organization and subtype are; all others are passed over.
abbrev pub is_of_kind : TlvKind → Tlv → Bool
is_of_kind PathTrace t = t.tlv_type == tlv_type_of PathTrace
is_of_kind Information t = t.tlv_type == tlv_type_of Information && is_information t.value

-- the value of the first of the TLVs that is of a kind
abbrev pub first_value : TlvKind → List Tlv → Option (List ℕ)
first_value kind [] = None
first_value kind (t ∷ ts) = if is_of_kind kind t then Some t.value else first_value kind ts

-- the first of two values, where there is one
abbrev pub either : Option (List ℕ) → Option (List ℕ) → Option (List ℕ)
either None w = w
either (Some v) w = Some v

-- The octets are TLVs, and this is the value of the first of a kind, if there is one. What comes after
-- it of the same kind is passed over.
pub record FirstTlv (kind : TlvKind) (octets : List ℕ) (value : Option (List ℕ)) : Type 0 where
  pub tlvs : List Tlv
  pub are : AreTlvs octets tlvs
  pub first : value ≡ first_value kind tlvs
