-- The Announce message (IEEE 1588-2019, 13.5; IEEE 802.1AS-2020, 10.6.3).
use Rattle.std.specs.Prelude.{◌≡◌, ℕ, ◌+◌, ◌*◌, ◌%◌, ◌^◌, ◌<◌, ◌≤◌, List, [], ◌∷◌, ◌++◌, length, Option, Some, None, slice_range, FitsSigned}
use Rattle.std.specs.List.{AllByRecursion}
use Rattle.std.specs.Int.{w16, cast_signed, cast_unsigned}
use Rattle.byteorder.specs.Endian.{big_bytes}
use Rattle.gptp_messages.specs.declared.announce.AnnounceBody.{AnnounceBody}
use Rattle.gptp_messages.specs.declared.announce.AnnounceView.{AnnounceView}
use Rattle.gptp_messages.specs.declared.head.Head.{Head}
use Rattle.gptp_messages.specs.declared.message_type.MessageType.TheVariants.{Announce}
use Rattle.gptp_messages.specs.declared.tlv.TlvKind.TheVariants.{PathTrace}
use Rattle.gptp_messages.specs.Frame.{octet, field}
use Rattle.gptp_messages.specs.Head.{message_length, written_head, HeadFits}
use Rattle.gptp_messages.specs.Path.{path_octets}
use Rattle.gptp_vector.specs.Trace.{clocks}
use Rattle.gptp_messages.specs.Tlv.{FirstTlv, Tlv, spelled, tlv_type_of}

-- the fields between the header and the TLVs
abbrev pub announce_body_of : List ℕ → AnnounceBody
announce_body_of f = record {
  utc_offset = cast_signed w16 (field 2 44 f);
  root = field 14 47 f;
  steps = field 2 61 f;
  time_source = octet 63 f;
}

-- the octets after the fixed part, up to messageLength
abbrev pub announce_tlvs : List ℕ → List ℕ
announce_tlvs f = slice_range f 64 (message_length f)

-- A path trace is a whole number of clockIdentities. No path trace is the empty sequence (profile).
abbrev pub IsPathTrace : Option (List ℕ) → List ℕ → Type 0
IsPathTrace None path = path ≡ []
IsPathTrace (Some value) path = (length value % 8 ≡ 0) × (path ≡ clocks value)

-- the octets are TLVs, the first path trace of which is this path
pub record ReadsPath (octets path : List ℕ) : Type 0 where
  pub value : Option (List ℕ)
  pub first : FirstTlv PathTrace octets value
  pub is : IsPathTrace value path

-- the 30 octets between the header and the TLVs as they are written: the fields in their places, and 0
-- in every other octet
abbrev pub written_body : AnnounceBody → List ℕ
written_body b =
    (0 ∷ 0 ∷ 0 ∷ 0 ∷ 0 ∷ 0 ∷ 0 ∷ 0 ∷ 0 ∷ 0 ∷ big_bytes 2 (cast_unsigned w16 b.utc_offset))
    ++ (0 ∷ big_bytes 14 b.root)
    ++ (big_bytes 2 b.steps ++ b.time_source ∷ [])

-- the path trace TLV of a path, also of the empty one
abbrev pub path_trace : List ℕ → Tlv
path_trace path = record { tlv_type = tlv_type_of PathTrace; value = path_octets path }

-- all of an Announce but the clocks of its path, of which there are n
abbrev pub announce_front : Head → AnnounceBody → ℕ → List ℕ
announce_front head body n =
    (written_head Announce (68 + 8 * n) head ++ written_body body)
    ++ (big_bytes 2 (tlv_type_of PathTrace) ++ big_bytes 2 (8 * n))

-- what comes after the header of an Announce: the fixed part, and the path trace
abbrev pub written_announce : AnnounceBody → List ℕ → List ℕ
written_announce body path = written_body body ++ spelled (path_trace path)

-- each field of a body fits its octets
pub record BodyFits (b : AnnounceBody) : Type 0 where
  pub utc_offset : FitsSigned w16 b.utc_offset
  pub root : b.root < 2 ^ 112
  pub steps : b.steps < 2 ^ 16
  pub time_source : b.time_source < 2 ^ 8

-- clocks of eight octets, and no more of them than a trace holds
pub record PathFits (path : List ℕ) : Type 0 where
  pub clocks : AllByRecursion (λ c. c < 2 ^ 64) path
  pub room : length path ≤ 256

pub record AnnounceFits (a : AnnounceView) : Type 0 where
  pub head : HeadFits a.head
  pub body : BodyFits a.body
  pub path : PathFits a.path
