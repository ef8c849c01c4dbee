-- What is written reads as it was.
use Rattle.std.proofs.Common.{◌≡◌, ℕ, ℤ, pos, ◌+◌, ◌*◌, ◌-◌, ◌/◌, ◌%◌, ◌^◌, ◌<◌, ◌≤◌, Bool, true, false, List, [], ◌∷◌, ◌++◌, length, drop, Some, None, refl, sym, ap, ◌∙◌, append_assoc, arith}
use Rattle.std.specs.Prelude.{◌==◌, if◌then◌else◌, slice_range}
use Rattle.std.specs.Int.{w8, w16, w32, w64, cast_signed, cast_unsigned}
use Rattle.std.proofs.lemmas.Bool.Decides.{nat_tests}
use Rattle.std.proofs.lemmas.Int.{to_z-of_z}
use Rattle.std.proofs.lemmas.List.{append-nil, length-append, take_at}
use Rattle.std.proofs.Math.Facts.{Fits-of_z}
use Rattle.byteorder.specs.Endian.{big_bytes}
use Rattle.gptp_messages.specs.declared.announce.AnnounceBody.{AnnounceBody}
use Rattle.gptp_messages.specs.declared.announce.AnnounceView.{AnnounceView}
use Rattle.gptp_scaled.specs.Stamp.{Timestamp, IsTimestamp}
use Rattle.gptp_messages.specs.declared.follow_up.FollowUp.{FollowUp as FollowUpFields}
use Rattle.gptp_messages.specs.declared.head.Head.{Head}
use Rattle.gptp_vector.specs.declared.port.PortId.{PortId}
use Rattle.gptp_messages.specs.declared.message.Message.{Message}
use Rattle.gptp_messages.specs.declared.message.Message.TheVariants as messages
use Rattle.gptp_messages.specs.declared.message_type.MessageType.{MessageType}
use Rattle.gptp_messages.specs.declared.message_type.MessageType.TheVariants.{Sync, PdelayReq, PdelayResp, FollowUp, PdelayRespFollowUp, Announce}
use Rattle.gptp_messages.specs.declared.tlv.TlvKind.{TlvKind}
use Rattle.gptp_messages.specs.declared.tlv.TlvKind.TheVariants.{PathTrace, Information}
use Rattle.gptp_messages.specs.Frame.{octet, field, port_at, written_port, PortFits}
use Rattle.gptp_messages.specs.Head.{head_of, message_length, written_head, written_message, HeadFits}
use Rattle.gptp_messages.specs.MessageType.{number_of, type_of, least_length}
use Rattle.gptp_messages.specs.Path.{path_octets}
use Rattle.gptp_messages.specs.Tlv.{Tlv, Fits, FirstTlv, spelled, is_of_kind, tlv_type_of}
use Rattle.gptp_messages.specs.Announce.{announce_body_of, announce_tlvs, ReadsPath, path_trace, announce_front, written_body, written_announce, AnnounceFits}
use Rattle.gptp_messages.specs.Timestamp.{stamp_of, HasStamp, written_stamp}
use Rattle.gptp_messages.specs.PeerDelay.{requester_of, written_request, written_response, ResponseFits}
use Rattle.gptp_messages.specs.FollowUp.{follow_up_tlvs, ReadsRate, information_tlv, written_sync, written_follow_up, FollowUpFits}
use Rattle.gptp_messages.specs.Grammar.{header_fault, PassesHeader, Reads, ReadsTlvs, StampIsRead, Written, MessageFits, ReadsBack, message_of}
use Rattle.gptp_messages.proofs.PathLemmas.{field-big_bytes, length-path_octets, clocks-path_octets}
use Rattle.gptp_messages.proofs.GrammarLemmas.{one_reading, never_both}

-- an Announce is its front and then the clocks of its path
pub written_announce-front : (head : Head) (body : AnnounceBody) (path : List ℕ)
    → written_message Announce head (written_announce body path)
    ≡ announce_front head body (length path) ++ path_octets path
written_announce-front head body path =
    let octets = length-path_octets path in
    let size : 34 + length (written_announce body path) ≡ 68 + 8 * length path = omega arith in
    let fixed = written_head Announce (68 + 8 * length path) head ++ written_body body in
    let trace = (big_bytes 2 (tlv_type_of PathTrace) ++ big_bytes 2 (8 * length path)) in
    ap (λ (n : ℕ). written_head Announce n head ++ written_announce body path) size
    ∙ sym (append_assoc (written_head Announce (68 + 8 * length path) head) (written_body body)
    (spelled (path_trace path)))
    ∙ ap (λ (n : ℕ). fixed ++ ((big_bytes 2 (tlv_type_of PathTrace) ++ big_bytes 2 n) ++ path_octets path)) octets
    ∙ sym (append_assoc fixed trace (path_octets path))

pub length-written_announce : (head : Head) (body : AnnounceBody) (path : List ℕ)
    → length (written_message Announce head (written_announce body path)) ≡ 68 + 8 * length path
length-written_announce head body path = let octets = length-path_octets path in omega arith

-- a number is read where its octets stand
field_at : (n i x : ℕ) (f behind : List ℕ) → drop i f ≡ big_bytes n x ++ behind → x < 256 ^ n → field n i f ≡ x
unfolding field
field_at n i x f behind stands fits = ap (field n 0) stands ∙ field-big_bytes n x behind fits

-- so is a portIdentity
port_back : (i : ℕ) (p : PortId) (f behind : List ℕ) → drop i f ≡ written_port p ++ behind
    → drop (i + 8) f ≡ big_bytes 2 p.port ++ behind
    → PortFits p → port_at i f ≡ p
port_back i p f behind clock-stands port-stands fits =
    let clock : field 8 i f ≡ p.clock = field_at 8 i p.clock f (big_bytes 2 p.port ++ behind) clock-stands fits.clock in
    let port : field 2 (i + 8) f ≡ p.port = field_at 2 (i + 8) p.port f behind port-stands fits.port in
    λ j. record { clock = clock j; port = port j }

-- the flag twoStep is read as it is written
two_step_back : (b : Bool) → ((if b then 2 else 0) / 2 % 2 == 1) ≡ b
two_step_back true = refl
two_step_back false = refl

-- a message is of the type whose number it has
kind_back : (kind : MessageType) → ((0x10 + number_of kind) / 16 ≡ 1)
    × (type_of ((0x10 + number_of kind) % 16) ≡ Some kind)
kind_back Sync = (refl, refl)
kind_back PdelayReq = (refl, refl)
kind_back PdelayResp = (refl, refl)
kind_back FollowUp = (refl, refl)
kind_back PdelayRespFollowUp = (refl, refl)
kind_back Announce = (refl, refl)

-- the fields of a header fit, and what comes after it has the length that the type asks for
pub record Spells (kind : MessageType) (h : Head) (behind : List ℕ) : Type 0 where
  pub head : HeadFits h
  pub least : least_length kind ≤ 34 + length behind
  pub short : 34 + length behind < 2 ^ 16

-- ---- any message, as it is written before any octets

module _ (kind : MessageType) (head : Head) (behind rest : List ℕ) (spells : Spells kind head behind) where
  abbrev f : List ℕ
  f = written_message kind head behind ++ rest

  length_is : message_length f ≡ 34 + length behind
  length_is = field_at 2 2 (34 + length behind) f _ refl spells.short

  pub head_is : head_of f ≡ head
  head_is =
      let source : port_at 20 f ≡ head.source = port_back 20 head.source f _ refl refl spells.head.source in
      let sequence : field 2 30 f ≡ head.sequence = field_at 2 30 head.sequence f _ refl spells.head.sequence in
      let correction : cast_signed w64 (field 8 8 f) ≡ head.correction =
      ap (cast_signed w64)
      (field_at 8 8 (cast_unsigned w64 head.correction) f _ refl (Fits-of_z spells.head.correction).fits)
      ∙ to_z-of_z w64 head.correction spells.head.correction in
      let log_interval : cast_signed w8 (octet 33 f)
      ≡ head.log_interval = to_z-of_z w8 head.log_interval spells.head.log_interval in
      λ i. record {
        source = source i;
        sequence = sequence i;
        correction = correction i;
        log_interval = log_interval i;
        two_step = two_step_back head.two_step i;
      }

  whole : 34 + length behind ≤ length f
  whole = let size = length-append behind rest in omega arith

  header_is : header_fault f ≡ None
  header_is =
      let k = kind_back kind in
      let size = length-append behind rest in
      let least = spells.least in
      rw (length_is, k.0, k.1) (grind (arith, nat_tests))

  pub passes : PassesHeader f kind
  passes = record {
    header = header_is;
    kind_is = (kind_back kind).1;
    least = rw length_is spells.least;
    whole = rw length_is whole;
  }

  -- TLVs that stand in the end of it are those up to messageLength
  tlvs_are : (n : ℕ) (tlvs : List ℕ) → n + length tlvs ≡ 34 + length behind → drop n f ≡ tlvs ++ rest
      → slice_range f n (message_length f) ≡ tlvs
  tlvs_are n tlvs size stands =
      let count : message_length f - n ≡ length tlvs = rw length_is (omega arith) in
      rw (count, stands) (take_at tlvs rest (length tlvs) refl)

-- octets that spell one TLV have it as the first of its kind
one_tlv : (kind : TlvKind) (t : Tlv) (octets : List ℕ) → Fits t → is_of_kind kind t ≡ true → octets ≡ spelled t
    → FirstTlv kind octets (Some t.value)
one_tlv kind t octets fits is spelling =
    record {
      tlvs = t ∷ [];
      are = record { fit = (fits, tt); spelling = spelling ∙ sym (append-nil (spelled t)) };
      first = rw is refl;
    }

-- ---- an Announce

module _ (a : AnnounceView) (rest : List ℕ) (fits : AnnounceFits a) where
  abbrev announce : List ℕ
  announce = written_message Announce a.head (written_announce a.body a.path) ++ rest

  announce-spells : Spells Announce a.head (written_announce a.body a.path)
  announce-spells =
      let octets = length-path_octets a.path in
      let room = fits.path.room in
      record { head = fits.head; least = omega arith; short = omega arith }

  announce-body : announce_body_of announce ≡ a.body
  announce-body =
      let utc_offset : cast_signed w16 (field 2 44 announce) ≡ a.body.utc_offset =
      ap (cast_signed w16)
      (field_at 2 44 (cast_unsigned w16 a.body.utc_offset) announce _ refl (Fits-of_z fits.body.utc_offset).fits)
      ∙ to_z-of_z w16 a.body.utc_offset fits.body.utc_offset in
      let root : field 14 47 announce ≡ a.body.root = field_at 14 47 a.body.root announce _ refl fits.body.root in
      let steps : field 2 61 announce ≡ a.body.steps = field_at 2 61 a.body.steps announce _ refl fits.body.steps in
      λ i. record { utc_offset = utc_offset i; root = root i; steps = steps i; time_source = a.body.time_source }

  announce-path : ReadsPath (announce_tlvs announce) a.path
  announce-path =
      let octets = length-path_octets a.path in
      let room = fits.path.room in
      let trace = path_trace a.path in
      let tlvs : announce_tlvs announce ≡ spelled trace =
      tlvs_are Announce a.head (written_announce a.body a.path) rest announce-spells 64 (spelled trace) (omega arith)
      refl in
      record {
        value = Some (path_octets a.path);
        first = one_tlv PathTrace trace (announce_tlvs announce)
            (record { tlv_type = omega arith; length = omega arith }) refl tlvs;
        is = (omega arith, sym (clocks-path_octets a.path fits.path.clocks));
      }

  announce-reads : Reads announce (messages.Announce a)
  announce-reads =
      let head = head_is Announce a.head (written_announce a.body a.path) rest announce-spells in
      let body = announce-body in
      record {
        kind = Announce;
        header = passes Announce a.head (written_announce a.body a.path) rest announce-spells;
        path = a.path;
        rate = pos 0;
        tlvs = announce-path;
        stamp = tt;
        is = λ i. messages.Announce (record { head = sym head i; body = sym body i; path = a.path });
      }

-- ---- what has nothing but its header

module _ (kind : MessageType) (make : Head → Message) (head : Head) (behind rest : List ℕ)
    (spells : Spells kind head behind) where
  abbrev bare : List ℕ
  bare = written_message kind head behind ++ rest

  bare-reads : ReadsTlvs kind bare [] (pos 0) → StampIsRead kind bare
      → make (head_of bare) ≡ message_of kind bare [] (pos 0) → Reads bare (make head)
  bare-reads tlvs stamp made =
      record {
        kind = kind;
        header = passes kind head behind rest spells;
        path = [];
        rate = pos 0;
        tlvs = tlvs;
        stamp = stamp;
        is = ap make (sym (head_is kind head behind rest spells)) ∙ made;
      }

-- ---- what has a timestamp after its header

module _ (kind : MessageType) (head : Head) (t : Timestamp) (more rest : List ℕ) (fits : IsTimestamp t) where
  abbrev stamped : List ℕ
  stamped = written_message kind head (written_stamp t ++ more) ++ rest

  nanos-back : field 4 40 stamped ≡ t.nanos
  nanos-back = let small = fits.nanos in field_at 4 40 t.nanos stamped _ refl (omega arith)

  stamp-back : stamp_of stamped ≡ t
  stamp-back =
      let seconds : field 6 34 stamped ≡ t.seconds = field_at 6 34 t.seconds stamped _ refl fits.seconds in
      let nanos = nanos-back in
      λ i. record { seconds = seconds i; nanos = nanos i }

  stamp-in_range : HasStamp stamped
  stamp-in_range = rw nanos-back fits.nanos

-- ---- a response

module _ (kind : MessageType) (make : Head → Timestamp → PortId → Message) (h : Head) (t : Timestamp) (p : PortId)
    (rest : List ℕ) (size : least_length kind ≡ 54) (fits : ResponseFits h t p) where
  abbrev response : List ℕ
  response = written_message kind h (written_response t p) ++ rest

  response-spells : Spells kind h (written_response t p)
  response-spells = record { head = fits.head; least = omega arith; short = omega arith }

  -- of either type, it reads as the message that is made of these three
  response-reads : ReadsTlvs kind response [] (pos 0) → (HasStamp response → StampIsRead kind response)
      → make (head_of response) (stamp_of response) (requester_of response) ≡ message_of kind response [] (pos 0)
      → Reads response (make h t p)
  response-reads tlvs read made =
      let head = head_is kind h (written_response t p) rest response-spells in
      let stamp = stamp-back kind h t (written_port p) rest fits.stamp in
      let requester : requester_of response ≡ p = port_back 44 p response _ refl refl fits.requester in
      record {
        kind = kind;
        header = passes kind h (written_response t p) rest response-spells;
        path = [];
        rate = pos 0;
        tlvs = tlvs;
        stamp = read (stamp-in_range kind h t (written_port p) rest fits.stamp);
        is = (λ i. make (sym head i) (sym stamp i) (sym requester i)) ∙ made;
      }

-- ---- a Follow_Up

information-is : (rate : ℤ) → is_of_kind Information (information_tlv rate) ≡ true
unfolding field
information-is rate = refl

module _ (m : FollowUpFields) (rest : List ℕ) (fits : FollowUpFits m) where
  abbrev follow_up : List ℕ
  follow_up = written_message FollowUp m.head (written_follow_up m.origin m.rate) ++ rest

  follow_up-spells : Spells FollowUp m.head (written_follow_up m.origin m.rate)
  follow_up-spells = record { head = fits.head; least = omega arith; short = omega arith }

  follow_up-rate : ReadsRate (follow_up_tlvs follow_up) m.rate
  follow_up-rate =
      let tlv = information_tlv m.rate in
      let tlvs : follow_up_tlvs follow_up ≡ spelled tlv =
      tlvs_are FollowUp m.head (written_follow_up m.origin m.rate) rest follow_up-spells 44 (spelled tlv) (omega arith)
      refl in
      record {
        value = tlv.value;
        first = one_tlv Information tlv (follow_up_tlvs follow_up)
            (record { tlv_type = omega arith; length = omega arith }) (information-is m.rate) tlvs;
        long = refl;
        is = sym (ap (cast_signed w32)
            (field_at 4 6 (cast_unsigned w32 m.rate) tlv.value _ refl (Fits-of_z fits.rate).fits)
            ∙ to_z-of_z w32 m.rate fits.rate);
      }

  follow_up-reads : Reads follow_up (messages.FollowUp m)
  follow_up-reads =
      let behind = written_follow_up m.origin m.rate in
      let head = head_is FollowUp m.head behind rest follow_up-spells in
      let stamp = stamp-back FollowUp m.head m.origin (spelled (information_tlv m.rate)) rest fits.origin in
      record {
        kind = FollowUp;
        header = passes FollowUp m.head behind rest follow_up-spells;
        path = [];
        rate = m.rate;
        tlvs = follow_up-rate;
        stamp = stamp-in_range FollowUp m.head m.origin (spelled (information_tlv m.rate)) rest fits.origin;
        is = λ i. messages.FollowUp (record { head = sym head i; origin = sym stamp i; rate = m.rate });
      }

-- ---- every message

written_reads : (m : Message) (rest : List ℕ) → MessageFits m → Reads (Written m ++ rest) m
written_reads (messages.Sync head) rest fits =
    bare-reads Sync messages.Sync head written_sync rest
    (record { head = fits; least = omega arith; short = omega arith }) tt tt refl
written_reads (messages.PdelayReq head) rest fits =
    bare-reads PdelayReq messages.PdelayReq head written_request rest
    (record { head = fits; least = omega arith; short = omega arith }) tt tt refl
written_reads (messages.PdelayResp m) rest fits =
    response-reads PdelayResp (λ h t p. messages.PdelayResp (record { head = h; stamp = t; requester = p }))
    m.head m.stamp m.requester rest refl fits tt (λ s. s) refl
written_reads (messages.FollowUp m) rest fits = follow_up-reads m rest fits
written_reads (messages.PdelayRespFollowUp m) rest fits =
    response-reads PdelayRespFollowUp
    (λ h t p. messages.PdelayRespFollowUp (record { head = h; stamp = t; requester = p }))
    m.head m.stamp m.requester rest refl fits tt (λ s. s) refl
written_reads (messages.Announce a) rest fits = announce-reads a rest fits

-- what is written reads back, and as nothing else
pub reads_back : (m : Message) (rest : List ℕ) → MessageFits m → ReadsBack m rest
reads_back m rest fits = record {
  same = written_reads m rest fits;
  only = λ n also. one_reading (Written m ++ rest) n m also (written_reads m rest fits);
  never_refused = λ e refused. never_both (Written m ++ rest) m e (written_reads m rest fits) refused;
}
