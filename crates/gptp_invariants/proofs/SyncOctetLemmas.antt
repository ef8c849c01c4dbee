-- What the octets of a Sync and of a Follow_Up say that are written, whatever stands in their headers besides source
-- and number; and that other messages tell no time.
use Rattle.std.proofs.Common.{◌≡◌, ◌≢◌, ◌≤◌, ◌<◌, ℕ, ℤ, pos, true, List, [], ◌∷◌, ◌++◌, length, Some, refl, sym, ap, subst, ◌∙◌, arith}
use Rattle.std.specs.Int.{w32, cast_signed}
use Rattle.std.proofs.lemmas.List.{append-nil}
use Rattle.std.proofs.lemmas.Option.{same_Some}
use Rattle.gptp_messages.specs.declared.follow_up.FollowUp.{FollowUp as FollowUpFields}
use Rattle.gptp_messages.specs.declared.head.Head.{Head}
use Rattle.gptp_messages.specs.declared.message.Message.{Message}
use Rattle.gptp_messages.specs.declared.message.Message.TheVariants as messages
use Rattle.gptp_messages.specs.FollowUp.{follow_up_tlvs, information_tlv, ReadsRate}
use Rattle.gptp_messages.specs.Frame.{PortFits, field, port_at}
use Rattle.gptp_messages.specs.Grammar.{Reads, ReadsTlvs, StampIsRead, Written, header_fault, message_of as message_at}
use Rattle.gptp_messages.specs.Head.{HeadFits, head_of, message_length, message_type}
use Rattle.gptp_messages.specs.MessageType.{least_length, type_of}
use Rattle.gptp_messages.specs.Timestamp.{stamp_of}
use Rattle.gptp_messages.specs.Tlv.{spelled}
use Rattle.gptp_messages.proofs.PathLemmas.{field-big_bytes}
use Rattle.gptp_messages.proofs.WrittenLemmas.{reads_back}
use Rattle.gptp_system.specs.declared.sending.Body.{Body}
use Rattle.gptp_system.specs.declared.sending.Body.TheVariants as bodies
use Rattle.gptp_system.specs.Messages.{Telling, message_kind}
use Rattle.gptp_system.specs.Sends.{sent_message}
use Rattle.gptp_system.proofs.TypeLemmas.{type_is, type_number}
use Rattle.gptp_bmca_machine.specs.Frame.{FollowUp, Sync}
use Rattle.gptp_invariants.specs.SyncView.{IsTimeless}
use Rattle.gptp_invariants.specs.ChoiceView.{port_identity_number, says_sync}
use Rattle.gptp_invariants.proofs.DelayLinkOctetLemmas.{same_type}

-- ---- headers

-- the header with nothing but its source and its flag
abbrev plain : Head → Head
plain head = record {
  source = head.source;
  sequence = 0;
  correction = pos 0;
  log_interval = pos 0;
  two_step = head.two_step;
}

plain_fits : (head : Head) → PortFits head.source → HeadFits (plain head)
plain_fits head fits = record {
  source = fits;
  sequence = omega arith;
  correction = record { sfits = omega arith };
  log_interval = record { sfits = omega arith };
}

-- two frames have headers that pass alike, of one type, source and flag
pub record AreAlike (a b : List ℕ) : Type 0 where
  pub header : header_fault a ≡ header_fault b
  pub kind : message_type a ≡ message_type b
  pub whole : message_length a ≡ message_length b
  pub size : length a ≡ length b
  pub source : port_at 20 a ≡ port_at 20 b
  pub flag : (head_of a).two_step ≡ (head_of b).two_step

-- what passes in the one passes in the other
pub reads_alike : (a b : List ℕ) (m n : Message) (rate : ℤ) → AreAlike a b → (k : Reads a m)
    → ReadsTlvs k.kind b [] rate → StampIsRead k.kind b → n ≡ message_at k.kind b [] rate → Reads b n
reads_alike a b m n rate alike k tlvs stamp is = record {
  kind = k.kind;
  header = record {
    header = sym alike.header ∙ k.header.header;
    kind_is = subst (λ t. type_of t ≡ Some k.kind) alike.kind k.header.kind_is;
    least = subst (λ t. least_length k.kind ≤ t) alike.whole k.header.least;
    whole =
        let most = k.header.whole in
        let whole = alike.whole in
        let size = alike.size in
        omega arith;
  };
  path = [];
  rate = rate;
  tlvs = tlvs;
  stamp = stamp;
  is = is;
}

-- ---- a Sync

module _ (head : Head) where
  abbrev sync : List ℕ
  sync = Written (messages.Sync head) ++ []

  abbrev plain_sync : List ℕ
  plain_sync = Written (messages.Sync (plain head)) ++ []

  syncs_alike : AreAlike plain_sync sync
  unfolding field
  syncs_alike =
      record { header = refl; kind = refl; whole = refl; size = refl; source = refl; flag = refl }

  module _ (fits : PortFits head.source) where
    plain_sync_reads : Reads plain_sync (messages.Sync (plain head))
    plain_sync_reads = (reads_back (messages.Sync (plain head)) [] (plain_fits head fits)).same

    sync_kind : type_of 0x0 ≡ Some plain_sync_reads.kind
    sync_kind =
        subst (λ n. type_of n ≡ Some plain_sync_reads.kind)
        (type_is plain_sync (messages.Sync (plain head)) plain_sync_reads) plain_sync_reads.header.kind_is

    plain_sync_head : plain head ≡ head_of plain_sync
    plain_sync_head =
        one (plain head) (head_of plain_sync)
        (subst (λ kind. messages.Sync (plain head) ≡ message_at kind plain_sync plain_sync_reads.path
        plain_sync_reads.rate) (sym (same_Some _ plain_sync_reads.kind sync_kind)) plain_sync_reads.is)
      where
        one : (a b : Head) → messages.Sync a ≡ messages.Sync b → a ≡ b
        one a b e = cc

    sync_reads : Reads sync (messages.Sync (head_of sync))
    sync_reads =
        let same = same_Some _ plain_sync_reads.kind sync_kind in
        reads_alike plain_sync sync (messages.Sync (plain head)) (messages.Sync (head_of sync)) (pos 0) syncs_alike
        plain_sync_reads (subst (λ kind. ReadsTlvs kind sync [] (pos 0)) same tt)
        (subst (λ kind. StampIsRead kind sync) same tt)
        (subst (λ kind. messages.Sync (head_of sync) ≡ message_at kind sync [] (pos 0)) same refl)

    -- a Sync that is written reads as one of the same source
    pub sync_said : head.two_step ≡ true
        → says_sync (Written (messages.Sync head))
        (Sync (record { source = port_identity_number head.source; sequence = (head_of sync).sequence }))
    sync_said flag =
        let source : head.source ≡ (head_of sync).source =
        ap (λ (h : Head). h.source) plain_sync_head ∙ syncs_alike.source in
        let two_step : (head_of sync).two_step ≡ true =
        sym syncs_alike.flag ∙ sym (ap (λ (h : Head). h.two_step) plain_sync_head) ∙ flag in (
          head_of sync,
          subst (λ f. Reads f (messages.Sync (head_of sync))) (append-nil (Written (messages.Sync head))) sync_reads,
          two_step,
          λ i. record { source = port_identity_number (source i); sequence = (head_of sync).sequence },
        )

-- ---- a Follow_Up

module _ (m : FollowUpFields) where
  abbrev follow_up : List ℕ
  follow_up = Written (messages.FollowUp m) ++ []

  -- the same with nothing but the source, the flag and the nanoseconds
  abbrev plain_message : FollowUpFields
  plain_message = record {
    head = plain m.head;
    origin = record { seconds = 0; nanos = m.origin.nanos };
    rate = pos 0;
  }

  abbrev plain_follow_up : List ℕ
  plain_follow_up = Written (messages.FollowUp plain_message) ++ []

  follow_ups_alike : AreAlike plain_follow_up follow_up
  unfolding field
  follow_ups_alike =
      record { header = refl; kind = refl; whole = refl; size = refl; source = refl; flag = refl }

  tlvs_are : follow_up_tlvs follow_up ≡ spelled (information_tlv m.rate)
  unfolding field
  tlvs_are = refl

  -- the rate that is read
  abbrev rate_read : ℤ
  rate_read = cast_signed w32 (field 4 6 (information_tlv m.rate).value)

  rate_reads : ReadsRate (follow_up_tlvs follow_up) rate_read
  unfolding field
  rate_reads = record {
    value = (information_tlv m.rate).value;
    first = record {
      tlvs = information_tlv m.rate ∷ [];
      are = record {
        fit = (record { tlv_type = omega arith; length = omega arith }, tt);
        spelling = tlvs_are ∙ sym (append-nil (spelled (information_tlv m.rate)));
      };
      first = refl;
    };
    long = refl;
    is = refl;
  }

  -- the same number stands at the same place
  same_number : (head : Head) → head.sequence ≡ m.head.sequence
      → (head_of (sync head)).sequence ≡ (head_of follow_up).sequence
  unfolding field
  same_number head same = rw same refl

  module _ (fits : PortFits m.head.source) (small : m.origin.nanos < 1000000000) where
    nanos_read : field 4 40 follow_up ≡ m.origin.nanos
    unfolding field
    nanos_read = field-big_bytes 4 m.origin.nanos (spelled (information_tlv m.rate) ++ []) (omega arith)

    plain_reads : Reads plain_follow_up (messages.FollowUp plain_message)
    plain_reads =
        (reads_back (messages.FollowUp plain_message) []
        (record {
          head = plain_fits m.head fits;
          origin = record { seconds = omega arith; nanos = small };
          rate = record { sfits = omega arith };
        })).same

    follow_up_kind : type_of 0x8 ≡ Some plain_reads.kind
    follow_up_kind =
        subst (λ n. type_of n ≡ Some plain_reads.kind)
        (type_is plain_follow_up (messages.FollowUp plain_message) plain_reads) plain_reads.header.kind_is

    plain_head_read : plain m.head ≡ head_of plain_follow_up
    plain_head_read =
        ap (λ (x : FollowUpFields). x.head) (one plain_message _
        (subst (λ kind. messages.FollowUp plain_message ≡ message_at kind plain_follow_up plain_reads.path
        plain_reads.rate) (sym (same_Some _ plain_reads.kind follow_up_kind)) plain_reads.is))
      where
        one : (a b : FollowUpFields) → messages.FollowUp a ≡ messages.FollowUp b → a ≡ b
        one a b e = cc

    -- what is read of the octets as they are written
    abbrev seen : FollowUpFields
    seen = record { head = head_of follow_up; origin = stamp_of follow_up; rate = rate_read }

    follow_up_reads : Reads follow_up (messages.FollowUp seen)
    follow_up_reads =
        let same = same_Some _ plain_reads.kind follow_up_kind in
        reads_alike plain_follow_up follow_up (messages.FollowUp plain_message) (messages.FollowUp seen) rate_read
        follow_ups_alike plain_reads
        (subst (λ kind. ReadsTlvs kind follow_up [] rate_read) same rate_reads)
        (subst (λ kind. StampIsRead kind follow_up) same (rw nanos_read small))
        (subst (λ kind. messages.FollowUp seen ≡ message_at kind follow_up [] rate_read) same refl)

    -- A Follow_Up that is written reads as one of the same source, and of the number of each Sync that is written with
    -- the same sequenceId.
    pub follow_up_said : (head : Head) → head.sequence ≡ m.head.sequence
        → says_sync (Written (messages.FollowUp m))
        (FollowUp (record { source = port_identity_number m.head.source; sequence = (head_of (sync head)).sequence }))
    follow_up_said head same =
        let source : m.head.source ≡ (head_of follow_up).source =
        ap (λ (h : Head). h.source) plain_head_read ∙ follow_ups_alike.source in
        let number = same_number head same in (
          seen,
          subst (λ f. Reads f (messages.FollowUp seen)) (append-nil (Written (messages.FollowUp m))) follow_up_reads,
          λ i. record { source = port_identity_number (source i); sequence = number i },
        )

-- ---- other messages

-- the number of their types is that of a body that tells time
types : (path : List ℕ) (head : Head) (b : Body) → message_kind b ≢ Telling
    → (type_number (sent_message path head b) ≢ 0x0) × (type_number (sent_message path head b) ≢ 0x8)
types path head (bodies.Announce body) other = (λ e. omega arith, λ e. omega arith)
types path head bodies.Sync other = absurd (other refl)
types path head (bodies.FollowUp origin rate) other = absurd (other refl)
types path head bodies.PdelayReq other = (λ e. omega arith, λ e. omega arith)
types path head (bodies.PdelayResp stamp requester) other = (λ e. omega arith, λ e. omega arith)
types path head (bodies.PdelayRespFollowUp stamp requester) other = (λ e. omega arith, λ e. omega arith)

-- what doesn't tell time reads as no Sync and as no Follow_Up
pub timeless : (path : List ℕ) (head : Head) (body : Body) → message_kind body ≢ Telling
    → IsTimeless (Written (sent_message path head body))
timeless path head body other (Sync id) (h, reads, flag, is) =
    (types path head body other).0 (sym (same_type (sent_message path head body) (messages.Sync h) reads))
timeless path head body other (FollowUp id) (m, reads, is) =
    (types path head body other).1 (sym (same_type (sent_message path head body) (messages.FollowUp m) reads))
