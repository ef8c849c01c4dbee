-- What the octets of a Sync and of a Follow_Up tell that are written, and that octets tell one thing.
use Rattle.std.proofs.Common.{◌≡◌, ◌<◌, ℕ, List, [], ◌++◌, Some, refl, sym, ap, subst, ◌∙◌, arith}
use Rattle.std.specs.Int.{w64}
use Rattle.std.specs.Prelude.{pos, FitsSigned}
use Rattle.std.proofs.lemmas.Option.{same_Some}
use Rattle.gptp_messages.specs.declared.follow_up.FollowUp.{FollowUp as FollowUpFields}
use Rattle.gptp_messages.specs.declared.head.Head.{Head}
use Rattle.gptp_messages.specs.declared.message.Message.TheVariants as messages
use Rattle.gptp_messages.specs.FollowUp.{ReadsRate, follow_up_tlvs}
use Rattle.gptp_messages.specs.Frame.{PortFits, field}
use Rattle.gptp_messages.specs.Grammar.{Reads, ReadsTlvs, StampIsRead, Written, message_of as message_at}
use Rattle.gptp_messages.specs.Head.{head_of}
use Rattle.gptp_messages.specs.MessageType.{type_of}
use Rattle.gptp_messages.specs.Timestamp.{stamp_of}
use Rattle.gptp_messages.proofs.GrammarLemmas.{one_reading}
use Rattle.gptp_messages.proofs.WrittenLemmas.{reads_back}
use Rattle.gptp_graph.specs.Snapshot.{PortIdentity}
use Rattle.gptp_scaled.specs.Rate.{FitsRate}
use Rattle.gptp_scaled.specs.Stamp.{IsTimestamp, Timestamp}
use Rattle.gptp_correction.specs.declared.correction.Relayed.{Relayed}
use Rattle.gptp_bmca_machine.specs.Frame.{FollowUp as FollowUpId, Sync as SyncIs, SyncId}
use Rattle.gptp_system.proofs.TypeLemmas.{type_is}
use Rattle.gptp_sync_machine.specs.Messages.{Message, Sync, FollowUp}
use Rattle.gptp_invariants.specs.SyncFollowView.{tells, told_in}
use Rattle.gptp_invariants.specs.SyncView.{IsTimeless}
use Rattle.gptp_invariants.specs.ChoiceView.{port_identity_number, says_sync, sync_id}
use Rattle.gptp_invariants.proofs.SyncOctetLemmas.{AreAlike, reads_alike}

-- ---- what says a Sync tells one

pub tells_sync : (octets : List ℕ) (id : SyncId) → says_sync octets (SyncIs id)
    → tells octets (Sync id.source id.sequence)
tells_sync octets id (head, reads, two_step, is) = (
  head,
  reads,
  two_step,
  ap (λ (x : SyncId). x.source) is,
  ap (λ (x : SyncId). x.sequence) is,
)

-- and what says a Follow_Up tells one
pub record TellsFollowUp (octets : List ℕ) (id : SyncId) : Type 0 where
  pub told : Relayed
  pub tells_it : tells octets (FollowUp id.source id.sequence told)

pub tells_follow_up : (octets : List ℕ) (id : SyncId) → says_sync octets (FollowUpId id) → TellsFollowUp octets id
tells_follow_up octets id (m, reads, is) = record {
  told = told_in m;
  tells_it = (m, reads, ap (λ (x : SyncId). x.source) is, ap (λ (x : SyncId). x.sequence) is, refl);
}

-- what says neither tells nothing
pub timeless_tells : (octets : List ℕ) → IsTimeless octets → (m : Message) → tells octets m → ⊥
timeless_tells octets none (Sync source sequence) (head, reads, two_step, from, number) =
    none (SyncIs (sync_id head)) (head, reads, two_step, refl)
timeless_tells octets none (FollowUp source sequence told) (m, reads, from, number, is) =
    none (FollowUpId (sync_id m.head)) (m, reads, refl)

-- ---- octets tell one thing

pub one_head : (a b : Head) → messages.Sync a ≡ messages.Sync b → a ≡ b
one_head a b e = cc

pub one_follow_up : (a b : FollowUpFields) → messages.FollowUp a ≡ messages.FollowUp b → a ≡ b
one_follow_up a b e = cc

pub told_alone : (octets : List ℕ) (source : PortIdentity) (sequence : ℕ) (told : Relayed)
    → tells octets (FollowUp source sequence told) → (other : Message) → tells octets other
    → other ≡ FollowUp source sequence told
told_alone octets source sequence told (m, reads, from, number, is) (Sync s n) (head, head_reads, two_step, f, g) =
    let e = one_reading octets (messages.FollowUp m) (messages.Sync head) reads head_reads in absurd cc
told_alone octets source sequence told (m, reads, from, number, is) (FollowUp s n t) (k, k_reads, f, g, h) =
    let e : m ≡ k =
    one_follow_up m k (one_reading octets (messages.FollowUp m) (messages.FollowUp k) reads k_reads) in
    let same_source : s ≡ source = f ∙ ap (λ (x : FollowUpFields). port_identity_number x.head.source) (sym e)
    ∙ sym from in
    let same_number : n ≡ sequence = g ∙ ap (λ (x : FollowUpFields). x.head.sequence) (sym e) ∙ sym number in
    let same_told : t ≡ told = h ∙ ap told_in (sym e) ∙ sym is in
    λ i. FollowUp (same_source i) (same_number i) (same_told i)

-- ---- a Follow_Up that is written tells what it says, where that fits its octets

pub record ToldFits (told : Relayed) : Type 0 where
  pub origin : IsTimestamp told.origin
  pub correction : FitsSigned w64 told.correction
  pub rate : FitsRate told.rate

module _ (m : FollowUpFields) where
  abbrev octets : List ℕ
  octets = Written (messages.FollowUp m) ++ []

  -- the same with nothing but what it tells, its source and its flag
  abbrev plain : FollowUpFields
  plain = record {
    head = record {
      source = m.head.source;
      sequence = 0;
      correction = m.head.correction;
      log_interval = pos 0;
      two_step = m.head.two_step;
    };
    origin = m.origin;
    rate = m.rate;
  }

  abbrev plain_octets : List ℕ
  plain_octets = Written (messages.FollowUp plain) ++ []

  alike : AreAlike octets plain_octets
  unfolding field
  alike = record { header = refl; kind = refl; whole = refl; size = refl; source = refl; flag = refl }

  same_tlvs : follow_up_tlvs octets ≡ follow_up_tlvs plain_octets
  unfolding field
  same_tlvs = refl

  same_stamp : stamp_of octets ≡ stamp_of plain_octets
  unfolding field
  same_stamp = refl

  same_correction : (head_of octets).correction ≡ (head_of plain_octets).correction
  unfolding field
  same_correction = refl

  module _ (fits : PortFits m.head.source) (told : ToldFits (told_in m)) where
    plain_reads : Reads plain_octets (messages.FollowUp plain)
    plain_reads =
        (reads_back (messages.FollowUp plain) []
        (record {
          head = record {
            source = fits;
            sequence = omega arith;
            correction = told.correction;
            log_interval = record { sfits = omega arith };
          };
          origin = told.origin;
          rate = told.rate;
        })).same

    module _ (other : FollowUpFields) (reads : Reads octets (messages.FollowUp other)) where
      kind : type_of 0x8 ≡ Some reads.kind
      kind =
          subst (λ n. type_of n ≡ Some reads.kind) (type_is octets (messages.FollowUp other) reads)
          reads.header.kind_is

      abbrev seen : List ℕ → FollowUpFields
      seen f = record { head = head_of f; origin = stamp_of f; rate = reads.rate }

      other_is : other ≡ seen octets
      other_is =
          one_follow_up other (seen octets)
          (subst (λ k. messages.FollowUp other ≡ message_at k octets reads.path reads.rate)
          (sym (same_Some _ reads.kind kind)) reads.is)

      seen_reads : Reads plain_octets (messages.FollowUp (seen plain_octets))
      seen_reads =
          let same = same_Some _ reads.kind kind in
          reads_alike octets plain_octets (messages.FollowUp other) (messages.FollowUp (seen plain_octets)) reads.rate
          alike reads
          (subst (λ k. ReadsTlvs k plain_octets [] reads.rate) same
          (subst (λ t. ReadsRate t reads.rate) same_tlvs
          (subst (λ k. ReadsTlvs k octets reads.path reads.rate) (sym same) reads.tlvs)))
          (subst (λ k. StampIsRead k plain_octets) same
          (subst (λ (t : Timestamp). t.nanos < 1000000000) same_stamp
          (subst (λ k. StampIsRead k octets) (sym same) reads.stamp)))
          (subst (λ k. messages.FollowUp (seen plain_octets) ≡ message_at k plain_octets [] reads.rate) same refl)

      seen_is : seen plain_octets ≡ plain
      seen_is =
          one_follow_up (seen plain_octets) plain
          (one_reading plain_octets (messages.FollowUp (seen plain_octets)) (messages.FollowUp plain) seen_reads
          plain_reads)

      pub told_as_written : told_in other ≡ told_in m
      told_as_written =
          ap told_in other_is
          ∙ (λ i. record { origin = same_stamp i; correction = same_correction i; rate = reads.rate })
          ∙ ap told_in seen_is
