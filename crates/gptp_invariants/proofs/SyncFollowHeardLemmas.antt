-- What a system hears at its Slave port is heard as the machine of gptp_sync_machine hears.
use Rattle.std.proofs.Common.{◌≡◌, ◌⊎◌, ◌+◌, ℕ, ℤ, List, Option, Some, None, refl, sym, ap, subst, ◌∙◌, inl, inr, arith}
use Rattle.std.specs.Option.{option_map, unwrap_or}
use Rattle.std.proofs.lemmas.Option.{none-some, same_Some}
use Rattle.gptp_graph.specs.Snapshot.{PortIdentity}
use Rattle.gptp_messages.specs.declared.head.Head.{Head}
use Rattle.gptp_messages.specs.declared.message.Message.TheVariants as messages
use Rattle.gptp_messages.proofs.GrammarLemmas.{one_reading}
use Rattle.gptp_links.specs.declared.link.Direction.{Direction}
use Rattle.gptp_correction.specs.declared.correction.Relayed.{Relayed}
use Rattle.gptp_correction.specs.declared.sync_in.SyncInfo.{SyncInfo}
use Rattle.gptp_correction.specs.SyncIn.{KeptSync as KeptInSystem, together}
use Rattle.gptp_system.specs.declared.answer.Answer.{Answer}
use Rattle.gptp_system.specs.declared.sending.Sending.{Sending}
use Rattle.gptp_system.specs.Input.{Steps, Frame as FrameHeard}
use Rattle.gptp_system.specs.State.{SystemState, stamp_time}
use Rattle.gptp_model.specs.World.{Channel}
use Rattle.gptp_pdelay_machine.specs.Setting.{IsByMost}
use Rattle.gptp_sync_machine.specs.Acts.{FollowerHears, IsUnmoved, KeepsSync, Knows, KnowsAnew, KnowsStill, kept_at_ingress}
use Rattle.gptp_sync_machine.specs.Follower.{Follower, FollowerSync, FollowerSetting}
use Rattle.gptp_sync_machine.specs.Messages.{FollowUp, Message, Sync}
use Rattle.gptp_sync_machine.specs.Right.{info_of}
use Rattle.gptp_invariants.specs.SyncFollowView.{follower_view, kept_sync, tells, told_in}
use Rattle.gptp_invariants.specs.SyncView.{TakesTime}
use Rattle.gptp_invariants.specs.ChoiceView.{port_identity_number}
use Rattle.gptp_invariants.proofs.SyncFollowHearLemmas.{HasKept, HearsTime, KnowsOrNot, NowKnows, StaysPut, hears_time, slave_keeps, slave_learns, stays_put}
use Rattle.gptp_invariants.proofs.SyncFollowOctetLemmas.{one_head}
use Rattle.gptp_invariants.proofs.SyncHeardLemmas.{followed_here}

-- what stays put is unmoved as it is seen
pub put_unmoved : (time : ℕ) (direction : Direction) (old new : Channel) (x x' : SystemState) → StaysPut x x'
    → IsUnmoved (follower_view time direction old x) (follower_view time direction new x')
put_unmoved time direction old new x x' k = record {
  kept = ap (option_map kept_sync) k.sync_in;
  still = record { known = k.known; relay = k.relay };
}

-- a Relay timer that runs is due now or later, within a residence
abbrev pub RelaysInTime : SystemState → ℕ → ℕ → Type 0
RelaysInTime x now residence = (due : ℕ) → x.relay ≡ Some due → IsByMost now due residence

-- the Sync that is seen to be kept
record IsSeenKept (x : SystemState) (source : PortIdentity) (sequence : ℕ) (ingress : ℤ) : Type 0 where
  sync : KeptInSystem
  keeps : x.sync_in ≡ Some sync
  source_is : port_identity_number sync.source ≡ source
  sequence_is : sync.sequence ≡ sequence
  ingress_is : sync.ingress ≡ ingress

seen_kept : (x : SystemState) (source : PortIdentity) (sequence : ℕ) (ingress : ℤ)
    → option_map kept_sync x.sync_in ≡ Some (kept_at_ingress source sequence ingress)
    → IsSeenKept x source sequence ingress
seen_kept x source sequence ingress was = by x.sync_in refl was
  where
    by : (o : Option KeptInSystem) → x.sync_in ≡ o
        → option_map kept_sync o ≡ Some (kept_at_ingress source sequence ingress)
        → IsSeenKept x source sequence ingress
    by None is none = absurd (none-some (kept_at_ingress source sequence ingress) none)
    by (Some sync) is some =
        let same : kept_sync sync ≡ kept_at_ingress source sequence ingress =
        same_Some (kept_sync sync) (kept_at_ingress source sequence ingress) some in
        record {
          sync = sync;
          keeps = is;
          source_is = ap (λ (k : FollowerSync). k.source) same;
          sequence_is = ap (λ (k : FollowerSync). k.sequence) same;
          ingress_is = ap (λ (k : FollowerSync). k.ingress) same;
        }

module _ (k : FollowerSetting) (now : ℕ) (direction : Direction) (old new : Channel) (p : ℕ) (octets : List ℕ)
    (x x' : SystemState) (sends : List Sending) (answer : Answer) (takes : TakesTime x p k.parent)
    (steps : Steps (FrameHeard p octets) now x x' sends answer) (root : x'.root ≡ x.root) (slave : x'.slave ≡ x.slave)
    (shows : stamp_time x now ≡ k.stamps now) (residence : x.params.residence ≡ k.way.residence)
    (relays : RelaysInTime x now x.params.residence) where
  abbrev before : Follower
  before = follower_view now direction old x

  abbrev after : Follower
  after = follower_view now direction new x'

  heard : HearsTime p octets now x x'
  heard = hears_time p octets now x x' sends answer steps

  -- what is known now is sent on in time
  sent_on : (due : ℕ) → (x'.relay ≡ Some (unwrap_or x.relay (now + x.params.residence)))
      ⊎ (x'.relay ≡ Some (now + x.params.residence)) → x'.relay ≡ Some due → IsByMost now due x.params.residence
  sent_on due (inr anew) is =
      let same : now + x.params.residence ≡ due = same_Some (now + x.params.residence) due (sym anew ∙ is) in
      (omega arith, omega arith)
  sent_on due (inl runs) is = by x.relay refl (same_Some _ due (sym runs ∙ is))
    where
      by : (relay : Option ℕ) → x.relay ≡ relay → unwrap_or relay (now + x.params.residence) ≡ due
          → IsByMost now due x.params.residence
      by None was same = (omega arith, omega arith)
      by (Some t) was same = subst (λ d. IsByMost now d x.params.residence) same (relays t was)

  anew : (info : SyncInfo) → NowKnows info now x x' → KnowsAnew k before after
  anew info knows other due known relay =
      subst (IsByMost now due) residence (sent_on due knows.relay relay)

  none_anew : x'.known ≡ None → KnowsAnew k before after
  none_anew none info due known relay = absurd (none-some info (sym none ∙ known))

  unmoved_by : HearsTime p octets now x x' → ((m : Message) → tells octets m → ⊥) → IsUnmoved before after
  unmoved_by (inl stays) none = put_unmoved now direction old new x x' (stays_put x x' root slave stays)
  unmoved_by (inr (inl has)) none =
      let (at, two_step, from) = followed_here x p k.parent takes p has.head has.follows in
      absurd (none (Sync (port_identity_number has.head.source) has.head.sequence)
      (has.head, has.reads, two_step, refl, refl))
  unmoved_by (inr (inr has)) none =
      absurd (none (FollowUp (port_identity_number has.m.head.source) has.m.head.sequence (told_in has.m))
      (has.m, has.reads, refl, refl, refl))

  anyway_by : HearsTime p octets now x x' → KnowsStill before after ⊎ KnowsAnew k before after
  anyway_by (inl stays) =
      let put = stays_put x x' root slave stays in inl (record { known = put.known; relay = put.relay })
  anyway_by (inr (inl has)) = inl (record { known = has.known; relay = has.relay })
  anyway_by (inr (inr has)) = elim has.knows [
    | inl knows ↦ inr (anew has.info knows)
    | inr none ↦ inr (none_anew none)
  ]

  keeps : (sequence : ℕ) → tells octets (Sync k.parent sequence) → KeepsSync k sequence before after
  keeps sequence (head, reads, two_step, from, number) =
      let has : HasKept p octets now x x' =
      slave_keeps p k.parent octets now x x' sends answer takes steps head reads two_step (sym from) in
      let same : has.head ≡ head =
      one_head has.head head (one_reading octets (messages.Sync has.head) (messages.Sync head) has.reads reads) in
      record {
        kept = ap (option_map kept_sync) has.sync_in
            ∙ ap (λ (h : Head). Some (kept_at_ingress (port_identity_number h.source) h.sequence (stamp_time x now)))
            same
            ∙ (λ i. Some (kept_at_ingress (sym from i) (sym number i) (shows i)));
        still = record { known = has.known; relay = has.relay };
      }

  learns : (sequence : ℕ) (told : Relayed) (ingress : ℤ) → tells octets (FollowUp k.parent sequence told)
      → before.kept ≡ Some (kept_at_ingress k.parent sequence ingress)
      → Knows k told ingress before after ⊎ (x'.known ≡ None)
  learns sequence told ingress (m, reads, from, number, is) was =
      let sync = seen_kept x k.parent sequence ingress was in
      by sync
      (slave_learns p k.parent octets now x x' sends answer takes steps m sync.sync reads sync.keeps
      (sym from ∙ sym sync.source_is) (sym number ∙ sym sync.sequence_is))
    where
      by : (sync : IsSeenKept x k.parent sequence ingress) → KnowsOrNot (together m sync.sync) now x x'
          → Knows k told ingress before after ⊎ (x'.known ≡ None)
      by sync (inr none) = inr none
      by sync (inl knows) =
          inl (record {
            known = knows.known ∙ (λ i. Some (info_of (sym is i) (sync.ingress_is i)));
            anew = anew (together m sync.sync) knows;
          })

  pub hears_seen : FollowerHears k tells octets before after
  hears_seen = record {
    nothing = unmoved_by heard;
    sync = keeps;
    follow_up = learns;
    anyway = anyway_by heard;
  }
