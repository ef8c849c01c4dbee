-- What a system makes of what it hears, as far as time is carried: a Sync is kept, a Follow_Up is known, or nothing
-- moves.
use Rattle.std.proofs.Common.{◌≡◌, ◌≢◌, ◌⊎◌, ◌+◌, ℕ, ℤ, Bool, true, false, List, Some, None, sym, ap, ◌∙◌, inl, inr}
use Rattle.std.specs.Option.{unwrap_or}
use Rattle.std.specs.Prelude.{◌&&◌, if◌then◌else◌}
use Rattle.std.proofs.lemmas.Option.{none-some}
use Rattle.gptp_graph.specs.Snapshot.{PortIdentity}
use Rattle.gptp_messages.specs.declared.follow_up.FollowUp.{FollowUp as FollowUpFields}
use Rattle.gptp_messages.specs.declared.head.Head.{Head}
use Rattle.gptp_messages.specs.declared.message.Message.TheVariants as messages
use Rattle.gptp_messages.specs.Grammar.{Reads}
use Rattle.gptp_correction.specs.declared.sync_in.SyncInfo.{SyncInfo}
use Rattle.gptp_correction.specs.SyncIn.{KeptSync, information, kept as kept_as, together}
use Rattle.gptp_setup.specs.SettlingParams.{has_sync_timeout}
use Rattle.gptp_system.specs.declared.answer.Answer.{Answer}
use Rattle.gptp_system.specs.declared.sending.Sending.{Sending}
use Rattle.gptp_system.specs.Input.{Steps, Frame as FrameHeard}
use Rattle.gptp_system.specs.Selection.{kept_if}
use Rattle.gptp_system.specs.State.{SystemState, held_at, stamp_time}
use Rattle.gptp_system.specs.Syncing.{KnowsBy, came_from, delay_at, is_followed, is_slave_at, root_rate_at, said_on}
use Rattle.gptp_invariants.specs.SyncView.{TakesTime}
use Rattle.gptp_invariants.specs.ChoiceView.{port_identity_number}
use Rattle.gptp_invariants.proofs.ChoiceSendLemmas.{same_identity}
use Rattle.gptp_invariants.proofs.SyncHeardLemmas.{belonging, follow_up_known, followed, sync_kept}
use Rattle.gptp_invariants.proofs.SyncTimeStepLemmas.{KeepsHeard, StaysKnown, frame_heard}

-- ---- what doesn't move

-- what is kept, what is known and when it is sent on stay
pub record StaysPut (s s' : SystemState) : Type 0 where
  pub sync_in : s'.sync_in ≡ s.sync_in
  pub known : s'.known ≡ s.known
  pub relay : s'.relay ≡ s.relay

-- so it is where the same root is followed over the same port
pub stays_put : (s s' : SystemState) → s'.root ≡ s.root → s'.slave ≡ s.slave → StaysKnown s s' → StaysPut s s'
stays_put s s' root slave k =
    let same = k.still root slave in
    record {
      sync_in = k.sync_in ∙ ap (λ b. kept_if b s.sync_in) same;
      known = k.known ∙ ap (λ b. kept_if b s.known) same;
      relay = k.relay ∙ ap (λ b. kept_if b s.relay) same;
    }

-- ---- what is heard

-- a Sync of the port that is followed is kept
pub record HasKept (p : ℕ) (octets : List ℕ) (now : ℕ) (s s' : SystemState) : Type 0 where
  pub head : Head
  pub reads : Reads octets (messages.Sync head)
  pub follows : is_followed p head s ≡ true
  pub sync_in : s'.sync_in ≡ Some (kept_as head.source head.sequence (stamp_time s now))
  pub known : s'.known ≡ s.known
  pub relay : s'.relay ≡ s.relay

-- What a Follow_Up says with the Sync that is kept is known, and is sent on when the Relay timer runs out that runs, or
-- that is started now; or nothing is known.
pub record NowKnows (info : SyncInfo) (now : ℕ) (s s' : SystemState) : Type 0 where
  pub known : s'.known ≡ Some info
  pub relay : (s'.relay ≡ Some (unwrap_or s.relay (now + s.params.residence)))
      ⊎ (s'.relay ≡ Some (now + s.params.residence))

abbrev pub KnowsOrNot : SyncInfo → ℕ → SystemState → SystemState → Type 0
KnowsOrNot info now s s' = NowKnows info now s s' ⊎ (s'.known ≡ None)

pub record HasLearned (p : ℕ) (octets : List ℕ) (now : ℕ) (s s' : SystemState) : Type 0 where
  pub m : FollowUpFields
  pub reads : Reads octets (messages.FollowUp m)
  pub info : SyncInfo
  pub said : said_on p m s ≡ Some info
  pub knows : KnowsOrNot info now s s'

abbrev pub HearsTime : ℕ → List ℕ → ℕ → SystemState → SystemState → Type 0
HearsTime p octets now s s' = StaysKnown s s' ⊎ (HasKept p octets now s s' ⊎ HasLearned p octets now s s')

-- ---- any frame

has_kept : (p : ℕ) (octets : List ℕ) (now : ℕ) (s s' : SystemState) (sends : List Sending) (answer : Answer)
    → KeepsHeard p octets now s s' sends answer → HasKept p octets now s s'
has_kept p octets now s s' sends answer k = record {
  head = k.head;
  reads = k.reads;
  follows = k.follows;
  sync_in = ap (λ (x : SystemState). x.sync_in) k.kept.becomes.state;
  known = ap (λ (x : SystemState). x.known) k.kept.becomes.state;
  relay = ap (λ (x : SystemState). x.relay) k.kept.becomes.state;
}

knows_by : (b : Bool) (info : SyncInfo) (delay rate : ℤ) (now : ℕ) (s s' : SystemState) (sends : List Sending)
    (answer : Answer) → KnowsBy b info delay rate now s s' sends answer → KnowsOrNot info now s s'
knows_by true info delay rate now s s' sends answer k =
    inl (record {
      known = ap (λ (x : SystemState). x.known) k.becomes.state;
      relay = inl (ap (λ (x : SystemState). x.relay) k.becomes.state);
    })
knows_by false info delay rate now s s' sends answer (inl k) =
    inl (record {
      known = ap (λ (x : SystemState). x.known) k.becomes.state;
      relay = inr (ap (λ (x : SystemState). x.relay) k.becomes.state);
    })
knows_by false info delay rate now s s' sends answer (inr k) =
    inr (ap (λ (x : SystemState). x.known) k.becomes.state)

pub hears_time : (p : ℕ) (octets : List ℕ) (now : ℕ) (s s' : SystemState) (sends : List Sending) (answer : Answer)
    → Steps (FrameHeard p octets) now s s' sends answer → HearsTime p octets now s s'
hears_time p octets now s s' sends answer k = elim (frame_heard p octets now s s' sends answer k) [
  | inl stays ↦ inl stays
  | inr (inl keeps) ↦ inr (inl (has_kept p octets now s s' sends answer keeps))
  | inr (inr learned) ↦ inr (inr (record {
    m = learned.m;
    reads = learned.reads;
    info = learned.info;
    said = learned.said;
    knows = knows_by (has_sync_timeout s.params) learned.info (delay_at s p) (root_rate_at s p) now s s' sends answer
        learned.knows;
  }))
]

-- ---- at another port than the Slave port nothing moves

not_followed : (p : ℕ) (head : Head) (s : SystemState) → is_slave_at s p ≡ false → is_followed p head s ≢ true
not_followed p head s off is =
    by head.two_step (came_from head.source (held_at s p))
    (sym (ap (λ b. head.two_step && (b && came_from head.source (held_at s p))) off) ∙ is)
  where
    by : (a b : Bool) → (a && (false && b)) ≡ true → ⊥
    by true b e = cc
    by false b e = cc

pub elsewhere_put : (p : ℕ) (octets : List ℕ) (now : ℕ) (s s' : SystemState) → is_slave_at s p ≡ false
    → HearsTime p octets now s s' → StaysKnown s s'
elsewhere_put p octets now s s' off (inl stays) = stays
elsewhere_put p octets now s s' off (inr (inl kept)) = absurd (not_followed p kept.head s off kept.follows)
elsewhere_put p octets now s s' off (inr (inr learned)) =
    absurd (none-some learned.info
    (sym (ap (λ b. if b then information s.sync_in learned.m else None) off) ∙ learned.said))

-- ---- at the Slave port

module _ (p : ℕ) (source : PortIdentity) (octets : List ℕ) (now : ℕ) (s s' : SystemState) (sends : List Sending)
    (answer : Answer) (takes : TakesTime s p source) (k : Steps (FrameHeard p octets) now s s' sends answer) where
  -- a Sync of the parent is kept
  pub slave_keeps : (head : Head) → Reads octets (messages.Sync head) → head.two_step ≡ true
      → port_identity_number head.source ≡ source → HasKept p octets now s s'
  slave_keeps head reads two_step from =
      has_kept p octets now s s' sends answer
      (record {
        head = head;
        reads = reads;
        follows = followed s p source takes head two_step from;
        kept = sync_kept p octets now s s' sends answer source head k takes reads two_step from;
      })

  -- and what its Follow_Up says with the Sync of its number is known, or nothing is
  pub slave_learns : (m : FollowUpFields) (kept : KeptSync) → Reads octets (messages.FollowUp m)
      → s.sync_in ≡ Some kept → port_identity_number m.head.source ≡ port_identity_number kept.source
      → m.head.sequence ≡ kept.sequence → KnowsOrNot (together m kept) now s s'
  slave_learns m kept reads keeps from number =
      knows_by (has_sync_timeout s.params) (together m kept) (delay_at s p) (root_rate_at s p) now s s' sends answer
      (follow_up_known p octets now s s' sends answer source m kept k takes reads keeps
      (belonging m kept (same_identity m.head.source kept.source from) number))
