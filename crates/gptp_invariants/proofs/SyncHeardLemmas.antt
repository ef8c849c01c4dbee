-- What a system makes of Syncs and Follow_Ups at the port that it follows.
use Rattle.std.proofs.Common.{◌≡◌, ◌<◌, ℕ, Bool, true, false, List, Option, Some, None, refl, sym, ap, subst, ◌∙◌, inl, inr, arith}
use Rattle.std.specs.Prelude.{◌==◌, ◌&&◌}
use Rattle.std.specs.Option.{option_map, option_map_or}
use Rattle.std.proofs.lemmas.Bool.Decides.{nat_tests}
use Rattle.std.proofs.lemmas.Bool.{eq-eqb}
use Rattle.std.proofs.lemmas.Option.{none-some, same_Some}
use Rattle.gptp_graph.specs.Snapshot.{PortIdentity}
use Rattle.gptp_vector.specs.declared.port.PortId.{PortId}
use Rattle.gptp_messages.specs.declared.follow_up.FollowUp.{FollowUp as FollowUpFields}
use Rattle.gptp_messages.specs.declared.head.Head.{Head}
use Rattle.gptp_messages.specs.declared.message.Message.{Message}
use Rattle.gptp_messages.specs.declared.message.Message.TheVariants as messages
use Rattle.gptp_messages.specs.Grammar.{Reads}
use Rattle.gptp_messages.proofs.GrammarLemmas.{never_both, one_reading}
use Rattle.gptp_receipt.specs.declared.held.Reception.{Reception}
use Rattle.gptp_correction.specs.declared.sync_in.SyncInfo.{SyncInfo}
use Rattle.gptp_correction.specs.SyncIn.{KeptSync, belongs, together}
use Rattle.gptp_setup.specs.SettlingParams.{has_sync_timeout}
use Rattle.gptp_system.specs.declared.answer.Answer.{Answer}
use Rattle.gptp_system.specs.declared.sending.Sending.{Sending}
use Rattle.gptp_system.specs.Input.{Steps, Frame as FrameHeard}
use Rattle.gptp_system.specs.State.{SystemState, held_at, is_capable_at}
use Rattle.gptp_system.specs.Steps.{HearsFrame, HearsMessage}
use Rattle.gptp_system.specs.Syncing.{HearsFollowUpIf, HearsSyncIf, IsKeptSync, KeepsIf, KnowsBy, KnowsIf, came_from, delay_at, is_followed, is_port, is_slave_at, root_rate_at, said_on}
use Rattle.gptp_bmca_machine.specs.Frame.{FollowUp, Sync, SyncId}
use Rattle.gptp_invariants.specs.SyncView.{IsHeard, TakesTime}
use Rattle.gptp_invariants.specs.ChoiceView.{port_identity_number, kept_view, says_sync, sync_id}
use Rattle.gptp_invariants.proofs.ChoiceSendLemmas.{same_identity}
use Rattle.gptp_invariants.proofs.SyncTimeStepLemmas.{can_lapse}

-- the Sync that is kept, as it is seen
abbrev pub id_of : KeptSync → SyncId
id_of k = record { source = port_identity_number k.source; sequence = k.sequence }

-- ---- ports

same_ports : (a b : PortId) → a ≡ b → is_port a b ≡ true
same_ports a b same =
    let clock = ap (λ (p : PortId). p.clock) same in
    let port = ap (λ (p : PortId). p.port) same in
    grind (arith, nat_tests)

ports_same : (a b : PortId) → is_port a b ≡ true → a ≡ b
ports_same a b same =
    let clock : a.clock ≡ b.clock = grind (arith, nat_tests) in
    let port : a.port ≡ b.port = grind (arith, nat_tests) in
    λ i. record { clock = clock i; port = port i }

-- ---- a message that is heard

-- it is the one that the octets read as
pub heard_as : (p : ℕ) (octets : List ℕ) (m : Message) (now : ℕ) (s s' : SystemState) (sends : List Sending)
    (answer : Answer) → Reads octets m → HearsFrame p octets now s s' sends answer
    → HearsMessage p m now s s' sends answer
heard_as p octets m now s s' sends answer reads (inl k) =
    subst (λ x. HearsMessage p x now s s' sends answer) (one_reading octets k.message m k.reads reads) k.hears
heard_as p octets m now s s' sends answer reads (inr k) = absurd (never_both octets m k.refused reads k.refuses)

module _ (s : SystemState) (p : ℕ) (source : PortIdentity) (takes : TakesTime s p source) where
  pub at_slave : is_slave_at s p ≡ true
  at_slave = let slave = takes.slave in rw slave (eq-eqb p p refl)

  -- what comes from there is followed
  pub followed : (head : Head) → head.two_step ≡ true → port_identity_number head.source ≡ source
      → is_followed p head s ≡ true
  followed head two_step from =
      let holds = takes.holds in
      let same : is_port takes.reception.vector.source head.source ≡ true =
      same_ports takes.reception.vector.source head.source
      (same_identity takes.reception.vector.source head.source (takes.came ∙ sym from)) in
      rw (two_step, at_slave, holds) same

  -- and nothing else is: what is followed comes to that port from there
  pub followed_here : (q : ℕ) (head : Head) → is_followed q head s ≡ true
      → (q ≡ p) × (head.two_step ≡ true) × (port_identity_number head.source ≡ source)
  followed_here q head is =
      let parts = both head.two_step (is_slave_at s q && came_from head.source (held_at s q)) is in
      let here = both (is_slave_at s q) (came_from head.source (held_at s q)) parts.1 in
      let port : q ≡ p = slave_is q here.0 in
      let came : came_from head.source (held_at s p) ≡ true =
      subst (λ n. came_from head.source (held_at s n) ≡ true) port here.1 in (
        port,
        parts.0,
        ap port_identity_number (sym (ports_same takes.reception.vector.source head.source (from came))) ∙ takes.came,
      )
    where
      both : (a b : Bool) → (a && b) ≡ true → (a ≡ true) × (b ≡ true)
      both true b is = (refl, is)
      both false b is = absurd cc

      slave_is : (n : ℕ) → is_slave_at s n ≡ true → n ≡ p
      slave_is n same =
          let slave = takes.slave in
          let is : (p == n) ≡ true = sym (ap (λ o. option_map_or (λ m. m == n) o false) slave) ∙ same in
          grind (arith, nat_tests)

      from : came_from head.source (held_at s p) ≡ true → is_port takes.reception.vector.source head.source ≡ true
      from came =
          sym (ap (λ o. option_map_or (λ (r : Reception). is_port r.vector.source head.source) o false) takes.holds)
          ∙ came

-- ---- a Sync

-- one that comes from there is kept
pub sync_kept : (p : ℕ) (octets : List ℕ) (now : ℕ) (s s' : SystemState) (sends : List Sending) (answer : Answer)
    (source : PortIdentity) (head : Head) → Steps (FrameHeard p octets) now s s' sends answer → TakesTime s p source
    → Reads octets (messages.Sync head) → head.two_step ≡ true → port_identity_number head.source ≡ source
    → IsKeptSync head now s s' sends answer
sync_kept p octets now s s' sends answer source head k takes reads two_step from =
    capable (is_capable_at s p) takes.capable (heard_as p octets (messages.Sync head) now s s' sends answer reads k)
  where
    keeps : (b : Bool) → b ≡ true → KeepsIf b head now s s' sends answer → IsKeptSync head now s s' sends answer
    keeps true same h = h
    keeps false same h = absurd cc

    capable : (b : Bool) → b ≡ true → HearsSyncIf b p head now s s' sends answer → IsKeptSync head now s s' sends answer
    capable true same h = keeps (is_followed p head s) (followed s p source takes head two_step from) h
    capable false same h = absurd cc

pub syncs_are_kept : (p : ℕ) (octets : List ℕ) (now : ℕ) (s s' : SystemState) (sends : List Sending) (answer : Answer)
    (id : SyncId) → Steps (FrameHeard p octets) now s s' sends answer → TakesTime s p id.source
    → says_sync octets (Sync id) → kept_view s' ≡ Some id
syncs_are_kept p octets now s s' sends answer id k takes (head, reads, two_step, is) =
    let kept = sync_kept p octets now s s' sends answer id.source head k takes reads two_step
    (ap (λ (x : SyncId). x.source) (sym is)) in
    ap kept_view kept.becomes.state ∙ ap Some (sym is)

-- ---- a Follow_Up

-- it belongs to the Sync of its port and number
pub belonging : (m : FollowUpFields) (kept : KeptSync) → m.head.source ≡ kept.source
    → m.head.sequence ≡ kept.sequence → belongs m kept ≡ true
belonging m kept port sequence =
    let clock = ap (λ (x : PortId). x.clock) port in
    let number = ap (λ (x : PortId). x.port) port in
    grind (arith, nat_tests)

-- what it says with that is known, or doesn't fit
pub follow_up_known : (p : ℕ) (octets : List ℕ) (now : ℕ) (s s' : SystemState) (sends : List Sending)
    (answer : Answer) (source : PortIdentity) (m : FollowUpFields) (kept : KeptSync)
    → Steps (FrameHeard p octets) now s s' sends answer → TakesTime s p source → Reads octets (messages.FollowUp m)
    → s.sync_in ≡ Some kept → belongs m kept ≡ true
    → KnowsBy (has_sync_timeout s.params) (together m kept) (delay_at s p) (root_rate_at s p) now s s' sends answer
follow_up_known p octets now s s' sends answer source m kept k takes reads keeps own =
    capable (is_capable_at s p) takes.capable
    (heard_as p octets (messages.FollowUp m) now s s' sends answer reads k)
  where
    said : said_on p m s ≡ Some (together m kept)
    said = let slave = at_slave s p source takes in rw (slave, keeps, own) refl

    capable : (b : Bool) → b ≡ true → HearsFollowUpIf b p m now s s' sends answer
        → KnowsBy (has_sync_timeout s.params) (together m kept) (delay_at s p) (root_rate_at s p) now s s' sends answer
    capable true same h = subst (λ o. KnowsIf o (delay_at s p) (root_rate_at s p) now s s' sends answer) said h
    capable false same h = absurd cc

pub follow_ups_are_used : (p : ℕ) (octets : List ℕ) (now : ℕ) (s s' : SystemState) (sends : List Sending)
    (answer : Answer) (source : PortIdentity) (id : SyncId) → Steps (FrameHeard p octets) now s s' sends answer
    → 0 < s.params.sync_timeout → TakesTime s p source → kept_view s ≡ Some id → says_sync octets (FollowUp id)
    → IsHeard now s s'
follow_ups_are_used p octets now s s' sends answer source id k on takes keeps (m, reads, is) = by s.sync_in refl keeps
  where
    used : (b : Bool) (info : SyncInfo) → b ≡ true
        → KnowsBy b info (delay_at s p) (root_rate_at s p) now s s' sends answer → IsHeard now s s'
    used true info same h = record {
      relay = ap (λ (x : SystemState). x.relay) h.becomes.state;
      lapse = ap (λ (x : SystemState). x.lapse) h.becomes.state;
    }
    used false info same h = absurd cc

    by : (o : Option KeptSync) → s.sync_in ≡ o → option_map id_of o ≡ Some id → IsHeard now s s'
    by None same names = absurd (none-some id names)
    by (Some kept) same names =
        let ids : sync_id m.head ≡ id_of kept = sym is ∙ sym (same_Some (id_of kept) id names) in
        let own = belonging m kept
        (same_identity m.head.source kept.source (ap (λ (x : SyncId). x.source) ids))
        (ap (λ (x : SyncId). x.sequence) ids) in
        used (has_sync_timeout s.params) (together m kept) (can_lapse s.params on)
        (follow_up_known p octets now s s' sends answer source m kept k takes reads same own)
