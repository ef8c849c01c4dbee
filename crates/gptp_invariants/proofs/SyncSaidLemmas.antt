-- What a system sends at one port tells no time, or is a Sync and its Follow_Up.
use Rattle.std.proofs.Common.{◌≡◌, ◌≢◌, ◌⊎◌, ◌<◌, ◌≤◌, ◌+◌, ℕ, zero, suc, ℤ, Bool, true, false, List, [], ◌∷◌, ◌++◌, Option, Some, None, slice_get, refl, sym, ap, subst, ◌∙◌, inl, inr, arith}
use Rattle.std.specs.Prelude.{if◌then◌else◌, IsSome}
use Rattle.std.specs.Option.{IsSomeAnd}
use Rattle.gptp_lists.specs.Members.{In}
use Rattle.gptp_vector.specs.declared.port.PortId.{PortId}
use Rattle.gptp_messages.specs.Frame.{PortFits}
use Rattle.gptp_messages.specs.declared.message.Message.TheVariants as messages
use Rattle.gptp_messages.specs.Grammar.{Written}
use Rattle.gptp_messages.specs.Head.{head_of}
use Rattle.gptp_receipt.specs.declared.held.Held.{Held}
use Rattle.gptp_correction.specs.declared.correction.Relayed.{Relayed}
use Rattle.gptp_correction.specs.declared.sync_in.SyncInfo.{SyncInfo}
use Rattle.gptp_correction.specs.Correction.{relayed}
use Rattle.gptp_pdelay.specs.declared.answer.Answer.{Answer as Owed}
use Rattle.gptp_scaled.specs.Stamp.{Timestamp}
use Rattle.gptp_setup.specs.declared.timer.Timer.TheVariants as timers
use Rattle.gptp_setup.specs.SettlingParams.{has_sync_timeout}
use Rattle.gptp_system.specs.declared.answer.Answer.{Answer}
use Rattle.gptp_system.specs.declared.port.Port.{Port}
use Rattle.gptp_system.specs.declared.sending.Sending.{Sending}
use Rattle.gptp_system.specs.Input.{Input, IsTimely, Steps, PortUp, PortDown, Frame as FrameHeard, Expires, Priority}
use Rattle.gptp_system.specs.Measuring.{RespondsIf, owed_at, request_of}
use Rattle.gptp_system.specs.Messages.{AllAre, Announcing, AreSent, Asking, AsksOnce, Telling, message_kind}
use Rattle.gptp_system.specs.State.{SystemState, clock, is_mine, own, trace}
use Rattle.gptp_system.specs.Syncing.{IsSentOn, IsToldAtLimits, LeadsTime, RelaysBy, RelaysIf, SyncsIf, follow_up_of, hop_of, is_leading, own_time, sync_of, syncs as all_syncs, told_by}
use Rattle.gptp_system.proofs.SendLemmas.{responds_answer, with_send-from}
use Rattle.gptp_system.proofs.SentLemmas.{steps_send}
use Rattle.gptp_model.specs.Sends.{written}
use Rattle.gptp_model.specs.World.{port_id}
use Rattle.gptp_model.proofs.SteadyLemmas.{same_clock}
use Rattle.gptp_invariants.specs.ChoiceSaid.{said_at}
use Rattle.gptp_invariants.specs.SyncLaws.{TellsTime}
use Rattle.gptp_invariants.specs.SyncView.{ArePaired, AreTimeless, IsTimeless, KnowsTime}
use Rattle.gptp_invariants.specs.ChoiceView.{port_identity_number}
use Rattle.gptp_invariants.proofs.DelayLinkLaneLemmas.{said_elsewhere, said_here}
use Rattle.gptp_invariants.proofs.DelaySentLemmas.{said_from}
use Rattle.gptp_invariants.proofs.SyncTimeStepLemmas.{can_lapse}
use Rattle.gptp_invariants.proofs.SyncOctetLemmas.{follow_up_said, sync_said, timeless}

-- ---- each port tells

-- What is told, as a system in this state writes it. The first port of the lists has the number n.
module _ (s' : SystemState) (log : ℤ) (told : Relayed) where
  abbrev port_of : ℕ → PortId
  port_of n = own s' n

  -- the octets of a port that holds this
  abbrev pub pair_if : Bool → ℕ → Port → List (List ℕ)
  pair_if false n q = []
  pair_if true n q =
      written s' (sync_of (port_of n) log q) ∷ written s' (follow_up_of (port_of n) log told q) ∷ []

  -- and of one that may be there
  abbrev pub pair_at : Option Held → Option Port → ℕ → List (List ℕ)
  pair_at None q n = []
  pair_at (Some h) None n = []
  pair_at (Some h) (Some q) n = pair_if (is_mine h) n q

  no_port : (h : Option Held) (n : ℕ) → [] ≡ pair_at h None n
  no_port None n = refl
  no_port (Some h) n = refl

  other_port : (n k : ℕ) → n ≢ k → port_of n ≢ port_of k
  other_port n k other same = other (ap (λ (p : PortId). p.port) same)

  -- nothing is said at a port before the first
  pub none_before : (k n : ℕ) (hs : List Held) (qs : List Port) → k < n
      → said_at s' (port_of k) (all_syncs (clock s') log told n hs qs) ≡ []
  none_before k n [] qs before = refl
  none_before k n (h ∷ hs) [] before = refl
  none_before k n (h ∷ hs) (q ∷ qs) before =
      by (is_mine h) (none_before k (n + 1) hs qs (omega arith))
    where
      rest : List Sending
      rest = all_syncs (clock s') log told (n + 1) hs qs

      apart : port_of n ≢ port_of k
      apart = other_port n k (λ same. omega arith)

      by : (mine : Bool) → said_at s' (port_of k) rest ≡ []
          → said_at s' (port_of k)
          (if mine
          then sync_of (port_of n) log q ∷ follow_up_of (port_of n) log told q ∷ rest
          else rest) ≡ []
      by false none = none
      by true none =
          said_elsewhere s' (port_of k) (sync_of (port_of n) log q) (follow_up_of (port_of n) log told q ∷ rest) apart
          ∙ said_elsewhere s' (port_of k) (follow_up_of (port_of n) log told q) rest apart ∙ none

  -- at the port of a place its own pair is said
  pub said_there : (i k n : ℕ) (hs : List Held) (qs : List Port) → k ≡ n + i
      → said_at s' (port_of k) (all_syncs (clock s') log told n hs qs) ≡ pair_at (slice_get hs i) (slice_get qs i) k
  said_there i k n [] qs number = refl
  said_there i k n (h ∷ hs) [] number = no_port (slice_get (h ∷ hs) i) k
  said_there zero k n (h ∷ hs) (q ∷ qs) number =
      let same : k ≡ n = omega arith in rw same (by (is_mine h) (none_before n (n + 1) hs qs (omega arith)))
    where
      rest : List Sending
      rest = all_syncs (clock s') log told (n + 1) hs qs

      by : (mine : Bool) → said_at s' (port_of n) rest ≡ []
          → said_at s' (port_of n)
          (if mine
          then sync_of (port_of n) log q ∷ follow_up_of (port_of n) log told q ∷ rest
          else rest) ≡ pair_if mine n q
      by false none = none
      by true none =
          said_here s' (port_of n) (sync_of (port_of n) log q) (follow_up_of (port_of n) log told q ∷ rest) refl
          ∙ ap (λ os. written s' (sync_of (port_of n) log q) ∷ os)
          (said_here s' (port_of n) (follow_up_of (port_of n) log told q) rest refl
          ∙ ap (λ os. written s' (follow_up_of (port_of n) log told q) ∷ os) none)
  said_there (suc i) k n (h ∷ hs) (q ∷ qs) number =
      by (is_mine h) (said_there i k (n + 1) hs qs (omega arith))
    where
      rest : List Sending
      rest = all_syncs (clock s') log told (n + 1) hs qs

      apart : port_of n ≢ port_of k
      apart = other_port n k (λ same. omega arith)

      by : (mine : Bool) → said_at s' (port_of k) rest ≡ pair_at (slice_get hs i) (slice_get qs i) k
          → said_at s' (port_of k)
          (if mine
          then sync_of (port_of n) log q ∷ follow_up_of (port_of n) log told q ∷ rest
          else rest) ≡ pair_at (slice_get hs i) (slice_get qs i) k
      by false ih = ih
      by true ih =
          said_elsewhere s' (port_of k) (sync_of (port_of n) log q) (follow_up_of (port_of n) log told q ∷ rest) apart
          ∙ said_elsewhere s' (port_of k) (follow_up_of (port_of n) log told q) rest apart ∙ ih

  -- what a Master port says is a Sync and its Follow_Up
  paired : (n : ℕ) (q : Port) → PortFits (port_of n) → told.origin.nanos < 1000000000
      → ArePaired (port_identity_number (port_of n)) (pair_if true n q)
  paired n q fits small =
      let first = sync_of (port_of n) log q in
      let second = follow_up_of (port_of n) log told q in
      record {
        sequence = (head_of (Written (messages.Sync first.head) ++ [])).sequence;
        sync = written s' first;
        follow_up = written s' second;
        are = refl;
        first = sync_said first.head fits refl;
        second = follow_up_said (record { head = second.head; origin = told.origin; rate = told.rate }) fits small
            first.head refl;
      }

  -- so at each port there are both, or nothing
  abbrev all_said : ℕ → List Held → List Port → List (List ℕ)
  all_said n hs qs = said_at s' (port_of n) (all_syncs (clock s') log told 1 hs qs)

  abbrev PairedOrNone : ℕ → List (List ℕ) → Type 0
  PairedOrNone n said = ArePaired (port_identity_number (port_of n)) said ⊎ AreTimeless said

  none_timeless : (n : ℕ) (said : List (List ℕ)) → said ≡ [] → PairedOrNone n said
  none_timeless n said is = inr (λ octets member. absurd (subst (In octets) is member))

  held_paired : (mine : Bool) (n : ℕ) (q : Port) (said : List (List ℕ)) → said ≡ pair_if mine n q
      → PortFits (port_of n) → told.origin.nanos < 1000000000 → PairedOrNone n said
  held_paired true n q said is fits small =
      inl (subst (ArePaired (port_identity_number (port_of n))) (sym is) (paired n q fits small))
  held_paired false n q said is fits small = none_timeless n said is

  there_paired : (h : Option Held) (q : Option Port) (n : ℕ) (said : List (List ℕ)) → said ≡ pair_at h q n
      → PortFits (port_of n) → told.origin.nanos < 1000000000 → PairedOrNone n said
  there_paired None q n said is fits small = none_timeless n said is
  there_paired (Some h) None n said is fits small = none_timeless n said is
  there_paired (Some h) (Some q) n said is fits small = held_paired (is_mine h) n q said is fits small

  paired_or_none : (n : ℕ) (hs : List Held) (qs : List Port) → PortFits (port_of n) → told.origin.nanos < 1000000000
      → PairedOrNone n (all_said n hs qs)
  paired_or_none zero hs qs fits small =
      none_timeless zero (all_said zero hs qs) (none_before zero 1 hs qs (omega arith))
  paired_or_none (suc i) hs qs fits small =
      there_paired (slice_get hs i) (slice_get qs i) (suc i) (all_said (suc i) hs qs)
      (said_there i (suc i) 1 hs qs (omega arith)) fits small

-- ---- each step

-- a system tells this time, with a timestamp
pub record IsToldBy (s : SystemState) (sends : List Sending) : Type 0 where
  told : Relayed
  small : told.origin.nanos < 1000000000
  are : sends ≡ told_by told s

-- it tells a time, or nothing
abbrev TellsOrNot : SystemState → List Sending → Type 0
TellsOrNot s sends = IsToldBy s sends ⊎ (sends ≡ [])

-- at the Sync timer a root tells its own time that may be grandmaster
leader_told : (now : ℕ) (s s' : SystemState) (sends : List Sending) → LeadsTime now s s' sends → IsToldBy s sends
leader_told now s s' sends k =
    record { told = own_time k.stamp k.rest; small = k.split.stamp.nanos; are = k.sends_are }

syncs_told : (b : Bool) (now : ℕ) (s s' : SystemState) (sends : List Sending) → SyncsIf b now s s' sends
    → TellsOrNot s sends
syncs_told true now s s' sends k = inl (leader_told now s s' sends k)
syncs_told false now s s' sends k = inr k.silent

-- what is told of a time that came has its origin
told_origin : (info : SyncInfo) (now : ℕ) (s : SystemState) (told : Relayed) → IsToldAtLimits info now s told
    → told.origin ≡ info.origin
told_origin info now s told (inl (fits, is)) = ap (λ (x : Relayed). x.origin) is
told_origin info now s told (inr (unfit, is)) = ap (λ (x : Relayed). x.origin) is

sent_on_told : (info : SyncInfo) (now : ℕ) (s s' : SystemState) (sends : List Sending)
    → info.origin.nanos < 1000000000 → IsSentOn info now s s' sends → IsToldBy s sends
sent_on_told info now s s' sends small k = record {
  told = k.told;
  small = subst (λ (t : Timestamp). t.nanos < 1000000000) (sym (told_origin info now s k.told k.told_is)) small;
  are = k.sends_are;
}

relays_told : (b : Bool) (info : SyncInfo) (now : ℕ) (s s' : SystemState) (sends : List Sending)
    → info.origin.nanos < 1000000000 → RelaysBy b info now s s' sends → TellsOrNot s sends
relays_told true info now s s' sends small k = inl (sent_on_told info now s s' sends small k)
relays_told false info now s s' sends small (inl k) =
    inl (record { told = relayed info (hop_of info now s); small = small; are = k.sends_are })
relays_told false info now s s' sends small (inr k) = inr k.becomes.silent

relay_told : (known : Option SyncInfo) (now : ℕ) (s s' : SystemState) (sends : List Sending)
    → ((info : SyncInfo) → known ≡ Some info → info.origin.nanos < 1000000000) → RelaysIf known now s s' sends
    → TellsOrNot s sends
relay_told None now s s' sends stamped k = inr k.silent
relay_told (Some info) now s s' sends stamped k =
    relays_told (has_sync_timeout s.params) info now s s' sends (stamped info refl) k

-- the Sync and the Relay timer alone tell time
pub asks_no_time : (s : SystemState) (p : ℕ) (sends : List Sending) → AsksOnce s p sends → (x : Sending) → In x sends
    → message_kind x.body ≢ Telling
asks_no_time s p sends sent x member =
    go (with_send-from (request_of p s) x sent.announces (subst (In x) sent.is member))
  where
    go : (x ≡ request_of p s) ⊎ In x sent.announces → message_kind x.body ≢ Telling
    go (inl it) kind = let e : message_kind x.body ≡ Asking = ap (λ (y : Sending). message_kind y.body) it in cc
    go (inr other) kind = let e = sent.all x other in cc

pub responds_no_time : (owed : Option Owed) (p now : ℕ) (s : SystemState) (sends : List Sending)
    → RespondsIf owed p now s sends → (x : Sending) → In x sends → message_kind x.body ≢ Telling
responds_no_time owed p now s sends sent x member kind =
    let e = responds_answer owed p now s sends sent x member in cc

-- each step tells a time by its ports, or what it sends isn't told
tells_or_other : (input : Input) (now : ℕ) (s s' : SystemState) (sends : List Sending) (answer : Answer)
    → IsTimely s now input → KnowsTime s → Steps input now s s' sends answer
    → TellsOrNot s sends ⊎ ((x : Sending) → In x sends → message_kind x.body ≢ Telling)
tells_or_other input now s s' sends answer timely knows k =
    by input k (steps_send input now s s' sends answer timely k)
  where
    announcing : AllAre Announcing sends → (x : Sending) → In x sends → message_kind x.body ≢ Telling
    announcing all x member kind = let e = all x member in cc

    by : (input : Input) → Steps input now s s' sends answer → AreSent s now input sends
        → TellsOrNot s sends ⊎ ((x : Sending) → In x sends → message_kind x.body ≢ Telling)
    by (PortUp p) k sent = inr (asks_no_time s p sends sent)
    by (PortDown p) k sent = inr (announcing sent)
    by (FrameHeard p octets) k sent = inr (announcing sent)
    by (Expires (timers.Announce p)) k sent = inr (announcing sent)
    by (Expires (timers.Age p)) k sent = inr (announcing sent)
    by (Expires (timers.Pdelay p)) k sent = inr (asks_no_time s p sends sent)
    by (Expires (timers.Respond p)) k sent = inr (responds_no_time (owed_at s p) p now s sends sent)
    by (Expires timers.Sync) k sent = inl (syncs_told (is_leading s) now s s' sends k)
    by (Expires timers.Relay) k sent = inl (relay_told s.known now s s' sends knows.stamped k)
    by (Expires timers.Lapse) k sent = inr (announcing sent)
    by (Priority value) k sent = inr (announcing sent)

-- ---- at each port

pub tells_in_pairs : (input : Input) (now : ℕ) (s s' : SystemState) (sends : List Sending) (answer : Answer) (n : ℕ)
    → IsTimely s now input → KnowsTime s → PortFits (own s n) → Steps input now s s' sends answer
    → ArePaired (port_identity_number (own s n)) (said_at s' (own s n) sends) ⊎ AreTimeless (said_at s' (own s n) sends)
tells_in_pairs input now s s' sends answer n timely knows fits k =
    by (tells_or_other input now s s' sends answer timely knows k)
  where
    same : clock s' ≡ clock s
    same = same_clock input now s s' sends answer k

    mine : own s' n ≡ own s n
    mine = ap (λ c. port_id c n) same

    Said : PortId → List Sending → Type 0
    Said port xs = ArePaired (port_identity_number port) (said_at s' port xs) ⊎ AreTimeless (said_at s' port xs)

    by : TellsOrNot s sends ⊎ ((x : Sending) → In x sends → message_kind x.body ≢ Telling) → Said (own s n) sends
    by (inl (inl t)) =
        subst (λ port. Said port sends) mine
        (subst (Said (own s' n)) (ap (λ c. all_syncs c s.params.sync t.told 1 s.held s.ports) same ∙ sym t.are)
        (paired_or_none s' s.params.sync t.told n s.held s.ports (subst PortFits (sym mine) fits) t.small))
    by (inl (inr is)) = inr (λ octets member. absurd (subst (λ xs. In octets (said_at s' (own s n) xs)) is member))
    by (inr other) =
        inr (λ octets member.
        let (x, among, from, is) = said_from s' (own s n) sends octets member in
        subst IsTimeless (sym is) (timeless (trace s') x.head x.body (other x among)))

-- ---- each Master port tells

tells_by : (s s' : SystemState) (sends : List Sending) → clock s' ≡ clock s → IsToldBy s sends → TellsTime s s' sends
tells_by s s' sends same t i q root steps held there fits =
    subst (λ port. ArePaired (port_identity_number port) (said_at s' port sends)) mine
    (subst (ArePaired (port_identity_number (own s' (suc i)))) (sym said)
    (paired s' s.params.sync t.told (suc i) q (subst PortFits (sym mine) fits) t.small))
  where
    mine : own s' (suc i) ≡ own s (suc i)
    mine = ap (λ c. port_id c (suc i)) same

    sent : sends ≡ all_syncs (clock s') s.params.sync t.told 1 s.held s.ports
    sent = t.are ∙ ap (λ c. all_syncs c s.params.sync t.told 1 s.held s.ports) (sym same)

    said : said_at s' (own s' (suc i)) sends ≡ pair_if s' s.params.sync t.told true (suc i) q
    said =
        ap (said_at s' (own s' (suc i))) sent
        ∙ said_there s' s.params.sync t.told i (suc i) 1 s.held s.ports (omega arith)
        ∙ (λ j. pair_at s' s.params.sync t.told (held j) (there j) (suc i))

pub leaders_tell : (now : ℕ) (s s' : SystemState) (sends : List Sending) (answer : Answer)
    → is_leading s ≡ true → Steps (Expires timers.Sync) now s s' sends answer → TellsTime s s' sends
leaders_tell now s s' sends answer is k =
    tells_by s s' sends (same_clock (Expires timers.Sync) now s s' sends answer k)
    (leader_told now s s' sends (subst (λ b. SyncsIf b now s s' sends) is k))

pub relays_tell : (now : ℕ) (s s' : SystemState) (sends : List Sending) (answer : Answer)
    → 0 < s.params.sync_timeout → IsTimely s now (Expires timers.Relay) → KnowsTime s
    → Steps (Expires timers.Relay) now s s' sends answer → TellsTime s s' sends
relays_tell now s s' sends answer on timely knows k =
    tells_by s s' sends (same_clock (Expires timers.Relay) now s s' sends answer k) (by s.relay refl timely)
  where
    has : has_sync_timeout s.params ≡ true
    has = can_lapse s.params on

    told : (known : Option SyncInfo) → s.known ≡ known → IsSome known → RelaysIf known now s s' sends
        → IsToldBy s sends
    told None same some relays = absurd cc
    told (Some info) same some relays =
        sent_on_told info now s s' sends (knows.stamped info same)
        (subst (λ b. RelaysBy b info now s s' sends) has relays)

    by : (relay : Option ℕ) → s.relay ≡ relay → IsSomeAnd relay (λ t. t ≤ now) → IsToldBy s sends
    by None same due = absurd due
    by (Some t) same due = told s.known refl (knows.relays t on same) k
