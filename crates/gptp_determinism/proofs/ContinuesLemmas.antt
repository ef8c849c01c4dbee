-- What of a step doesn't depend on whether systems go on with the time that they read.
use Rattle.std.proofs.Common.{◌≡◌, ◌<◌, ◌+◌, ℕ, ℤ, pos, Bool, true, false, List, [], ◌∷◌, map, ◌⊎◌, Option, Some, None, refl, sym, ap, subst, ◌∙◌, inl, inr}
use Rattle.std.specs.Prelude.{◌↔◌, ⊤, if◌then◌else◌}
use Rattle.std.specs.Option.{option_map, unwrap_or}
use Rattle.std.proofs.lemmas.Option.{none-some}
use Rattle.gptp_lists.proofs.MappedLemmas.{some_same}
use Rattle.gptp_messages.specs.declared.follow_up.FollowUp.{FollowUp}
use Rattle.gptp_messages.specs.declared.message.Message.{Message}
use Rattle.gptp_messages.specs.declared.message.Message.TheVariants as messages
use Rattle.gptp_messages.specs.Grammar.{Reads}
use Rattle.gptp_messages.proofs.GrammarLemmas.{never_both, one_reading}
use Rattle.gptp_vector.specs.declared.port.PortId.{PortId}
use Rattle.gptp_receipt.specs.declared.held.Held.{Held}
use Rattle.gptp_pdelay.specs.Peer.{after_follow_up, after_interval, after_response, reset_peer}
use Rattle.gptp_pdelay.specs.declared.answer.Answer.{Answer as Owed}
use Rattle.gptp_correction.specs.SyncIn.{KeptSync, belongs, information, together}
use Rattle.gptp_correction.specs.declared.correction.Relayed.{Relayed}
use Rattle.gptp_correction.specs.declared.sync_in.SyncInfo.{SyncInfo}
use Rattle.gptp_correction.specs.Correction.{held_sum, relayed}
use Rattle.gptp_setup.specs.declared.timer.Timer.{Timer}
use Rattle.gptp_setup.specs.declared.timer.Timer.TheVariants as timers
use Rattle.gptp_setup.specs.SettlingParams.{has_sync_timeout}
use Rattle.gptp_system.specs.declared.answer.Answer.{Answer}
use Rattle.gptp_system.specs.declared.port.Port.{Port}
use Rattle.gptp_system.specs.declared.sending.Sending.{Sending}
use Rattle.gptp_system.specs.Announcing.{aged_at, with_priority}
use Rattle.gptp_system.specs.Input.{Input, PortUp, PortDown, Frame, Priority, Steps}
use Rattle.gptp_system.specs.Input.{Expires as TimerExpires}
use Rattle.gptp_system.specs.Lapse.{lapsed}
use Rattle.gptp_system.specs.Measuring.{down, owed_at, owes, RespondsIf}
use Rattle.gptp_system.specs.Selection.{Becomes}
use Rattle.gptp_system.specs.State.{SystemState, clock, due, is_capable_at, is_mine, lapse_of, own, stamp_time, with_peer}
use Rattle.gptp_system.specs.Steps.{Expires, HearsFrame, HearsMessage}
use Rattle.gptp_system.specs.Takeover.{leading}
use Rattle.gptp_system.specs.Syncing.{as_received, delay_at, follow_up_of, forgetting, hop_of, is_leading, is_slave_at, knowing, offset_of, own_time, refreshing, restarted, root_rate_at, said_on, slave_rate, sync_of, syncs, telling, timer_stopped, told_by, HearsFollowUpIf, HopFits, IsToldAtLimits, KnowsBy, KnowsIf, OffsetFits, RelaysBy, RelaysIf, SyncsIf}
use Rattle.gptp_determinism.specs.BesideTime.{KnowsStamp, beside_time, follow_up_beside, info_beside, no_time, sending_beside, SameBeside, SaySameBeside}
use Rattle.gptp_determinism.specs.ContinuesLaws.{FitAlike, RelaysFitAlike, StartsBesideTime, StepsBesideTime, TimersBesideTime}
use Rattle.gptp_determinism.specs.StepLaws.{SameAnswer}
use Rattle.gptp_determinism.proofs.StepLemmas.{steps_once}
use Rattle.gptp_determinism.proofs.BesideStepLemmas.{asks_beside, becomes_beside, hears_announce_beside, hears_sync_beside, selects_beside, turns_beside}

-- ---- what is told

-- what is told, but for the time
abbrev pub told_beside : Relayed → Relayed
told_beside told = record { origin = no_time; correction = pos 0; rate = told.rate }

mine_beside : (mine : Bool) (own : PortId) (log : ℤ) (told : Relayed) (q : Port) (xs ys : List Sending)
    → map sending_beside xs ≡ ys
    → map sending_beside (if mine then sync_of own log q ∷ follow_up_of own log told q ∷ xs else xs)
    ≡ (if mine then sync_of own log q ∷ follow_up_of own log (told_beside told) q ∷ ys else ys)
mine_beside true own log told q xs ys same =
    ap (λ (zs : List Sending). sync_of own log q ∷ follow_up_of own log (told_beside told) q ∷ zs) same
mine_beside false own log told q xs ys same = same

syncs_beside : (clock : ℕ) (log : ℤ) (told : Relayed) (p : ℕ) (hs : List Held) (qs : List Port)
    → map sending_beside (syncs clock log told p hs qs) ≡ syncs clock log (told_beside told) p hs qs
syncs_beside clock log told p [] qs = refl
syncs_beside clock log told p (h ∷ hs) [] = refl
syncs_beside clock log told p (h ∷ hs) (q ∷ qs) =
    mine_beside (is_mine h) (record { clock = clock; port = p }) log told q (syncs clock log told (p + 1) hs qs)
    (syncs clock log (told_beside told) (p + 1) hs qs) (syncs_beside clock log told (p + 1) hs qs)

-- two such systems that tell the same beside the time
told_same : (s t : SystemState) (a b : Relayed) → beside_time s ≡ beside_time t → told_beside a ≡ told_beside b
    → map sending_beside (told_by a s) ≡ map sending_beside (told_by b t)
told_same s t a b same told =
    syncs_beside (clock s) s.params.sync a 1 s.held s.ports
    ∙ ap (λ (x : Relayed). told_by x (beside_time s)) told
    ∙ ap (told_by (told_beside b)) same
    ∙ sym (syncs_beside (clock t) t.params.sync b 1 t.held t.ports)

-- ---- outcomes that are the same beside the time

-- what is told has nanoseconds that make no second
abbrev pub IsTold : Relayed → Type 0
IsTold told = told.origin.nanos < 1000000000

-- both tell a time, the same beside the time
pub record TellBoth (s t : SystemState) (sends more : List Sending) : Type 0 where
  pub told : Relayed
  pub others : Relayed
  pub same : told_beside told ≡ told_beside others
  pub sends_are : sends ≡ told_by told s
  pub more_are : more ≡ told_by others t
  pub one : KnowsStamp s → IsTold told
  pub other : KnowsStamp t → IsTold others

-- or they send one thing
abbrev pub SendAlike : SystemState → SystemState → List Sending → List Sending → Type 0
SendAlike s t sends more = (sends ≡ more) ⊎ TellBoth s t sends more

-- both systems and all sends
abbrev Same : SystemState → SystemState → SystemState → SystemState → List Sending → List Sending → Type 0
Same s t s' t' sends more = (beside_time s' ≡ beside_time t') × SendAlike s t sends more

-- and the answer
pub record IsAlikeStep (input : Input) (s t s' t' : SystemState) (sends more : List Sending) (answer said : Answer) :
    Type 0 where
  pub state : beside_time s' ≡ beside_time t'
  pub sends_are : SendAlike s t sends more
  pub answer_is : SameAnswer input answer said

-- from what the same step made of both without time
once : (s' t' : SystemState) (sends more : List Sending) (input : Input) (now : ℕ) (s t : SystemState)
    (answer said : Answer) → beside_time s ≡ beside_time t
    → Steps input now (beside_time s) (beside_time s') sends answer
    → Steps input now (beside_time t) (beside_time t') more said
    → IsAlikeStep input s t s' t' sends more answer said
once s' t' sends more input now s t answer said same k l =
    let one = steps_once input now (beside_time s) (beside_time s') (beside_time t') sends more answer said k
    (subst (λ x. Steps input now x (beside_time t') more said) (sym same) l) in
    record { state = one.state; sends_are = inl one.sends_are; answer_is = one.answer_is }

-- both became such systems, and sent nothing
become : (s t s' t' : SystemState) (sends more : List Sending) (u v : SystemState) → beside_time u ≡ beside_time v
    → Becomes u s' sends → Becomes v t' more → Same s t s' t' sends more
become s t s' t' sends more u v same k l =
    (ap beside_time k.state ∙ same ∙ sym (ap beside_time l.state), inl (k.silent ∙ sym l.silent))

-- ---- what a Follow_Up says

said_by : (kept : KeptSync) (m : FollowUp) (is : Bool)
    → option_map info_beside (if is then Some (together m kept) else None)
    ≡ (if is then Some (together (follow_up_beside m) kept) else None)
said_by kept m true = refl
said_by kept m false = refl

information_beside : (kept : Option KeptSync) (m : FollowUp)
    → option_map info_beside (information kept m) ≡ information kept (follow_up_beside m)
information_beside None m = refl
information_beside (Some kept) m = said_by kept m (belongs m kept)

said_if : (slave : Bool) (kept : Option KeptSync) (m : FollowUp)
    → option_map info_beside (if slave then information kept m else None)
    ≡ (if slave then information kept (follow_up_beside m) else None)
said_if true kept m = information_beside kept m
said_if false kept m = refl

-- two Follow_Ups that say the same beside the time say such things to two such systems
said_same : (p : ℕ) (m n : FollowUp) (s t : SystemState) → beside_time s ≡ beside_time t
    → follow_up_beside m ≡ follow_up_beside n
    → option_map info_beside (said_on p m s) ≡ option_map info_beside (said_on p n t)
said_same p m n s t same say =
    said_if (is_slave_at s p) s.sync_in m
    ∙ ap (λ (x : SystemState). said_on p (follow_up_beside m) x) same
    ∙ ap (λ (x : FollowUp). said_on p x (beside_time t)) say
    ∙ sym (said_if (is_slave_at t p) t.sync_in n)

-- what is known then, but for the time
abbrev refreshed : SyncInfo → ℕ → SystemState → SystemState
refreshed info now s = record s {
  known = Some info;
  relay = Some (unwrap_or s.relay (now + s.params.residence));
  lapse = lapse_of s.params s.root s.slave now;
}

abbrev known_then : SyncInfo → ℕ → SystemState → SystemState
known_then info now s = record s { known = Some info; relay = Some (now + s.params.residence) }

-- ---- what is told at the limits

limits_told : (info : SyncInfo) (now : ℕ) (s : SystemState) (told : Relayed) → s.known ≡ Some info
    → IsToldAtLimits info now s told → KnowsStamp s → IsTold told
limits_told info now s told is (inl k) knows = subst IsTold (sym k.1) (knows info is)
limits_told info now s told is (inr k) knows = subst IsTold (sym k.1) (knows info is)

-- ---- steps that touch time

module _ (s' t' : SystemState) (sends more : List Sending) (now : ℕ) (s t : SystemState)
    (same : beside_time s ≡ beside_time t) where
  -- both tell, in such states
  tell : (u v : SystemState) (a b : Relayed) → beside_time u ≡ beside_time v → told_beside a ≡ told_beside b
      → (KnowsStamp s → IsTold a) → (KnowsStamp t → IsTold b) → s' ≡ telling u → t' ≡ telling v → sends ≡ told_by a s
      → more ≡ told_by b t → Same s t s' t' sends more
  tell u v a b alike told a-told b-told s-is t-is sends-are more-are = (
    ap beside_time s-is ∙ ap telling alike ∙ sym (ap beside_time t-is),
    inr (record {
      told = a;
      others = b;
      same = told;
      sends_are = sends-are;
      more_are = more-are;
      one = a-told;
      other = b-told;
    }),
  )

  syncs_if : (leads : Bool) → SyncsIf leads now s s' sends → SyncsIf leads now t t' more → Same s t s' t' sends more
  syncs_if true k l =
      tell (restarted now (leading now s)) (restarted now (leading now t)) (own_time k.stamp k.rest)
      (own_time l.stamp l.rest) (ap (restarted now) same) refl (λ knows. k.split.stamp.nanos)
      (λ knows. l.split.stamp.nanos) k.state l.state k.sends_are l.sends_are
  syncs_if false k l = become s t s' t' sends more (restarted now s) (restarted now t) (ap (restarted now) same) k l

  -- what is told at the limits, but for the time
  abbrev at_limits : SyncInfo → SystemState → Relayed
  at_limits info x =
      let held = held_sum info (slave_rate x) in told_beside (relayed held (hop_of held now x))

  abbrev as_sent_on : SyncInfo → SystemState → Relayed
  as_sent_on info x = told_beside (relayed info (hop_of info now x))

  told_at_limits : (i j : SyncInfo) (a b : Relayed) → info_beside i ≡ info_beside j
      → (HopFits (held_sum i (slave_rate s)) now s ↔ HopFits (held_sum j (slave_rate t)) now t)
      → IsToldAtLimits i now s a → IsToldAtLimits j now t b → told_beside a ≡ told_beside b
  told_at_limits i j a b infos fit (inl k) (inl l) =
      ap told_beside k.1 ∙ ap (λ (x : SyncInfo). at_limits x (beside_time s)) infos
      ∙ ap (at_limits (info_beside j)) same ∙ sym (ap told_beside l.1)
  told_at_limits i j a b infos fit (inl k) (inr l) = absurd (l.0 (fit.0 k.0))
  told_at_limits i j a b infos fit (inr k) (inl l) = absurd (k.0 (fit.1 l.0))
  told_at_limits i j a b infos fit (inr k) (inr l) =
      ap told_beside k.1 ∙ ap (λ (x : SyncInfo). told_beside (as_received x)) infos ∙ sym (ap told_beside l.1)

  relays_by : (on : Bool) (i j : SyncInfo) → s.known ≡ Some i → t.known ≡ Some j → info_beside i ≡ info_beside j
      → (HopFits i now s ↔ HopFits j now t)
      → (HopFits (held_sum i (slave_rate s)) now s ↔ HopFits (held_sum j (slave_rate t)) now t)
      → RelaysBy on i now s s' sends → RelaysBy on j now t t' more → Same s t s' t' sends more
  relays_by true i j i-is j-is infos fit held k l =
      tell (timer_stopped s) (timer_stopped t) k.told l.told (ap timer_stopped same)
      (told_at_limits i j k.told l.told infos held k.told_is l.told_is)
      (limits_told i now s k.told i-is k.told_is) (limits_told j now t l.told j-is l.told_is) k.state l.state
      k.sends_are l.sends_are
  relays_by false i j i-is j-is infos fit held (inl k) (inl l) =
      tell (timer_stopped s) (timer_stopped t) (relayed i (hop_of i now s)) (relayed j (hop_of j now t))
      (ap timer_stopped same)
      (ap (λ (x : SyncInfo). as_sent_on x (beside_time s)) infos ∙ ap (as_sent_on (info_beside j)) same)
      (λ knows. knows i i-is) (λ knows. knows j j-is) k.state l.state k.sends_are l.sends_are
  relays_by false i j i-is j-is infos fit held (inl k) (inr l) = absurd (l.unfit (fit.0 k.fits))
  relays_by false i j i-is j-is infos fit held (inr k) (inl l) = absurd (k.unfit (fit.1 l.fits))
  relays_by false i j i-is j-is infos fit held (inr k) (inr l) =
      become s t s' t' sends more (timer_stopped s) (timer_stopped t) (ap timer_stopped same) k.becomes l.becomes

  relays_if : RelaysFitAlike now s t → (k-known l-known : Option SyncInfo)
      → s.known ≡ k-known → t.known ≡ l-known → option_map info_beside k-known ≡ option_map info_beside l-known
      → RelaysIf k-known now s s' sends → RelaysIf l-known now t t' more → Same s t s' t' sends more
  relays_if fit None None k-is l-is infos k l =
      become s t s' t' sends more (timer_stopped s) (timer_stopped t) (ap timer_stopped same) k l
  relays_if fit None (Some j) k-is l-is infos k l = absurd (none-some (info_beside j) infos)
  relays_if fit (Some i) None k-is l-is infos k l = absurd (none-some (info_beside i) (sym infos))
  relays_if fit (Some i) (Some j) k-is l-is infos k l =
      relays_by (has_sync_timeout s.params) i j k-is l-is (some_same (info_beside i) (info_beside j) infos)
      (fit.sums i j k-is l-is) (fit.held i j k-is l-is) k
      (subst (λ on. RelaysBy on j now t t' more) (sym (ap (λ (x : SystemState). has_sync_timeout x.params) same)) l)

  -- both became such systems, and answer the same
  heard : (u v : SystemState) (a b answer said : Answer) → beside_time u ≡ beside_time v → a ≡ b → Becomes u s' sends
      → Becomes v t' more → answer ≡ a → said ≡ b → Same s t s' t' sends more × (answer ≡ said)
  heard u v a b answer said alike ab k l k-is l-is =
      (become s t s' t' sends more u v alike k l, k-is ∙ ab ∙ sym l-is)

  knows_by : (on : Bool) (i j : SyncInfo) (delay rate way pace : ℤ) (answer said : Answer)
      → info_beside i ≡ info_beside j → (OffsetFits i delay rate ↔ OffsetFits j way pace)
      → KnowsBy on i delay rate now s s' sends answer → KnowsBy on j way pace now t t' more said
      → Same s t s' t' sends more × (answer ≡ said)
  knows_by true i j delay rate way pace answer said infos fit k l =
      heard (refreshing i k.offset rate now s) (refreshing j l.offset pace now t) _ _ answer said
      (ap (λ (x : SyncInfo). refreshed x now (beside_time s)) infos
      ∙ ap (refreshed (info_beside j) now) same) refl k.becomes l.becomes k.answer_is l.answer_is
  knows_by false i j delay rate way pace answer said infos fit (inl k) (inl l) =
      heard (knowing i (offset_of i delay rate) rate now s) (knowing j (offset_of j way pace) pace now t) _ _ answer
      said (ap (λ (x : SyncInfo). known_then x now (beside_time s)) infos
      ∙ ap (known_then (info_beside j) now) same) refl k.becomes l.becomes k.answer_is l.answer_is
  knows_by false i j delay rate way pace answer said infos fit (inl k) (inr l) = absurd (l.unfit (fit.0 k.fits))
  knows_by false i j delay rate way pace answer said infos fit (inr k) (inl l) = absurd (k.unfit (fit.1 l.fits))
  knows_by false i j delay rate way pace answer said infos fit (inr k) (inr l) =
      heard (forgetting s) (forgetting t) _ _ answer said (ap forgetting same) refl k.becomes
      l.becomes k.answer_is l.answer_is

  knows_if : (k-said l-said : Option SyncInfo) (delay rate way pace : ℤ) (answer said : Answer)
      → option_map info_beside k-said ≡ option_map info_beside l-said
      → ((i j : SyncInfo) → k-said ≡ Some i → l-said ≡ Some j → (OffsetFits i delay rate ↔ OffsetFits j way pace))
      → KnowsIf k-said delay rate now s s' sends answer → KnowsIf l-said way pace now t t' more said
      → Same s t s' t' sends more × (answer ≡ said)
  knows_if None None delay rate way pace answer said infos fit k l =
      heard s t _ _ answer said same refl k.becomes l.becomes k.answer_is l.answer_is
  knows_if None (Some j) delay rate way pace answer said infos fit k l = absurd (none-some (info_beside j) infos)
  knows_if (Some i) None delay rate way pace answer said infos fit k l =
      absurd (none-some (info_beside i) (sym infos))
  knows_if (Some i) (Some j) delay rate way pace answer said infos fit k l =
      knows_by (has_sync_timeout s.params) i j delay rate way pace answer said
      (some_same (info_beside i) (info_beside j) infos) (fit i j refl refl) k
      (subst (λ on. KnowsBy on j way pace now t t' more said)
      (sym (ap (λ (x : SystemState). has_sync_timeout x.params) same)) l)

  follow_if : (on : Bool) (p : ℕ) (m n : FollowUp) (answer said : Answer) → follow_up_beside m ≡ follow_up_beside n
      → ((i j : SyncInfo) → said_on p m s ≡ Some i → said_on p n t ≡ Some j
      → (OffsetFits i (delay_at s p) (root_rate_at s p) ↔ OffsetFits j (delay_at t p) (root_rate_at t p)))
      → HearsFollowUpIf on p m now s s' sends answer → HearsFollowUpIf on p n now t t' more said
      → Same s t s' t' sends more × (answer ≡ said)
  follow_if true p m n answer said say fit k l =
      knows_if (said_on p m s) (said_on p n t) (delay_at s p) (root_rate_at s p) (delay_at t p) (root_rate_at t p)
      answer said (said_same p m n s t same say) fit k l
  follow_if false p m n answer said say fit k l =
      heard s t _ _ answer said same refl k.becomes l.becomes k.answer_is l.answer_is

  hears_follow_up : (p : ℕ) (a b : List ℕ) (m n : FollowUp) (answer said : Answer) → Reads a (messages.FollowUp m)
      → Reads b (messages.FollowUp n) → follow_up_beside m ≡ follow_up_beside n
      → FitAlike (Frame p a) (Frame p b) now s t
      → HearsMessage p (messages.FollowUp m) now s s' sends answer
      → HearsMessage p (messages.FollowUp n) now t t' more said
      → IsAlikeStep (Frame p a) s t s' t' sends more answer said
  hears_follow_up p a b m n answer said a-reads b-reads say fit k l =
      let both =
      follow_if (is_capable_at s p) p m n answer said say (λ i j i-is j-is. fit m n i j a-reads b-reads i-is j-is)
      k (subst (λ on. HearsFollowUpIf on p n now t t' more said)
      (sym (ap (λ (x : SystemState). is_capable_at x p) same)) l) in
      record { state = both.0.0; sends_are = both.0.1; answer_is = both.1 }

-- ---- frames

-- a message that isn't a Follow_Up
abbrev IsOther : Message → Type 0
IsOther (messages.FollowUp m) = ⊥
IsOther m = ⊤

message_beside : (p : ℕ) (m : Message) (now : ℕ) (s t : SystemState) (sends : List Sending) (answer : Answer)
    → IsOther m → HearsMessage p m now s t sends answer
    → HearsMessage p m now (beside_time s) (beside_time t) sends answer
message_beside p (messages.Sync head) now s t sends answer is k =
    hears_sync_beside (is_capable_at s p) p head now s t sends answer k
message_beside p (messages.PdelayReq head) now s t sends answer is k =
    record { becomes = becomes_beside (owes p head now s) t sends k.becomes; answer_is = k.answer_is }
message_beside p (messages.PdelayResp m) now s t sends answer is k = record {
  becomes = becomes_beside (with_peer p (after_response m (stamp_time s now)) s) t sends k.becomes;
  answer_is = k.answer_is;
}
message_beside p (messages.FollowUp m) now s t sends answer is k = absurd is
message_beside p (messages.PdelayRespFollowUp m) now s t sends answer is k =
    record { turns = turns_beside p (after_follow_up m) now s t sends k.turns; answer_is = k.answer_is }
message_beside p (messages.Announce a) now s t sends answer is k = hears_announce_beside p a now s t sends answer k

module _ (s' t' : SystemState) (sends more : List Sending) (now : ℕ) (s t : SystemState) (answer said : Answer)
    (same : beside_time s ≡ beside_time t) where
  -- one frame, which isn't a Follow_Up, or is one
  other_once : (p : ℕ) (octets : List ℕ) (m : Message) → IsOther m → Reads octets m
      → HearsMessage p m now s s' sends answer → HearsMessage p m now t t' more said
      → IsAlikeStep (Frame p octets) s t s' t' sends more answer said
  other_once p octets m is reads k l =
      once s' t' sends more (Frame p octets) now s t answer said same
      (inl (record { message = m; reads = reads; hears = message_beside p m now s s' sends answer is k }))
      (inl (record { message = m; reads = reads; hears = message_beside p m now t t' more said is l }))

  message_once : (p : ℕ) (octets : List ℕ) (m : Message) → FitAlike (Frame p octets) (Frame p octets) now s t
      → Reads octets m → HearsMessage p m now s s' sends answer → HearsMessage p m now t t' more said
      → IsAlikeStep (Frame p octets) s t s' t' sends more answer said
  message_once p octets (messages.FollowUp m) fit reads k l =
      hears_follow_up s' t' sends more now s t same p octets octets m m answer said reads reads refl fit k l
  message_once p octets (messages.Sync head) fit reads k l = other_once p octets (messages.Sync head) tt reads k l
  message_once p octets (messages.PdelayReq head) fit reads k l =
      other_once p octets (messages.PdelayReq head) tt reads k l
  message_once p octets (messages.PdelayResp m) fit reads k l =
      other_once p octets (messages.PdelayResp m) tt reads k l
  message_once p octets (messages.PdelayRespFollowUp m) fit reads k l =
      other_once p octets (messages.PdelayRespFollowUp m) tt reads k l
  message_once p octets (messages.Announce a) fit reads k l = other_once p octets (messages.Announce a) tt reads k l

  frame_once : (p : ℕ) (octets : List ℕ) → FitAlike (Frame p octets) (Frame p octets) now s t
      → HearsFrame p octets now s s' sends answer → HearsFrame p octets now t t' more said
      → IsAlikeStep (Frame p octets) s t s' t' sends more answer said
  frame_once p octets fit (inl k) (inl l) =
      let one = one_reading octets l.message k.message l.reads k.reads in
      message_once p octets k.message fit k.reads k.hears
      (subst (λ (m : Message). HearsMessage p m now t t' more said) one l.hears)
  frame_once p octets fit (inl k) (inr l) = absurd (never_both octets k.message l.refused k.reads l.refuses)
  frame_once p octets fit (inr k) (inl l) = absurd (never_both octets l.message k.refused l.reads k.refuses)
  frame_once p octets fit (inr k) (inr l) =
      once s' t' sends more (Frame p octets) now s t answer said same
      (inr (record {
        refused = k.refused;
        refuses = k.refuses;
        becomes = becomes_beside s s' sends k.becomes;
        answer_is = k.answer_is;
      }))
      (inr (record {
        refused = l.refused;
        refuses = l.refuses;
        becomes = becomes_beside t t' more l.becomes;
        answer_is = l.answer_is;
      }))

  -- two that say the same beside the time
  frames_once : (p : ℕ) (a b : List ℕ) → (a ≡ b) ⊎ SaySameBeside a b → FitAlike (Frame p a) (Frame p b) now s t
      → HearsFrame p a now s s' sends answer → HearsFrame p b now t t' more said
      → IsAlikeStep (Frame p a) s t s' t' sends more answer said
  frames_once p a b (inl one) fit k l =
      frame_once p a (subst (λ (f : List ℕ). FitAlike (Frame p a) (Frame p f) now s t) (sym one) fit) k
      (subst (λ (f : List ℕ). HearsFrame p f now t t' more said) (sym one) l)
  frames_once p a b (inr say) fit (inl k) (inl l) =
      let one = one_reading a k.message (messages.FollowUp say.one) k.reads say.reads in
      let other = one_reading b l.message (messages.FollowUp say.other) l.reads say.reads_other in
      hears_follow_up s' t' sends more now s t same p a b say.one say.other answer said say.reads say.reads_other
      say.same fit (subst (λ (m : Message). HearsMessage p m now s s' sends answer) one k.hears)
      (subst (λ (m : Message). HearsMessage p m now t t' more said) other l.hears)
  frames_once p a b (inr say) fit (inl k) (inr l) =
      absurd (never_both b (messages.FollowUp say.other) l.refused say.reads_other l.refuses)
  frames_once p a b (inr say) fit (inr k) l =
      absurd (never_both a (messages.FollowUp say.one) k.refused say.reads k.refuses)

-- ---- timers

responds_beside : (owed : Option Owed) (p now : ℕ) (s : SystemState) (sends : List Sending)
    → RespondsIf owed p now s sends → RespondsIf owed p now (beside_time s) sends
responds_beside None p now s sends k = k
responds_beside (Some owed) p now s sends k = record {
  came = k.came;
  came-rest = k.came-rest;
  went = k.went;
  went-rest = k.went-rest;
  came_is = k.came_is;
  went_is = k.went_is;
  sends_are = k.sends_are;
}

module _ (s' t' : SystemState) (sends more : List Sending) (now : ℕ) (s t : SystemState) (answer said : Answer)
    (same : beside_time s ≡ beside_time t) where
  timer_once : (timer : Timer) → FitAlike (TimerExpires timer) (TimerExpires timer) now s t
      → Expires timer now s s' sends → Expires timer now t t' more
      → IsAlikeStep (TimerExpires timer) s t s' t' sends more answer said
  timer_once (timers.Announce p) fit k l =
      once s' t' sends more (TimerExpires (timers.Announce p)) now s t answer said same
      (record { state = ap beside_time k.state; sends_are = k.sends_are })
      (record { state = ap beside_time l.state; sends_are = l.sends_are })
  timer_once (timers.Age p) fit k l =
      once s' t' sends more (TimerExpires (timers.Age p)) now s t answer said same
      (selects_beside now (aged_at p now s) s' sends k) (selects_beside now (aged_at p now t) t' more l)
  timer_once (timers.Pdelay p) fit k l =
      once s' t' sends more (TimerExpires (timers.Pdelay p)) now s t answer said same
      (asks_beside p after_interval now s s' sends k) (asks_beside p after_interval now t t' more l)
  timer_once (timers.Respond p) fit k l =
      once s' t' sends more (TimerExpires (timers.Respond p)) now s t answer said same
      (record {
        state = ap beside_time k.state;
        responds = responds_beside (owed_at s p) p now s sends k.responds;
      })
      (record {
        state = ap beside_time l.state;
        responds = responds_beside (owed_at t p) p now t more l.responds;
      })
  timer_once timers.Sync fit k l =
      let both =
      syncs_if s' t' sends more now s t same (is_leading s) k
      (subst (λ leads. SyncsIf leads now t t' more) (sym (ap is_leading same)) l) in
      record { state = both.0; sends_are = both.1; answer_is = tt }
  timer_once timers.Relay fit k l =
      let both =
      relays_if s' t' sends more now s t same fit s.known t.known refl refl (ap (λ (x : SystemState). x.known) same) k
      l in
      record { state = both.0; sends_are = both.1; answer_is = tt }
  timer_once timers.Lapse fit k l =
      once s' t' sends more (TimerExpires timers.Lapse) now s t answer said same
      (selects_beside now (lapsed s) s' sends k) (selects_beside now (lapsed t) t' more l)

-- ---- all inputs

pub steps_alike : (input other : Input) (now : ℕ) (s s' t t' : SystemState) (sends more : List Sending)
    (answer said : Answer) → beside_time s ≡ beside_time t → SameBeside input other → FitAlike input other now s t
    → Steps input now s s' sends answer → Steps other now t t' more said
    → IsAlikeStep input s t s' t' sends more answer said
steps_alike (PortUp p) other now s s' t t' sends more answer said same alike fit k l =
    once s' t' sends more (PortUp p) now s t answer said same (asks_beside p reset_peer now s s' sends k)
    (asks_beside p reset_peer now t t' more
    (subst (λ (i : Input). Steps i now t t' more said) (sym alike) l))
steps_alike (PortDown p) other now s s' t t' sends more answer said same alike fit k l =
    once s' t' sends more (PortDown p) now s t answer said same (selects_beside now (down p s) s' sends k)
    (selects_beside now (down p t) t' more (subst (λ (i : Input). Steps i now t t' more said) (sym alike) l))
steps_alike (Frame p a) (Frame q b) now s s' t t' sends more answer said same alike fit k l =
    let at_port : FitAlike (Frame p a) (Frame p b) now s t =
    subst (λ (x : ℕ). FitAlike (Frame p a) (Frame x b) now s t) (sym alike.0) fit in
    frames_once s' t' sends more now s t answer said same p a b alike.1 at_port k
    (subst (λ (x : ℕ). HearsFrame x b now t t' more said) (sym alike.0) l)
steps_alike (Frame p a) (PortUp q) now s s' t t' sends more answer said same alike fit k l = absurd cc
steps_alike (Frame p a) (PortDown q) now s s' t t' sends more answer said same alike fit k l = absurd cc
steps_alike (Frame p a) (TimerExpires timer) now s s' t t' sends more answer said same alike fit k l = absurd cc
steps_alike (Frame p a) (Priority value) now s s' t t' sends more answer said same alike fit k l = absurd cc
steps_alike (TimerExpires timer) other now s s' t t' sends more answer said same alike fit k l =
    timer_once s' t' sends more now s t answer said same timer
    (subst (λ (i : Input). FitAlike (TimerExpires timer) i now s t) (sym alike) fit) k
    (subst (λ (i : Input). Steps i now t t' more said) (sym alike) l)
steps_alike (Priority value) other now s s' t t' sends more answer said same alike fit k l =
    once s' t' sends more (Priority value) now s t answer said same
    (selects_beside now (with_priority value s) s' sends k)
    (selects_beside now (with_priority value t) t' more
    (subst (λ (i : Input). Steps i now t t' more said) (sym alike) l))

sent_alike : (s t : SystemState) (sends more : List Sending) → beside_time s ≡ beside_time t
    → SendAlike s t sends more → map sending_beside sends ≡ map sending_beside more
sent_alike s t sends more same (inl one) = ap (map sending_beside) one
sent_alike s t sends more same (inr k) =
    ap (map sending_beside) k.sends_are ∙ told_same s t k.told k.others same k.same
    ∙ sym (ap (map sending_beside) k.more_are)

pub steps_beside_time : StepsBesideTime
steps_beside_time input other now s s' t t' sends more answer said same alike fit k l =
    let step = steps_alike input other now s s' t t' sends more answer said same alike fit k l in record {
      state = step.state;
      sends_are = sent_alike s t sends more same step.sends_are;
      answer_is = step.answer_is;
    }

pub timers_beside_time : TimersBesideTime
timers_beside_time s t same (timers.Announce p) = ap (due (timers.Announce p)) same
timers_beside_time s t same (timers.Age p) = ap (due (timers.Age p)) same
timers_beside_time s t same (timers.Pdelay p) = ap (due (timers.Pdelay p)) same
timers_beside_time s t same (timers.Respond p) = ap (due (timers.Respond p)) same
timers_beside_time s t same timers.Sync = ap (due timers.Sync) same
timers_beside_time s t same timers.Relay = ap (due timers.Relay) same
timers_beside_time s t same timers.Lapse = ap (due timers.Lapse) same

pub starts_beside_time : StartsBesideTime
starts_beside_time setup continues now = refl
