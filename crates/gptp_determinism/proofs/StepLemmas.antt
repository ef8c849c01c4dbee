-- One system, one state and one input make one state, and the same is sent and answered.
use Rattle.std.proofs.Common.{◌≡◌, ℕ, ℤ, zero, suc, Bool, true, false, List, ◌∷◌, Option, Some, None, refl, sym, ap, subst, ◌∙◌, inl, inr, arith}
use Rattle.std.proofs.lemmas.Bool.{cases_order}
use Rattle.gptp_scaled.proofs.LawProofs.{split_is_exact}
use Rattle.gptp_messages.specs.declared.announce.AnnounceView.{AnnounceView}
use Rattle.gptp_messages.specs.declared.follow_up.FollowUp.{FollowUp}
use Rattle.gptp_messages.specs.declared.head.Head.{Head}
use Rattle.gptp_messages.specs.declared.message.Message.{Message}
use Rattle.gptp_messages.specs.declared.message.Message.TheVariants as messages
use Rattle.gptp_messages.proofs.GrammarLemmas.{never_both, one_reading, one_refusal}
use Rattle.gptp_vector.specs.declared.vector.Vector.{Vector}
use Rattle.gptp_vector.specs.Vector.{system_vector}
use Rattle.gptp_receipt.specs.Held.{comparison}
use Rattle.gptp_receipt.specs.Qualification.{test_number, FirstFailure, Qualified}
use Rattle.gptp_receipt.specs.declared.qualification.Why.{Why}
use Rattle.gptp_receipt.specs.declared.qualification.Why.TheVariants as whys
use Rattle.gptp_roles.specs.Choice.{path_vectors}
use Rattle.gptp_roles.proofs.ChoiceLemmas.{one_least}
use Rattle.gptp_pdelay.specs.Peer.{PeerState, after_follow_up, after_interval, reset_peer}
use Rattle.gptp_pdelay.specs.declared.answer.Answer.{Answer as Owed}
use Rattle.gptp_correction.specs.declared.sync_in.SyncInfo.{SyncInfo}
use Rattle.gptp_setup.specs.declared.timer.Timer.{Timer}
use Rattle.gptp_setup.specs.declared.timer.Timer.TheVariants as timers
use Rattle.gptp_system.specs.declared.answer.Answer.{Answer}
use Rattle.gptp_system.specs.declared.answer.Answer.TheVariants as answers
use Rattle.gptp_system.specs.declared.sending.Sending.{Sending}
use Rattle.gptp_system.specs.Announcing.{answer_to_why, compared, replaces_held, with_priority, aged_at, AnnounceExpires}
use Rattle.gptp_system.specs.Input.{Input, PortUp, PortDown, Frame, Priority, Steps}
use Rattle.gptp_system.specs.Input.{Expires as TimerExpires}
use Rattle.gptp_system.specs.Measuring.{port_asks, down, is_turned, owed_at, request_of, turned, RespondsIf, Turns, TurnsAndAsks, TurnsIf}
use Rattle.gptp_system.specs.Selection.{announcements, choosing, fresh_ports, Becomes, Selects, SelectsIf}
use Rattle.gptp_system.specs.Sends.{with_send}
use Rattle.gptp_system.specs.State.{SystemState, clock, held_at, is_capable_at, number, own, stamp_time}
use Rattle.gptp_system.specs.Steps.{Expires, HearsFrame, HearsMessage}
use Rattle.gptp_correction.specs.declared.correction.Relayed.{Relayed}
use Rattle.gptp_correction.specs.Correction.{held_sum}
use Rattle.gptp_setup.specs.SettlingParams.{has_sync_timeout}
use Rattle.gptp_system.specs.Lapse.{lapsed}
use Rattle.gptp_system.specs.Takeover.{leading, told_stamp}
use Rattle.gptp_system.specs.Syncing.{delay_at, is_followed, is_leading, root_rate_at, refreshing, said_on, told_by, HearsFollowUpIf, HearsSyncIf, IsOffset, IsToldAtLimits, KeepsIf, KnowsBy, KnowsIf, LeadsTime, RelaysBy, RelaysIf, SyncsIf}
use Rattle.gptp_determinism.specs.StepLaws.{IsSameStep, SameAnswer}

-- the same state, and the same sends
abbrev Same : SystemState → SystemState → List Sending → List Sending → Type 0
Same t u xs ys = (t ≡ u) × (xs ≡ ys)

-- and the same answer
abbrev SameHeard : SystemState → SystemState → List Sending → List Sending → Answer → Answer → Type 0
SameHeard t u xs ys a b = Same t u xs ys × (a ≡ b)

-- ---- selection and measuring

module _ (t u : SystemState) (xs ys : List Sending) where
  becomes_once : (s : SystemState) → Becomes s t xs → Becomes s u ys → Same t u xs ys
  becomes_once s k l = (k.state ∙ sym l.state, k.silent ∙ sym l.silent)

  selects_once : (now : ℕ) (s : SystemState) → Selects now s t xs → Selects now s u ys → Same t u xs ys
  selects_once now s k l =
      let same = one_least (system_vector s.identity ∷ path_vectors s.held) k.vector l.vector k.is_chosen
      l.is_chosen in (
        k.state ∙ ap (λ (v : Vector). choosing v now s) same ∙ sym l.state,
        k.sends_are
            ∙ ap (λ (v : Vector). announcements (clock s) v.root v.steps 1 (fresh_ports v s) s.ports) same
            ∙ sym l.sends_are,
      )

  selects_if_once : (selects : Bool) (now : ℕ) (s : SystemState) → SelectsIf selects now s t xs
      → SelectsIf selects now s u ys → Same t u xs ys
  selects_if_once true now s k l = selects_once now s k l
  selects_if_once false now s k l = becomes_once s k l

  turns_if_once : (turns : Bool) (p : ℕ) (step : PeerState → PeerState) (now : ℕ) (s : SystemState)
      → TurnsIf turns p step now s t xs → TurnsIf turns p step now s u ys → Same t u xs ys
  turns_if_once true p step now s k l = selects_once now (turned p step s) k l
  turns_if_once false p step now s k l = becomes_once _ k l

  turns_once : (p : ℕ) (step : PeerState → PeerState) (now : ℕ) (s : SystemState) → Turns p step now s t xs
      → Turns p step now s u ys → Same t u xs ys
  turns_once p step now s k l = turns_if_once (is_turned step (number s.ports p)) p step now s k l

-- ---- timers

module _ (t u : SystemState) (xs ys : List Sending) where
  asks_once : (p : ℕ) (step : PeerState → PeerState) (now : ℕ) (s : SystemState)
      → TurnsAndAsks p step now s t xs → TurnsAndAsks p step now s u ys → Same t u xs ys
  asks_once p step now s k l =
      let same = turns_once k.between l.between k.first l.first p step now s k.turns l.turns in (
        k.state ∙ ap (port_asks p now) same.0 ∙ sym l.state,
        k.sends_are
            ∙ ap (λ (v : SystemState). with_send (request_of p v) k.first) same.0
            ∙ ap (λ (sent : List Sending). with_send (request_of p l.between) sent) same.1
            ∙ sym l.sends_are,
      )

  announces_once : (p now : ℕ) (s : SystemState) → AnnounceExpires p now s t xs → AnnounceExpires p now s u ys
      → Same t u xs ys
  announces_once p now s k l = (k.state ∙ sym l.state, k.sends_are ∙ sym l.sends_are)

  responds_once : (owed : Option Owed) (p now : ℕ) (s : SystemState) → RespondsIf owed p now s xs
      → RespondsIf owed p now s ys → xs ≡ ys
  responds_once None p now s k l = k ∙ sym l
  responds_once (Some owed) p now s k l =
      let came = split_is_exact.only owed.t2 k.came l.came k.came-rest l.came-rest k.came_is l.came_is in
      let went = split_is_exact.only (stamp_time s now) k.went l.went k.went-rest l.went-rest k.went_is l.went_is in
      k.sends_are ∙ rw (came.0, came.1, went.0, went.1) refl ∙ sym l.sends_are

  leads_once : (now : ℕ) (s : SystemState) → LeadsTime now s t xs → LeadsTime now s u ys → Same t u xs ys
  leads_once now s k l =
      let told = told_stamp (leading now s) now in
      let split = split_is_exact.only told k.stamp l.stamp k.rest l.rest k.split l.split in (
        k.state ∙ sym l.state,
        k.sends_are ∙ rw (split.0, split.1) refl ∙ sym l.sends_are,
      )

  syncs_once : (is_leading : Bool) (now : ℕ) (s : SystemState) → SyncsIf is_leading now s t xs
      → SyncsIf is_leading now s u ys
      → Same t u xs ys
  syncs_once true now s k l = leads_once now s k l
  syncs_once false now s k l = becomes_once t u xs ys _ k l

  -- what is told by a sum of rates held at its limits
  told_once : (info : SyncInfo) (now : ℕ) (s : SystemState) (a b : Relayed) → IsToldAtLimits info now s a
      → IsToldAtLimits info now s b
      → a ≡ b
  told_once info now s a b (inl k) (inl l) = k.1 ∙ sym l.1
  told_once info now s a b (inl k) (inr l) = absurd (l.0 k.0)
  told_once info now s a b (inr k) (inl l) = absurd (k.0 l.0)
  told_once info now s a b (inr k) (inr l) = k.1 ∙ sym l.1

  relays_by : (on : Bool) (info : SyncInfo) (now : ℕ) (s : SystemState) → RelaysBy on info now s t xs
      → RelaysBy on info now s u ys → Same t u xs ys
  relays_by true info now s k l = (
    k.state ∙ sym l.state,
    k.sends_are ∙ ap (λ told. told_by told s) (told_once info now s k.told l.told k.told_is l.told_is)
        ∙ sym l.sends_are,
  )
  relays_by false info now s (inl k) (inl l) = (k.state ∙ sym l.state, k.sends_are ∙ sym l.sends_are)
  relays_by false info now s (inl k) (inr l) = absurd (l.unfit k.fits)
  relays_by false info now s (inr k) (inl l) = absurd (k.unfit l.fits)
  relays_by false info now s (inr k) (inr l) = becomes_once t u xs ys _ k.becomes l.becomes

  relays_once : (known : Option SyncInfo) (now : ℕ) (s : SystemState) → RelaysIf known now s t xs
      → RelaysIf known now s u ys → Same t u xs ys
  relays_once None now s k l = becomes_once t u xs ys _ k l
  relays_once (Some info) now s k l = relays_by (has_sync_timeout s.params) info now s k l

  expires_once : (timer : Timer) (now : ℕ) (s : SystemState) → Expires timer now s t xs → Expires timer now s u ys
      → Same t u xs ys
  expires_once (timers.Announce p) now s k l = announces_once p now s k l
  expires_once (timers.Age p) now s k l = selects_once t u xs ys now (aged_at p now s) k l
  expires_once (timers.Pdelay p) now s k l = asks_once p after_interval now s k l
  expires_once (timers.Respond p) now s k l =
      (k.state ∙ sym l.state, responds_once (owed_at s p) p now s k.responds l.responds)
  expires_once timers.Sync now s k l = syncs_once (is_leading s) now s k l
  expires_once timers.Relay now s k l = relays_once s.known now s k l
  expires_once timers.Lapse now s k l = selects_once t u xs ys now (lapsed s) k l

-- ---- why an Announce isn't qualified

why_at : ℕ → Why
why_at zero = whys.OwnMessage
why_at (suc zero) = whys.OwnMessage
why_at (suc (suc zero)) = whys.TooManySteps
why_at (suc (suc (suc zero))) = whys.Loop
why_at (suc (suc (suc (suc n)))) = whys.TraceTooLong

why_back : (why : Why) → why_at (test_number why) ≡ why
unfolding why_at
why_back whys.OwnMessage = refl
why_back whys.TooManySteps = refl
why_back whys.Loop = refl
why_back whys.TraceTooLong = refl

-- one test is the first that fails
first_once : (a : AnnounceView) (c : ℕ) (v w : Why) → FirstFailure a c v → FirstFailure a c w → v ≡ w
first_once a c v w k l =
    elim (cases_order (test_number v) (test_number w)) [
      | inl same ↦ sym (why_back v) ∙ ap why_at same ∙ why_back w
      | inr apart ↦ elim apart [
        | inl less ↦ absurd (l.first v less k.fails)
        | inr more ↦ absurd (k.first w more l.fails)
      ]
    ]

-- and then it isn't qualified
fails_not : (a : AnnounceView) (c : ℕ) (why : Why) → FirstFailure a c why → Qualified a c → ⊥
fails_not a c whys.OwnMessage k q = q.foreign k.fails
fails_not a c whys.TooManySteps k q = let near = q.near in let far = k.fails in omega arith
fails_not a c whys.Loop k q = q.no_loop k.fails
fails_not a c whys.TraceTooLong k q = let short = q.short in let long = k.fails in omega arith

-- ---- messages

module _ (t u : SystemState) (xs ys : List Sending) (a b : Answer) where
  -- the same was made of it, and the same answered
  heard_so : (s : SystemState) (answer : Answer) → Becomes s t xs → Becomes s u ys → a ≡ answer → b ≡ answer
      → SameHeard t u xs ys a b
  heard_so s answer k l a-is b-is = (becomes_once t u xs ys s k l, a-is ∙ sym b-is)

  keeps_once : (keeps : Bool) (head : Head) (now : ℕ) (s : SystemState) → KeepsIf keeps head now s t xs a
      → KeepsIf keeps head now s u ys b → SameHeard t u xs ys a b
  keeps_once true head now s k l = heard_so _ _ k.becomes l.becomes k.answer_is l.answer_is
  keeps_once false head now s k l = heard_so _ _ k.becomes l.becomes k.answer_is l.answer_is

  hears_sync_once : (on : Bool) (p : ℕ) (head : Head) (now : ℕ) (s : SystemState)
      → HearsSyncIf on p head now s t xs a → HearsSyncIf on p head now s u ys b → SameHeard t u xs ys a b
  hears_sync_once true p head now s k l = keeps_once (is_followed p head s) head now s k l
  hears_sync_once false p head now s k l = heard_so _ _ k.becomes l.becomes k.answer_is l.answer_is

  offset_once : (info : SyncInfo) (delay rate : ℤ) (x y : Option ℤ) → IsOffset info delay rate x
      → IsOffset info delay rate y → x ≡ y
  offset_once info delay rate x y (inl k) (inl l) = k.1 ∙ sym l.1
  offset_once info delay rate x y (inl k) (inr l) = absurd (l.0 k.0)
  offset_once info delay rate x y (inr k) (inl l) = absurd (k.0 l.0)
  offset_once info delay rate x y (inr k) (inr l) = k.1 ∙ sym l.1

  knows_by : (on : Bool) (info : SyncInfo) (delay rate : ℤ) (now : ℕ) (s : SystemState)
      → KnowsBy on info delay rate now s t xs a → KnowsBy on info delay rate now s u ys b → SameHeard t u xs ys a b
  knows_by true info delay rate now s k l =
      let same = offset_once (held_sum info rate) delay rate k.offset l.offset k.offset_is l.offset_is in
      heard_so _ _ k.becomes
      (subst (λ offset. Becomes (refreshing info offset rate now s) u ys) (sym same) l.becomes)
      k.answer_is l.answer_is
  knows_by false info delay rate now s (inl k) (inl l) = heard_so _ _ k.becomes l.becomes k.answer_is l.answer_is
  knows_by false info delay rate now s (inl k) (inr l) = absurd (l.unfit k.fits)
  knows_by false info delay rate now s (inr k) (inl l) = absurd (k.unfit l.fits)
  knows_by false info delay rate now s (inr k) (inr l) = heard_so _ _ k.becomes l.becomes k.answer_is l.answer_is

  knows_once : (said : Option SyncInfo) (delay rate : ℤ) (now : ℕ) (s : SystemState)
      → KnowsIf said delay rate now s t xs a → KnowsIf said delay rate now s u ys b → SameHeard t u xs ys a b
  knows_once None delay rate now s k l = heard_so _ _ k.becomes l.becomes k.answer_is l.answer_is
  knows_once (Some info) delay rate now s k l = knows_by (has_sync_timeout s.params) info delay rate now s k l

  hears_follow_up_once : (on : Bool) (p : ℕ) (m : FollowUp) (now : ℕ) (s : SystemState)
      → HearsFollowUpIf on p m now s t xs a → HearsFollowUpIf on p m now s u ys b → SameHeard t u xs ys a b
  hears_follow_up_once true p m now s k l = knows_once (said_on p m s) (delay_at s p) (root_rate_at s p) now s k l
  hears_follow_up_once false p m now s k l = heard_so _ _ k.becomes l.becomes k.answer_is l.answer_is

  both_ways : (s : SystemState) (p : ℕ) → is_capable_at s p ≡ false → is_capable_at s p ≡ true → ⊥
  both_ways s p off on = let e = sym off ∙ on in cc

  hears_announce_once : (p : ℕ) (m : AnnounceView) (now : ℕ) (s : SystemState)
      → HearsMessage p (messages.Announce m) now s t xs a → HearsMessage p (messages.Announce m) now s u ys b
      → SameHeard t u xs ys a b
  hears_announce_once p m now s (inl k) (inl l) = heard_so _ _ k.becomes l.becomes k.answer_is l.answer_is
  hears_announce_once p m now s (inl k) (inr (inl l)) = absurd (both_ways s p k.off l.on)
  hears_announce_once p m now s (inl k) (inr (inr l)) = absurd (both_ways s p k.off l.on)
  hears_announce_once p m now s (inr (inl k)) (inl l) = absurd (both_ways s p l.off k.on)
  hears_announce_once p m now s (inr (inr k)) (inl l) = absurd (both_ways s p l.off k.on)
  hears_announce_once p m now s (inr (inl k)) (inr (inl l)) =
      let same = first_once m (clock s) k.why l.why k.fails l.fails in
      heard_so _ _ k.becomes l.becomes (k.answer_is ∙ ap answer_to_why same) l.answer_is
  hears_announce_once p m now s (inr (inl k)) (inr (inr l)) = absurd (fails_not m (clock s) k.why k.fails l.qualified)
  hears_announce_once p m now s (inr (inr k)) (inr (inl l)) = absurd (fails_not m (clock s) l.why l.fails k.qualified)
  hears_announce_once p m now s (inr (inr k)) (inr (inr l)) = (
    selects_if_once t u xs ys (replaces_held (comparison (held_at s p) (own s p) m)) now (compared p m now s) k.selects
        l.selects,
    k.answer_is ∙ sym l.answer_is,
  )

  hears_once : (p : ℕ) (m : Message) (now : ℕ) (s : SystemState) → HearsMessage p m now s t xs a
      → HearsMessage p m now s u ys b → SameHeard t u xs ys a b
  hears_once p (messages.Sync head) now s k l = hears_sync_once (is_capable_at s p) p head now s k l
  hears_once p (messages.PdelayReq head) now s k l = heard_so _ _ k.becomes l.becomes k.answer_is l.answer_is
  hears_once p (messages.PdelayResp m) now s k l = heard_so _ _ k.becomes l.becomes k.answer_is l.answer_is
  hears_once p (messages.FollowUp m) now s k l = hears_follow_up_once (is_capable_at s p) p m now s k l
  hears_once p (messages.PdelayRespFollowUp m) now s k l =
      (turns_once t u xs ys p (after_follow_up m) now s k.turns l.turns, k.answer_is ∙ sym l.answer_is)
  hears_once p (messages.Announce m) now s k l = hears_announce_once p m now s k l

  -- a frame reads as one message, or is refused in one way
  frame_once : (p : ℕ) (octets : List ℕ) (now : ℕ) (s : SystemState) → HearsFrame p octets now s t xs a
      → HearsFrame p octets now s u ys b → SameHeard t u xs ys a b
  frame_once p octets now s (inl k) (inl l) =
      let same = one_reading octets l.message k.message l.reads k.reads in
      hears_once p k.message now s k.hears (subst (λ (m : Message). HearsMessage p m now s u ys b) same l.hears)
  frame_once p octets now s (inl k) (inr l) = absurd (never_both octets k.message l.refused k.reads l.refuses)
  frame_once p octets now s (inr k) (inl l) = absurd (never_both octets l.message k.refused l.reads k.refuses)
  frame_once p octets now s (inr k) (inr l) =
      let same = one_refusal octets k.refused l.refused k.refuses l.refuses in
      heard_so s _ k.becomes l.becomes (k.answer_is ∙ ap answers.Refused same) l.answer_is

-- ---- all inputs

as_step : (input : Input) (t u : SystemState) (xs ys : List Sending) (a b : Answer) → Same t u xs ys
    → SameAnswer input a b → IsSameStep input t u xs ys a b
as_step input t u xs ys a b same answer = record { state = same.0; sends_are = same.1; answer_is = answer }

pub steps_once : (input : Input) (now : ℕ) (s t u : SystemState) (xs ys : List Sending) (a b : Answer)
    → Steps input now s t xs a → Steps input now s u ys b → IsSameStep input t u xs ys a b
steps_once (PortUp p) now s t u xs ys a b k l =
    as_step (PortUp p) t u xs ys a b (asks_once t u xs ys p reset_peer now s k l) tt
steps_once (PortDown p) now s t u xs ys a b k l =
    as_step (PortDown p) t u xs ys a b (selects_once t u xs ys now (down p s) k l) tt
steps_once (Frame p octets) now s t u xs ys a b k l =
    let same = frame_once t u xs ys a b p octets now s k l in
    as_step (Frame p octets) t u xs ys a b same.0 same.1
steps_once (TimerExpires timer) now s t u xs ys a b k l =
    as_step (TimerExpires timer) t u xs ys a b (expires_once t u xs ys timer now s k l) tt
steps_once (Priority value) now s t u xs ys a b k l =
    as_step (Priority value) t u xs ys a b (selects_once t u xs ys now (with_priority value s) k l) tt
