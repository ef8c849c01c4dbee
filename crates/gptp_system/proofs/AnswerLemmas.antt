-- Every step of a system as an answer to a touch, case by case.
use Rattle.std.proofs.Common.{◌≡◌, ◌≤◌, ℕ, ℤ, Bool, true, false, List, Option, Some, None, refl, sym, subst, ◌∙◌, inl, inr, arith}
use Rattle.gptp_lists.specs.Members.{In}
use Rattle.gptp_messages.specs.declared.announce.AnnounceView.{AnnounceView}
use Rattle.gptp_messages.specs.declared.follow_up.FollowUp.{FollowUp}
use Rattle.gptp_messages.specs.declared.head.Head.{Head}
use Rattle.gptp_messages.specs.declared.message.Message.{Message}
use Rattle.gptp_messages.specs.declared.message.Message.TheVariants as messages
use Rattle.gptp_messages.specs.Grammar.{Reads}
use Rattle.gptp_messages.proofs.GrammarLemmas.{never_both, one_reading}
use Rattle.gptp_receipt.specs.declared.qualification.Why.{Why}
use Rattle.gptp_receipt.specs.declared.qualification.Why.TheVariants as whys
use Rattle.gptp_receipt.specs.Held.{comparison}
use Rattle.gptp_receipt.specs.Qualification.{FailsTest, Qualified}
use Rattle.gptp_correction.specs.declared.correction.Relayed.{Relayed}
use Rattle.gptp_correction.specs.declared.sync_in.SyncInfo.{SyncInfo}
use Rattle.gptp_pdelay.specs.Peer.{after_follow_up, after_interval, after_response, reset_peer}
use Rattle.gptp_system.specs.declared.answer.Answer.{Answer}
use Rattle.gptp_system.specs.declared.port.Port.{Port}
use Rattle.gptp_system.specs.declared.sending.Sending.{Sending}
use Rattle.gptp_setup.specs.declared.timer.Timer.{Timer}
use Rattle.gptp_setup.specs.declared.timer.Timer.TheVariants as timers
use Rattle.gptp_system.specs.State.{SystemState, clock, due, held_at, is_capable_at, own, stamp_time, with_peer}
use Rattle.gptp_system.specs.Selection.{SelectsIf}
use Rattle.gptp_system.specs.Measuring.{answering_done, down, owed_at, owes, owing, responded}
use Rattle.gptp_system.specs.Announcing.{HearsQualified, aged_at, compared, replaces_held, with_priority}
use Rattle.gptp_system.specs.Lapse.{lapsed}
use Rattle.gptp_system.specs.Syncing.{HearsFollowUpIf, HearsSyncIf, KeepsIf, KnowsBy, KnowsIf, RelaysBy, RelaysIf, SyncsIf, delay_at, is_followed, is_leading, own_time, root_rate_at, restarted, said_on, timer_stopped, telling, told_by}
use Rattle.gptp_system.specs.Steps.{Expires as TimerExpires, HearsFrame, HearsMessage}
use Rattle.gptp_system.specs.Input.{Input, IsTimely, Steps, PortUp, PortDown, Frame, Expires, Priority}
use Rattle.gptp_system.specs.Facts.{AreShown, IsAtRest}
use Rattle.gptp_system.specs.Touch.{Touch, Hear, Tick, Grow, Disable, Other, IsFrameSeenAs, IsSeenAs, IsTurn}
use Rattle.gptp_system.specs.Reacts.{Reacts}
use Rattle.gptp_setup.specs.SettlingParams.{has_sync_timeout}
use Rattle.gptp_system.proofs.LapseLemmas.{lapsed_mids}
use Rattle.gptp_system.proofs.TimersChangedLemmas.{compared_same}
use Rattle.gptp_system.specs.Messages.{Announcing, Answering, Telling}
use Rattle.gptp_system.proofs.SendLemmas.{responds_answer, syncs_tell}
use Rattle.gptp_system.proofs.TimelyLemmas.{moment_of}
use Rattle.gptp_system.proofs.EndLemmas.{Concludes, selects_concludes}
use Rattle.gptp_system.proofs.MidLemmas.{Later, Mids, aged_mids, down_mids, heard_mids, joined, priority_mids, tick_mids, unheard_mids}
use Rattle.gptp_system.specs.Takeover.{leading}
use Rattle.gptp_system.proofs.ReactLemmas.{Answers, AreOther, announce_expires, becomes, by_other, by_turn, kind_other, later_apart, later_itself, later_port, later_telling, rests, turns, turns_and_asks}

-- ---- time: nothing that announcing reads changes

later_on : (s t u : SystemState) → Later s t → Later t u → Later s u
later_on s t u a b = record {
  same_clock = b.same_clock ∙ a.same_clock;
  held = b.held ∙ a.held;
  root = b.root ∙ a.root;
  steps = b.steps ∙ a.steps;
  ports = λ i q' there.
      let (p, at, log, announce) = b.ports i q' there in
      let (q, was, log_before, announce_before) = a.ports i p at in
      (q, was, log ∙ log_before, announce ∙ announce_before);
}

later_restarted : (now : ℕ) (s : SystemState) → Later s (restarted now s)
later_restarted now s = later_apart s s.sync_in s.known s.offset s.reads s.base _ s.relay s.lapse

later_led : (now : ℕ) (s : SystemState) → Later s (restarted now (leading now s))
later_led now s = later_apart s s.sync_in s.known s.offset _ _ _ s.relay s.lapse

later_stopped : (s : SystemState) → Later s (timer_stopped s)
later_stopped s = later_apart s s.sync_in s.known s.offset s.reads s.base s.sync None s.lapse

telling_other : (told : Relayed) (s : SystemState) (sends : List Sending) → sends ≡ told_by told s → AreOther sends
telling_other told s sends is =
    kind_other Telling sends different
    (λ x member. syncs_tell (clock s) s.params.sync told 1 s.held s.ports x (subst (In x) is member))
  where
    different : Telling ≡ Announcing → ⊥
    different e = cc

keeps_if : (b : Bool) (head : Head) (now : ℕ) (s s' : SystemState) (sends : List Sending) (answer : Answer) → IsAtRest s
    → KeepsIf b head now s s' sends answer → Concludes s now s' sends
keeps_if true head now s s' sends answer r k =
    becomes now s _ s' sends r (later_apart s _ s.known s.offset s.reads s.base s.sync s.relay s.lapse) k.becomes
keeps_if false head now s s' sends answer r k = becomes now s s s' sends r (later_itself s) k.becomes

hears_sync : (b : Bool) (p : ℕ) (head : Head) (now : ℕ) (s s' : SystemState) (sends : List Sending) (answer : Answer)
    → IsAtRest s
    → HearsSyncIf b p head now s s' sends answer → Concludes s now s' sends
hears_sync false p head now s s' sends answer r k = becomes now s s s' sends r (later_itself s) k.becomes
hears_sync true p head now s s' sends answer r k = keeps_if (is_followed p head s) head now s s' sends answer r k

knows_by : (b : Bool) (info : SyncInfo) (delay rate : ℤ) (now : ℕ) (s s' : SystemState) (sends : List Sending)
    (answer : Answer) → IsAtRest s
    → KnowsBy b info delay rate now s s' sends answer → Concludes s now s' sends
knows_by true info delay rate now s s' sends answer r k =
    becomes now s _ s' sends r (later_apart s s.sync_in _ _ _ s.base s.sync _ _) k.becomes
knows_by false info delay rate now s s' sends answer r (inl k) =
    becomes now s _ s' sends r (later_apart s s.sync_in _ _ _ s.base s.sync _ s.lapse) k.becomes
knows_by false info delay rate now s s' sends answer r (inr k) =
    becomes now s _ s' sends r (later_apart s _ _ _ s.reads s.base s.sync s.relay s.lapse) k.becomes

knows_if : (said : Option SyncInfo) (delay rate : ℤ) (now : ℕ) (s s' : SystemState) (sends : List Sending)
    (answer : Answer) → IsAtRest s
    → KnowsIf said delay rate now s s' sends answer → Concludes s now s' sends
knows_if None delay rate now s s' sends answer r k = becomes now s s s' sends r (later_itself s) k.becomes
knows_if (Some info) delay rate now s s' sends answer r k =
    knows_by (has_sync_timeout s.params) info delay rate now s s' sends answer r k

hears_follow_up : (b : Bool) (p : ℕ) (m : FollowUp) (now : ℕ) (s s' : SystemState) (sends : List Sending)
    (answer : Answer) → IsAtRest s
    → HearsFollowUpIf b p m now s s' sends answer → Concludes s now s' sends
hears_follow_up false p m now s s' sends answer r k = becomes now s s s' sends r (later_itself s) k.becomes
hears_follow_up true p m now s s' sends answer r k =
    knows_if (said_on p m s) (delay_at s p) (root_rate_at s p) now s s' sends answer r k

syncs_if : (b : Bool) (now : ℕ) (s s' : SystemState) (sends : List Sending) → IsAtRest s → SyncsIf b now s s' sends
    → Concludes s now s' sends
syncs_if true now s s' sends r k =
    let t = restarted now (leading now s) in
    subst (λ x. Concludes s now x sends) (sym k.state)
    (rests now s (telling t) sends r (later_on s t (telling t) (later_led now s) (later_telling t))
    (telling_other (own_time k.stamp k.rest) s sends k.sends_are))
syncs_if false now s s' sends r k = becomes now s (restarted now s) s' sends r (later_restarted now s) k

-- all Master ports tell time at the Relay timer
relayed_on : (told : Relayed) (now : ℕ) (s s' : SystemState) (sends : List Sending) → IsAtRest s
    → s' ≡ telling (timer_stopped s) → sends ≡ told_by told s → Concludes s now s' sends
relayed_on told now s s' sends r is sent =
    subst (λ x. Concludes s now x sends) (sym is)
    (rests now s (telling (timer_stopped s)) sends r
    (later_on s (timer_stopped s) (telling (timer_stopped s)) (later_stopped s) (later_telling (timer_stopped s)))
    (telling_other told s sends sent))

relays_by : (b : Bool) (info : SyncInfo) (now : ℕ) (s s' : SystemState) (sends : List Sending) → IsAtRest s
    → RelaysBy b info now s s' sends
    → Concludes s now s' sends
relays_by true info now s s' sends r k = relayed_on k.told now s s' sends r k.state k.sends_are
relays_by false info now s s' sends r (inl k) = relayed_on _ now s s' sends r k.state k.sends_are
relays_by false info now s s' sends r (inr k) = becomes now s (timer_stopped s) s' sends r (later_stopped s) k.becomes

relays_if : (known : Option SyncInfo) (now : ℕ) (s s' : SystemState) (sends : List Sending) → IsAtRest s
    → RelaysIf known now s s' sends
    → Concludes s now s' sends
relays_if None now s s' sends r k = becomes now s (timer_stopped s) s' sends r (later_stopped s) k
relays_if (Some info) now s s' sends r k = relays_by (has_sync_timeout s.params) info now s s' sends r k

-- ---- Announces

-- what fails a test isn't qualified
not_qualified : (a : AnnounceView) (c : ℕ) (why : Why) → FailsTest a c why → Qualified a c → ⊥
not_qualified a c whys.OwnMessage fails k = k.foreign fails
not_qualified a c whys.TooManySteps fails k = let near = k.near in absurd (omega arith)
not_qualified a c whys.Loop fails k = k.no_loop fails
not_qualified a c whys.TraceTooLong fails k = let short = k.short in absurd (omega arith)

hears_qualified : (p : ℕ) (a : AnnounceView) (now : ℕ) (s s' : SystemState) (sends : List Sending) (answer : Answer)
    → AreShown s → IsAtRest s
    → HearsQualified p a now s s' sends answer → Reacts s (Hear p a) now s' sends
hears_qualified p a now s s' sends answer shown r k =
    go (replaces_held (comparison (held_at s p) (own s p) a)) refl k.selects
  where
    mids : Mids s (Hear p a) now (compared p a now s)
    mids = heard_mids p a now s shown k.on k.qualified

    go : (b : Bool) → replaces_held (comparison (held_at s p) (own s p) a) ≡ b
        → SelectsIf b now (compared p a now s) s' sends
        → Reacts s (Hear p a) now s' sends
    go true is h =
        joined s (Hear p a) now (compared p a now s) s' sends mids
        (selects_concludes now (compared p a now s) s' sends h)
    go false is h =
        let rest = subst IsAtRest (sym (compared_same p a now s is)) r in
        joined s (Hear p a) now (compared p a now s) s' sends mids
        (becomes now (compared p a now s) (compared p a now s) s' sends rest (later_itself (compared p a now s)) h)

hears_announce : (p : ℕ) (octets : List ℕ) (a : AnnounceView) (now : ℕ) (s s' : SystemState) (sends : List Sending)
    (answer : Answer) → AreShown s
    → IsAtRest s → Reads octets (messages.Announce a) → HearsMessage p (messages.Announce a) now s s' sends answer
    → Answers (IsFrameSeenAs s p octets) s now s' sends
hears_announce p octets a now s s' sends answer shown r reads (inl k) =
    by_other (IsFrameSeenAs s p octets) s now s' sends (inr ((λ b other. k.off), inr (inr refl)))
    (becomes now s s s' sends r (later_itself s) k.becomes)
hears_announce p octets a now s s' sends answer shown r reads (inr (inl k)) = record {
  touch = Hear p a;
  seen = inl (a, reads, k.on, refl);
  reacts =
      joined s (Hear p a) now s s' sends
      (unheard_mids p a now s shown k.on (not_qualified a (clock s) k.why k.fails.fails))
      (becomes now s s s' sends r (later_itself s) k.becomes);
}
hears_announce p octets a now s s' sends answer shown r reads (inr (inr k)) = record {
  touch = Hear p a;
  seen = inl (a, reads, k.on, refl);
  reacts = hears_qualified p a now s s' sends answer shown r k;
}

-- ---- frames

-- a message that isn't an Announce
abbrev NoAnnounce : Message → Type 0
NoAnnounce m = (a : AnnounceView) → m ≡ messages.Announce a → ⊥

-- a frame that is no Announce is seen as whatever it turns
unheard : (s : SystemState) (p : ℕ) (octets : List ℕ) (m : Message) → Reads octets m → NoAnnounce m → (touch : Touch)
    → IsTurn p touch
    → IsFrameSeenAs s p octets touch
unheard s p octets m reads other touch turn =
    inr ((λ a said. absurd (other a (one_reading octets m (messages.Announce a) reads said))), turn)

hears_message : (p : ℕ) (octets : List ℕ) (m : Message) (now : ℕ) (s s' : SystemState) (sends : List Sending)
    (answer : Answer) → AreShown s
    → IsAtRest s → Reads octets m → HearsMessage p m now s s' sends answer
    → Answers (IsFrameSeenAs s p octets) s now s' sends
hears_message p octets (messages.Sync head) now s s' sends answer shown r reads k =
    by_other (IsFrameSeenAs s p octets) s now s' sends
    (unheard s p octets (messages.Sync head) reads (λ a e. absurd cc) Other (inr (inr refl)))
    (hears_sync (is_capable_at s p) p head now s s' sends answer r k)
hears_message p octets (messages.PdelayReq head) now s s' sends answer shown r reads k =
    by_other (IsFrameSeenAs s p octets) s now s' sends
    (unheard s p octets (messages.PdelayReq head) reads (λ a e. absurd cc) Other (inr (inr refl)))
    (becomes now s (owes p head now s) s' sends r (later_port p (owing _ _) s (λ q. refl) (λ q. refl)) k.becomes)
hears_message p octets (messages.PdelayResp m) now s s' sends answer shown r reads k =
    by_other (IsFrameSeenAs s p octets) s now s' sends
    (unheard s p octets (messages.PdelayResp m) reads (λ a e. absurd cc) Other (inr (inr refl)))
    (becomes now s (with_peer p (after_response m (stamp_time s now)) s) s' sends r
    (later_port p (λ (q : Port). record q {
      peer =
          after_response m (stamp_time s now) q.peer;
    }) s (λ q. refl) (λ q. refl)) k.becomes)
hears_message p octets (messages.FollowUp m) now s s' sends answer shown r reads k =
    by_other (IsFrameSeenAs s p octets) s now s' sends
    (unheard s p octets (messages.FollowUp m) reads (λ a e. absurd cc) Other (inr (inr refl)))
    (hears_follow_up (is_capable_at s p) p m now s s' sends answer r k)
hears_message p octets (messages.PdelayRespFollowUp m) now s s' sends answer shown r reads k =
    by_turn p (IsFrameSeenAs s p octets) s now s' sends
    (unheard s p octets (messages.PdelayRespFollowUp m) reads (λ a e. absurd cc))
    (turns p (after_follow_up m) now s s' sends shown r k.turns)
hears_message p octets (messages.Announce a) now s s' sends answer shown r reads k =
    hears_announce p octets a now s s' sends answer shown r reads k

hears_frame : (p : ℕ) (octets : List ℕ) (now : ℕ) (s s' : SystemState) (sends : List Sending) (answer : Answer)
    → AreShown s → IsAtRest s
    → HearsFrame p octets now s s' sends answer → Answers (IsFrameSeenAs s p octets) s now s' sends
hears_frame p octets now s s' sends answer shown r (inl k) =
    hears_message p octets k.message now s s' sends answer shown r k.reads k.hears
hears_frame p octets now s s' sends answer shown r (inr k) =
    by_other (IsFrameSeenAs s p octets) s now s' sends
    (inr ((λ a said. absurd (never_both octets (messages.Announce a) k.refused said k.refuses)), inr (inr refl)))
    (becomes now s s s' sends r (later_itself s) k.becomes)

-- ---- timers

expires : (timer : Timer) (now t : ℕ) (s s' : SystemState) (sends : List Sending) → AreShown s → IsAtRest s
    → due timer s ≡ Some t → t ≤ now
    → TimerExpires timer now s s' sends → Answers (IsSeenAs s (Expires timer)) s now s' sends
expires (timers.Announce p) now t s s' sends shown r is past k = record {
  touch = Tick p;
  seen = refl;
  reacts = joined s (Tick p) now s s' sends (tick_mids p s now) (announce_expires p now t s s' sends r is k);
}
expires (timers.Age p) now t s s' sends shown r is past k = record {
  touch = Grow p;
  seen = refl;
  reacts =
      joined s (Grow p) now (aged_at p now s) s' sends (aged_mids p now t s is past)
      (selects_concludes now (aged_at p now s) s' sends k);
}
expires (timers.Pdelay p) now t s s' sends shown r is past k =
    by_turn p (IsTurn p) s now s' sends (λ touch turn. turn) (turns_and_asks p after_interval now s s' sends shown r k)
expires (timers.Respond p) now t s s' sends shown r is past k =
    by_other (λ touch. touch ≡ Other) s now s' sends refl
    (subst (λ x. Concludes s now x sends) (sym k.state)
    (rests now s (responded p s) sends r (later_port p answering_done s (λ q. refl) (λ q. refl))
    (kind_other Answering sends different (responds_answer (owed_at s p) p now s sends k.responds))))
  where
    different : Answering ≡ Announcing → ⊥
    different e = cc
expires timers.Sync now t s s' sends shown r is past k =
    by_other (λ touch. touch ≡ Other) s now s' sends refl (syncs_if (is_leading s) now s s' sends r k)
expires timers.Relay now t s s' sends shown r is past k =
    by_other (λ touch. touch ≡ Other) s now s' sends refl (relays_if s.known now s s' sends r k)
expires timers.Lapse now t s s' sends shown r is past k =
    let (touch, seen, mids) = lapsed_mids s now in
    record {
      touch = touch;
      seen = seen;
      reacts = joined s touch now (lapsed s) s' sends mids (selects_concludes now (lapsed s) s' sends k);
    }

-- every step answers a touch
pub steps_react : (input : Input) (now : ℕ) (s s' : SystemState) (sends : List Sending) (answer : Answer)
    → IsTimely s now input → AreShown s
    → IsAtRest s → Steps input now s s' sends answer → Answers (IsSeenAs s input) s now s' sends
steps_react (PortUp p) now s s' sends answer calm shown r k =
    by_turn p (IsTurn p) s now s' sends (λ touch turn. turn) (turns_and_asks p reset_peer now s s' sends shown r k)
steps_react (PortDown p) now s s' sends answer calm shown r k = record {
  touch = Disable p;
  seen = refl;
  reacts =
      joined s (Disable p) now (down p s) s' sends (down_mids p now s) (selects_concludes now (down p s) s' sends k);
}
steps_react (Frame p octets) now s s' sends answer calm shown r k = hears_frame p octets now s s' sends answer shown r k
steps_react (Expires timer) now s s' sends answer calm shown r k =
    let (t, is, past) = moment_of (due timer s) now calm in
    expires timer now t s s' sends shown r is past k
steps_react (Priority value) now s s' sends answer calm shown r k = record {
  touch = Other;
  seen = refl;
  reacts = joined s Other now (with_priority value s) s' sends (priority_mids value s now)
      (selects_concludes now (with_priority value s) s' sends k);
}
