-- A step leaves all timers due when they were that it doesn't touch.
use Rattle.std.proofs.Common.{◌≡◌, ℕ, ℤ, Bool, true, false, List, Option, Some, None, refl, sym, ap, subst, ◌∙◌, inl, inr}
use Rattle.gptp_correction.specs.declared.sync_in.SyncInfo.{SyncInfo}
use Rattle.gptp_messages.specs.declared.announce.AnnounceView.{AnnounceView}
use Rattle.gptp_messages.specs.declared.follow_up.FollowUp.{FollowUp}
use Rattle.gptp_messages.specs.declared.message.Message.{Message}
use Rattle.gptp_messages.specs.declared.message.Message.TheVariants as messages
use Rattle.gptp_pdelay.specs.Peer.{PeerState, after_follow_up}
use Rattle.gptp_receipt.specs.declared.held.Heard.{Heard}
use Rattle.gptp_receipt.specs.declared.held.Heard.TheVariants as heards
use Rattle.gptp_receipt.specs.Held.{comparison}
use Rattle.gptp_system.specs.declared.answer.Answer.{Answer}
use Rattle.gptp_system.specs.declared.answer.Answer.TheVariants as answers
use Rattle.gptp_system.specs.declared.sending.Sending.{Sending}
use Rattle.gptp_setup.specs.SettlingParams.{has_sync_timeout}
use Rattle.gptp_setup.specs.declared.timer.Timer.{Timer}
use Rattle.gptp_setup.specs.declared.timer.Timer.TheVariants as timers
use Rattle.gptp_system.specs.declared.timers_changed.TimersChanged.{TimersChanged}
use Rattle.gptp_system.specs.declared.timers_changed.TimersChanged.TheVariants as touches
use Rattle.gptp_system.specs.Announcing.{answer_to_heard, compared, replaces_held, HearsAgain, HearsQualified}
use Rattle.gptp_system.specs.Input.{Input, Frame, Expires}
use Rattle.gptp_system.specs.Measuring.{is_turned, TurnsIf}
use Rattle.gptp_system.specs.Reach.{is_of_time, is_selected, is_touched, is_touched_by, same_timer, stops_at, Leaves}
use Rattle.gptp_system.specs.Selection.{SelectsIf}
use Rattle.gptp_system.specs.State.{SystemState, held_at, is_capable_at, number, own}
use Rattle.gptp_system.specs.Syncing.{delay_at, forgetting, root_rate_at, said_on, HearsFollowUpIf, KnowsBy, KnowsIf}
use Rattle.gptp_system.specs.Steps.{Expires as TimerExpires, HearsMessage, HasPortNumber, IsTimerOf}
use Rattle.gptp_system.specs.TimersChanged.{asking_touches, heard_touches, holds, is_used, message_touches, selected_if, takes_place, timed_if, timer_touches, IsTouchedOf, MessageTouches, Touches}
use Rattle.gptp_system.proofs.AgainLemmas.{again_leaves}
use Rattle.gptp_system.proofs.CalmLemmas.{calm_apart, calm_peer}
use Rattle.gptp_system.proofs.ReachLemmas.{hears_message, steps_reach}
use Rattle.gptp_system.proofs.TimersChangedLemmas.{compared_same}
use Rattle.gptp_system.proofs.TypeLemmas.{type_number}

-- a state that stays has all timers due when they were
unchanged : (touched : Timer → Bool) (s s' : SystemState) → s' ≡ s → Leaves touched s s'
unchanged touched s s' same = subst (Leaves touched s) (sym same) (λ timer off. refl)

-- where any timer may be touched nothing is asked
pub all_touched : (input : Input) (s s' : SystemState) → Touches input touches.All s s'
all_touched input s s' = record { own = tt; always = λ timer off. absurd cc; leaves = λ timer off. absurd cc }

-- ---- a message

selected_own : (selects : Bool) (s : SystemState) → IsTouchedOf s (selected_if selects)
selected_own true s = tt
selected_own false s = tt

timed_own : (used : Bool) (s : SystemState) → IsTouchedOf s (timed_if used)
timed_own true s = tt
timed_own false s = tt

message_own : (p : ℕ) (m : Message) (s : SystemState) (answer : Answer) → HasPortNumber s p
    → IsTouchedOf s (message_touches s p m answer)
message_own p (messages.Sync head) s answer of = tt
message_own p (messages.PdelayReq head) s answer of = of
message_own p (messages.PdelayResp m) s answer of = tt
message_own p (messages.FollowUp m) s answer of = timed_own (is_used answer) s
message_own p (messages.PdelayRespFollowUp m) s answer of =
    selected_own (is_turned (after_follow_up m) (number s.ports p)) s
message_own p (messages.Announce a) s answer of = selected_own (takes_place answer) s

-- what is forgotten leaves all timers
forgotten_leaves : (s : SystemState) → Leaves (holds touches.Nothing) s (forgetting s)
forgotten_leaves s =
    (calm_apart (holds touches.Nothing) s _ refl refl refl refl (λ off. refl) (λ off. refl) (λ off. refl)).leaves

-- a Follow_Up that isn't used leaves all timers
knows_by_leaves : (b : Bool) (info : SyncInfo) (delay rate : ℤ) (now : ℕ) (s s' : SystemState) (sends : List Sending)
    (answer : Answer)
    → KnowsBy b info delay rate now s s' sends answer → Leaves is_of_time s s'
    → Leaves (holds (timed_if (is_used answer))) s s'
knows_by_leaves true info delay rate now s s' sends answer k leaves =
    subst (λ x. Leaves (holds (timed_if (is_used x))) s s') (sym k.answer_is) leaves
knows_by_leaves false info delay rate now s s' sends answer (inl k) leaves =
    subst (λ x. Leaves (holds (timed_if (is_used x))) s s') (sym k.answer_is) leaves
knows_by_leaves false info delay rate now s s' sends answer (inr k) leaves =
    subst (λ x. Leaves (holds (timed_if (is_used x))) s s') (sym k.answer_is)
    (subst (Leaves (holds touches.Nothing) s) (sym k.becomes.state) (forgotten_leaves s))

knows_if_leaves : (info : Option SyncInfo) (delay rate : ℤ) (now : ℕ) (s s' : SystemState) (sends : List Sending)
    (answer : Answer)
    → KnowsIf info delay rate now s s' sends answer → Leaves is_of_time s s'
    → Leaves (holds (timed_if (is_used answer))) s s'
knows_if_leaves None delay rate now s s' sends answer k leaves =
    unchanged (holds (timed_if (is_used answer))) s s' k.becomes.state
knows_if_leaves (Some info) delay rate now s s' sends answer k leaves =
    knows_by_leaves (has_sync_timeout s.params) info delay rate now s s' sends answer k leaves

follow_up_leaves : (b : Bool) (p : ℕ) (m : FollowUp) (now : ℕ) (s s' : SystemState) (sends : List Sending)
    (answer : Answer)
    → HearsFollowUpIf b p m now s s' sends answer → Leaves is_of_time s s'
    → Leaves (holds (timed_if (is_used answer))) s s'
follow_up_leaves false p m now s s' sends answer k leaves =
    unchanged (holds (timed_if (is_used answer))) s s' k.becomes.state
follow_up_leaves true p m now s s' sends answer k leaves =
    knows_if_leaves (said_on p m s) (delay_at s p) (root_rate_at s p) now s s' sends answer k leaves

-- a port that doesn't turn leaves all timers
turned_leaves : (turned : Bool) (p : ℕ) (step : PeerState → PeerState) (now : ℕ) (s s' : SystemState)
    (sends : List Sending)
    → Leaves is_selected s s' → TurnsIf turned p step now s s' sends → Leaves (holds (selected_if turned)) s s'
turned_leaves true p step now s s' sends selected k = selected
turned_leaves false p step now s s' sends selected k =
    subst (Leaves (holds touches.Nothing) s) (sym k.state) (calm_peer (holds touches.Nothing) p step s).leaves

-- an Announce that isn't taken leaves all timers
heard_leaves : (heard : Heard) (p : ℕ) (a : AnnounceView) (now : ℕ) (s s' : SystemState) (sends : List Sending)
    → comparison (held_at s p) (own s p) a ≡ heard → Leaves is_selected s s'
    → SelectsIf (replaces_held heard) now (compared p a now s) s' sends
    → Leaves (holds (selected_if (takes_place (answer_to_heard heard)))) s s'
heard_leaves heards.Superior p a now s s' sends is selected k = selected
heard_leaves heards.Repeated p a now s s' sends is selected k = selected
heard_leaves heards.Inferior p a now s s' sends is selected k =
    unchanged (holds touches.Nothing) s s' (k.state ∙ compared_same p a now s (ap replaces_held is))

qualified_leaves : (p : ℕ) (a : AnnounceView) (now : ℕ) (s s' : SystemState) (sends : List Sending) (answer : Answer)
    → Leaves is_selected s s' → HearsQualified p a now s s' sends answer
    → Leaves (holds (selected_if (takes_place answer))) s s'
qualified_leaves p a now s s' sends answer selected k =
    subst (λ x. Leaves (holds (selected_if (takes_place x))) s s') (sym k.answer_is)
    (heard_leaves (comparison (held_at s p) (own s p) a) p a now s s' sends refl selected k.selects)

message_leaves : (p : ℕ) (m : Message) (now : ℕ) (s s' : SystemState) (sends : List Sending) (answer : Answer)
    → HearsMessage p m now s s' sends answer → Leaves (is_touched_by (type_number m) p) s s'
    → Leaves (holds (message_touches s p m answer)) s s'
message_leaves p (messages.Sync head) now s s' sends answer k leaves = λ timer off. leaves timer refl
message_leaves p (messages.PdelayReq head) now s s' sends answer k leaves = leaves
message_leaves p (messages.PdelayResp m) now s s' sends answer k leaves = λ timer off. leaves timer refl
message_leaves p (messages.FollowUp m) now s s' sends answer k leaves =
    follow_up_leaves (is_capable_at s p) p m now s s' sends answer k leaves
message_leaves p (messages.PdelayRespFollowUp m) now s s' sends answer k leaves =
    turned_leaves (is_turned (after_follow_up m) (number s.ports p)) p (after_follow_up m) now s s' sends leaves
    k.turns
message_leaves p (messages.Announce a) now s s' sends answer (inl k) leaves =
    unchanged (holds (selected_if (takes_place answer))) s s' k.becomes.state
message_leaves p (messages.Announce a) now s s' sends answer (inr (inl k)) leaves =
    unchanged (holds (selected_if (takes_place answer))) s s' k.becomes.state
message_leaves p (messages.Announce a) now s s' sends answer (inr (inr k)) leaves =
    qualified_leaves p a now s s' sends answer leaves k

pub message_touches_these : (p : ℕ) (octets : List ℕ) (m : Message) (now : ℕ) (s s' : SystemState)
    (sends : List Sending) (answer : Answer) (touched : TimersChanged) → HasPortNumber s p
    → HearsMessage p m now s s' sends answer → MessageTouches p m now s s' answer touched
    → Touches (Frame p octets) touched s s'
message_touches_these p octets m now s s' sends answer touched of k (inr age) =
    subst (λ t. Touches (Frame p octets) t s s') (sym age.alone)
    (record {
      own = of;
      always = λ timer off. refl;
      leaves = again_leaves p age.announce now s s' age.again;
    })
message_touches_these p octets m now s s' sends answer touched of k (inl are) =
    subst (λ t. Touches (Frame p octets) t s s') (sym are)
    (record {
      own = message_own p m s answer of;
      always = λ timer off. refl;
      leaves = message_leaves p m now s s' sends answer k (hears_message p m now s s' sends answer k).leaves;
    })

-- what an Announce touches that is heard
pub announce_touches : (again : Bool) (p : ℕ) (a : AnnounceView) (now : ℕ) (s s' : SystemState) (answer : Answer)
    (touched : TimersChanged) → (again ≡ true → HearsAgain p a now s s') → touched ≡ heard_touches again answer p
    → MessageTouches p (messages.Announce a) now s s' answer touched
announce_touches true p a now s s' answer touched says is =
    inr (record { announce = a; is = refl; again = says refl; alone = is })
announce_touches false p a now s s' answer touched says is = inl is

-- ---- a timer

timer_own : (timer : Timer) (s : SystemState) → IsTimerOf s timer → IsTouchedOf s (timer_touches timer s)
timer_own (timers.Announce p) s of = of
timer_own (timers.Age p) s of = tt
timer_own (timers.Pdelay p) s of = by (stops_at p s)
  where
    by : (stops : Bool) → IsTouchedOf s (asking_touches stops p)
    by true = tt
    by false = of
timer_own (timers.Respond p) s of = of
timer_own timers.Sync s of = tt
timer_own timers.Relay s of = tt
timer_own timers.Lapse s of = tt

-- what selection can't change is no Age timer
not_age : (p : ℕ) (timer : Timer) → is_selected timer ≡ false → same_timer (timers.Age p) timer ≡ false
not_age p (timers.Announce q) off = refl
not_age p (timers.Age q) off = absurd cc
not_age p (timers.Pdelay q) off = refl
not_age p (timers.Respond q) off = refl
not_age p timers.Sync off = refl
not_age p timers.Relay off = absurd cc
not_age p timers.Lapse off = absurd cc

-- nor is it the Lapse timer
not_lapse : (timer : Timer) → is_selected timer ≡ false → same_timer timers.Lapse timer ≡ false
not_lapse (timers.Announce q) off = refl
not_lapse (timers.Age q) off = refl
not_lapse (timers.Pdelay q) off = refl
not_lapse (timers.Respond q) off = refl
not_lapse timers.Sync off = refl
not_lapse timers.Relay off = refl
not_lapse timers.Lapse off = absurd cc

-- what is touched is all that can change, and the timer itself
timer_covers : (timer : Timer) (s : SystemState) (other : Timer) → holds (timer_touches timer s) other ≡ false
    → (is_touched (Expires timer) s other ≡ false) × (same_timer timer other ≡ false)
timer_covers (timers.Announce p) s other off = (off, off)
timer_covers (timers.Age p) s other off = (off, not_age p other off)
timer_covers (timers.Pdelay p) s other off = by (stops_at p s) refl off
  where
    by : (stops : Bool) → stops_at p s ≡ stops → holds (timer_touches (timers.Pdelay p) s) other ≡ false
        → (is_touched (Expires (timers.Pdelay p)) s other ≡ false) × (same_timer (timers.Pdelay p) other ≡ false)
    by true is off = let all : true ≡ false = rw is at off in absurd cc
    by false is off =
        let one : same_timer (timers.Pdelay p) other ≡ false = rw is at off in (rw (is, one) refl, one)
timer_covers (timers.Respond p) s other off = (off, off)
timer_covers timers.Sync s other off = (off, off)
timer_covers timers.Relay s other off = (off, off)
timer_covers timers.Lapse s other off = (off, not_lapse other off)

pub timer_touches_these : (timer : Timer) (now : ℕ) (s s' : SystemState) (sends : List Sending)
    (touched : TimersChanged)
    → IsTimerOf s timer → TimerExpires timer now s s' sends → touched ≡ timer_touches timer s
    → Touches (Expires timer) touched s s'
timer_touches_these timer now s s' sends touched of k are =
    subst (λ t. Touches (Expires timer) t s s') (sym are)
    (record {
      own = timer_own timer s of;
      always = λ other off. (timer_covers timer s other off).1;
      leaves = λ other off. (steps_reach (Expires timer) now s s' sends answers.Used k).leaves other
          (timer_covers timer s other off).0;
    })
