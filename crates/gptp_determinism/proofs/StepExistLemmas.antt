-- A system that is given an input in time takes a step, and is a system then.
use Rattle.std.proofs.Common.{◌≡◌, ◌⊎◌, ℕ, Bool, true, false, List, [], refl, inl, inr, arith}
use Rattle.gptp_messages.specs.declared.announce.AnnounceView.{AnnounceView}
use Rattle.gptp_messages.specs.declared.message.Message.{Message}
use Rattle.gptp_messages.specs.declared.message.Message.TheVariants as messages
use Rattle.gptp_messages.specs.declared.refused.Refused.{Refused}
use Rattle.gptp_messages.specs.Grammar.{Reads, RefusesFrame}
use Rattle.gptp_receipt.specs.Held.{comparison}
use Rattle.gptp_pdelay.specs.Peer.{after_follow_up, after_interval, after_response, follow_up_step, reset_peer, response_step}
use Rattle.gptp_setup.specs.declared.timer.Timer.{Timer}
use Rattle.gptp_setup.specs.declared.timer.Timer.TheVariants as timers
use Rattle.gptp_setup.specs.Intervals.{IsMoment}
use Rattle.gptp_system.specs.declared.answer.Answer.{Answer}
use Rattle.gptp_system.specs.declared.answer.Answer.TheVariants as answers
use Rattle.gptp_system.specs.declared.sending.Sending.{Sending}
use Rattle.gptp_system.specs.Announcing.{aged_at, announced_at, announcement_at, answer_to_heard, answer_to_why, compared, replaces_held, with_priority}
use Rattle.gptp_system.specs.Input.{Input, IsTimely, PortUp, PortDown, Frame, Priority, Steps}
use Rattle.gptp_system.specs.Input.{Expires as TimerExpires}
use Rattle.gptp_system.specs.Lapse.{lapsed}
use Rattle.gptp_system.specs.Measuring.{measuring_answer, down, owes, responded, step_at}
use Rattle.gptp_system.specs.Ready.{IsReady}
use Rattle.gptp_system.specs.State.{SystemState, clock, held_at, is_capable_at, number, own, stamp_time, with_peer}
use Rattle.gptp_system.specs.Steps.{Expires, HearsFrame, HearsMessage, IsDue}
use Rattle.gptp_system.specs.Syncing.{is_leading}
use Rattle.gptp_system.proofs.SystemLemmas.{stays_system}
use Rattle.gptp_determinism.specs.ExistenceLaws.{StepsExist}
use Rattle.gptp_determinism.specs.GoingOn.{HearsOctets}
use Rattle.gptp_determinism.proofs.DecisionLemmas.{announce_is_judged, Judged}
use Rattle.gptp_determinism.proofs.MeasuringExistLemmas.{asks_exists, becomes_itself, responds_exists, selects_exists, selects_if_exists, turns_exists}
use Rattle.gptp_determinism.proofs.ReadLemmas.{frames_are_judged}
use Rattle.gptp_system.proofs.TakeoverLemmas.{led_fits, led_low}
use Rattle.gptp_determinism.proofs.StepReadyLemmas.{steps_ready}
use Rattle.gptp_determinism.proofs.SyncingExistLemmas.{hears_follow_up_exists, hears_sync_exists, relays_exists, syncs_exists}

-- ---- messages

-- a port that isn't asCapable, one that hears an Announce that isn't qualified, and one that takes it for heard
hears_announce_by : (on : Bool) (p : ℕ) (a : AnnounceView) (now : ℕ) (s : SystemState) → is_capable_at s p ≡ on
    → Judged a (clock s)
    → (t : SystemState) × (sends : List Sending) × (answer : Answer)
    × HearsMessage p (messages.Announce a) now s t sends answer
hears_announce_by false p a now s off judged =
    (s, [], answers.Disabled, inl (record { off = off; becomes = becomes_itself s; answer_is = refl }))
hears_announce_by true p a now s on (inl qualified) =
    let taken = selects_if_exists (replaces_held (comparison (held_at s p) (own s p) a)) now (compared p a now s) in (
      taken.0,
      taken.1,
      answer_to_heard (comparison (held_at s p) (own s p) a),
      inr (inr (record { on = on; qualified = qualified; selects = taken.2; answer_is = refl })),
    )
hears_announce_by true p a now s on (inr (why, fails)) = (
  s,
  [],
  answer_to_why why,
  inr (inl (record { on = on; why = why; fails = fails; becomes = becomes_itself s; answer_is = refl })),
)

hears_exists : (p : ℕ) (m : Message) (now : ℕ) (s : SystemState)
    → (t : SystemState) × (sends : List Sending) × (answer : Answer) × HearsMessage p m now s t sends answer
hears_exists p (messages.Sync head) now s = hears_sync_exists (is_capable_at s p) p head now s
hears_exists p (messages.PdelayReq head) now s = (
  owes p head now s,
  [],
  answers.Used,
  record { becomes = becomes_itself (owes p head now s); answer_is = refl },
)
hears_exists p (messages.PdelayResp m) now s = (
  with_peer p (after_response m (stamp_time s now)) s,
  [],
  measuring_answer (step_at (response_step m (stamp_time s now)) (number s.ports p)),
  record { becomes = becomes_itself (with_peer p (after_response m (stamp_time s now)) s); answer_is = refl },
)
hears_exists p (messages.FollowUp m) now s = hears_follow_up_exists (is_capable_at s p) p m now s
hears_exists p (messages.PdelayRespFollowUp m) now s =
    let turn = turns_exists p (after_follow_up m) now s in (
      turn.0,
      turn.1,
      measuring_answer (step_at (follow_up_step m) (number s.ports p)),
      record { turns = turn.2; answer_is = refl },
    )
hears_exists p (messages.Announce a) now s =
    hears_announce_by (is_capable_at s p) p a now s refl (announce_is_judged a (clock s))

-- ---- timers

-- a timer that expires
expires_exists : (timer : Timer) (now : ℕ) (s : SystemState) → IsReady s → IsMoment now → IsDue s timer now
    → (t : SystemState) × (sends : List Sending) × Expires timer now s t sends
expires_exists (timers.Announce p) now s ready moment due =
    (announced_at p now s, announcement_at p s, record { state = refl; sends_are = refl })
expires_exists (timers.Age p) now s ready moment due = selects_exists now (aged_at p now s)
expires_exists (timers.Pdelay p) now s ready moment due = asks_exists p after_interval now s
expires_exists (timers.Respond p) now s ready moment due =
    let answered = responds_exists p now s ready moment in
    (responded p s, answered.0, record { state = refl; responds = answered.1 })
expires_exists timers.Sync now s ready moment due =
    syncs_exists (is_leading s) now s (led_low s now now ready due (omega arith)) (led_fits s now ready moment due)
expires_exists timers.Relay now s ready moment due = relays_exists s.known now s
expires_exists timers.Lapse now s ready moment due = selects_exists now (lapsed s)

-- ---- frames, which read as messages or are refused

frame_by : (p : ℕ) (octets : List ℕ) (now : ℕ) (s : SystemState)
    → ((message : Message) × Reads octets message) ⊎ ((refused : Refused) × RefusesFrame octets refused)
    → (t : SystemState) × (sends : List Sending) × (answer : Answer) × HearsFrame p octets now s t sends answer
frame_by p octets now s (inl (message, reads)) =
    let heard = hears_exists p message now s in
    (heard.0, heard.1, heard.2, inl (record { message = message; reads = reads; hears = heard.3 }))
frame_by p octets now s (inr (refused, refuses)) = (
  s,
  [],
  answers.Refused refused,
  inr (record { refused = refused; refuses = refuses; becomes = becomes_itself s; answer_is = refl }),
)

-- ---- all inputs

step_exists : (input : Input) (now : ℕ) (s : SystemState) → IsReady s → IsMoment now → IsTimely s now input
    → HearsOctets input
    → (t : SystemState) × (sends : List Sending) × (answer : Answer) × Steps input now s t sends answer
step_exists (PortUp p) now s ready moment timely octets =
    let k = asks_exists p reset_peer now s in (k.0, k.1, answers.Used, k.2)
step_exists (PortDown p) now s ready moment timely octets =
    let k = selects_exists now (down p s) in (k.0, k.1, answers.Used, k.2)
step_exists (Frame p frame) now s ready moment timely octets = frame_by p frame now s (frames_are_judged frame octets)
step_exists (TimerExpires timer) now s ready moment timely octets =
    let k = expires_exists timer now s ready moment timely in (k.0, k.1, answers.Used, k.2)
step_exists (Priority value) now s ready moment timely octets =
    let k = selects_exists now (with_priority value s) in (k.0, k.1, answers.Used, k.2)

pub steps_exist : StepsExist
steps_exist input now s system moment timely octets =
    let k = step_exists input now s system.ready moment timely octets in
    let ready = steps_ready input now s k.0 k.1 k.2 system moment timely k.3 in
    (k.0, k.1, k.2, k.3, stays_system input now s k.0 k.1 k.2 system ready k.3)
