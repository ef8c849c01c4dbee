-- A system is ready after every step.
use Rattle.std.proofs.Common.{◌≡◌, ◌+◌, ℕ, Bool, true, false, List, Option, Some, None, refl, sym, ap, subst, inl, inr}
use Rattle.std.proofs.lemmas.Option.{none-some, same_Some}
use Rattle.gptp_messages.specs.declared.announce.AnnounceView.{AnnounceView}
use Rattle.gptp_messages.specs.declared.head.Head.{Head}
use Rattle.gptp_messages.specs.declared.message.Message.{Message}
use Rattle.gptp_messages.specs.declared.message.Message.TheVariants as messages
use Rattle.gptp_receipt.specs.declared.held.Held.{Held}
use Rattle.gptp_receipt.specs.Held.{comparison, held_after, reception}
use Rattle.gptp_receipt.specs.Qualification.{Qualified}
use Rattle.gptp_roles.specs.Choice.{ArePlaced}
use Rattle.gptp_pdelay.specs.declared.answer.Answer.{Answer as Owed}
use Rattle.gptp_pdelay.specs.Clock.{IsTime}
use Rattle.gptp_pdelay.specs.Peer.{PeerState, after_follow_up, after_interval, after_response, is_capable, reset_peer}
use Rattle.gptp_setup.specs.declared.timer.Timer.{Timer}
use Rattle.gptp_setup.specs.declared.timer.Timer.TheVariants as timers
use Rattle.gptp_setup.specs.Intervals.{IsMoment, interval_of}
use Rattle.gptp_system.specs.declared.answer.Answer.{Answer}
use Rattle.gptp_system.specs.declared.port.Port.{Port}
use Rattle.gptp_system.specs.declared.sending.Sending.{Sending}
use Rattle.gptp_system.specs.Announcing.{aged_at, aged_by, compared, replaces_held, with_priority}
use Rattle.gptp_system.specs.Facts.{IsSystem}
use Rattle.gptp_system.specs.Input.{Input, IsTimely, PortUp, PortDown, Frame, Priority, Steps}
use Rattle.gptp_system.specs.Input.{Expires as TimerExpires}
use Rattle.gptp_system.specs.Lapse.{lapsed}
use Rattle.gptp_system.specs.Measuring.{answering_done, asking, down, held_if, held_turned, is_turned, owes, owing, turned, Turns, TurnsAndAsks, TurnsIf}
use Rattle.gptp_system.specs.Ready.{IsReady}
use Rattle.gptp_system.specs.Selection.{announced_again, SelectsIf}
use Rattle.gptp_system.specs.State.{SystemState, change, held_at, is_capable_at, number, own, stamp_time, with_peer}
use Rattle.gptp_system.specs.Steps.{Expires, HearsFrame, HearsMessage, IsDue}
use Rattle.gptp_system.specs.Syncing.{is_leading}
use Rattle.gptp_system.proofs.FactLemmas.{are_placed}
use Rattle.gptp_system.proofs.MeasuringLemmas.{down_ready, follow_up_keeps, interval_keeps, response_keeps, step_ready}
use Rattle.gptp_system.proofs.ReadyLemmas.{KeepsHeld, ageing_keeps, hearing_keeps, held_ready, lapsed_ready, selects_ready}
use Rattle.gptp_system.proofs.StepLemmas.{steps_sound}
use Rattle.gptp_system.proofs.TakeoverLemmas.{stamps_time}
use Rattle.gptp_system.proofs.WrittenLemmas.{port_ready}
use Rattle.gptp_determinism.proofs.SyncingReadyLemmas.{becomes_ready, hears_follow_up_ready, hears_sync_ready, relays_ready, syncs_ready}

-- ---- states

-- a ready state that selects where it must
selects_if_ready : (selects : Bool) (now : ℕ) (t s' : SystemState) (sends : List Sending) → IsReady t
    → ArePlaced 1 s'.held → SelectsIf selects now t s' sends → IsReady s'
selects_if_ready true now t s' sends ready placed k = selects_ready now t s' sends ready placed k
selects_if_ready false now t s' sends ready placed k = becomes_ready t s' sends ready k

-- only priority1 changes
priority_ready : (value : ℕ) (s : SystemState) → IsReady s → IsReady (with_priority value s)
priority_ready value s ready = record {
  params = ready.params;
  largest = ready.largest;
  phase = ready.phase;
  drift = ready.drift;
  places = ready.places;
  few = ready.few;
  placed = ready.placed;
  recent = ready.recent;
  ports = ready.ports;
  lapses = ready.lapses;
  told = ready.told;
  based = ready.based;
}

-- ---- measuring

-- what a port holds that turns is nothing that it received
held_if_keeps : (p : ℕ) (on : Bool) → KeepsHeld p (λ (h : Held). held_if on)
held_if_keeps p true = record {
  recent = λ h was r none. absurd (none-some r none);
  placed = λ h was r none. absurd (none-some r none);
}
held_if_keeps p false = record {
  recent = λ h was r none. absurd (none-some r none);
  placed = λ h was r none. absurd (none-some r none);
}

-- so it stays recent and placed
turned_keeps : (p : ℕ) (step : PeerState → PeerState) (here : Option Port) → KeepsHeld p (held_turned step here)
turned_keeps p step None = record { recent = λ h was. was; placed = λ h was. was }
turned_keeps p step (Some q) = held_if_keeps p (is_capable (step q.peer))

-- a port has turned
turned_ready : (p : ℕ) (step : PeerState → PeerState) (s : SystemState)
    → ((q : PeerState) → (step q).waiting ≡ q.waiting) → IsReady s → IsReady (turned p step s)
turned_ready p step s keeps ready =
    held_ready (with_peer p step s) p (held_turned step (number s.ports p))
    (change (held_turned step (number s.ports p)) p s.held) (step_ready step keeps p s ready)
    (turned_keeps p step (number s.ports p)) refl

-- the measuring of a port took a step
turns_if_ready : (turns : Bool) (p : ℕ) (step : PeerState → PeerState) (now : ℕ) (s s' : SystemState)
    (sends : List Sending) → ((q : PeerState) → (step q).waiting ≡ q.waiting) → IsReady s → ArePlaced 1 s'.held
    → TurnsIf turns p step now s s' sends → IsReady s'
turns_if_ready true p step now s s' sends keeps ready placed k =
    selects_ready now (turned p step s) s' sends (turned_ready p step s keeps ready) placed k
turns_if_ready false p step now s s' sends keeps ready placed k =
    becomes_ready (with_peer p step s) s' sends (step_ready step keeps p s ready) k

turns_ready : (p : ℕ) (step : PeerState → PeerState) (now : ℕ) (s s' : SystemState) (sends : List Sending)
    → ((q : PeerState) → (step q).waiting ≡ q.waiting) → IsReady s → ArePlaced 1 s'.held
    → Turns p step now s s' sends → IsReady s'
turns_ready p step now s s' sends keeps ready placed k =
    turns_if_ready (is_turned step (number s.ports p)) p step now s s' sends keeps ready placed k

-- and the port asked
asks_ready : (p : ℕ) (step : PeerState → PeerState) (now : ℕ) (s s' : SystemState) (sends : List Sending)
    → ((q : PeerState) → (step q).waiting ≡ q.waiting) → IsReady s → ArePlaced 1 s'.held
    → TurnsAndAsks p step now s s' sends → IsReady s'
asks_ready p step now s s' sends keeps ready placed k =
    let before = subst (ArePlaced 1) (ap (λ (x : SystemState). x.held) k.state) placed in
    let between = turns_ready p step now s k.between k.first keeps ready before k.turns in
    subst IsReady (sym k.state)
    (port_ready p (asking (stamp_time k.between now) (now + interval_of k.between.params.pdelay)) k.between
    (λ q is. record { log_interval = is.log_interval; waiting = is.waiting }) between)

-- a port owes what came now
owes_ready : (p : ℕ) (head : Head) (now : ℕ) (s : SystemState) → IsReady s → IsMoment now
    → IsReady (owes p head now s)
owes_ready p head now s ready moment =
    let time = stamps_time s now ready moment in
    let owed : Owed = record { requester = head.source; sequence = head.sequence; t2 = stamp_time s now } in
    port_ready p (owing owed (now + s.params.turnaround)) s
    (λ q is. record {
      log_interval = is.log_interval;
      waiting = λ one same. subst (λ (x : Owed). IsTime x.t2) (same_Some owed one same) time;
    })
    ready

-- ---- Announces

-- a port compared an Announce with what it holds
compared_ready : (p : ℕ) (a : AnnounceView) (now : ℕ) (s : SystemState) → IsReady s → IsMoment now
    → Qualified a (own s p).clock → IsReady (compared p a now s)
compared_ready p a now s ready moment qualified =
    let hear : Held → Held = λ h. held_after (comparison h (own s p) a) h (reception a (own s p) now) in
    held_ready s p hear (change hear p s.held) ready (hearing_keeps (own s p) a now qualified moment) refl

-- what a port received is too old
aged_ready : (p now : ℕ) (s : SystemState) → IsReady s → IsReady (aged_at p now s)
aged_ready p now s ready =
    let ages : Held → Held = aged_by s.params s.largest now in
    held_ready s p ages (change ages p s.held) ready (ageing_keeps p s.params s.largest now) refl

-- an Announce was heard
hears_announce_ready : (p : ℕ) (a : AnnounceView) (now : ℕ) (s s' : SystemState) (sends : List Sending)
    (answer : Answer) → IsReady s → IsMoment now → ArePlaced 1 s'.held
    → HearsMessage p (messages.Announce a) now s s' sends answer → IsReady s'
hears_announce_ready p a now s s' sends answer ready moment placed (inl k) = becomes_ready s s' sends ready k.becomes
hears_announce_ready p a now s s' sends answer ready moment placed (inr (inl k)) =
    becomes_ready s s' sends ready k.becomes
hears_announce_ready p a now s s' sends answer ready moment placed (inr (inr k)) =
    selects_if_ready (replaces_held (comparison (held_at s p) (own s p) a)) now (compared p a now s) s' sends
    (compared_ready p a now s ready moment k.qualified) placed k.selects

-- ---- all steps

hears_ready : (p : ℕ) (m : Message) (now : ℕ) (s s' : SystemState) (sends : List Sending) (answer : Answer)
    → IsReady s → IsMoment now → ArePlaced 1 s'.held → HearsMessage p m now s s' sends answer → IsReady s'
hears_ready p (messages.Sync head) now s s' sends answer ready moment placed k =
    hears_sync_ready (is_capable_at s p) p head now s s' sends answer ready k
hears_ready p (messages.PdelayReq head) now s s' sends answer ready moment placed k =
    becomes_ready (owes p head now s) s' sends (owes_ready p head now s ready moment) k.becomes
hears_ready p (messages.PdelayResp m) now s s' sends answer ready moment placed k =
    becomes_ready (with_peer p (after_response m (stamp_time s now)) s) s' sends
    (step_ready (after_response m (stamp_time s now)) (response_keeps m (stamp_time s now)) p s ready) k.becomes
hears_ready p (messages.FollowUp m) now s s' sends answer ready moment placed k =
    hears_follow_up_ready (is_capable_at s p) p m now s s' sends answer ready k
hears_ready p (messages.PdelayRespFollowUp m) now s s' sends answer ready moment placed k =
    turns_ready p (after_follow_up m) now s s' sends (follow_up_keeps m) ready placed k.turns
hears_ready p (messages.Announce a) now s s' sends answer ready moment placed k =
    hears_announce_ready p a now s s' sends answer ready moment placed k

frame_ready : (p : ℕ) (octets : List ℕ) (now : ℕ) (s s' : SystemState) (sends : List Sending) (answer : Answer)
    → IsReady s → IsMoment now → ArePlaced 1 s'.held → HearsFrame p octets now s s' sends answer → IsReady s'
frame_ready p octets now s s' sends answer ready moment placed (inl k) =
    hears_ready p k.message now s s' sends answer ready moment placed k.hears
frame_ready p octets now s s' sends answer ready moment placed (inr k) =
    becomes_ready s s' sends ready k.becomes

expires_ready : (timer : Timer) (now : ℕ) (s s' : SystemState) (sends : List Sending) → IsReady s
    → IsDue s timer now → ArePlaced 1 s'.held → Expires timer now s s' sends → IsReady s'
expires_ready (timers.Announce p) now s s' sends ready due placed k =
    subst IsReady (sym k.state)
    (port_ready p (announced_again now) s (λ q is.
    record { log_interval = is.log_interval; waiting = is.waiting }) ready)
expires_ready (timers.Age p) now s s' sends ready due placed k =
    selects_ready now (aged_at p now s) s' sends (aged_ready p now s ready) placed k
expires_ready (timers.Pdelay p) now s s' sends ready due placed k =
    asks_ready p after_interval now s s' sends interval_keeps ready placed k
expires_ready (timers.Respond p) now s s' sends ready due placed k =
    subst IsReady (sym k.state)
    (port_ready p answering_done s
    (λ q is. record { log_interval = is.log_interval; waiting = λ one none. absurd (none-some one none) }) ready)
expires_ready timers.Sync now s s' sends ready due placed k = syncs_ready (is_leading s) now s s' sends ready due k
expires_ready timers.Relay now s s' sends ready due placed k = relays_ready s.known now s s' sends ready k
expires_ready timers.Lapse now s s' sends ready due placed k =
    selects_ready now (lapsed s) s' sends (lapsed_ready s ready) placed k

-- where what ports hold was received there
input_ready : (input : Input) (now : ℕ) (s s' : SystemState) (sends : List Sending) (answer : Answer) → IsReady s
    → IsMoment now → IsTimely s now input → ArePlaced 1 s'.held → Steps input now s s' sends answer → IsReady s'
input_ready (PortUp p) now s s' sends answer ready moment timely placed k =
    asks_ready p reset_peer now s s' sends (λ q. refl) ready placed k
input_ready (PortDown p) now s s' sends answer ready moment timely placed k =
    selects_ready now (down p s) s' sends (down_ready p s ready) placed k
input_ready (Frame p octets) now s s' sends answer ready moment timely placed k =
    frame_ready p octets now s s' sends answer ready moment placed k
input_ready (TimerExpires timer) now s s' sends answer ready moment timely placed k =
    expires_ready timer now s s' sends ready timely placed k
input_ready (Priority value) now s s' sends answer ready moment timely placed k =
    selects_ready now (with_priority value s) s' sends (priority_ready value s ready) placed k

pub steps_ready : (input : Input) (now : ℕ) (s s' : SystemState) (sends : List Sending) (answer : Answer)
    → IsSystem s → IsMoment now → IsTimely s now input → Steps input now s s' sends answer → IsReady s'
steps_ready input now s s' sends answer system moment timely k =
    let sound = steps_sound input now s s' sends answer k in
    input_ready input now s s' sends answer system.ready moment timely (are_placed s' (sound.held system.held)) k
