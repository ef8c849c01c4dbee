-- Every step of a system, case by case: what is true of the system before is true of it after.
use Rattle.std.proofs.Common.{◌≡◌, ◌≢◌, ℕ, ◌+◌, ℤ, Bool, true, false, List, Option, Some, None, slice_get, refl, sym, ap, subst, ◌∙◌, inl, inr}
use Rattle.gptp_messages.specs.declared.announce.AnnounceView.{AnnounceView}
use Rattle.gptp_messages.specs.declared.follow_up.FollowUp.{FollowUp}
use Rattle.gptp_messages.specs.declared.head.Head.{Head}
use Rattle.gptp_messages.specs.declared.message.Message.{Message}
use Rattle.gptp_messages.specs.declared.message.Message.TheVariants as messages
use Rattle.gptp_messages.specs.declared.peer_delay.PdelayResp.{PdelayResp}
use Rattle.gptp_receipt.specs.Held.{comparison}
use Rattle.gptp_correction.specs.declared.sync_in.SyncInfo.{SyncInfo}
use Rattle.gptp_correction.specs.SyncIn.{KeptSync}
use Rattle.std.specs.Option.{option_map_or}
use Rattle.gptp_pdelay.specs.declared.progress.Progress.{Progress}
use Rattle.gptp_pdelay.specs.Peer.{PeerState, after_follow_up, after_interval, after_response, is_capable, answered_by, reset_peer}
use Rattle.gptp_system.specs.declared.answer.Answer.{Answer}
use Rattle.gptp_system.specs.declared.port.Port.{Port}
use Rattle.gptp_system.specs.declared.reading.TimeRead.{TimeRead}
use Rattle.gptp_system.specs.declared.sending.Sending.{Sending}
use Rattle.gptp_setup.specs.declared.timer.Timer.{Timer}
use Rattle.gptp_setup.specs.declared.timer.Timer.TheVariants as timers
use Rattle.gptp_setup.specs.Intervals.{interval_of}
use Rattle.gptp_setup.specs.SettlingParams.{has_sync_timeout}
use Rattle.gptp_system.specs.State.{SystemState, held_at, is_capable_at, number, on_port, own, stamp_time, with_peer}
use Rattle.gptp_system.specs.Selection.{Becomes, SelectsIf, announced_again}
use Rattle.gptp_system.specs.Measuring.{GoesDown, Turns, TurnsAndAsks, TurnsIf, answering_done, asking, down, is_turned, owes, owing, turned}
use Rattle.gptp_system.specs.Announcing.{HearsQualified, aged_at, compared, replaces_held, with_priority}
use Rattle.gptp_system.specs.Syncing.{HearsFollowUpIf, HearsSyncIf, KeepsIf, KnowsBy, KnowsIf, RelaysBy, RelaysIf, SyncsIf, counted_by_rates, delay_at, is_followed, is_leading, root_rate_at, restarted, said_on, timer_stopped, telling}
use Rattle.gptp_system.specs.Lapse.{lapsed}
use Rattle.gptp_system.specs.Takeover.{leading}
use Rattle.gptp_system.specs.Steps.{Expires as TimerExpires, HearsFrame, HearsMessage}
use Rattle.gptp_system.specs.Input.{Input, Steps, PortUp, PortDown, Frame, Expires, Priority}
use Rattle.gptp_system.proofs.PortLemmas.{Marked, counted-get, counted-map, with_sync}
use Rattle.gptp_system.proofs.LapseLemmas.{lapsed_touches}
use Rattle.gptp_system.proofs.FactLemmas.{Quiet, Sound, Steady, on_port_quiet, ports_quiet, quiet_steady, selects_sound, selects_steady, steady_on}
use Rattle.gptp_system.proofs.TimersChangedLemmas.{aged_touches, compared_same, compared_touches, down_touches, not_turned, priority_touches, turned_touches}

-- ---- states

-- only what is known of time changes
apart : (s : SystemState) (sync_in : Option KeptSync) (known : Option SyncInfo) (offset : Option ℤ)
    (reads : Option TimeRead) (base : ℤ) (sync : ℕ) (relay lapse : Option ℕ)
    → Quiet s (record s {
      sync_in = sync_in;
      known = known;
      offset = offset;
      reads = reads;
      base = base;
      sync = sync;
      relay = relay;
      lapse = lapse;
    })
apart s sync_in known offset reads base sync relay lapse = record {
  params = refl;
  largest = refl;
  phase = refl;
  drift = refl;
  continues = refl;
  seed = refl;
  identity = refl;
  held = refl;
  root = refl;
  steps = refl;
  slave = refl;
  logs = refl;
  alike = λ i q there. (q, there, refl);
}

pub apart_steady : (s : SystemState) (sync_in : Option KeptSync) (known : Option SyncInfo) (offset : Option ℤ)
    (reads : Option TimeRead) (base : ℤ) (sync : ℕ) (relay lapse : Option ℕ)
    → Steady s (record s {
      sync_in = sync_in;
      known = known;
      offset = offset;
      reads = reads;
      base = base;
      sync = sync;
      relay = relay;
      lapse = lapse;
    })
apart_steady s sync_in known offset reads base sync relay lapse =
    quiet_steady s _ (apart s sync_in known offset reads base sync relay lapse)

pub itself : (s : SystemState) → Steady s s
itself s = apart_steady s s.sync_in s.known s.offset s.reads s.base s.sync s.relay s.lapse

telling_quiet : (s : SystemState) → Quiet s (telling s)
telling_quiet s =
    ports_quiet s (counted_by_rates s.held s.ports)
    (counted-map (λ (q : Port). q.log_interval) (λ q. refl) s.held s.ports)
    (λ i q' there. go _ i q' (counted-get s.held s.ports i q' there))
  where
    go : (mark : Type 0) (i : ℕ) (q' : Port) → Marked with_sync mark s.ports i q'
        → (q : Port) × (slice_get s.ports i ≡ Some q) × (is_capable q'.peer ≡ is_capable q.peer)
    go mark i q' (q, was, inl (mine, new)) = (q, was, ap (λ (x : Port). is_capable x.peer) new)
    go mark i q' (q, was, inr (other, old)) = (q, was, ap (λ (x : Port). is_capable x.peer) old)

pub telling_steady : (s : SystemState) → Steady s (telling s)
telling_steady s = quiet_steady s (telling s) (telling_quiet s)

-- a port of which neither the interval nor what it measured changes
port_steady : (p : ℕ) (f : Port → Port) (s : SystemState) → ((q : Port) → (f q).log_interval ≡ q.log_interval)
    → ((q : Port) → number s.ports p ≡ Some q → is_capable (f q).peer ≡ is_capable q.peer)
    → Steady s (on_port p f s)
port_steady p f s log same = quiet_steady s _ (on_port_quiet p f s log same)

-- a state that another becomes
becomes : (s t s' : SystemState) (sends : List Sending) → Steady s t → Becomes t s' sends → Steady s s'
becomes s t s' sends steady b = subst (Steady s) (sym b.state) steady

-- ---- measuring

pub turns : (p : ℕ) (step : PeerState → PeerState) (now : ℕ) (s s' : SystemState) (sends : List Sending)
    → Turns p step now s s' sends
    → Steady s s'
turns p step now s s' sends h = go (is_turned step (number s.ports p)) refl h
  where
    go : (b : Bool) → is_turned step (number s.ports p) ≡ b → TurnsIf b p step now s s' sends → Steady s s'
    go true is k = selects_steady now s (turned p step s) s' sends (turned_touches p step s) refl k
    go false is k =
        becomes s (with_peer p step s) s' sends
        (port_steady p (λ (q : Port). record q { peer = step q.peer }) s (λ q. refl)
        (λ q there. not_turned step q (sym (ap (is_turned step) there) ∙ is)))
        k

turns_and_asks : (p : ℕ) (step : PeerState → PeerState) (now : ℕ) (s s' : SystemState) (sends : List Sending)
    → TurnsAndAsks p step now s s' sends → Steady s s'
turns_and_asks p step now s s' sends k =
    steady_on s k.between s' (turns p step now s k.between k.first k.turns)
    (subst (Steady k.between) (sym k.state)
    (port_steady p (asking (stamp_time k.between now) (now + interval_of k.between.params.pdelay)) k.between (λ q. refl)
    (λ q there. refl)))

goes_down : (p now : ℕ) (s s' : SystemState) (sends : List Sending) → GoesDown p now s s' sends → Steady s s'
goes_down p now s s' sends k = selects_steady now s (down p s) s' sends (down_touches p s) refl k

-- a response measures nothing yet
response_capable : (m : PdelayResp) (t4 : ℤ) (p : PeerState) → is_capable (after_response m t4 p) ≡ is_capable p
response_capable m t4 p = go (answered_by m t4 p.own p.progress)
  where
    go : (answer : Option Progress)
        → is_capable (option_map_or (λ progress. record p { progress = progress }) answer p) ≡ is_capable p
    go None = refl
    go (Some progress) = refl

-- ---- Announces

hears_qualified : (p : ℕ) (a : AnnounceView) (now : ℕ) (s s' : SystemState) (sends : List Sending) (answer : Answer)
    → HearsQualified p a now s s' sends answer → Steady s s'
hears_qualified p a now s s' sends answer k = go (replaces_held (comparison (held_at s p) (own s p) a)) refl k.selects
  where
    go : (b : Bool) → replaces_held (comparison (held_at s p) (own s p) a) ≡ b
        → SelectsIf b now (compared p a now s) s' sends → Steady s s'
    go true is h = selects_steady now s (compared p a now s) s' sends (compared_touches p a now s k.qualified) refl h
    go false is h =
        becomes s (compared p a now s) s' sends (subst (Steady s) (sym (compared_same p a now s is)) (itself s)) h

hears_announce : (p : ℕ) (a : AnnounceView) (now : ℕ) (s s' : SystemState) (sends : List Sending) (answer : Answer)
    → HearsMessage p (messages.Announce a) now s s' sends answer → Steady s s'
hears_announce p a now s s' sends answer (inl off) = becomes s s s' sends (itself s) off.becomes
hears_announce p a now s s' sends answer (inr (inl unqualified)) = becomes s s s' sends (itself s) unqualified.becomes
hears_announce p a now s s' sends answer (inr (inr qualified)) = hears_qualified p a now s s' sends answer qualified

-- ---- time

keeps_if : (b : Bool) (head : Head) (now : ℕ) (s s' : SystemState) (sends : List Sending) (answer : Answer)
    → KeepsIf b head now s s' sends answer → Steady s s'
keeps_if true head now s s' sends answer k =
    becomes s _ s' sends (apart_steady s _ s.known s.offset s.reads s.base s.sync s.relay s.lapse) k.becomes
keeps_if false head now s s' sends answer k = becomes s s s' sends (itself s) k.becomes

hears_sync : (b : Bool) (p : ℕ) (head : Head) (now : ℕ) (s s' : SystemState) (sends : List Sending) (answer : Answer)
    → HearsSyncIf b p head now s s' sends answer → Steady s s'
hears_sync false p head now s s' sends answer k = becomes s s s' sends (itself s) k.becomes
hears_sync true p head now s s' sends answer k = keeps_if (is_followed p head s) head now s s' sends answer k

knows_by : (b : Bool) (info : SyncInfo) (delay rate : ℤ) (now : ℕ) (s s' : SystemState) (sends : List Sending)
    (answer : Answer)
    → KnowsBy b info delay rate now s s' sends answer → Steady s s'
knows_by true info delay rate now s s' sends answer k =
    becomes s _ s' sends (apart_steady s s.sync_in _ _ _ s.base s.sync _ _) k.becomes
knows_by false info delay rate now s s' sends answer (inl k) =
    becomes s _ s' sends (apart_steady s s.sync_in _ _ _ s.base s.sync _ s.lapse) k.becomes
knows_by false info delay rate now s s' sends answer (inr k) =
    becomes s _ s' sends (apart_steady s _ _ _ s.reads s.base s.sync s.relay s.lapse) k.becomes

knows_if : (said : Option SyncInfo) (delay rate : ℤ) (now : ℕ) (s s' : SystemState) (sends : List Sending)
    (answer : Answer)
    → KnowsIf said delay rate now s s' sends answer → Steady s s'
knows_if None delay rate now s s' sends answer k = becomes s s s' sends (itself s) k.becomes
knows_if (Some info) delay rate now s s' sends answer k =
    knows_by (has_sync_timeout s.params) info delay rate now s s' sends answer k

hears_follow_up : (b : Bool) (p : ℕ) (m : FollowUp) (now : ℕ) (s s' : SystemState) (sends : List Sending)
    (answer : Answer)
    → HearsFollowUpIf b p m now s s' sends answer → Steady s s'
hears_follow_up false p m now s s' sends answer k = becomes s s s' sends (itself s) k.becomes
hears_follow_up true p m now s s' sends answer k =
    knows_if (said_on p m s) (delay_at s p) (root_rate_at s p) now s s' sends answer k

restarted_steady : (now : ℕ) (s : SystemState) → Steady s (restarted now s)
restarted_steady now s = apart_steady s s.sync_in s.known s.offset s.reads s.base _ s.relay s.lapse

led_steady : (now : ℕ) (s : SystemState) → Steady s (restarted now (leading now s))
led_steady now s = apart_steady s s.sync_in s.known s.offset _ _ _ s.relay s.lapse

syncs_if : (b : Bool) (now : ℕ) (s s' : SystemState) (sends : List Sending) → SyncsIf b now s s' sends → Steady s s'
syncs_if true now s s' sends k =
    let t = restarted now (leading now s) in
    subst (Steady s) (sym k.state) (steady_on s t (telling t) (led_steady now s) (telling_steady t))
syncs_if false now s s' sends k = becomes s (restarted now s) s' sends (restarted_steady now s) k

stopped_steady : (s : SystemState) → Steady s (timer_stopped s)
stopped_steady s = apart_steady s s.sync_in s.known s.offset s.reads s.base s.sync None s.lapse

-- all Master ports tell time at the Relay timer
relayed_steady : (s s' : SystemState) → s' ≡ telling (timer_stopped s) → Steady s s'
relayed_steady s s' is =
    subst (Steady s) (sym is)
    (steady_on s (timer_stopped s) (telling (timer_stopped s)) (stopped_steady s) (telling_steady (timer_stopped s)))

relays_by : (b : Bool) (info : SyncInfo) (now : ℕ) (s s' : SystemState) (sends : List Sending)
    → RelaysBy b info now s s' sends → Steady s s'
relays_by true info now s s' sends k = relayed_steady s s' k.state
relays_by false info now s s' sends (inl k) = relayed_steady s s' k.state
relays_by false info now s s' sends (inr k) = becomes s (timer_stopped s) s' sends (stopped_steady s) k.becomes

relays_if : (known : Option SyncInfo) (now : ℕ) (s s' : SystemState) (sends : List Sending)
    → RelaysIf known now s s' sends → Steady s s'
relays_if None now s s' sends k = becomes s (timer_stopped s) s' sends (stopped_steady s) k
relays_if (Some info) now s s' sends k = relays_by (has_sync_timeout s.params) info now s s' sends k

-- ---- all steps

hears_message : (p : ℕ) (m : Message) (now : ℕ) (s s' : SystemState) (sends : List Sending) (answer : Answer)
    → HearsMessage p m now s s' sends answer → Steady s s'
hears_message p (messages.Sync head) now s s' sends answer k =
    hears_sync (is_capable_at s p) p head now s s' sends answer k
hears_message p (messages.PdelayReq head) now s s' sends answer k =
    becomes s (owes p head now s) s' sends (port_steady p (owing _ _) s (λ q. refl) (λ q there. refl)) k.becomes
hears_message p (messages.PdelayResp m) now s s' sends answer k =
    becomes s (with_peer p (after_response m (stamp_time s now)) s) s' sends
    (port_steady p (λ (q : Port). record q { peer = after_response m (stamp_time s now) q.peer }) s (λ q. refl)
    (λ q there. response_capable m (stamp_time s now) q.peer))
    k.becomes
hears_message p (messages.FollowUp m) now s s' sends answer k =
    hears_follow_up (is_capable_at s p) p m now s s' sends answer k
hears_message p (messages.PdelayRespFollowUp m) now s s' sends answer k =
    turns p (after_follow_up m) now s s' sends k.turns
hears_message p (messages.Announce a) now s s' sends answer k = hears_announce p a now s s' sends answer k

hears_frame : (p : ℕ) (octets : List ℕ) (now : ℕ) (s s' : SystemState) (sends : List Sending) (answer : Answer)
    → HearsFrame p octets now s s' sends answer → Steady s s'
hears_frame p octets now s s' sends answer (inl k) = hears_message p k.message now s s' sends answer k.hears
hears_frame p octets now s s' sends answer (inr k) = becomes s s s' sends (itself s) k.becomes

expires : (timer : Timer) (now : ℕ) (s s' : SystemState) (sends : List Sending)
    → TimerExpires timer now s s' sends → Steady s s'
expires (timers.Announce p) now s s' sends k =
    subst (Steady s) (sym k.state) (port_steady p (announced_again now) s (λ q. refl) (λ q there. refl))
expires (timers.Age p) now s s' sends k = selects_steady now s (aged_at p now s) s' sends (aged_touches p now s) refl k
expires (timers.Pdelay p) now s s' sends k = turns_and_asks p after_interval now s s' sends k
expires (timers.Respond p) now s s' sends k =
    subst (Steady s) (sym k.state) (port_steady p answering_done s (λ q. refl) (λ q there. refl))
expires timers.Sync now s s' sends k = syncs_if (is_leading s) now s s' sends k
expires timers.Relay now s s' sends k = relays_if s.known now s s' sends k
expires timers.Lapse now s s' sends k = selects_steady now s (lapsed s) s' sends (lapsed_touches s) refl k

-- every step but a change of priority1 keeps the identity
pub steps_steady : (input : Input) (now : ℕ) (s s' : SystemState) (sends : List Sending) (answer : Answer)
    → ((value : ℕ) → input ≢ Priority value) → Steps input now s s' sends answer → Steady s s'
steps_steady (PortUp p) now s s' sends answer other k = turns_and_asks p reset_peer now s s' sends k
steps_steady (PortDown p) now s s' sends answer other k = goes_down p now s s' sends k
steps_steady (Frame p octets) now s s' sends answer other k = hears_frame p octets now s s' sends answer k
steps_steady (Expires timer) now s s' sends answer other k = expires timer now s s' sends k
steps_steady (Priority value) now s s' sends answer other k = absurd (other value refl)

pub steps_sound : (input : Input) (now : ℕ) (s s' : SystemState) (sends : List Sending) (answer : Answer)
    → Steps input now s s' sends answer → Sound s s'
steps_sound (PortUp p) now s s' sends answer k = (turns_and_asks p reset_peer now s s' sends k).sound
steps_sound (PortDown p) now s s' sends answer k = (goes_down p now s s' sends k).sound
steps_sound (Frame p octets) now s s' sends answer k = (hears_frame p octets now s s' sends answer k).sound
steps_sound (Expires timer) now s s' sends answer k = (expires timer now s s' sends k).sound
steps_sound (Priority value) now s s' sends answer k =
    selects_sound now s (with_priority value s) s' sends (priority_touches value s) k
