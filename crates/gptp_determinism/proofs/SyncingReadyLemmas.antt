-- A system is ready after a Sync, a Follow_Up and the timers of both.
use Rattle.std.proofs.Common.{◌≡◌, ◌≤◌, ◌+◌, ℕ, ℤ, Bool, true, false, List, Option, Some, None, sym, subst, inl, inr}
use Rattle.std.specs.Option.{unwrap_or}
use Rattle.gptp_messages.specs.declared.follow_up.FollowUp.{FollowUp}
use Rattle.gptp_messages.specs.declared.head.Head.{Head}
use Rattle.gptp_correction.specs.declared.sync_in.SyncInfo.{SyncInfo}
use Rattle.gptp_correction.specs.SyncIn.{KeptSync, kept}
use Rattle.gptp_setup.specs.SettlingParams.{has_sync_timeout}
use Rattle.gptp_system.specs.declared.answer.Answer.{Answer}
use Rattle.gptp_system.specs.declared.reading.TimeRead.{TimeRead}
use Rattle.gptp_system.specs.declared.reading.TimeRead.TheVariants as reads
use Rattle.gptp_system.specs.declared.sending.Sending.{Sending}
use Rattle.gptp_system.specs.Reading.{reading_of}
use Rattle.gptp_system.specs.Ready.{IsReady}
use Rattle.gptp_system.specs.Selection.{Becomes}
use Rattle.gptp_system.specs.State.{SystemState, lapse_of, stamp_time}
use Rattle.gptp_system.specs.Takeover.{leading}
use Rattle.gptp_system.specs.Syncing.{delay_at, forgetting, is_followed, keeping, knowing, offset_of, reads_with, root_rate_at, refreshing, restarted, said_on, timer_stopped, telling}
use Rattle.gptp_system.specs.Syncing.{HearsFollowUpIf, HearsSyncIf, KeepsIf, KnowsBy, KnowsIf, RelaysBy, RelaysIf, SyncsIf}
use Rattle.gptp_system.proofs.LapseLemmas.{lapse_off}
use Rattle.gptp_system.proofs.SyncLemmas.{telling_ready}
use Rattle.gptp_system.proofs.TakeoverLemmas.{led_ready, restarted_ready}

-- ---- states

-- a ready state that another becomes
pub becomes_ready : (t s' : SystemState) (sends : List Sending) → IsReady t → Becomes t s' sends → IsReady s'
becomes_ready t s' sends ready b = subst IsReady (sym b.state) ready

-- only what is known of time changes
apart_ready : (s : SystemState) (sync_in : Option KeptSync) (known : Option SyncInfo) (offset : Option ℤ)
    (reads : Option TimeRead) (relay lapse : Option ℕ) → IsReady s → (s.params.sync_timeout ≡ 0 → lapse ≡ None)
    → IsReady (record s {
      sync_in = sync_in;
      known = known;
      offset = offset;
      reads = reads;
      relay = relay;
      lapse = lapse;
    })
apart_ready s sync_in known offset reads relay lapse ready lapses = record {
  params = ready.params;
  largest = ready.largest;
  phase = ready.phase;
  drift = ready.drift;
  places = ready.places;
  few = ready.few;
  placed = ready.placed;
  recent = ready.recent;
  ports = ready.ports;
  lapses = lapses;
  told = ready.told;
  based = ready.based;
}

-- ---- a Sync and a Follow_Up

keeps_ready : (on : Bool) (head : Head) (now : ℕ) (s s' : SystemState) (sends : List Sending) (answer : Answer)
    → IsReady s → KeepsIf on head now s s' sends answer → IsReady s'
keeps_ready true head now s s' sends answer ready k =
    becomes_ready (keeping head now s) s' sends
    (apart_ready s (Some (kept head.source head.sequence (stamp_time s now))) s.known s.offset s.reads s.relay s.lapse
    ready ready.lapses)
    k.becomes
keeps_ready false head now s s' sends answer ready k = becomes_ready s s' sends ready k.becomes

pub hears_sync_ready : (on : Bool) (p : ℕ) (head : Head) (now : ℕ) (s s' : SystemState) (sends : List Sending)
    (answer : Answer) → IsReady s → HearsSyncIf on p head now s s' sends answer → IsReady s'
hears_sync_ready true p head now s s' sends answer ready k =
    keeps_ready (is_followed p head s) head now s s' sends answer ready k
hears_sync_ready false p head now s s' sends answer ready k = becomes_ready s s' sends ready k.becomes

knows_by_ready : (on : Bool) (info : SyncInfo) (delay rate : ℤ) (now : ℕ) (s s' : SystemState) (sends : List Sending)
    (answer : Answer) → IsReady s → KnowsBy on info delay rate now s s' sends answer → IsReady s'
knows_by_ready true info delay rate now s s' sends answer ready k =
    becomes_ready (refreshing info k.offset rate now s) s' sends
    (apart_ready s s.sync_in (Some info) k.offset (reads_with info k.offset rate s.reads)
    (Some (unwrap_or s.relay (now + s.params.residence)))
    (lapse_of s.params s.root s.slave now) ready (λ off. lapse_off s.params s.root s.slave now off))
    k.becomes
knows_by_ready false info delay rate now s s' sends answer ready (inl k) =
    becomes_ready (knowing info (offset_of info delay rate) rate now s) s' sends
    (apart_ready s s.sync_in (Some info) (Some (offset_of info delay rate))
    (Some (reads.Received (reading_of info (offset_of info delay rate) rate))) (Some (now + s.params.residence)) s.lapse
    ready ready.lapses)
    k.becomes
knows_by_ready false info delay rate now s s' sends answer ready (inr k) =
    becomes_ready (forgetting s) s' sends
    (apart_ready s None None None s.reads s.relay s.lapse ready ready.lapses) k.becomes

knows_ready : (said : Option SyncInfo) (delay rate : ℤ) (now : ℕ) (s s' : SystemState) (sends : List Sending)
    (answer : Answer) → IsReady s → KnowsIf said delay rate now s s' sends answer → IsReady s'
knows_ready None delay rate now s s' sends answer ready k = becomes_ready s s' sends ready k.becomes
knows_ready (Some info) delay rate now s s' sends answer ready k =
    knows_by_ready (has_sync_timeout s.params) info delay rate now s s' sends answer ready k

pub hears_follow_up_ready : (on : Bool) (p : ℕ) (m : FollowUp) (now : ℕ) (s s' : SystemState) (sends : List Sending)
    (answer : Answer) → IsReady s → HearsFollowUpIf on p m now s s' sends answer → IsReady s'
hears_follow_up_ready true p m now s s' sends answer ready k =
    knows_ready (said_on p m s) (delay_at s p) (root_rate_at s p) now s s' sends answer ready k
hears_follow_up_ready false p m now s s' sends answer ready k = becomes_ready s s' sends ready k.becomes

-- ---- timers

pub syncs_ready : (on : Bool) (now : ℕ) (s s' : SystemState) (sends : List Sending) → IsReady s
    → s.sync ≤ now → SyncsIf on now s s' sends → IsReady s'
syncs_ready true now s s' sends ready due k =
    subst IsReady (sym k.state) (telling_ready (restarted now (leading now s)) (led_ready s now ready due))
syncs_ready false now s s' sends ready due k =
    becomes_ready (restarted now s) s' sends (restarted_ready s now ready due) k

stopped_ready : (s : SystemState) → IsReady s → IsReady (timer_stopped s)
stopped_ready s ready = apart_ready s s.sync_in s.known s.offset s.reads None s.lapse ready ready.lapses

relayed_ready : (s s' : SystemState) → IsReady s → s' ≡ telling (timer_stopped s) → IsReady s'
relayed_ready s s' ready is = subst IsReady (sym is) (telling_ready (timer_stopped s) (stopped_ready s ready))

relays_by_ready : (on : Bool) (info : SyncInfo) (now : ℕ) (s s' : SystemState) (sends : List Sending) → IsReady s
    → RelaysBy on info now s s' sends → IsReady s'
relays_by_ready true info now s s' sends ready k = relayed_ready s s' ready k.state
relays_by_ready false info now s s' sends ready (inl k) = relayed_ready s s' ready k.state
relays_by_ready false info now s s' sends ready (inr k) =
    becomes_ready (timer_stopped s) s' sends (stopped_ready s ready) k.becomes

pub relays_ready : (known : Option SyncInfo) (now : ℕ) (s s' : SystemState) (sends : List Sending) → IsReady s
    → RelaysIf known now s s' sends → IsReady s'
relays_ready None now s s' sends ready k = becomes_ready (timer_stopped s) s' sends (stopped_ready s ready) k
relays_ready (Some info) now s s' sends ready k =
    relays_by_ready (has_sync_timeout s.params) info now s s' sends ready k
