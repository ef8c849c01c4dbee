-- The timers of a system run on or begin anew, case by case, and so stay in time.
use Rattle.std.proofs.Common.{◌≡◌, ◌⊎◌, ◌<◌, ℕ, ◌+◌, ℤ, Bool, true, false, List, Option, Some, None, refl, sym, ap, subst, ◌∙◌, inl, inr}
use Rattle.std.specs.Option.{unwrap_or}
use Rattle.std.proofs.lemmas.Option.{none-some, same_Some}
use Rattle.gptp_messages.specs.declared.announce.AnnounceView.{AnnounceView}
use Rattle.gptp_messages.specs.declared.follow_up.FollowUp.{FollowUp}
use Rattle.gptp_messages.specs.declared.head.Head.{Head}
use Rattle.gptp_messages.specs.declared.message.Message.{Message}
use Rattle.gptp_messages.specs.declared.message.Message.TheVariants as messages
use Rattle.gptp_receipt.specs.Held.{comparison}
use Rattle.gptp_correction.specs.declared.sync_in.SyncInfo.{SyncInfo}
use Rattle.gptp_pdelay.specs.Peer.{PeerState, after_follow_up, after_interval, reset_peer}
use Rattle.gptp_system.specs.declared.answer.Answer.{Answer}
use Rattle.gptp_system.specs.declared.sending.Sending.{Sending}
use Rattle.gptp_setup.specs.declared.setup.Params.{Params}
use Rattle.gptp_setup.specs.declared.timer.Timer.{Timer}
use Rattle.gptp_setup.specs.declared.timer.Timer.TheVariants as timers
use Rattle.gptp_setup.specs.Intervals.{interval_of}
use Rattle.gptp_setup.specs.SettlingParams.{has_sync_timeout, lapse_span}
use Rattle.gptp_system.specs.State.{SystemState, held_at, is_capable_at, number, own, with_peer}
use Rattle.gptp_system.specs.Selection.{Becomes, Selects, SelectsIf, follows_on, kept_if}
use Rattle.gptp_system.specs.Measuring.{Turns, TurnsAndAsks, TurnsIf, down, is_turned, turned}
use Rattle.gptp_system.specs.Announcing.{aged_at, compared, replaces_held, with_priority}
use Rattle.gptp_system.specs.Lapse.{lapsed}
use Rattle.gptp_system.specs.Syncing.{HearsFollowUpIf, HearsSyncIf, KeepsIf, KnowsBy, KnowsIf, RelaysBy, RelaysIf, SyncsIf, delay_at, is_followed, is_leading, root_rate_at, restarted, said_on, timer_stopped}
use Rattle.gptp_system.specs.Steps.{Expires as TimerExpires, HearsFrame, HearsMessage}
use Rattle.gptp_system.specs.Input.{Input, Steps, PortUp, PortDown, Frame, Expires, Priority}
use Rattle.gptp_system.specs.Times.{RunsOn, LapseRunsOn, WaitsAnew}
use Rattle.gptp_system.proofs.LapseLemmas.{followed, lapse_begins, lapse_chosen}

-- ---- the timers of the system

-- the Lapse timer runs as it did, and the same is followed
waits : (s : SystemState) (now : ℕ) (s' : SystemState) → s'.lapse ≡ s.lapse → s'.root ≡ s.root → s'.slave ≡ s.slave
    → (t : ℕ) → s'.lapse ≡ Some t → LapseRunsOn s s' t ⊎ WaitsAnew s now t
waits s now s' lapse root slave t is = inl (record { before = sym lapse ∙ is; root = root; slave = slave })

same_runs : (s : SystemState) (now : ℕ) (s' : SystemState) → s'.sync ≡ s.sync → s'.relay ≡ s.relay
    → s'.lapse ≡ s.lapse → s'.root ≡ s.root → s'.slave ≡ s.slave → RunsOn s now s'
same_runs s now s' sync relay lapse root slave =
    record { sync = inl sync; relay = λ t is. inl (sym relay ∙ is); lapse = waits s now s' lapse root slave }

becomes : (s : SystemState) (now : ℕ) (t s' : SystemState) (sends : List Sending) → RunsOn s now t → Becomes t s' sends
    → RunsOn s now s'
becomes s now t s' sends runs b = subst (RunsOn s now) (sym b.state) runs

rests : (s : SystemState) (now : ℕ) (s' : SystemState) (sends : List Sending) → Becomes s s' sends → RunsOn s now s'
rests s now s' sends b = becomes s now s s' sends (same_runs s now s refl refl refl refl refl) b

-- nothing but the timers of the system and what it follows is asked for
selects : (s : SystemState) (now : ℕ) (t u : SystemState) (sends : List Sending) → t.params ≡ s.params
    → t.sync ≡ s.sync → t.relay ≡ s.relay → ((moment : ℕ) → t.lapse ≡ Some moment → s.lapse ≡ Some moment)
    → t.root ≡ s.root → t.slave ≡ s.slave
    → Selects now t u sends → RunsOn s now u
selects s now t u sends params sync relay lapse root slave k = record {
  sync = inl (ap (λ (x : SystemState). x.sync) k.state ∙ sync);
  relay = λ moment is.
      inl (sym relay ∙ kept (follows_on k.vector t) moment (sym (ap (λ (x : SystemState). x.relay) k.state) ∙ is));
  lapse = λ moment is.
      chosen moment (lapse_chosen k.vector now t moment (sym (ap (λ (x : SystemState). x.lapse) k.state) ∙ is));
}
  where
    kept : (b : Bool) (moment : ℕ) → kept_if b t.relay ≡ Some moment → t.relay ≡ Some moment
    kept true moment is = is
    kept false moment is = absurd (none-some moment is)

    chosen : (moment : ℕ) → ((follows_on k.vector t ≡ true) × (t.lapse ≡ Some moment)) ⊎ WaitsAnew t now moment
        → LapseRunsOn s u moment ⊎ WaitsAnew s now moment
    chosen moment (inl (same, was)) =
        let (same_root, same_slave) = followed k.vector t same in
        inl (record {
          before = lapse moment was;
          root = ap (λ (x : SystemState). x.root) k.state ∙ same_root ∙ root;
          slave = ap (λ (x : SystemState). x.slave) k.state ∙ same_slave ∙ slave;
        })
    chosen moment (inr anew) =
        inr (record {
          on = subst (λ (x : Params). 0 < x.sync_timeout) params anew.on;
          moment = anew.moment ∙ ap (λ x. now + lapse_span x) params;
        })

turns : (p : ℕ) (step : PeerState → PeerState) (now : ℕ) (s s' : SystemState) (sends : List Sending)
    → Turns p step now s s' sends
    → RunsOn s now s'
turns p step now s s' sends h = go (is_turned step (number s.ports p)) h
  where
    go : (b : Bool) → TurnsIf b p step now s s' sends → RunsOn s now s'
    go true k = selects s now (turned p step s) s' sends refl refl refl (λ m is. is) refl refl k
    go false k =
        becomes s now (with_peer p step s) s' sends
        (same_runs s now (with_peer p step s) refl refl refl refl refl) k

turns_and_asks : (p : ℕ) (step : PeerState → PeerState) (now : ℕ) (s s' : SystemState) (sends : List Sending)
    → TurnsAndAsks p step now s s' sends → RunsOn s now s'
turns_and_asks p step now s s' sends k =
    let before = turns p step now s k.between k.first k.turns in
    subst (RunsOn s now) (sym k.state)
    (record { sync = before.sync; relay = before.relay; lapse = λ t is. still _ t (before.lapse t is) refl refl })
  where
    still : (u : SystemState) (t : ℕ) → LapseRunsOn s k.between t ⊎ WaitsAnew s now t → u.root ≡ k.between.root
        → u.slave ≡ k.between.slave → LapseRunsOn s u t ⊎ WaitsAnew s now t
    still u t (inl on) root slave =
        inl (record { before = on.before; root = root ∙ on.root; slave = slave ∙ on.slave })
    still u t (inr anew) root slave = inr anew

keeps_if : (b : Bool) (head : Head) (now : ℕ) (s s' : SystemState) (sends : List Sending) (answer : Answer)
    → KeepsIf b head now s s' sends answer → RunsOn s now s'
keeps_if true head now s s' sends answer k =
    becomes s now _ s' sends (same_runs s now _ refl refl refl refl refl) k.becomes
keeps_if false head now s s' sends answer k = rests s now s' sends k.becomes

hears_sync : (b : Bool) (p : ℕ) (head : Head) (now : ℕ) (s s' : SystemState) (sends : List Sending) (answer : Answer)
    → HearsSyncIf b p head now s s' sends answer → RunsOn s now s'
hears_sync false p head now s s' sends answer k = rests s now s' sends k.becomes
hears_sync true p head now s s' sends answer k = keeps_if (is_followed p head s) head now s s' sends answer k

knows_by : (b : Bool) (info : SyncInfo) (delay rate : ℤ) (now : ℕ) (s s' : SystemState) (sends : List Sending)
    (answer : Answer)
    → KnowsBy b info delay rate now s s' sends answer → RunsOn s now s'
knows_by true info delay rate now s s' sends answer k =
    subst (RunsOn s now) (sym k.becomes.state)
    (record {
      sync = inl refl;
      relay = λ t is. runs s.relay t is;
      lapse = λ t is. inr (lapse_begins s s.root s.slave now t is);
    })
  where
    runs : (o : Option ℕ) (t : ℕ) → Some (unwrap_or o (now + s.params.residence)) ≡ Some t
        → (o ≡ Some t) ⊎ (t ≡ now + s.params.residence)
    runs None t is = inr (sym (same_Some (now + s.params.residence) t is))
    runs (Some before) t is = inl is
knows_by false info delay rate now s s' sends answer (inl k) =
    subst (RunsOn s now) (sym k.becomes.state)
    (record {
      sync = inl refl;
      relay = λ t is. inr (sym (same_Some (now + s.params.residence) t is));
      lapse = waits s now _ refl refl refl;
    })
knows_by false info delay rate now s s' sends answer (inr k) =
    subst (RunsOn s now) (sym k.becomes.state) (same_runs s now _ refl refl refl refl refl)

knows_if : (said : Option SyncInfo) (delay rate : ℤ) (now : ℕ) (s s' : SystemState) (sends : List Sending)
    (answer : Answer)
    → KnowsIf said delay rate now s s' sends answer → RunsOn s now s'
knows_if None delay rate now s s' sends answer k = rests s now s' sends k.becomes
knows_if (Some info) delay rate now s s' sends answer k =
    knows_by (has_sync_timeout s.params) info delay rate now s s' sends answer k

hears_follow_up : (b : Bool) (p : ℕ) (m : FollowUp) (now : ℕ) (s s' : SystemState) (sends : List Sending)
    (answer : Answer)
    → HearsFollowUpIf b p m now s s' sends answer → RunsOn s now s'
hears_follow_up false p m now s s' sends answer k = rests s now s' sends k.becomes
hears_follow_up true p m now s s' sends answer k =
    knows_if (said_on p m s) (delay_at s p) (root_rate_at s p) now s s' sends answer k

restarted_runs : (now : ℕ) (s s' : SystemState) → s'.sync ≡ now + interval_of s.params.sync → s'.relay ≡ s.relay
    → s'.lapse ≡ s.lapse → s'.root ≡ s.root → s'.slave ≡ s.slave → RunsOn s now s'
restarted_runs now s s' sync relay lapse root slave = record {
  sync = inr sync;
  relay = λ t is. inl (sym relay ∙ is);
  lapse = waits s now s' lapse root slave;
}

syncs_if : (b : Bool) (now : ℕ) (s s' : SystemState) (sends : List Sending) → SyncsIf b now s s' sends → RunsOn s now s'
syncs_if true now s s' sends k =
    subst (RunsOn s now) (sym k.state) (restarted_runs now s _ refl refl refl refl refl)
syncs_if false now s s' sends k =
    becomes s now (restarted now s) s' sends (restarted_runs now s _ refl refl refl refl refl) k

stopped_runs : (now : ℕ) (s s' : SystemState) → s'.sync ≡ s.sync → s'.relay ≡ None → s'.lapse ≡ s.lapse
    → s'.root ≡ s.root → s'.slave ≡ s.slave → RunsOn s now s'
stopped_runs now s s' sync relay lapse root slave = record {
  sync = inl sync;
  relay = λ t is. absurd (none-some t (sym relay ∙ is));
  lapse = waits s now s' lapse root slave;
}

relays_by : (b : Bool) (info : SyncInfo) (now : ℕ) (s s' : SystemState) (sends : List Sending)
    → RelaysBy b info now s s' sends → RunsOn s now s'
relays_by true info now s s' sends k =
    subst (RunsOn s now) (sym k.state) (stopped_runs now s _ refl refl refl refl refl)
relays_by false info now s s' sends (inl k) =
    subst (RunsOn s now) (sym k.state) (stopped_runs now s _ refl refl refl refl refl)
relays_by false info now s s' sends (inr k) =
    becomes s now (timer_stopped s) s' sends (stopped_runs now s _ refl refl refl refl refl) k.becomes

relays_if : (known : Option SyncInfo) (now : ℕ) (s s' : SystemState) (sends : List Sending)
    → RelaysIf known now s s' sends → RunsOn s now s'
relays_if None now s s' sends k =
    becomes s now (timer_stopped s) s' sends (stopped_runs now s _ refl refl refl refl refl) k
relays_if (Some info) now s s' sends k = relays_by (has_sync_timeout s.params) info now s s' sends k

hears_announce : (p : ℕ) (a : AnnounceView) (now : ℕ) (s s' : SystemState) (sends : List Sending) (answer : Answer)
    → HearsMessage p (messages.Announce a) now s s' sends answer → RunsOn s now s'
hears_announce p a now s s' sends answer (inl k) = rests s now s' sends k.becomes
hears_announce p a now s s' sends answer (inr (inl k)) =
    rests s now s' sends k.becomes
hears_announce p a now s s' sends answer (inr (inr k)) = go
    (replaces_held (comparison (held_at s p) (own s p) a)) k.selects
  where
    go : (b : Bool) → SelectsIf b now (compared p a now s) s' sends → RunsOn s now s'
    go true h = selects s now (compared p a now s) s' sends refl refl refl (λ m is. is) refl refl h
    go false h =
        becomes s now (compared p a now s) s' sends
        (same_runs s now (compared p a now s) refl refl refl refl refl) h

hears_message : (p : ℕ) (m : Message) (now : ℕ) (s s' : SystemState) (sends : List Sending) (answer : Answer)
    → HearsMessage p m now s s' sends answer → RunsOn s now s'
hears_message p (messages.Sync head) now s s' sends answer k =
    hears_sync (is_capable_at s p) p head now s s' sends answer k
hears_message p (messages.PdelayReq head) now s s' sends answer k =
    subst (RunsOn s now) (sym k.becomes.state) (same_runs s now _ refl refl refl refl refl)
hears_message p (messages.PdelayResp m) now s s' sends answer k =
    subst (RunsOn s now) (sym k.becomes.state) (same_runs s now _ refl refl refl refl refl)
hears_message p (messages.FollowUp m) now s s' sends answer k =
    hears_follow_up (is_capable_at s p) p m now s s' sends answer k
hears_message p (messages.PdelayRespFollowUp m) now s s' sends answer k =
    turns p (after_follow_up m) now s s' sends k.turns
hears_message p (messages.Announce a) now s s' sends answer k = hears_announce p a now s s' sends answer k

hears_frame : (p : ℕ) (octets : List ℕ) (now : ℕ) (s s' : SystemState) (sends : List Sending) (answer : Answer)
    → HearsFrame p octets now s s' sends answer → RunsOn s now s'
hears_frame p octets now s s' sends answer (inl k) = hears_message p k.message now s s' sends answer k.hears
hears_frame p octets now s s' sends answer (inr k) = rests s now s' sends k.becomes

expires : (timer : Timer) (now : ℕ) (s s' : SystemState) (sends : List Sending) → TimerExpires timer now s s' sends
    → RunsOn s now s'
expires (timers.Announce p) now s s' sends k =
    subst (RunsOn s now) (sym k.state) (same_runs s now _ refl refl refl refl refl)
expires (timers.Age p) now s s' sends k =
    selects s now (aged_at p now s) s' sends refl refl refl (λ m is. is) refl refl k
expires (timers.Pdelay p) now s s' sends k = turns_and_asks p after_interval now s s' sends k
expires (timers.Respond p) now s s' sends k =
    subst (RunsOn s now) (sym k.state) (same_runs s now _ refl refl refl refl refl)
expires timers.Sync now s s' sends k = syncs_if (is_leading s) now s s' sends k
expires timers.Relay now s s' sends k = relays_if s.known now s s' sends k
expires timers.Lapse now s s' sends k =
    selects s now (lapsed s) s' sends refl refl refl (λ m none. absurd (none-some m none)) refl refl k

pub steps_run_on : (input : Input) (now : ℕ) (s s' : SystemState) (sends : List Sending) (answer : Answer)
    → Steps input now s s' sends answer → RunsOn s now s'
steps_run_on (PortUp p) now s s' sends answer k = turns_and_asks p reset_peer now s s' sends k
steps_run_on (PortDown p) now s s' sends answer k =
    selects s now (down p s) s' sends refl refl refl (λ m is. is) refl refl k
steps_run_on (Frame p octets) now s s' sends answer k = hears_frame p octets now s s' sends answer k
steps_run_on (Expires timer) now s s' sends answer k = expires timer now s s' sends k
steps_run_on (Priority value) now s s' sends answer k =
    selects s now (with_priority value s) s' sends refl refl refl (λ m is. is) refl refl k
