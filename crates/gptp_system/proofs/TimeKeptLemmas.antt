-- What every step makes of what a system reads time by, case by case; and one that has taken over goes on.
use Rattle.std.proofs.Common.{◌≡◌, ◌⊎◌, ℕ, ℤ, Bool, true, false, ◌&&◌, if◌then◌else◌, List, Option, Some, None, refl, sym, ap, subst, ◌∙◌, inl, inr}
use Rattle.std.specs.Prelude.{◌==◌, not}
use Rattle.std.specs.List.{list_any}
use Rattle.std.specs.Option.{option_map_or}
use Rattle.std.proofs.lemmas.Option.{none-some}
use Rattle.gptp_messages.specs.declared.announce.AnnounceView.{AnnounceView}
use Rattle.gptp_messages.specs.declared.follow_up.FollowUp.{FollowUp}
use Rattle.gptp_messages.specs.declared.head.Head.{Head}
use Rattle.gptp_messages.specs.declared.message.Message.{Message}
use Rattle.gptp_messages.specs.declared.message.Message.TheVariants as messages
use Rattle.gptp_receipt.specs.Held.{comparison}
use Rattle.gptp_correction.specs.declared.sync_in.SyncInfo.{SyncInfo}
use Rattle.gptp_correction.specs.SyncIn.{information}
use Rattle.gptp_pdelay.specs.Peer.{PeerState, after_follow_up, after_interval, reset_peer}
use Rattle.gptp_system.specs.declared.answer.Answer.{Answer}
use Rattle.gptp_system.specs.declared.reading.TimeRead.TheVariants as reads
use Rattle.gptp_system.specs.declared.sending.Sending.{Sending}
use Rattle.gptp_setup.specs.declared.timer.Timer.{Timer}
use Rattle.gptp_setup.specs.declared.timer.Timer.TheVariants as timers
use Rattle.gptp_setup.specs.SettlingParams.{has_sync_timeout}
use Rattle.gptp_system.specs.State.{SystemState, held_at, is_capable_at, is_mine, local_time, number, own}
use Rattle.gptp_system.specs.Selection.{Becomes, Selects, SelectsIf}
use Rattle.gptp_system.specs.Measuring.{Turns, TurnsAndAsks, TurnsIf, down, is_turned, turned}
use Rattle.gptp_system.specs.Announcing.{aged_at, compared, replaces_held, with_priority}
use Rattle.gptp_system.specs.Lapse.{lapsed}
use Rattle.gptp_system.specs.Laws.{GoesOnLaw, TimeKeptLaw}
use Rattle.gptp_system.specs.Syncing.{HearsFollowUpIf, HearsSyncIf, KeepsIf, KnowsBy, KnowsIf, RelaysBy, RelaysIf, SyncsIf, delay_at, is_followed, is_leading, reads_with, root_rate_at, said_on}
use Rattle.gptp_system.specs.Steps.{Expires as TimerExpires, HearsFrame, HearsMessage}
use Rattle.gptp_system.specs.Input.{PortUp, PortDown, Frame, Expires, Priority}
use Rattle.gptp_system.specs.Takeover.{base_after, base_to, reading, reads_after, reads_own}
use Rattle.gptp_system.specs.TimeKept.{GoesOnTelling, KeepsTime, MakesOfTime, ReceivesTime, SyncRestarts}

-- ---- what a step makes of it

same : (s : SystemState) (s' : SystemState) → s'.reads ≡ s.reads → s'.base ≡ s.base → s'.sync ≡ s.sync → KeepsTime s s'
same s s' reads base sync = record { reads = reads; base = base; sync = sync }

becomes : (s t s' : SystemState) (sends : List Sending) → KeepsTime s t → Becomes t s' sends → KeepsTime s s'
becomes s t s' sends kept b = subst (KeepsTime s) (sym b.state) kept

rests : (s s' : SystemState) (sends : List Sending) → Becomes s s' sends → KeepsTime s s'
rests s s' sends b = becomes s s s' sends (same s s refl refl refl) b

-- selection touches none of it
selects : (now : ℕ) (s t u : SystemState) (sends : List Sending) → KeepsTime s t → Selects now t u sends → KeepsTime s u
selects now s t u sends kept k =
    subst (KeepsTime s) (sym k.state) (record { reads = kept.reads; base = kept.base; sync = kept.sync })

turns : (p : ℕ) (step : PeerState → PeerState) (now : ℕ) (s s' : SystemState) (sends : List Sending)
    → Turns p step now s s' sends → KeepsTime s s'
turns p step now s s' sends h = go (is_turned step (number s.ports p)) h
  where
    go : (b : Bool) → TurnsIf b p step now s s' sends → KeepsTime s s'
    go true k = selects now s (turned p step s) s' sends (same s _ refl refl refl) k
    go false k = becomes s _ s' sends (same s _ refl refl refl) k

turns_and_asks : (p : ℕ) (step : PeerState → PeerState) (now : ℕ) (s s' : SystemState) (sends : List Sending)
    → TurnsAndAsks p step now s s' sends → KeepsTime s s'
turns_and_asks p step now s s' sends k =
    let before = turns p step now s k.between k.first k.turns in
    subst (KeepsTime s) (sym k.state) (same s _ before.reads before.base before.sync)

abbrev HearsTime : SystemState → SystemState → Type 0
HearsTime s s' = KeepsTime s s' ⊎ ReceivesTime s s'

hears_sync : (b : Bool) (p : ℕ) (head : Head) (now : ℕ) (s s' : SystemState) (sends : List Sending) (answer : Answer)
    → HearsSyncIf b p head now s s' sends answer → KeepsTime s s'
hears_sync false p head now s s' sends answer k = rests s s' sends k.becomes
hears_sync true p head now s s' sends answer k = keeps (is_followed p head s) k
  where
    keeps : (b : Bool) → KeepsIf b head now s s' sends answer → KeepsTime s s'
    keeps true k = becomes s _ s' sends (same s _ refl refl refl) k.becomes
    keeps false k = rests s s' sends k.becomes

knows_by : (b : Bool) (slave : ℕ) (info : SyncInfo) (delay rate : ℤ) (now : ℕ) (s s' : SystemState)
    (sends : List Sending) (answer : Answer) → s.slave ≡ Some slave
    → KnowsBy b info delay rate now s s' sends answer → HearsTime s s'
knows_by true slave info delay rate now s s' sends answer is k = by k.offset refl
  where
    by : (o : Option ℤ) → k.offset ≡ o → HearsTime s s'
    by None none =
        inl (subst (KeepsTime s) (sym k.becomes.state)
        (same s _ (ap (λ x. reads_with info x rate s.reads) none) refl refl))
    by (Some offset) some =
        inr (subst (ReceivesTime s) (sym k.becomes.state) (record {
          slave = slave;
          slave_is = is;
          reading = _;
          reads = ap (λ x. reads_with info x rate s.reads) some;
          base = refl;
          sync = refl;
        }))
knows_by false slave info delay rate now s s' sends answer is (inl k) =
    inr (subst (ReceivesTime s) (sym k.becomes.state) (record {
      slave = slave;
      slave_is = is;
      reading = _;
      reads = refl;
      base = refl;
      sync = refl;
    }))
knows_by false slave info delay rate now s s' sends answer is (inr k) =
    inl (becomes s _ s' sends (same s _ refl refl refl) k.becomes)

-- what is said is said on the Slave port
said_on_slave : (p : ℕ) (m : FollowUp) (s : SystemState) (info : SyncInfo) → said_on p m s ≡ Some info
    → (slave : ℕ) × (s.slave ≡ Some slave)
said_on_slave p m s info said = by s.slave refl
  where
    by : (o : Option ℕ) → s.slave ≡ o → (slave : ℕ) × (s.slave ≡ Some slave)
    by None none =
        absurd (none-some info
        (sym (ap (λ (o : Option ℕ). if option_map_or (λ q. q == p) o false then information s.sync_in m else None) none)
        ∙ said))
    by (Some slave) is = (slave, is)

hears_follow_up : (b : Bool) (p : ℕ) (m : FollowUp) (now : ℕ) (s s' : SystemState) (sends : List Sending)
    (answer : Answer) → HearsFollowUpIf b p m now s s' sends answer → HearsTime s s'
hears_follow_up false p m now s s' sends answer k = inl (rests s s' sends k.becomes)
hears_follow_up true p m now s s' sends answer k = knows (said_on p m s) refl k
  where
    knows : (said : Option SyncInfo) → said_on p m s ≡ said
        → KnowsIf said (delay_at s p) (root_rate_at s p) now s s' sends answer → HearsTime s s'
    knows None none k = inl (rests s s' sends k.becomes)
    knows (Some info) said k =
        let (slave, is) = said_on_slave p m s info said in
        knows_by (has_sync_timeout s.params) slave info (delay_at s p) (root_rate_at s p) now s s' sends answer is k

hears_announce : (p : ℕ) (a : AnnounceView) (now : ℕ) (s s' : SystemState) (sends : List Sending) (answer : Answer)
    → HearsMessage p (messages.Announce a) now s s' sends answer → KeepsTime s s'
hears_announce p a now s s' sends answer (inl k) = rests s s' sends k.becomes
hears_announce p a now s s' sends answer (inr (inl k)) = rests s s' sends k.becomes
hears_announce p a now s s' sends answer (inr (inr k)) = go
    (replaces_held (comparison (held_at s p) (own s p) a)) k.selects
  where
    go : (b : Bool) → SelectsIf b now (compared p a now s) s' sends → KeepsTime s s'
    go true h = selects now s (compared p a now s) s' sends (same s _ refl refl refl) h
    go false h = becomes s (compared p a now s) s' sends (same s _ refl refl refl) h

hears_message : (p : ℕ) (m : Message) (now : ℕ) (s s' : SystemState) (sends : List Sending) (answer : Answer)
    → HearsMessage p m now s s' sends answer → HearsTime s s'
hears_message p (messages.Sync head) now s s' sends answer k =
    inl (hears_sync (is_capable_at s p) p head now s s' sends answer k)
hears_message p (messages.PdelayReq head) now s s' sends answer k =
    inl (becomes s _ s' sends (same s _ refl refl refl) k.becomes)
hears_message p (messages.PdelayResp m) now s s' sends answer k =
    inl (becomes s _ s' sends (same s _ refl refl refl) k.becomes)
hears_message p (messages.FollowUp m) now s s' sends answer k =
    hears_follow_up (is_capable_at s p) p m now s s' sends answer k
hears_message p (messages.PdelayRespFollowUp m) now s s' sends answer k =
    inl (turns p (after_follow_up m) now s s' sends k.turns)
hears_message p (messages.Announce a) now s s' sends answer k = inl (hears_announce p a now s s' sends answer k)

hears_frame : (p : ℕ) (octets : List ℕ) (now : ℕ) (s s' : SystemState) (sends : List Sending) (answer : Answer)
    → HearsFrame p octets now s s' sends answer → HearsTime s s'
hears_frame p octets now s s' sends answer (inl k) = hears_message p k.message now s s' sends answer k.hears
hears_frame p octets now s s' sends answer (inr k) = inl (rests s s' sends k.becomes)

syncs_if : (b : Bool) (now : ℕ) (s s' : SystemState) (sends : List Sending) → is_leading s ≡ b
    → SyncsIf b now s s' sends → SyncRestarts now s s'
syncs_if true now s s' sends is k =
    subst (SyncRestarts now s) (sym k.state) (record {
      reads = ap (λ b. if b then reads_after s else s.reads) (sym is);
      base = ap (λ b. if b then base_after now s else s.base) (sym is);
      sync = refl;
    })
syncs_if false now s s' sends is k =
    subst (SyncRestarts now s) (sym k.state) (record {
      reads = ap (λ b. if b then reads_after s else s.reads) (sym is);
      base = ap (λ b. if b then base_after now s else s.base) (sym is);
      sync = refl;
    })

relays_by : (b : Bool) (info : SyncInfo) (now : ℕ) (s s' : SystemState) (sends : List Sending)
    → RelaysBy b info now s s' sends → KeepsTime s s'
relays_by true info now s s' sends k = subst (KeepsTime s) (sym k.state) (same s _ refl refl refl)
relays_by false info now s s' sends (inl k) = subst (KeepsTime s) (sym k.state) (same s _ refl refl refl)
relays_by false info now s s' sends (inr k) = becomes s _ s' sends (same s _ refl refl refl) k.becomes

relays_if : (known : Option SyncInfo) (now : ℕ) (s s' : SystemState) (sends : List Sending)
    → RelaysIf known now s s' sends → KeepsTime s s'
relays_if None now s s' sends k = becomes s _ s' sends (same s _ refl refl refl) k
relays_if (Some info) now s s' sends k = relays_by (has_sync_timeout s.params) info now s s' sends k

expires : (timer : Timer) (now : ℕ) (s s' : SystemState) (sends : List Sending) → TimerExpires timer now s s' sends
    → MakesOfTime (Expires timer) now s s'
expires (timers.Announce p) now s s' sends k = inl (subst (KeepsTime s) (sym k.state) (same s _ refl refl refl))
expires (timers.Age p) now s s' sends k =
    inl (selects now s (aged_at p now s) s' sends (same s _ refl refl refl) k)
expires (timers.Pdelay p) now s s' sends k = inl (turns_and_asks p after_interval now s s' sends k)
expires (timers.Respond p) now s s' sends k = inl (subst (KeepsTime s) (sym k.state) (same s _ refl refl refl))
expires timers.Sync now s s' sends k = inr (inr (refl, syncs_if (is_leading s) now s s' sends refl k))
expires timers.Relay now s s' sends k = inl (relays_if s.known now s s' sends k)
expires timers.Lapse now s s' sends k = inl (selects now s (lapsed s) s' sends (same s _ refl refl refl) k)

pub steps_make_of_time : TimeKeptLaw
steps_make_of_time (PortUp p) now s s' sends answer k = inl (turns_and_asks p reset_peer now s s' sends k)
steps_make_of_time (PortDown p) now s s' sends answer k =
    inl (selects now s (down p s) s' sends (same s _ refl refl refl) k)
steps_make_of_time (Frame p octets) now s s' sends answer k = elim (hears_frame p octets now s s' sends answer k) [
  | inl kept ↦ inl kept
  | inr received ↦ inr (inl received)
]
steps_make_of_time (Expires timer) now s s' sends answer k = expires timer now s s' sends k
steps_make_of_time (Priority value) now s s' sends answer k =
    inl (selects now s (with_priority value s) s' sends (same s _ refl refl refl) k)

-- ---- a system that has taken over

pub goes_on : GoesOnLaw
goes_on input now s s' sends answer alone own steps = by (steps_make_of_time input now s s' sends answer steps)
  where
    -- it doesn't take over again
    reads_still : (leads : Bool) → reads_own (if leads then reads_after s else s.reads) ≡ true
    reads_still false = own
    reads_still true =
        ap (λ b. reads_own (if not b && list_any is_mine s.held then Some reads.Own else s.reads)) own ∙ own

    base_still : (leads : Bool) → (if leads then base_after now s else s.base) ≡ s.base
    base_still false = refl
    base_still true =
        ap (λ b. if (not b && list_any is_mine s.held) && s.continues
        then base_to (reading s now) (local_time s now) else s.base) own

    by : MakesOfTime input now s s' → GoesOnTelling s s'
    by (inl k) = record { reads = ap reads_own k.reads ∙ own; base = k.base }
    by (inr (inl received)) = absurd (none-some received.slave (sym alone ∙ received.slave_is))
    by (inr (inr (sync, restarts))) = record {
      reads = ap reads_own restarts.reads ∙ reads_still (is_leading s);
      base = restarts.base ∙ base_still (is_leading s);
    }
