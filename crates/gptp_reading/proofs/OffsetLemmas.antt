-- What a step makes of the offset, case by case.
use Rattle.std.proofs.Common.{◌≡◌, ◌⊎◌, ℕ, ℤ, Bool, true, false, List, Option, Some, None, refl, sym, ap, subst, ◌∙◌, inl, inr}
use Rattle.std.specs.Prelude.{IsSome}
use Rattle.gptp_messages.specs.declared.announce.AnnounceView.{AnnounceView}
use Rattle.gptp_messages.specs.declared.follow_up.FollowUp.{FollowUp}
use Rattle.gptp_messages.specs.declared.head.Head.{Head}
use Rattle.gptp_messages.specs.declared.message.Message.{Message}
use Rattle.gptp_messages.specs.declared.message.Message.TheVariants as messages
use Rattle.gptp_messages.specs.Grammar.{Reads}
use Rattle.gptp_receipt.specs.Held.{comparison}
use Rattle.gptp_correction.specs.declared.sync_in.SyncInfo.{SyncInfo}
use Rattle.gptp_pdelay.specs.Peer.{PeerState, after_follow_up, after_interval, reset_peer}
use Rattle.gptp_setup.specs.declared.timer.Timer.{Timer}
use Rattle.gptp_setup.specs.declared.timer.Timer.TheVariants as timers
use Rattle.gptp_setup.specs.SettlingParams.{has_sync_timeout}
use Rattle.gptp_system.specs.declared.answer.Answer.{Answer}
use Rattle.gptp_system.specs.declared.answer.Answer.TheVariants as answers
use Rattle.gptp_system.specs.declared.sending.Sending.{Sending}
use Rattle.gptp_system.specs.Announcing.{aged_at, compared, replaces_held, with_priority}
use Rattle.gptp_system.specs.Input.{Input, Steps, PortUp, PortDown, Frame, Expires, Priority}
use Rattle.gptp_system.specs.Lapse.{lapsed}
use Rattle.gptp_system.specs.Measuring.{Turns, TurnsAndAsks, TurnsIf, down, is_turned, turned}
use Rattle.gptp_system.specs.Selection.{Becomes, Selects, SelectsIf, follows_on, kept_if}
use Rattle.gptp_system.specs.State.{SystemState, held_at, is_capable_at, number, own, with_peer}
use Rattle.gptp_system.specs.Steps.{Expires as TimerExpires, HearsFrame, HearsMessage}
use Rattle.gptp_system.specs.Syncing.{HearsFollowUpIf, HearsSyncIf, KeepsIf, KnowsBy, KnowsIf, RelaysBy, RelaysIf, SyncsIf, delay_at, is_followed, is_leading, root_rate_at, restarted, said_on, timer_stopped}
use Rattle.gptp_system.proofs.LapseLemmas.{followed}

-- ---- the cases

-- it stays, and the same is followed
pub record OffsetStays (s s' : SystemState) : Type 0 where
  pub offset : s'.offset ≡ s.offset
  pub root : s'.root ≡ s.root
  pub slave : s'.slave ≡ s.slave

-- a Follow_Up is used
pub record LearnsTime (input : Input) (answer : Answer) (s' : SystemState) : Type 0 where
  pub port : ℕ
  pub octets : List ℕ
  pub heard : input ≡ Frame port octets
  pub message : FollowUp
  pub reads : Reads octets (messages.FollowUp message)
  pub used : answer ≡ answers.Used
  pub known : IsSome s'.known

-- or it isn't known then
abbrev pub OffsetStep : Input → Answer → SystemState → SystemState → Type 0
OffsetStep input answer s s' = OffsetStays s s' ⊎ ((s'.offset ≡ None) ⊎ LearnsTime input answer s')

-- ---- steps that use no Follow_Up

abbrev Mild : SystemState → SystemState → Type 0
Mild s s' = OffsetStays s s' ⊎ (s'.offset ≡ None)

still : (s s' : SystemState) → s'.offset ≡ s.offset → s'.root ≡ s.root → s'.slave ≡ s.slave → Mild s s'
still s s' offset root slave = inl (record { offset = offset; root = root; slave = slave })

becomes : (s t s' : SystemState) (sends : List Sending) → Mild s t → Becomes t s' sends → Mild s s'
becomes s t s' sends k b = subst (Mild s) (sym b.state) k

rests : (s s' : SystemState) (sends : List Sending) → Becomes s s' sends → Mild s s'
rests s s' sends b = becomes s s s' sends (still s s refl refl refl) b

selects : (now : ℕ) (s t u : SystemState) (sends : List Sending) → t.offset ≡ s.offset → t.root ≡ s.root
    → t.slave ≡ s.slave → Selects now t u sends → Mild s u
selects now s t u sends offset root slave k = by (follows_on k.vector t) refl
  where
    offset_is : u.offset ≡ kept_if (follows_on k.vector t) t.offset
    offset_is = ap (λ (x : SystemState). x.offset) k.state

    by : (b : Bool) → follows_on k.vector t ≡ b → Mild s u
    by true same =
        still s u (offset_is ∙ ap (λ c. kept_if c t.offset) same ∙ offset)
        (ap (λ (x : SystemState). x.root) k.state ∙ (followed k.vector t same).0 ∙ root)
        (ap (λ (x : SystemState). x.slave) k.state ∙ (followed k.vector t same).1 ∙ slave)
    by false differs = inr (offset_is ∙ ap (λ c. kept_if c t.offset) differs)

turns : (p : ℕ) (step : PeerState → PeerState) (now : ℕ) (s s' : SystemState) (sends : List Sending)
    → Turns p step now s s' sends → Mild s s'
turns p step now s s' sends h = go (is_turned step (number s.ports p)) h
  where
    go : (b : Bool) → TurnsIf b p step now s s' sends → Mild s s'
    go true k = selects now s (turned p step s) s' sends refl refl refl k
    go false k = becomes s (with_peer p step s) s' sends (still s (with_peer p step s) refl refl refl) k

carried : (s t u : SystemState) → u.offset ≡ t.offset → u.root ≡ t.root → u.slave ≡ t.slave → Mild s t → Mild s u
carried s t u offset root slave (inl k) = still s u (offset ∙ k.offset) (root ∙ k.root) (slave ∙ k.slave)
carried s t u offset root slave (inr none) = inr (offset ∙ none)

turns_and_asks : (p : ℕ) (step : PeerState → PeerState) (now : ℕ) (s s' : SystemState) (sends : List Sending)
    → TurnsAndAsks p step now s s' sends → Mild s s'
turns_and_asks p step now s s' sends k =
    subst (Mild s) (sym k.state)
    (carried s k.between _ refl refl refl (turns p step now s k.between k.first k.turns))

keeps_if : (b : Bool) (head : Head) (now : ℕ) (s s' : SystemState) (sends : List Sending) (answer : Answer)
    → KeepsIf b head now s s' sends answer → Mild s s'
keeps_if true head now s s' sends answer k = becomes s _ s' sends (still s _ refl refl refl) k.becomes
keeps_if false head now s s' sends answer k = rests s s' sends k.becomes

hears_sync : (b : Bool) (p : ℕ) (head : Head) (now : ℕ) (s s' : SystemState) (sends : List Sending) (answer : Answer)
    → HearsSyncIf b p head now s s' sends answer → Mild s s'
hears_sync false p head now s s' sends answer k = rests s s' sends k.becomes
hears_sync true p head now s s' sends answer k = keeps_if (is_followed p head s) head now s s' sends answer k

syncs_if : (b : Bool) (now : ℕ) (s s' : SystemState) (sends : List Sending) → SyncsIf b now s s' sends → Mild s s'
syncs_if true now s s' sends k = subst (Mild s) (sym k.state) (still s _ refl refl refl)
syncs_if false now s s' sends k = becomes s (restarted now s) s' sends (still s _ refl refl refl) k

relays_by : (b : Bool) (info : SyncInfo) (now : ℕ) (s s' : SystemState) (sends : List Sending)
    → RelaysBy b info now s s' sends → Mild s s'
relays_by true info now s s' sends k = subst (Mild s) (sym k.state) (still s _ refl refl refl)
relays_by false info now s s' sends (inl k) = subst (Mild s) (sym k.state) (still s _ refl refl refl)
relays_by false info now s s' sends (inr k) =
    becomes s (timer_stopped s) s' sends (still s _ refl refl refl) k.becomes

relays_if : (known : Option SyncInfo) (now : ℕ) (s s' : SystemState) (sends : List Sending)
    → RelaysIf known now s s' sends → Mild s s'
relays_if None now s s' sends k = becomes s (timer_stopped s) s' sends (still s _ refl refl refl) k
relays_if (Some info) now s s' sends k = relays_by (has_sync_timeout s.params) info now s s' sends k

hears_announce : (p : ℕ) (a : AnnounceView) (now : ℕ) (s s' : SystemState) (sends : List Sending) (answer : Answer)
    → HearsMessage p (messages.Announce a) now s s' sends answer → Mild s s'
hears_announce p a now s s' sends answer (inl k) = rests s s' sends k.becomes
hears_announce p a now s s' sends answer (inr (inl k)) = rests s s' sends k.becomes
hears_announce p a now s s' sends answer (inr (inr k)) = go
    (replaces_held (comparison (held_at s p) (own s p) a)) k.selects
  where
    go : (b : Bool) → SelectsIf b now (compared p a now s) s' sends → Mild s s'
    go true h = selects now s (compared p a now s) s' sends refl refl refl h
    go false h = becomes s (compared p a now s) s' sends (still s (compared p a now s) refl refl refl) h

-- ---- every step

mild : (input : Input) (answer : Answer) (s s' : SystemState) → Mild s s' → OffsetStep input answer s s'
mild input answer s s' (inl k) = inl k
mild input answer s s' (inr none) = inr (inl none)

module _ (p : ℕ) (octets : List ℕ) (now : ℕ) (s s' : SystemState) (sends : List Sending) (answer : Answer) where
  abbrev Heard : Type 0
  Heard = OffsetStep (Frame p octets) answer s s'

  module _ (m : FollowUp) (reads : Reads octets (messages.FollowUp m)) where
    learns : answer ≡ answers.Used → IsSome s'.known → Heard
    learns used known =
        inr (inr (record {
          port = p;
          octets = octets;
          heard = refl;
          message = m;
          reads = reads;
          used = used;
          known = known;
        }))

    knows_by : (b : Bool) (info : SyncInfo) (delay rate : ℤ) → KnowsBy b info delay rate now s s' sends answer → Heard
    knows_by true info delay rate k =
        learns k.answer_is (subst (λ (x : SystemState). IsSome x.known) (sym k.becomes.state) refl)
    knows_by false info delay rate (inl k) =
        learns k.answer_is (subst (λ (x : SystemState). IsSome x.known) (sym k.becomes.state) refl)
    knows_by false info delay rate (inr k) = inr (inl (ap (λ (x : SystemState). x.offset) k.becomes.state))

    knows_if : (said : Option SyncInfo) (delay rate : ℤ) → KnowsIf said delay rate now s s' sends answer → Heard
    knows_if None delay rate k = mild (Frame p octets) answer s s' (rests s s' sends k.becomes)
    knows_if (Some info) delay rate k = knows_by (has_sync_timeout s.params) info delay rate k

    hears_follow_up : (b : Bool) → HearsFollowUpIf b p m now s s' sends answer → Heard
    hears_follow_up false k = mild (Frame p octets) answer s s' (rests s s' sends k.becomes)
    hears_follow_up true k = knows_if (said_on p m s) (delay_at s p) (root_rate_at s p) k

  hears_message : (m : Message) → Reads octets m → HearsMessage p m now s s' sends answer → Heard
  hears_message (messages.Sync head) reads k =
      mild (Frame p octets) answer s s' (hears_sync (is_capable_at s p) p head now s s' sends answer k)
  hears_message (messages.PdelayReq head) reads k =
      mild (Frame p octets) answer s s' (subst (Mild s) (sym k.becomes.state) (still s _ refl refl refl))
  hears_message (messages.PdelayResp m) reads k =
      mild (Frame p octets) answer s s' (subst (Mild s) (sym k.becomes.state) (still s _ refl refl refl))
  hears_message (messages.FollowUp m) reads k = hears_follow_up m reads (is_capable_at s p) k
  hears_message (messages.PdelayRespFollowUp m) reads k =
      mild (Frame p octets) answer s s' (turns p (after_follow_up m) now s s' sends k.turns)
  hears_message (messages.Announce a) reads k =
      mild (Frame p octets) answer s s' (hears_announce p a now s s' sends answer k)

  hears_frame : HearsFrame p octets now s s' sends answer → Heard
  hears_frame (inl k) = hears_message k.message k.reads k.hears
  hears_frame (inr k) = mild (Frame p octets) answer s s' (rests s s' sends k.becomes)

expires : (timer : Timer) (now : ℕ) (s s' : SystemState) (sends : List Sending) → TimerExpires timer now s s' sends
    → Mild s s'
expires (timers.Announce p) now s s' sends k = subst (Mild s) (sym k.state) (still s _ refl refl refl)
expires (timers.Age p) now s s' sends k = selects now s (aged_at p now s) s' sends refl refl refl k
expires (timers.Pdelay p) now s s' sends k = turns_and_asks p after_interval now s s' sends k
expires (timers.Respond p) now s s' sends k = subst (Mild s) (sym k.state) (still s _ refl refl refl)
expires timers.Sync now s s' sends k = syncs_if (is_leading s) now s s' sends k
expires timers.Relay now s s' sends k = relays_if s.known now s s' sends k
expires timers.Lapse now s s' sends k = selects now s (lapsed s) s' sends refl refl refl k

pub offset_steps : (input : Input) (now : ℕ) (s s' : SystemState) (sends : List Sending) (answer : Answer)
    → Steps input now s s' sends answer → OffsetStep input answer s s'
offset_steps (PortUp p) now s s' sends answer k =
    mild (PortUp p) answer s s' (turns_and_asks p reset_peer now s s' sends k)
offset_steps (PortDown p) now s s' sends answer k =
    mild (PortDown p) answer s s' (selects now s (down p s) s' sends refl refl refl k)
offset_steps (Frame p octets) now s s' sends answer k = hears_frame p octets now s s' sends answer k
offset_steps (Expires timer) now s s' sends answer k =
    mild (Expires timer) answer s s' (expires timer now s s' sends k)
offset_steps (Priority value) now s s' sends answer k =
    mild (Priority value) answer s s' (selects now s (with_priority value s) s' sends refl refl refl k)
