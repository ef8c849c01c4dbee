-- What a step makes of the Lapse timer, case by case.
use Rattle.std.proofs.Common.{◌≡◌, ◌⊎◌, ◌<◌, ℕ, suc, ℤ, Bool, true, false, List, Option, Some, None, slice_get, refl, sym, ap, subst, ◌∙◌, inl, inr}
use Rattle.std.specs.Prelude.{IsSome, if◌then◌else◌}
use Rattle.std.specs.Option.{option_map_or}
use Rattle.std.proofs.lemmas.Option.{none-some}
use Rattle.gptp_messages.specs.declared.announce.AnnounceView.{AnnounceView}
use Rattle.gptp_messages.specs.declared.follow_up.FollowUp.{FollowUp}
use Rattle.gptp_messages.specs.declared.head.Head.{Head}
use Rattle.gptp_messages.specs.declared.message.Message.{Message}
use Rattle.gptp_messages.specs.declared.message.Message.TheVariants as messages
use Rattle.gptp_messages.specs.Grammar.{Reads}
use Rattle.gptp_vector.specs.declared.vector.Vector.{Vector}
use Rattle.gptp_receipt.specs.declared.held.Held.{Held}
use Rattle.gptp_receipt.specs.declared.held.Held.TheVariants as helds
use Rattle.gptp_receipt.specs.Held.{comparison, received}
use Rattle.gptp_roles.specs.Choice.{slave_port}
use Rattle.gptp_roles.specs.Role.{each_port, held_after_selection, is_master, chosen_role}
use Rattle.gptp_correction.specs.declared.sync_in.SyncInfo.{SyncInfo}
use Rattle.gptp_pdelay.specs.Peer.{PeerState, after_follow_up, after_interval, reset_peer}
use Rattle.gptp_setup.specs.declared.setup.Params.{Params}
use Rattle.gptp_setup.specs.declared.setup.Setup.{Setup}
use Rattle.gptp_setup.specs.declared.timer.Timer.{Timer}
use Rattle.gptp_setup.specs.declared.timer.Timer.TheVariants as timers
use Rattle.gptp_setup.specs.SettlingParams.{has_sync_timeout}
use Rattle.gptp_system.specs.declared.answer.Answer.{Answer}
use Rattle.gptp_system.specs.declared.answer.Answer.TheVariants as answers
use Rattle.gptp_system.specs.declared.sending.Sending.{Sending}
use Rattle.gptp_system.specs.Announcing.{aged_at, compared, replaces_held, with_priority}
use Rattle.gptp_system.specs.Input.{Input, Steps, PortUp, PortDown, Frame, Expires, Priority}
use Rattle.gptp_system.specs.Follows.{SystemIsRoot, SystemFollowsPort}
use Rattle.gptp_system.specs.Lapse.{dropped, lapsed}
use Rattle.gptp_system.specs.Measuring.{Turns, TurnsAndAsks, TurnsIf, down, is_turned, turned}
use Rattle.gptp_system.specs.Start.{started}
use Rattle.gptp_system.specs.Selection.{Becomes, Selects, SelectsIf, choosing, follows_on, lapse_after}
use Rattle.gptp_system.specs.State.{SystemState, can_lead, change, clock, held_at, is_capable_at, lapse_of, number, own, with_peer}
use Rattle.gptp_system.specs.Steps.{Expires as TimerExpires, HearsFrame, HearsMessage}
use Rattle.gptp_system.specs.Syncing.{HearsFollowUpIf, HearsSyncIf, KeepsIf, KnowsBy, KnowsIf, RelaysBy, RelaysIf, SyncsIf, delay_at, is_followed, is_leading, root_rate_at, restarted, said_on, timer_stopped}
use Rattle.gptp_system.proofs.ChangedLemmas.{Changed, change-get, each_port-get}
use Rattle.gptp_system.proofs.FollowLemmas.{follows}
use Rattle.gptp_system.proofs.LapseLemmas.{followed}
use Rattle.gptp_system.proofs.StepLemmas.{steps_sound}
use Rattle.gptp_model.specs.Ahead.{IsSteady}
use Rattle.gptp_invariants.proofs.SyncTimeStepLemmas.{can_lapse, follows_same}

-- ---- the cases

-- it runs on as it did, and the same is followed
pub record RunsStill (s s' : SystemState) : Type 0 where
  pub lapse : s'.lapse ≡ s.lapse
  pub root : s'.root ≡ s.root
  pub slave : s'.slave ≡ s.slave

-- it begins anew, by what is followed then
abbrev pub Begins : ℕ → SystemState → SystemState → Type 0
Begins now s s' = s'.lapse ≡ lapse_of s.params s'.root s'.slave now

-- that is something else
pub record FollowsOther (now : ℕ) (s s' : SystemState) : Type 0 where
  pub begins : Begins now s s'
  pub other : s'.root ≡ s.root → s'.slave ≡ s.slave → ⊥

-- a Follow_Up is used
pub record UsesOne (input : Input) (answer : Answer) (now : ℕ) (s s' : SystemState) : Type 0 where
  pub begins : Begins now s s'
  pub port : ℕ
  pub octets : List ℕ
  pub heard : input ≡ Frame port octets
  pub message : FollowUp
  pub reads : Reads octets (messages.FollowUp message)
  pub used : answer ≡ answers.Used

-- it runs out, and the same is followed all the same
pub record RunsOut (input : Input) (now : ℕ) (s s' : SystemState) : Type 0 where
  pub expired : input ≡ Expires timers.Lapse
  pub vector : Vector
  pub state : s' ≡ choosing vector now (lapsed s)
  pub slave : s'.slave ≡ s.slave
  pub lapse : s'.lapse ≡ None

abbrev pub LapseStep : Input → Answer → ℕ → SystemState → SystemState → Type 0
LapseStep input answer now s s' =
    RunsStill s s' ⊎ (FollowsOther now s s' ⊎ (UsesOne input answer now s s' ⊎ RunsOut input now s s'))

-- ---- steps that hear no Follow_Up

abbrev Mild : ℕ → SystemState → SystemState → Type 0
Mild now s s' = RunsStill s s' ⊎ FollowsOther now s s'

still : (now : ℕ) (s s' : SystemState) → s'.lapse ≡ s.lapse → s'.root ≡ s.root → s'.slave ≡ s.slave → Mild now s s'
still now s s' lapse root slave = inl (record { lapse = lapse; root = root; slave = slave })

becomes : (now : ℕ) (s t s' : SystemState) (sends : List Sending) → Mild now s t → Becomes t s' sends → Mild now s s'
becomes now s t s' sends k b = subst (Mild now s) (sym b.state) k

rests : (now : ℕ) (s s' : SystemState) (sends : List Sending) → Becomes s s' sends → Mild now s s'
rests now s s' sends b = becomes now s s s' sends (still now s s refl refl refl) b

module _ (now : ℕ) (s t u : SystemState) (sends : List Sending) (params : t.params ≡ s.params)
    (root : t.root ≡ s.root) (slave : t.slave ≡ s.slave) (k : Selects now t u sends) where
  lapse_is : u.lapse ≡ lapse_after k.vector now t
  lapse_is = ap (λ (x : SystemState). x.lapse) k.state

  root_is : u.root ≡ k.vector.root
  root_is = ap (λ (x : SystemState). x.root) k.state

  slave_is : u.slave ≡ slave_port k.vector
  slave_is = ap (λ (x : SystemState). x.slave) k.state

  -- the same is followed
  same_lapse : follows_on k.vector t ≡ true → u.lapse ≡ t.lapse
  same_lapse same =
      lapse_is ∙ ap (λ b. if b then t.lapse else lapse_of t.params k.vector.root (slave_port k.vector) now) same

  same_root : follows_on k.vector t ≡ true → u.root ≡ s.root
  same_root same = root_is ∙ (followed k.vector t same).0 ∙ root

  same_slave : follows_on k.vector t ≡ true → u.slave ≡ s.slave
  same_slave same = slave_is ∙ (followed k.vector t same).1 ∙ slave

  -- or something else
  other_lapse : follows_on k.vector t ≡ false → FollowsOther now s u
  other_lapse differs = record {
    begins = lapse_is
        ∙ ap (λ b. if b then t.lapse else lapse_of t.params k.vector.root (slave_port k.vector) now) differs
        ∙ (λ i. lapse_of (params i) (sym root_is i) (sym slave_is i) now);
    other = λ as_root as_slave.
        let same = follows_same k.vector t (sym root_is ∙ as_root ∙ sym root) (sym slave_is ∙ as_slave ∙ sym slave) in
        let clash : true ≡ false = sym same ∙ differs in absurd cc;
  }

  selects : t.lapse ≡ s.lapse → Mild now s u
  selects lapse = by (follows_on k.vector t) refl
    where
      by : (b : Bool) → follows_on k.vector t ≡ b → Mild now s u
      by true same = still now s u (same_lapse same ∙ lapse) (same_root same) (same_slave same)
      by false differs = inr (other_lapse differs)

turns : (p : ℕ) (step : PeerState → PeerState) (now : ℕ) (s s' : SystemState) (sends : List Sending)
    → Turns p step now s s' sends → Mild now s s'
turns p step now s s' sends h = go (is_turned step (number s.ports p)) h
  where
    go : (b : Bool) → TurnsIf b p step now s s' sends → Mild now s s'
    go true k = selects now s (turned p step s) s' sends refl refl refl k refl
    go false k =
        becomes now s (with_peer p step s) s' sends (still now s (with_peer p step s) refl refl refl) k

-- what is followed, and the timer, are as before
carried : (now : ℕ) (s t u : SystemState) → u.lapse ≡ t.lapse → u.root ≡ t.root → u.slave ≡ t.slave → Mild now s t
    → Mild now s u
carried now s t u lapse root slave (inl k) =
    still now s u (lapse ∙ k.lapse) (root ∙ k.root) (slave ∙ k.slave)
carried now s t u lapse root slave (inr k) =
    inr (record {
      begins = lapse ∙ k.begins ∙ (λ i. lapse_of s.params (sym root i) (sym slave i) now);
      other = λ as_root as_slave. k.other (sym root ∙ as_root) (sym slave ∙ as_slave);
    })

turns_and_asks : (p : ℕ) (step : PeerState → PeerState) (now : ℕ) (s s' : SystemState) (sends : List Sending)
    → TurnsAndAsks p step now s s' sends → Mild now s s'
turns_and_asks p step now s s' sends k =
    subst (Mild now s) (sym k.state)
    (carried now s k.between _ refl refl refl (turns p step now s k.between k.first k.turns))

keeps_if : (b : Bool) (head : Head) (now : ℕ) (s s' : SystemState) (sends : List Sending) (answer : Answer)
    → KeepsIf b head now s s' sends answer → Mild now s s'
keeps_if true head now s s' sends answer k = becomes now s _ s' sends (still now s _ refl refl refl) k.becomes
keeps_if false head now s s' sends answer k = rests now s s' sends k.becomes

hears_sync : (b : Bool) (p : ℕ) (head : Head) (now : ℕ) (s s' : SystemState) (sends : List Sending) (answer : Answer)
    → HearsSyncIf b p head now s s' sends answer → Mild now s s'
hears_sync false p head now s s' sends answer k = rests now s s' sends k.becomes
hears_sync true p head now s s' sends answer k = keeps_if (is_followed p head s) head now s s' sends answer k

syncs_if : (b : Bool) (now : ℕ) (s s' : SystemState) (sends : List Sending) → SyncsIf b now s s' sends → Mild now s s'
syncs_if true now s s' sends k = subst (Mild now s) (sym k.state) (still now s _ refl refl refl)
syncs_if false now s s' sends k = becomes now s (restarted now s) s' sends (still now s _ refl refl refl) k

relays_by : (b : Bool) (info : SyncInfo) (now : ℕ) (s s' : SystemState) (sends : List Sending)
    → RelaysBy b info now s s' sends → Mild now s s'
relays_by true info now s s' sends k = subst (Mild now s) (sym k.state) (still now s _ refl refl refl)
relays_by false info now s s' sends (inl k) = subst (Mild now s) (sym k.state) (still now s _ refl refl refl)
relays_by false info now s s' sends (inr k) =
    becomes now s (timer_stopped s) s' sends (still now s _ refl refl refl) k.becomes

relays_if : (known : Option SyncInfo) (now : ℕ) (s s' : SystemState) (sends : List Sending)
    → RelaysIf known now s s' sends → Mild now s s'
relays_if None now s s' sends k = becomes now s (timer_stopped s) s' sends (still now s _ refl refl refl) k
relays_if (Some info) now s s' sends k = relays_by (has_sync_timeout s.params) info now s s' sends k

hears_announce : (p : ℕ) (a : AnnounceView) (now : ℕ) (s s' : SystemState) (sends : List Sending) (answer : Answer)
    → HearsMessage p (messages.Announce a) now s s' sends answer → Mild now s s'
hears_announce p a now s s' sends answer (inl k) = rests now s s' sends k.becomes
hears_announce p a now s s' sends answer (inr (inl k)) = rests now s s' sends k.becomes
hears_announce p a now s s' sends answer (inr (inr k)) = go
    (replaces_held (comparison (held_at s p) (own s p) a)) k.selects
  where
    go : (b : Bool) → SelectsIf b now (compared p a now s) s' sends → Mild now s s'
    go true h = selects now s (compared p a now s) s' sends refl refl refl h refl
    go false h =
        becomes now s (compared p a now s) s' sends (still now s (compared p a now s) refl refl refl) h

-- ---- every step

mild : (input : Input) (answer : Answer) (now : ℕ) (s s' : SystemState) → Mild now s s'
    → LapseStep input answer now s s'
mild input answer now s s' (inl k) = inl k
mild input answer now s s' (inr k) = inr (inl k)

module _ (p : ℕ) (octets : List ℕ) (now : ℕ) (s s' : SystemState) (sends : List Sending) (answer : Answer) where
  abbrev Heard : Type 0
  Heard = LapseStep (Frame p octets) answer now s s'

  module _ (m : FollowUp) (reads : Reads octets (messages.FollowUp m)) where
    knows_by : (b : Bool) (info : SyncInfo) (delay rate : ℤ) → KnowsBy b info delay rate now s s' sends answer → Heard
    knows_by true info delay rate k =
        inr (inr (inl (record {
          begins = ap (λ (y : SystemState). y.lapse) k.becomes.state
              ∙ sym (ap (λ (y : SystemState). lapse_of s.params y.root y.slave now) k.becomes.state);
          port = p;
          octets = octets;
          heard = refl;
          message = m;
          reads = reads;
          used = k.answer_is;
        })))
    knows_by false info delay rate (inl k) =
        mild (Frame p octets) answer now s s'
        (subst (Mild now s) (sym k.becomes.state) (still now s _ refl refl refl))
    knows_by false info delay rate (inr k) =
        mild (Frame p octets) answer now s s'
        (subst (Mild now s) (sym k.becomes.state) (still now s _ refl refl refl))

    knows_if : (said : Option SyncInfo) (delay rate : ℤ) → KnowsIf said delay rate now s s' sends answer → Heard
    knows_if None delay rate k = mild (Frame p octets) answer now s s' (rests now s s' sends k.becomes)
    knows_if (Some info) delay rate k = knows_by (has_sync_timeout s.params) info delay rate k

    hears_follow_up : (b : Bool) → HearsFollowUpIf b p m now s s' sends answer → Heard
    hears_follow_up false k = mild (Frame p octets) answer now s s' (rests now s s' sends k.becomes)
    hears_follow_up true k = knows_if (said_on p m s) (delay_at s p) (root_rate_at s p) k

  hears_message : (m : Message) → Reads octets m → HearsMessage p m now s s' sends answer → Heard
  hears_message (messages.Sync head) reads k =
      mild (Frame p octets) answer now s s' (hears_sync (is_capable_at s p) p head now s s' sends answer k)
  hears_message (messages.PdelayReq head) reads k =
      mild (Frame p octets) answer now s s'
      (subst (Mild now s) (sym k.becomes.state) (still now s _ refl refl refl))
  hears_message (messages.PdelayResp m) reads k =
      mild (Frame p octets) answer now s s'
      (subst (Mild now s) (sym k.becomes.state) (still now s _ refl refl refl))
  hears_message (messages.FollowUp m) reads k = hears_follow_up m reads (is_capable_at s p) k
  hears_message (messages.PdelayRespFollowUp m) reads k =
      mild (Frame p octets) answer now s s' (turns p (after_follow_up m) now s s' sends k.turns)
  hears_message (messages.Announce a) reads k =
      mild (Frame p octets) answer now s s' (hears_announce p a now s s' sends answer k)

  hears_frame : HearsFrame p octets now s s' sends answer → Heard
  hears_frame (inl k) = hears_message k.message k.reads k.hears
  hears_frame (inr k) = mild (Frame p octets) answer now s s' (rests now s s' sends k.becomes)

-- the Lapse timer runs out
runs_out : (answer : Answer) (now : ℕ) (s s' : SystemState) (sends : List Sending) → Selects now (lapsed s) s' sends
    → LapseStep (Expires timers.Lapse) answer now s s'
runs_out answer now s s' sends k = by (follows_on k.vector (lapsed s)) refl
  where
    by : (b : Bool) → follows_on k.vector (lapsed s) ≡ b → LapseStep (Expires timers.Lapse) answer now s s'
    by true same =
        inr (inr (inr (record {
          expired = refl;
          vector = k.vector;
          state = k.state;
          slave = same_slave now s (lapsed s) s' sends refl refl refl k same;
          lapse = same_lapse now s (lapsed s) s' sends refl refl refl k same;
        })))
    by false differs = inr (inl (other_lapse now s (lapsed s) s' sends refl refl refl k differs))

expires : (timer : Timer) (answer : Answer) (now : ℕ) (s s' : SystemState) (sends : List Sending)
    → TimerExpires timer now s s' sends → LapseStep (Expires timer) answer now s s'
expires (timers.Announce p) answer now s s' sends k =
    mild (Expires (timers.Announce p)) answer now s s'
    (subst (Mild now s) (sym k.state) (still now s _ refl refl refl))
expires (timers.Age p) answer now s s' sends k =
    mild (Expires (timers.Age p)) answer now s s' (selects now s (aged_at p now s) s' sends refl refl refl k refl)
expires (timers.Pdelay p) answer now s s' sends k =
    mild (Expires (timers.Pdelay p)) answer now s s' (turns_and_asks p after_interval now s s' sends k)
expires (timers.Respond p) answer now s s' sends k =
    mild (Expires (timers.Respond p)) answer now s s'
    (subst (Mild now s) (sym k.state) (still now s _ refl refl refl))
expires timers.Sync answer now s s' sends k =
    mild (Expires timers.Sync) answer now s s' (syncs_if (is_leading s) now s s' sends k)
expires timers.Relay answer now s s' sends k =
    mild (Expires timers.Relay) answer now s s' (relays_if s.known now s s' sends k)
expires timers.Lapse answer now s s' sends k = runs_out answer now s s' sends k

pub lapse_steps : (input : Input) (now : ℕ) (s s' : SystemState) (sends : List Sending) (answer : Answer)
    → Steps input now s s' sends answer → LapseStep input answer now s s'
lapse_steps (PortUp p) now s s' sends answer k =
    mild (PortUp p) answer now s s' (turns_and_asks p reset_peer now s s' sends k)
lapse_steps (PortDown p) now s s' sends answer k =
    mild (PortDown p) answer now s s' (selects now s (down p s) s' sends refl refl refl k refl)
lapse_steps (Frame p octets) now s s' sends answer k = hears_frame p octets now s s' sends answer k
lapse_steps (Expires timer) now s s' sends answer k = expires timer answer now s s' sends k
lapse_steps (Priority value) now s s' sends answer k =
    mild (Priority value) answer now s s' (selects now s (with_priority value s) s' sends refl refl refl k refl)

-- ---- it runs wherever it may

-- Where the network has a syncReceiptTimeout and there is a Slave port, and the root may lead, the Lapse timer runs.
abbrev pub HasLapse : SystemState → Type 0
HasLapse s = (n : ℕ) → s.slave ≡ Some n → can_lead s.root ≡ true → 0 < s.params.sync_timeout → IsSome s.lapse

-- where it begins it runs then
begins_some : (params : Params) (root n now : ℕ) → has_sync_timeout params ≡ true → can_lead root ≡ true
    → IsSome (lapse_of params root (Some n) now)
begins_some params root n now has can = rw (has, can) refl

-- what a port dropped is nothing that it received, nor is what it holds then
dropped_none : (h : Held) → received (dropped h) ≡ None
dropped_none helds.Disabled = refl
dropped_none helds.Aged = refl
dropped_none (helds.Mine root steps) = refl
dropped_none (helds.Received r) = refl

after_none : (v : Vector) (number port : ℕ) (h : Held) → received h ≡ None
    → received (held_after_selection v number port h) ≡ None
after_none v number port h none = by (is_master (chosen_role v number port h))
  where
    by : (b : Bool) → received (if b then helds.Mine v.root v.steps else h) ≡ None
    by true = refl
    by false = none

-- so no system follows on over a port that dropped what it received
no_run_out : (input : Input) (now : ℕ) (s s' : SystemState) → IsSteady s' → (n : ℕ) → s'.slave ≡ Some n
    → RunsOut input now s s' → ⊥
no_run_out input now s s' steady n slave k = by (follows s' steady.held steady.rest)
  where
    aged : (f : SystemFollowsPort s') (mid : Held)
        → f.held ≡ held_after_selection k.vector (clock (lapsed s)) (suc f.place) mid
        → Changed dropped (suc f.place ≡ suc f.place) s.held f.place mid → ⊥
    aged f mid made (z, was, inl (here, new)) =
        none-some f.reception
        (sym (ap received (made ∙ ap (λ h. held_after_selection k.vector (clock (lapsed s)) (suc f.place) h) new)
        ∙ after_none k.vector (clock (lapsed s)) (suc f.place) (dropped z) (dropped_none z))
        ∙ f.holds)
    aged f mid made (z, was, inr (elsewhere, old)) = elsewhere refl

    by : SystemIsRoot s' ⊎ SystemFollowsPort s' → ⊥
    by (inl f) = none-some n (sym f.slave ∙ slave)
    by (inr f) =
        let was : s.slave ≡ Some (suc f.place) = sym k.slave ∙ f.slave in
        let there : slice_get (each_port (held_after_selection k.vector (clock (lapsed s))) (lapsed s).held) f.place
        ≡ Some f.held =
        sym (ap (λ (x : SystemState). slice_get x.held f.place) k.state) ∙ f.there in
        let (mid, stands, made) =
        each_port-get (held_after_selection k.vector (clock (lapsed s))) (lapsed s).held f.place f.held there in
        let before : slice_get (change dropped (suc f.place) s.held) f.place ≡ Some mid =
        sym (ap (λ o. slice_get (option_map_or (λ p. change dropped p s.held) o s.held) f.place) was) ∙ stands in
        aged f mid made (change-get dropped (suc f.place) s.held f.place mid before)

-- every step keeps that it runs
pub lapse_kept : (input : Input) (now : ℕ) (s s' : SystemState) (sends : List Sending) (answer : Answer)
    → Steps input now s s' sends answer → (input ≡ Expires timers.Lapse → IsSteady s') → HasLapse s → HasLapse s'
lapse_kept input now s s' sends answer k steady has n slave can on =
    by (lapse_steps input now s s' sends answer k)
  where
    params : s'.params ≡ s.params
    params = (steps_sound input now s s' sends answer k).kept.params

    above : 0 < s.params.sync_timeout
    above = subst (λ (q : Params). 0 < q.sync_timeout) params on

    begins : Begins now s s' → IsSome s'.lapse
    begins b =
        subst IsSome (sym (b ∙ ap (λ o. lapse_of s.params s'.root o now) slave))
        (begins_some s.params s'.root n now (can_lapse s.params above) can)

    by : LapseStep input answer now s s' → IsSome s'.lapse
    by (inl r) =
        subst IsSome (sym r.lapse) (has n (sym r.slave ∙ slave) (subst (λ x. can_lead x ≡ true) r.root can) above)
    by (inr (inl o)) = begins o.begins
    by (inr (inr (inl u))) = begins u.begins
    by (inr (inr (inr e))) = absurd (no_run_out input now s s' (steady e.expired) n slave e)

-- and a system that starts has no Slave port
pub lapse_starts : (setup : Setup) (now : ℕ) → HasLapse (started setup now)
lapse_starts setup now n slave can on = absurd (none-some n slave)
