-- What a step makes of the time that a system knows, case by case.
use Rattle.std.proofs.Common.{◌≡◌, ◌⊎◌, ◌<◌, ◌+◌, ℕ, ℤ, Bool, true, false, List, Option, Some, None, refl, sym, ap, subst, ◌∙◌, inl, inr, arith}
use Rattle.std.specs.Option.{unwrap_or}
use Rattle.std.proofs.lemmas.Bool.Decides.{nat_tests}
use Rattle.std.proofs.lemmas.Bool.{eq-eqb}
use Rattle.std.specs.Prelude.{◌==◌, ◌&&◌, IsSome, if◌then◌else◌}
use Rattle.std.proofs.lemmas.Option.{none-some, same_Some}
use Rattle.gptp_scaled.specs.Stamp.{Timestamp}
use Rattle.gptp_messages.specs.declared.announce.AnnounceView.{AnnounceView}
use Rattle.gptp_messages.specs.declared.follow_up.FollowUp.{FollowUp}
use Rattle.gptp_messages.specs.declared.head.Head.{Head}
use Rattle.gptp_messages.specs.declared.message.Message.{Message}
use Rattle.gptp_messages.specs.declared.message.Message.TheVariants as messages
use Rattle.gptp_messages.specs.Grammar.{Reads, StampIsRead, message_of as message_at}
use Rattle.gptp_messages.specs.MessageType.{type_of}
use Rattle.gptp_vector.specs.declared.vector.Vector.{Vector}
use Rattle.gptp_roles.specs.Choice.{slave_port}
use Rattle.gptp_receipt.specs.Held.{comparison}
use Rattle.gptp_correction.specs.declared.sync_in.SyncInfo.{SyncInfo}
use Rattle.gptp_correction.specs.SyncIn.{KeptSync, belongs, information, together}
use Rattle.gptp_pdelay.specs.Peer.{PeerState, after_follow_up, after_interval, reset_peer}
use Rattle.gptp_setup.specs.declared.setup.Params.{Params}
use Rattle.gptp_setup.specs.declared.setup.Setup.{Setup}
use Rattle.gptp_setup.specs.declared.timer.Timer.{Timer}
use Rattle.gptp_setup.specs.declared.timer.Timer.TheVariants as timers
use Rattle.gptp_setup.specs.SettlingParams.{has_sync_timeout, lapse_span}
use Rattle.gptp_system.specs.declared.answer.Answer.{Answer}
use Rattle.gptp_system.specs.declared.sending.Sending.{Sending}
use Rattle.gptp_system.specs.Announcing.{aged_at, compared, replaces_held, with_priority}
use Rattle.gptp_system.specs.Input.{Input, Steps, PortUp, PortDown, Frame, Expires, Priority}
use Rattle.gptp_system.specs.Lapse.{lapsed}
use Rattle.gptp_system.specs.Measuring.{Turns, TurnsAndAsks, TurnsIf, down, is_turned, turned}
use Rattle.gptp_system.specs.Selection.{Becomes, Selects, SelectsIf, follows_on, kept_if, same_number}
use Rattle.gptp_system.specs.Start.{started}
use Rattle.gptp_system.specs.State.{SystemState, can_lead, held_at, is_capable_at, number, own, lapse_of, with_peer}
use Rattle.gptp_system.specs.Steps.{Expires as TimerExpires, HearsFrame, HearsMessage}
use Rattle.gptp_system.specs.Syncing.{HearsFollowUpIf, HearsSyncIf, IsKeptSync, KeepsIf, KnowsBy, KnowsIf, RelaysBy, RelaysIf, SyncsIf, delay_at, forgetting, is_followed, is_slave_at, knowing, is_leading, offset_of, root_rate_at, refreshing, restarted, said_on, timer_stopped, telling}
use Rattle.gptp_system.proofs.LapseLemmas.{followed}
use Rattle.gptp_system.proofs.TypeLemmas.{type_is}
use Rattle.gptp_invariants.specs.SyncView.{KnowsTime}

-- something can lapse
pub can_lapse : (p : Params) → 0 < p.sync_timeout → has_sync_timeout p ≡ true
can_lapse p above = grind (arith, nat_tests)

-- ---- what a step makes of it

-- the Lapse timer runs on while the same root is followed, or it runs where the root may be grandmaster
abbrev pub LapseGoesOn : SystemState → SystemState → Type 0
LapseGoesOn s s' = (due : ℕ) → s'.lapse ≡ Some due
    → ((s.lapse ≡ Some due) × (s'.root ≡ s.root)) ⊎ (can_lead s'.root ≡ true)

-- What came over the Slave port stays, or all is dropped; it stays while the same root is followed by the same port.
pub record StaysKnown (s s' : SystemState) : Type 0 where
  pub params : s'.params ≡ s.params
  pub same : Bool
  pub sync_in : s'.sync_in ≡ kept_if same s.sync_in
  pub known : s'.known ≡ kept_if same s.known
  pub relay : s'.relay ≡ kept_if same s.relay
  pub still : s'.root ≡ s.root → s'.slave ≡ s.slave → same ≡ true
  pub lapse : LapseGoesOn s s'

-- a Sync is kept that came from the port that is followed
pub record KeepsSync (input : Input) (s s' : SystemState) : Type 0 where
  pub port : ℕ
  pub octets : List ℕ
  pub head : Head
  pub heard : input ≡ Frame port octets
  pub reads : Reads octets (messages.Sync head)
  pub followed : is_followed port head s ≡ true
  pub params : s'.params ≡ s.params
  pub known : s'.known ≡ s.known
  pub relay : s'.relay ≡ s.relay
  pub lapse : LapseGoesOn s s'

-- A Follow_Up is heard: what is known has a timestamp. Where something can lapse the Sync stays, and so does a Relay
-- timer that runs.
pub record Learns (s s' : SystemState) : Type 0 where
  pub params : s'.params ≡ s.params
  pub sync_in : has_sync_timeout s.params ≡ true → s'.sync_in ≡ s.sync_in
  pub relay : (due : ℕ) → has_sync_timeout s.params ≡ true → s.relay ≡ Some due → s'.relay ≡ Some due
  pub knows : KnowsTime s → KnowsTime s'

-- the Relay timer has expired
pub record Stops (input : Input) (s s' : SystemState) : Type 0 where
  pub expired : input ≡ Expires timers.Relay
  pub params : s'.params ≡ s.params
  pub sync_in : s'.sync_in ≡ s.sync_in
  pub known : s'.known ≡ s.known
  pub relay : s'.relay ≡ None
  pub lapse : LapseGoesOn s s'

abbrev pub TimeStep : Input → SystemState → SystemState → Type 0
TimeStep input s s' = StaysKnown s s' ⊎ (KeepsSync input s s' ⊎ (Learns s s' ⊎ Stops input s s'))

-- ---- steps that don't tell time

goes_on : (s s' : SystemState) → s'.lapse ≡ s.lapse → s'.root ≡ s.root → LapseGoesOn s s'
goes_on s s' lapse root due is = inl (sym lapse ∙ is, root)

still : (s s' : SystemState) → s'.params ≡ s.params → s'.sync_in ≡ s.sync_in → s'.known ≡ s.known
    → s'.relay ≡ s.relay → s'.lapse ≡ s.lapse → s'.root ≡ s.root → StaysKnown s s'
still s s' params sync_in known relay lapse root = record {
  params = params;
  same = true;
  sync_in = sync_in;
  known = known;
  relay = relay;
  still = λ same_root slave. refl;
  lapse = goes_on s s' lapse root;
}

becomes : (s t s' : SystemState) (sends : List Sending) → StaysKnown s t → Becomes t s' sends → StaysKnown s s'
becomes s t s' sends k b = subst (StaysKnown s) (sym b.state) k

rests : (s s' : SystemState) (sends : List Sending) → Becomes s s' sends → StaysKnown s s'
rests s s' sends b = becomes s s s' sends (still s s refl refl refl refl refl refl) b

-- a Lapse timer begins only where the root may be grandmaster
lapse_leads : (params : Params) (root : ℕ) (slave : Option ℕ) (now due : ℕ)
    → lapse_of params root slave now ≡ Some due → can_lead root ≡ true
lapse_leads params root None now due is = absurd (none-some due is)
lapse_leads params root (Some p) now due is = by (has_sync_timeout params) (can_lead root) is
  where
    by : (a b : Bool) → (if a && b then Some (now + lapse_span params) else None) ≡ Some due → b ≡ true
    by true true e = refl
    by true false e = absurd (none-some due e)
    by false b e = absurd (none-some due e)

-- what is followed on is what was followed
pub follows_same : (v : Vector) (t : SystemState) → v.root ≡ t.root → slave_port v ≡ t.slave → follows_on v t ≡ true
follows_same v t root slave =
    let first : (v.root == t.root) ≡ true = eq-eqb v.root t.root root in
    rw (first, slave) (same_itself t.slave)
  where
    same_itself : (o : Option ℕ) → same_number o o ≡ true
    same_itself None = refl
    same_itself (Some p) = eq-eqb p p refl

selects : (s : SystemState) (now : ℕ) (t u : SystemState) (sends : List Sending) → t.params ≡ s.params
    → t.sync_in ≡ s.sync_in → t.known ≡ s.known → t.relay ≡ s.relay → t.root ≡ s.root → t.slave ≡ s.slave
    → ((due : ℕ) → t.lapse ≡ Some due → s.lapse ≡ Some due) → Selects now t u sends → StaysKnown s u
selects s now t u sends params sync_in known relay root slave lapse k =
    let same = follows_on k.vector t in
    record {
      params = ap (λ (x : SystemState). x.params) k.state ∙ params;
      same = same;
      sync_in = ap (λ (x : SystemState). x.sync_in) k.state ∙ ap (kept_if same) sync_in;
      known = ap (λ (x : SystemState). x.known) k.state ∙ ap (kept_if same) known;
      relay = ap (λ (x : SystemState). x.relay) k.state ∙ ap (kept_if same) relay;
      still = λ same_root same_slave.
          follows_same k.vector t (sym (ap (λ (x : SystemState). x.root) k.state) ∙ same_root ∙ sym root)
          (sym (ap (λ (x : SystemState). x.slave) k.state) ∙ same_slave ∙ sym slave);
      lapse = λ due is.
          chosen due (follows_on k.vector t) refl (sym (ap (λ (x : SystemState). x.lapse) k.state) ∙ is);
    }
  where
    chosen : (due : ℕ) (b : Bool) → follows_on k.vector t ≡ b
        → (if b then t.lapse else lapse_of t.params k.vector.root (slave_port k.vector) now) ≡ Some due
        → ((s.lapse ≡ Some due) × (u.root ≡ s.root)) ⊎ (can_lead u.root ≡ true)
    chosen due true on is =
        inl (
          lapse due is,
          ap (λ (x : SystemState). x.root) k.state ∙ (followed k.vector t on).0 ∙ root,
        )
    chosen due false off is =
        inr (ap (λ (x : SystemState). can_lead x.root) k.state
        ∙ lapse_leads t.params k.vector.root (slave_port k.vector) now due is)

turns : (p : ℕ) (step : PeerState → PeerState) (now : ℕ) (s s' : SystemState) (sends : List Sending)
    → Turns p step now s s' sends → StaysKnown s s'
turns p step now s s' sends h = go (is_turned step (number s.ports p)) h
  where
    go : (b : Bool) → TurnsIf b p step now s s' sends → StaysKnown s s'
    go true k = selects s now (turned p step s) s' sends refl refl refl refl refl refl (λ due is. is) k
    go false k = becomes s (with_peer p step s) s' sends (still s (with_peer p step s) refl refl refl refl refl refl) k

turns_and_asks : (p : ℕ) (step : PeerState → PeerState) (now : ℕ) (s s' : SystemState) (sends : List Sending)
    → TurnsAndAsks p step now s s' sends → StaysKnown s s'
turns_and_asks p step now s s' sends k =
    let before = turns p step now s k.between k.first k.turns in
    subst (StaysKnown s) (sym k.state)
    (record {
      params = before.params;
      same = before.same;
      sync_in = before.sync_in;
      known = before.known;
      relay = before.relay;
      still = before.still;
      lapse = before.lapse;
    })

-- ---- what is heard

-- a Sync that comes from the port that is followed is kept
pub record KeepsHeard (p : ℕ) (octets : List ℕ) (now : ℕ) (s s' : SystemState) (sends : List Sending)
    (answer : Answer) : Type 0 where
  pub head : Head
  pub reads : Reads octets (messages.Sync head)
  pub follows : is_followed p head s ≡ true
  pub kept : IsKeptSync head now s s' sends answer

-- what a Follow_Up says with the Sync that is kept is known, or doesn't fit
pub record LearnsHeard (p : ℕ) (octets : List ℕ) (now : ℕ) (s s' : SystemState) (sends : List Sending)
    (answer : Answer) : Type 0 where
  pub m : FollowUp
  pub reads : Reads octets (messages.FollowUp m)
  pub info : SyncInfo
  pub said : said_on p m s ≡ Some info
  pub knows : KnowsBy (has_sync_timeout s.params) info (delay_at s p) (root_rate_at s p) now s s' sends answer

abbrev pub TimeHeard : ℕ → List ℕ → ℕ → SystemState → SystemState → List Sending → Answer → Type 0
TimeHeard p octets now s s' sends answer =
    StaysKnown s s' ⊎ (KeepsHeard p octets now s s' sends answer ⊎ LearnsHeard p octets now s s' sends answer)

-- ---- a Sync

keeps_if : (b : Bool) (p : ℕ) (octets : List ℕ) (head : Head) (now : ℕ) (s s' : SystemState) (sends : List Sending)
    (answer : Answer) → is_followed p head s ≡ b → Reads octets (messages.Sync head)
    → KeepsIf b head now s s' sends answer → TimeHeard p octets now s s' sends answer
keeps_if true p octets head now s s' sends answer follows reads k =
    inr (inl (record { head = head; reads = reads; follows = follows; kept = k }))
keeps_if false p octets head now s s' sends answer follows reads k = inl (rests s s' sends k.becomes)

hears_sync : (b : Bool) (p : ℕ) (octets : List ℕ) (head : Head) (now : ℕ) (s s' : SystemState) (sends : List Sending)
    (answer : Answer) → Reads octets (messages.Sync head) → HearsSyncIf b p head now s s' sends answer
    → TimeHeard p octets now s s' sends answer
hears_sync false p octets head now s s' sends answer reads k = inl (rests s s' sends k.becomes)
hears_sync true p octets head now s s' sends answer reads k =
    keeps_if (is_followed p head s) p octets head now s s' sends answer refl reads k

-- ---- a Follow_Up

-- one that is read has a timestamp
stamp_read : (octets : List ℕ) (m : FollowUp) → Reads octets (messages.FollowUp m) → m.origin.nanos < 1000000000
stamp_read octets m k =
    let kind : type_of 0x8 ≡ Some k.kind =
    subst (λ n. type_of n ≡ Some k.kind) (type_is octets (messages.FollowUp m) k) k.header.kind_is in
    let same = same_Some _ k.kind kind in
    let is = one m _ (subst (λ t. messages.FollowUp m ≡ message_at t octets k.path k.rate) (sym same) k.is) in
    subst (λ (x : FollowUp). x.origin.nanos < 1000000000) (sym is)
    (subst (λ t. StampIsRead t octets) (sym same) k.stamp)
  where
    one : (a b : FollowUp) → messages.FollowUp a ≡ messages.FollowUp b → a ≡ b
    one a b e = cc

-- what it says with the Sync that is kept has that
origin_said : (kept : Option KeptSync) (m : FollowUp) (info : SyncInfo) → information kept m ≡ Some info
    → info.origin ≡ m.origin
origin_said None m info is = absurd (none-some info is)
origin_said (Some k) m info is = by (belongs m k) is
  where
    by : (b : Bool) → (if b then Some (together m k) else None) ≡ Some info → info.origin ≡ m.origin
    by true same = ap (λ (x : SyncInfo). x.origin) (sym (same_Some (together m k) info same))
    by false same = absurd (none-some info same)

origin_on : (p : ℕ) (m : FollowUp) (s : SystemState) (info : SyncInfo) → said_on p m s ≡ Some info
    → info.origin ≡ m.origin
origin_on p m s info is = by (is_slave_at s p) is
  where
    by : (b : Bool) → (if b then information s.sync_in m else None) ≡ Some info → info.origin ≡ m.origin
    by true same = origin_said s.sync_in m info same
    by false same = absurd (none-some info same)

-- what is known now has a timestamp
now_known : (s' : SystemState) (info : SyncInfo) → s'.known ≡ Some info → info.origin.nanos < 1000000000
    → ((due : ℕ) → s'.lapse ≡ Some due → can_lead s'.root ≡ true) → KnowsTime s'
now_known s' info known small lapses = record {
  stamped = λ other is.
      subst (λ (x : SyncInfo). x.origin.nanos < 1000000000) (same_Some info other (sym known ∙ is)) small;
  relays = λ due above is. subst IsSome (sym known) refl;
  lapses = lapses;
}

-- what it makes of the state, to this one but for what was known
learns : (s t s' : SystemState) → s' ≡ t → t.params ≡ s.params
    → (has_sync_timeout s.params ≡ true → t.sync_in ≡ s.sync_in)
    → ((due : ℕ) → has_sync_timeout s.params ≡ true → s.relay ≡ Some due → t.relay ≡ Some due)
    → (KnowsTime s → KnowsTime t) → Learns s s'
learns s t s' is params sync_in relay knows =
    subst (Learns s) (sym is) (record { params = params; sync_in = sync_in; relay = relay; knows = knows })

-- nothing is known, where nothing can lapse
none_known : (t : SystemState) → has_sync_timeout t.params ≡ false → t.known ≡ None
    → ((due : ℕ) → t.lapse ≡ Some due → can_lead t.root ≡ true) → KnowsTime t
none_known t off none lapses = record {
  stamped = λ other is. absurd (none-some other (sym none ∙ is));
  relays = λ due above is. absurd (grind (arith, nat_tests));
  lapses = lapses;
}

never : {b : Bool} → b ≡ true → b ≡ false → ⊥
never on off = let both = sym on ∙ off in cc

knows_by : (b : Bool) (info : SyncInfo) (delay rate : ℤ) (now : ℕ) (s s' : SystemState) (sends : List Sending)
    (answer : Answer) → has_sync_timeout s.params ≡ b → info.origin.nanos < 1000000000
    → KnowsBy b info delay rate now s s' sends answer → Learns s s'
knows_by true info delay rate now s s' sends answer has small k =
    learns s (refreshing info k.offset rate now s) s' k.becomes.state refl (λ on. refl)
    (λ due on runs. ap (λ (o : Option ℕ). Some (unwrap_or o (now + s.params.residence))) runs)
    (λ knows. now_known (refreshing info k.offset rate now s) info refl small
    (λ due is. lapse_leads s.params s.root s.slave now due is))
knows_by false info delay rate now s s' sends answer has small (inl k) =
    let offset = offset_of info delay rate in
    learns s (knowing info offset rate now s) s' k.becomes.state refl (λ on. refl) (λ due on. absurd (never on has))
    (λ knows. now_known (knowing info offset rate now s) info refl small knows.lapses)
knows_by false info delay rate now s s' sends answer has small (inr k) =
    learns s (forgetting s) s' k.becomes.state refl (λ on. absurd (never on has)) (λ due on. absurd (never on has))
    (λ knows. none_known (forgetting s) has refl knows.lapses)

knows_if : (said : Option SyncInfo) (p : ℕ) (octets : List ℕ) (m : FollowUp) (now : ℕ) (s s' : SystemState)
    (sends : List Sending) (answer : Answer) → said_on p m s ≡ said → Reads octets (messages.FollowUp m)
    → KnowsIf said (delay_at s p) (root_rate_at s p) now s s' sends answer → TimeHeard p octets now s s' sends answer
knows_if None p octets m now s s' sends answer is reads k = inl (rests s s' sends k.becomes)
knows_if (Some info) p octets m now s s' sends answer is reads k =
    inr (inr (record { m = m; reads = reads; info = info; said = is; knows = k }))

hears_follow_up : (b : Bool) (p : ℕ) (octets : List ℕ) (m : FollowUp) (now : ℕ) (s s' : SystemState)
    (sends : List Sending) (answer : Answer) → Reads octets (messages.FollowUp m)
    → HearsFollowUpIf b p m now s s' sends answer → TimeHeard p octets now s s' sends answer
hears_follow_up false p octets m now s s' sends answer reads k = inl (rests s s' sends k.becomes)
hears_follow_up true p octets m now s s' sends answer reads k =
    knows_if (said_on p m s) p octets m now s s' sends answer refl reads k

-- ---- the Relay timer

stops : (s t s' : SystemState) → s' ≡ t → t.params ≡ s.params → t.sync_in ≡ s.sync_in → t.known ≡ s.known
    → t.relay ≡ None → t.lapse ≡ s.lapse → t.root ≡ s.root → Stops (Expires timers.Relay) s s'
stops s t s' is params sync_in known relay lapse root =
    subst (Stops (Expires timers.Relay) s) (sym is)
    (record {
      expired = refl;
      params = params;
      sync_in = sync_in;
      known = known;
      relay = relay;
      lapse = goes_on s t lapse root;
    })

relays_by : (b : Bool) (info : SyncInfo) (now : ℕ) (s s' : SystemState) (sends : List Sending)
    → RelaysBy b info now s s' sends → Stops (Expires timers.Relay) s s'
relays_by true info now s s' sends k = stops s (telling (timer_stopped s)) s' k.state refl refl refl refl refl refl
relays_by false info now s s' sends (inl k) = stops s
    (telling (timer_stopped s)) s' k.state refl refl refl refl refl refl
relays_by false info now s s' sends (inr k) = stops s (timer_stopped s) s' k.becomes.state refl refl refl refl refl refl

relays_if : (known : Option SyncInfo) (now : ℕ) (s s' : SystemState) (sends : List Sending)
    → RelaysIf known now s s' sends → Stops (Expires timers.Relay) s s'
relays_if None now s s' sends k = stops s (timer_stopped s) s' k.state refl refl refl refl refl refl
relays_if (Some info) now s s' sends k = relays_by (has_sync_timeout s.params) info now s s' sends k

-- ---- every step

syncs_if : (b : Bool) (now : ℕ) (s s' : SystemState) (sends : List Sending) → SyncsIf b now s s' sends
    → StaysKnown s s'
syncs_if true now s s' sends k = subst (StaysKnown s) (sym k.state) (still s _ refl refl refl refl refl refl)
syncs_if false now s s' sends k = becomes s (restarted now s) s' sends (still s _ refl refl refl refl refl refl) k

hears_announce : (p : ℕ) (a : AnnounceView) (now : ℕ) (s s' : SystemState) (sends : List Sending) (answer : Answer)
    → HearsMessage p (messages.Announce a) now s s' sends answer → StaysKnown s s'
hears_announce p a now s s' sends answer (inl k) = rests s s' sends k.becomes
hears_announce p a now s s' sends answer (inr (inl k)) = rests s s' sends k.becomes
hears_announce p a now s s' sends answer (inr (inr k)) =
    go (replaces_held (comparison (held_at s p) (own s p) a)) k.selects
  where
    go : (b : Bool) → SelectsIf b now (compared p a now s) s' sends → StaysKnown s s'
    go true h = selects s now (compared p a now s) s' sends refl refl refl refl refl refl (λ due is. is) h
    go false h = becomes s (compared p a now s) s' sends (still s (compared p a now s) refl refl refl refl refl refl) h

hears_message : (p : ℕ) (octets : List ℕ) (m : Message) (now : ℕ) (s s' : SystemState) (sends : List Sending)
    (answer : Answer) → Reads octets m → HearsMessage p m now s s' sends answer
    → TimeHeard p octets now s s' sends answer
hears_message p octets (messages.Sync head) now s s' sends answer reads k =
    hears_sync (is_capable_at s p) p octets head now s s' sends answer reads k
hears_message p octets (messages.PdelayReq head) now s s' sends answer reads k =
    inl (subst (StaysKnown s) (sym k.becomes.state) (still s _ refl refl refl refl refl refl))
hears_message p octets (messages.PdelayResp m) now s s' sends answer reads k =
    inl (subst (StaysKnown s) (sym k.becomes.state) (still s _ refl refl refl refl refl refl))
hears_message p octets (messages.FollowUp m) now s s' sends answer reads k =
    hears_follow_up (is_capable_at s p) p octets m now s s' sends answer reads k
hears_message p octets (messages.PdelayRespFollowUp m) now s s' sends answer reads k =
    inl (turns p (after_follow_up m) now s s' sends k.turns)
hears_message p octets (messages.Announce a) now s s' sends answer reads k =
    inl (hears_announce p a now s s' sends answer k)

pub frame_heard : (p : ℕ) (octets : List ℕ) (now : ℕ) (s s' : SystemState) (sends : List Sending) (answer : Answer)
    → HearsFrame p octets now s s' sends answer → TimeHeard p octets now s s' sends answer
frame_heard p octets now s s' sends answer (inl k) =
    hears_message p octets k.message now s s' sends answer k.reads k.hears
frame_heard p octets now s s' sends answer (inr k) = inl (rests s s' sends k.becomes)

hears_frame : (p : ℕ) (octets : List ℕ) (now : ℕ) (s s' : SystemState) (sends : List Sending) (answer : Answer)
    → HearsFrame p octets now s s' sends answer → TimeStep (Frame p octets) s s'
hears_frame p octets now s s' sends answer k = by (frame_heard p octets now s s' sends answer k)
  where
    by : TimeHeard p octets now s s' sends answer → TimeStep (Frame p octets) s s'
    by (inl stays) = inl stays
    by (inr (inl keeps)) =
        inr (inl (subst (KeepsSync (Frame p octets) s) (sym keeps.kept.becomes.state) (record {
          port = p;
          octets = octets;
          head = keeps.head;
          heard = refl;
          reads = keeps.reads;
          followed = keeps.follows;
          params = refl;
          known = refl;
          relay = refl;
          lapse = λ due is. inl (is, refl);
        })))
    by (inr (inr learned)) =
        inr (inr (inl (knows_by (has_sync_timeout s.params) learned.info (delay_at s p)
        (root_rate_at s p) now s s' sends
        answer refl
        (subst (λ (t : Timestamp). t.nanos < 1000000000) (sym (origin_on p learned.m s learned.info learned.said))
        (stamp_read octets learned.m learned.reads)) learned.knows)))

pub expires : (timer : Timer) (now : ℕ) (s s' : SystemState) (sends : List Sending) → TimerExpires timer now s s' sends
    → StaysKnown s s' ⊎ Stops (Expires timer) s s'
expires (timers.Announce p) now s s' sends k =
    inl (subst (StaysKnown s) (sym k.state) (still s _ refl refl refl refl refl refl))
expires (timers.Age p) now s s' sends k =
    inl (selects s now (aged_at p now s) s' sends refl refl refl refl refl refl (λ due is. is) k)
expires (timers.Pdelay p) now s s' sends k = inl (turns_and_asks p after_interval now s s' sends k)
expires (timers.Respond p) now s s' sends k =
    inl (subst (StaysKnown s) (sym k.state) (still s _ refl refl refl refl refl refl))
expires timers.Sync now s s' sends k = inl (syncs_if (is_leading s) now s s' sends k)
expires timers.Relay now s s' sends k = inr (relays_if s.known now s s' sends k)
expires timers.Lapse now s s' sends k =
    inl (selects s now (lapsed s) s' sends refl refl refl refl refl refl (λ due none. absurd (none-some due none)) k)

pub time_steps : (input : Input) (now : ℕ) (s s' : SystemState) (sends : List Sending) (answer : Answer)
    → Steps input now s s' sends answer → TimeStep input s s'
time_steps (PortUp p) now s s' sends answer k = inl (turns_and_asks p reset_peer now s s' sends k)
time_steps (PortDown p) now s s' sends answer k =
    inl (selects s now (down p s) s' sends refl refl refl refl refl refl (λ due is. is) k)
time_steps (Frame p octets) now s s' sends answer k = hears_frame p octets now s s' sends answer k
time_steps (Expires timer) now s s' sends answer k = elim (expires timer now s s' sends k) [
  | inl stays ↦ inl stays
  | inr timer_stopped ↦ inr (inr (inr timer_stopped))
]
time_steps (Priority value) now s s' sends answer k =
    inl (selects s now (with_priority value s) s' sends refl refl refl refl refl refl (λ due is. is) k)

-- ---- what is known stays in order

-- a system that starts knows no time
pub knows_at_start : (setup : Setup) (now : ℕ) → KnowsTime (started setup now)
knows_at_start setup now = record {
  stamped = λ info is. absurd (none-some info is);
  relays = λ due above is. absurd (none-some due is);
  lapses = λ due is. absurd (none-some due is);
}

-- so its Lapse timer runs only where its root may be grandmaster
lapses_on : (s s' : SystemState) → LapseGoesOn s s' → KnowsTime s → (due : ℕ) → s'.lapse ≡ Some due
    → can_lead s'.root ≡ true
lapses_on s s' goes knows due is = by (goes due is)
  where
    by : ((s.lapse ≡ Some due) × (s'.root ≡ s.root)) ⊎ (can_lead s'.root ≡ true) → can_lead s'.root ≡ true
    by (inl (was, root)) = ap can_lead root ∙ knows.lapses due was
    by (inr can) = can

stays : (s s' : SystemState) → StaysKnown s s' → KnowsTime s → KnowsTime s'
stays s s' k knows = by k.same k.known k.relay
  where
    on : 0 < s'.params.sync_timeout → 0 < s.params.sync_timeout
    on above = subst (λ (p : Params). 0 < p.sync_timeout) k.params above

    by : (same : Bool) → s'.known ≡ kept_if same s.known → s'.relay ≡ kept_if same s.relay → KnowsTime s'
    by true known relay = record {
      stamped = λ info is. knows.stamped info (sym known ∙ is);
      relays = λ due above is. subst IsSome (sym known) (knows.relays due (on above) (sym relay ∙ is));
      lapses = lapses_on s s' k.lapse knows;
    }
    by false known relay = record {
      stamped = λ info is. absurd (none-some info (sym known ∙ is));
      relays = λ due above is. absurd (none-some due (sym relay ∙ is));
      lapses = lapses_on s s' k.lapse knows;
    }

pub knows_on : (input : Input) (now : ℕ) (s s' : SystemState) (sends : List Sending) (answer : Answer)
    → Steps input now s s' sends answer → KnowsTime s → KnowsTime s'
knows_on input now s s' sends answer k knows = by (time_steps input now s s' sends answer k)
  where
    by : TimeStep input s s' → KnowsTime s'
    by (inl stayed) = stays s s' stayed knows
    by (inr (inl kept)) = record {
      stamped = λ info is. knows.stamped info (sym kept.known ∙ is);
      relays = λ due above is.
          subst IsSome (sym kept.known)
          (knows.relays due (subst (λ (p : Params). 0 < p.sync_timeout) kept.params above) (sym kept.relay ∙ is));
      lapses = lapses_on s s' kept.lapse knows;
    }
    by (inr (inr (inl learned))) = learned.knows knows
    by (inr (inr (inr timer_stopped))) = record {
      stamped = λ info is. knows.stamped info (sym timer_stopped.known ∙ is);
      relays = λ due above is. absurd (none-some due (sym timer_stopped.relay ∙ is));
      lapses = lapses_on s s' timer_stopped.lapse knows;
    }
