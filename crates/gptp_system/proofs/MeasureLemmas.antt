-- Every step of a system as what it makes of the measuring of each port.
use Rattle.std.proofs.Common.{◌≡◌, ℕ, suc, ◌+◌, ℤ, Bool, true, false, List, Option, Some, None, slice_get, refl, sym, ap, subst, ◌∙◌, inl, inr, arith, eq-eqb}
use Rattle.std.specs.Prelude.{if◌then◌else◌, ◌==◌}
use Rattle.std.proofs.lemmas.Bool.Decides.{nat_tests}
use Rattle.gptp_messages.specs.declared.announce.AnnounceView.{AnnounceView}
use Rattle.gptp_messages.specs.declared.follow_up.FollowUp.{FollowUp}
use Rattle.gptp_messages.specs.declared.head.Head.{Head}
use Rattle.gptp_messages.specs.declared.message.Message.{Message}
use Rattle.gptp_messages.specs.declared.message.Message.TheVariants as messages
use Rattle.gptp_messages.proofs.GrammarLemmas.{never_both}
use Rattle.gptp_receipt.specs.Held.{comparison}
use Rattle.gptp_correction.specs.declared.sync_in.SyncInfo.{SyncInfo}
use Rattle.gptp_pdelay.specs.Peer.{PeerState, after_follow_up, after_interval, after_response, reset_peer}
use Rattle.gptp_system.specs.declared.answer.Answer.{Answer}
use Rattle.gptp_system.specs.declared.port.Port.{Port}
use Rattle.gptp_system.specs.declared.sending.Sending.{Sending}
use Rattle.gptp_setup.specs.declared.timer.Timer.{Timer}
use Rattle.gptp_setup.specs.declared.timer.Timer.TheVariants as timers
use Rattle.gptp_setup.specs.Intervals.{interval_of}
use Rattle.gptp_system.specs.State.{SystemState, held_at, is_capable_at, number, on_port, own, stamp_time, with_peer}
use Rattle.gptp_system.specs.Selection.{Becomes, Selects, SelectsIf, announced_again, choosing, fresh_ports}
use Rattle.gptp_system.specs.Measuring.{Turns, TurnsAndAsks, TurnsIf, answering_done, asking, down, is_turned, owes, owing, silenced, turned}
use Rattle.gptp_system.specs.Announcing.{aged_at, announced_at, compared, replaces_held, with_priority}
use Rattle.gptp_setup.specs.SettlingParams.{has_sync_timeout}
use Rattle.gptp_system.specs.Lapse.{lapsed}
use Rattle.gptp_system.specs.Syncing.{HearsFollowUpIf, HearsSyncIf, KeepsIf, KnowsBy, KnowsIf, RelaysBy, RelaysIf, SyncsIf, delay_at, forgetting, is_followed, keeping, knowing, is_leading, offset_of, root_rate_at, refreshing, restarted, said_on, timer_stopped, telling}
use Rattle.gptp_system.specs.Takeover.{leading}
use Rattle.gptp_system.specs.Steps.{Expires as TimerExpires, HearsFrame, HearsMessage}
use Rattle.gptp_system.specs.Input.{Input, Steps, PortUp, PortDown, Frame, Expires, Priority}
use Rattle.gptp_system.specs.Facts.{Keeps}
use Rattle.gptp_system.specs.Measures.{MeasuresAtEachPlace, Part, only_at, part_answered, part_asked, part_down, part_heard, measure_at, part_owing, part_stepped}
use Rattle.gptp_system.proofs.ChangedLemmas.{Changed, change-get}
use Rattle.gptp_system.proofs.PortLemmas.{Marked, all_announced-get, counted-get, with_sync}
use Rattle.gptp_system.proofs.StepLemmas.{turns as turns_steady}

-- the part of each port becomes this
abbrev pub Parts : (ℕ → Part → Part) → SystemState → SystemState → Type 0
Parts f s s' = (i : ℕ) (q' : Port) → slice_get s'.ports i ≡ Some q'
    → (q : Port) × (slice_get s.ports i ≡ Some q) × (measure_at q' ≡ f (suc i) (measure_at q))

-- every part stays
abbrev pub Still : SystemState → SystemState → Type 0
Still s s' = Parts (λ n x. x) s s'

still_ports : (s s' : SystemState) → s'.ports ≡ s.ports → Still s s'
still_ports s s' same i q there = (q, ap (λ qs. slice_get qs i) (sym same) ∙ there, refl)

parts_on : (f g : ℕ → Part → Part) (s t u : SystemState) → Parts f s t → Parts g t u → Parts (λ n x. g n (f n x)) s u
parts_on f g s t u a b i q' there =
    let (p, at, second) = b i q' there in
    let (q, was, first) = a i p at in
    (q, was, second ∙ ap (g (suc i)) first)

on_port_parts : (p : ℕ) (F : Port → Port) (f : Part → Part) (s : SystemState)
    → ((q : Port) → measure_at (F q) ≡ f (measure_at q))
    → Parts (only_at p f) s (on_port p F s)
on_port_parts p F f s same i q' there = go (change-get F p s.ports i q' there)
  where
    go : Changed F (p ≡ suc i) s.ports i q'
        → (q : Port) × (slice_get s.ports i ≡ Some q) × (measure_at q' ≡ only_at p f (suc i) (measure_at q))
    go (q, was, inl (here, new)) =
        let at : (suc i == p) ≡ true = eq-eqb (suc i) p (sym here) in
        (q, was, rw at (ap measure_at new ∙ same q))
    go (q, was, inr (elsewhere, old)) =
        let off : (suc i == p) ≡ false = grind (arith, nat_tests) in
        (q, was, rw off (ap measure_at old))

selects_parts : (now : ℕ) (t u : SystemState) (sends : List Sending) → Selects now t u sends → Still t u
selects_parts now t u sends k = subst (Still t) (sym k.state) ports
  where
    ports : Still t (choosing k.vector now t)
    ports i q' there = go (all_announced-get now (fresh_ports k.vector t) t.ports i q' there)
      where
        go : Marked (announced_again now) (slice_get (fresh_ports k.vector t) i ≡ Some true) t.ports i q'
            → (q : Port) × (slice_get t.ports i ≡ Some q) × (measure_at q' ≡ measure_at q)
        go (q, was, inl (fresh, new)) = (q, was, ap measure_at new)
        go (q, was, inr (stale, old)) = (q, was, ap measure_at old)

telling_parts : (s : SystemState) → Still s (telling s)
telling_parts s i q' there = go _ (counted-get s.held s.ports i q' there)
  where
    go : (mark : Type 0) → Marked with_sync mark s.ports i q'
        → (q : Port) × (slice_get s.ports i ≡ Some q) × (measure_at q' ≡ measure_at q)
    go mark (q, was, inl (mine, new)) = (q, was, ap measure_at new)
    go mark (q, was, inr (other, old)) = (q, was, ap measure_at old)

becomes : (f : ℕ → Part → Part) (s t s' : SystemState) (sends : List Sending) → Parts f s t → Becomes t s' sends
    → Parts f s s'
becomes f s t s' sends parts b = subst (Parts f s) (sym b.state) parts

-- ---- measuring

peer_parts : (p : ℕ) (step : PeerState → PeerState) (s : SystemState)
    → Parts (only_at p (part_stepped step)) s (with_peer p step s)
peer_parts p step s = on_port_parts p (λ (q : Port). record q { peer = step q.peer }) (part_stepped step) s (λ q. refl)

pub turns : (p : ℕ) (step : PeerState → PeerState) (now : ℕ) (s s' : SystemState) (sends : List Sending)
    → Turns p step now s s' sends
    → Parts (only_at p (part_stepped step)) s s'
turns p step now s s' sends h = go (is_turned step (number s.ports p)) h
  where
    go : (b : Bool) → TurnsIf b p step now s s' sends → Parts (only_at p (part_stepped step)) s s'
    go true k =
        parts_on (only_at p (part_stepped step)) (λ n x. x) s (turned p step s) s' (peer_parts p step s)
        (selects_parts now (turned p step s) s' sends k)
    go false k = becomes (only_at p (part_stepped step)) s (with_peer p step s) s' sends (peer_parts p step s) k

-- two things on one port are one
only_twice : (p : ℕ) (f g : Part → Part) (n : ℕ) (x : Part)
    → only_at p g n (only_at p f n x) ≡ only_at p (λ y. g (f y)) n x
only_twice p f g n x = go (n == p)
  where
    go : (b : Bool) → (if b then g (if b then f x else x) else (if b then f x else x)) ≡ (if b then g (f x) else x)
    go true = refl
    go false = refl

turns_and_asks : (p : ℕ) (step : PeerState → PeerState) (now : ℕ) (s s' : SystemState) (sends : List Sending)
    → TurnsAndAsks p step now s s' sends → Parts (only_at p (part_asked s now step)) s s'
turns_and_asks p step now s s' sends k i q' there =
    let (q, was, is) = both i q' there in
    (q, was, is ∙ only_twice p (part_stepped step) ask (suc i) (measure_at q))
  where
    kept : Keeps s k.between
    kept = (turns_steady p step now s k.between k.first k.turns).sound.kept

    ask : Part → Part
    ask x = part_asked s now (λ y. y) x

    asks_same : (q : Port)
        → measure_at (asking (stamp_time k.between now) (now + interval_of k.between.params.pdelay) q) ≡ ask
        (measure_at q)
    asks_same q = rw (kept.phase, kept.drift, kept.seed, kept.same_clock, kept.params) refl

    both : Parts (λ n x. only_at p ask n (only_at p (part_stepped step) n x)) s s'
    both =
        parts_on (only_at p (part_stepped step)) (only_at p ask) s k.between s'
        (turns p step now s k.between k.first k.turns)
        (subst (Parts (only_at p ask) k.between) (sym k.state)
        (on_port_parts p
        (asking (stamp_time k.between now)
        (now + interval_of k.between.params.pdelay)) ask k.between asks_same))

goes_down : (p now : ℕ) (s s' : SystemState) (sends : List Sending) → Selects now (down p s) s' sends
    → Parts (only_at p part_down) s s'
goes_down p now s s' sends k =
    parts_on (only_at p part_down) (λ n x. x) s (down p s) s' (on_port_parts p silenced part_down s (λ q. refl))
    (selects_parts now (down p s) s' sends k)

-- ---- Announces and time: no part changes

hears_announce : (p : ℕ) (a : AnnounceView) (now : ℕ) (s s' : SystemState) (sends : List Sending) (answer : Answer)
    → HearsMessage p (messages.Announce a) now s s' sends answer → Still s s'
hears_announce p a now s s' sends answer (inl k) = becomes (λ n x. x) s s s' sends (still_ports s s refl) k.becomes
hears_announce p a now s s' sends answer (inr (inl k)) =
    becomes (λ n x. x) s s s' sends (still_ports s s refl) k.becomes
hears_announce p a now s s' sends answer (inr (inr k)) = go
    (replaces_held (comparison (held_at s p) (own s p) a)) k.selects
  where
    go : (b : Bool) → SelectsIf b now (compared p a now s) s' sends → Still s s'
    go true h = selects_parts now (compared p a now s) s' sends h
    go false h = becomes (λ n x. x) s (compared p a now s) s' sends (still_ports s (compared p a now s) refl) h

hears_sync : (b : Bool) (p : ℕ) (head : Head) (now : ℕ) (s s' : SystemState) (sends : List Sending) (answer : Answer)
    → HearsSyncIf b p head now s s' sends answer → Still s s'
hears_sync false p head now s s' sends answer k = becomes (λ n x. x) s s s' sends (still_ports s s refl) k.becomes
hears_sync true p head now s s' sends answer h = go (is_followed p head s) h
  where
    go : (b : Bool) → KeepsIf b head now s s' sends answer → Still s s'
    go true k = becomes (λ n x. x) s (keeping head now s) s' sends (still_ports s (keeping head now s) refl) k.becomes
    go false k = becomes (λ n x. x) s s s' sends (still_ports s s refl) k.becomes

knows_by : (b : Bool) (info : SyncInfo) (delay rate : ℤ) (now : ℕ) (s s' : SystemState) (sends : List Sending)
    (answer : Answer)
    → KnowsBy b info delay rate now s s' sends answer → Still s s'
knows_by true info delay rate now s s' sends answer k =
    let t = refreshing info k.offset rate now s in
    becomes (λ n x. x) s t s' sends (still_ports s t refl) k.becomes
knows_by false info delay rate now s s' sends answer (inl k) =
    let t = knowing info (offset_of info delay rate) rate now s in
    becomes (λ n x. x) s t s' sends (still_ports s t refl) k.becomes
knows_by false info delay rate now s s' sends answer (inr k) =
    becomes (λ n x. x) s (forgetting s) s' sends (still_ports s (forgetting s) refl) k.becomes

knows_if : (said : Option SyncInfo) (delay rate : ℤ) (now : ℕ) (s s' : SystemState) (sends : List Sending)
    (answer : Answer)
    → KnowsIf said delay rate now s s' sends answer → Still s s'
knows_if None delay rate now s s' sends answer k = becomes (λ n x. x) s s s' sends (still_ports s s refl) k.becomes
knows_if (Some info) delay rate now s s' sends answer k =
    knows_by (has_sync_timeout s.params) info delay rate now s s' sends answer k

hears_follow_up : (b : Bool) (p : ℕ) (m : FollowUp) (now : ℕ) (s s' : SystemState) (sends : List Sending)
    (answer : Answer)
    → HearsFollowUpIf b p m now s s' sends answer → Still s s'
hears_follow_up false p m now s s' sends answer k = becomes (λ n x. x) s s s' sends (still_ports s s refl) k.becomes
hears_follow_up true p m now s s' sends answer k =
    knows_if (said_on p m s) (delay_at s p) (root_rate_at s p) now s s' sends answer k

tells_on : (s t s' : SystemState) → Still s t → s' ≡ telling t → Still s s'
tells_on s t s' still is =
    subst (Still s) (sym is) (parts_on (λ n x. x) (λ n x. x) s t (telling t) still (telling_parts t))

syncs_if : (b : Bool) (now : ℕ) (s s' : SystemState) (sends : List Sending) → SyncsIf b now s s' sends → Still s s'
syncs_if true now s s' sends k =
    let t = restarted now (leading now s) in tells_on s t s' (still_ports s t refl) k.state
syncs_if false now s s' sends k =
    becomes (λ n x. x) s (restarted now s) s' sends (still_ports s (restarted now s) refl) k

relays_by : (b : Bool) (info : SyncInfo) (now : ℕ) (s s' : SystemState) (sends : List Sending)
    → RelaysBy b info now s s' sends → Still s s'
relays_by true info now s s' sends k = tells_on s (timer_stopped s) s' (still_ports s (timer_stopped s) refl) k.state
relays_by false info now s s' sends (inl k) = tells_on s (timer_stopped s) s'
    (still_ports s (timer_stopped s) refl) k.state
relays_by false info now s s' sends (inr k) =
    becomes (λ n x. x) s (timer_stopped s) s' sends (still_ports s (timer_stopped s) refl) k.becomes

relays_if : (known : Option SyncInfo) (now : ℕ) (s s' : SystemState) (sends : List Sending)
    → RelaysIf known now s s' sends → Still s s'
relays_if None now s s' sends k = becomes (λ n x. x) s (timer_stopped s) s' sends
    (still_ports s (timer_stopped s) refl) k
relays_if (Some info) now s s' sends k = relays_by (has_sync_timeout s.params) info now s s' sends k

-- ---- all steps

-- what happens nowhere
only_nothing : (p n : ℕ) (x : Part) → x ≡ only_at p (λ y. y) n x
only_nothing p n x = go (n == p)
  where
    go : (b : Bool) → x ≡ (if b then x else x)
    go true = refl
    go false = refl

still_heard : (p : ℕ) (s s' : SystemState) → Still s s' → Parts (only_at p (λ y. y)) s s'
still_heard p s s' still i q' there =
    let (q, was, is) = still i q' there in
    (q, was, is ∙ only_nothing p (suc i) (measure_at q))

hears_message : (p : ℕ) (m : Message) (now : ℕ) (s s' : SystemState) (sends : List Sending) (answer : Answer)
    → HearsMessage p m now s s' sends answer → Parts (only_at p (part_heard s now m)) s s'
hears_message p (messages.Sync head) now s s' sends answer k =
    still_heard p s s' (hears_sync (is_capable_at s p) p head now s s' sends answer k)
hears_message p (messages.PdelayReq head) now s s' sends answer k =
    becomes (only_at p (part_owing s now head)) s (owes p head now s) s' sends
    (on_port_parts p
    (owing (record {
      requester =
          head.source;
      sequence = head.sequence;
      t2 = stamp_time s now;
    }) (now + s.params.turnaround))
    (part_owing s now head) s (λ q. refl))
    k.becomes
hears_message p (messages.PdelayResp m) now s s' sends answer k =
    becomes (only_at p (part_stepped (after_response m (stamp_time s now)))) s
    (with_peer p (after_response m (stamp_time s now)) s) s' sends
    (peer_parts p (after_response m (stamp_time s now)) s) k.becomes
hears_message p (messages.FollowUp m) now s s' sends answer k =
    still_heard p s s' (hears_follow_up (is_capable_at s p) p m now s s' sends answer k)
hears_message p (messages.PdelayRespFollowUp m) now s s' sends answer k =
    turns p (after_follow_up m) now s s' sends k.turns
hears_message p (messages.Announce a) now s s' sends answer k =
    still_heard p s s' (hears_announce p a now s s' sends answer k)

hears_frame : (p : ℕ) (octets : List ℕ) (now : ℕ) (s s' : SystemState) (sends : List Sending) (answer : Answer)
    → HearsFrame p octets now s s' sends answer → MeasuresAtEachPlace s now (Frame p octets) s'
hears_frame p octets now s s' sends answer (inl k) i q' there =
    let (q, was, is) = hears_message p k.message now s s' sends answer k.hears i q' there in
    (q, was, inl (k.message, k.reads, is))
hears_frame p octets now s s' sends answer (inr k) i q' there =
    let (q, was, is) = becomes (λ n x. x) s s s' sends (still_ports s s refl) k.becomes i q' there in
    (q, was, inr ((λ m reads. never_both octets m k.refused reads k.refuses), is))

expires : (timer : Timer) (now : ℕ) (s s' : SystemState) (sends : List Sending) → TimerExpires timer now s s' sends
    → MeasuresAtEachPlace s now (Expires timer) s'
expires (timers.Announce p) now s s' sends k = subst (Still s) (sym k.state) announced_parts
  where
    announced_parts : Still s (announced_at p now s)
    announced_parts i q' there = go (change-get (announced_again now) p s.ports i q' there)
      where
        go : Changed (announced_again now) (p ≡ suc i) s.ports i q'
            → (q : Port) × (slice_get s.ports i ≡ Some q) × (measure_at q' ≡ measure_at q)
        go (q, was, inl (here, new)) = (q, was, ap measure_at new)
        go (q, was, inr (elsewhere, old)) = (q, was, ap measure_at old)
expires (timers.Age p) now s s' sends k = selects_parts now (aged_at p now s) s' sends k
expires (timers.Pdelay p) now s s' sends k = turns_and_asks p after_interval now s s' sends k
expires (timers.Respond p) now s s' sends k =
    subst (Parts (only_at p part_answered) s) (sym k.state) (on_port_parts p answering_done part_answered s (λ q. refl))
expires timers.Sync now s s' sends k = syncs_if (is_leading s) now s s' sends k
expires timers.Relay now s s' sends k = relays_if s.known now s s' sends k
expires timers.Lapse now s s' sends k = selects_parts now (lapsed s) s' sends k

pub steps_measure : (input : Input) (now : ℕ) (s s' : SystemState) (sends : List Sending) (answer : Answer)
    → Steps input now s s' sends answer → MeasuresAtEachPlace s now input s'
steps_measure (PortUp p) now s s' sends answer k = turns_and_asks p reset_peer now s s' sends k
steps_measure (PortDown p) now s s' sends answer k = goes_down p now s s' sends k
steps_measure (Frame p octets) now s s' sends answer k = hears_frame p octets now s s' sends answer k
steps_measure (Expires timer) now s s' sends answer k = expires timer now s s' sends k
steps_measure (Priority value) now s s' sends answer k = selects_parts now (with_priority value s) s' sends k
