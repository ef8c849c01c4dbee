-- How far every step of a system reaches, case by case.
use Rattle.std.proofs.Common.{◌≡◌, ◌≤◌, ℕ, zero, suc, ◌+◌, ℤ, Bool, true, false, List, [], ◌∷◌, length, Option, Some, None, slice_get, refl, sym, ap, subst, ◌∙◌, inl, inr, arith, eq-eqb}
use Rattle.std.specs.Prelude.{if◌then◌else◌, ◌==◌, ◌||◌, ◌&&◌, not}
use Rattle.std.specs.Option.{option_map_or}
use Rattle.std.proofs.lemmas.Option.{slice_get_within}
use Rattle.gptp_lists.specs.Members.{In}
use Rattle.gptp_messages.specs.declared.announce.AnnounceView.{AnnounceView}
use Rattle.gptp_messages.specs.declared.follow_up.FollowUp.{FollowUp}
use Rattle.gptp_messages.specs.declared.head.Head.{Head}
use Rattle.gptp_messages.specs.declared.message.Message.{Message}
use Rattle.gptp_messages.specs.declared.message.Message.TheVariants as messages
use Rattle.gptp_receipt.specs.Held.{comparison}
use Rattle.gptp_correction.specs.declared.correction.Relayed.{Relayed}
use Rattle.gptp_correction.specs.declared.sync_in.SyncInfo.{SyncInfo}
use Rattle.gptp_pdelay.specs.Peer.{PeerState, after_follow_up, after_interval, after_response, is_capable, reset_peer}
use Rattle.gptp_system.specs.declared.answer.Answer.{Answer}
use Rattle.gptp_system.specs.declared.port.Port.{Port}
use Rattle.gptp_system.specs.declared.reach.Reach.{Reach}
use Rattle.gptp_system.specs.declared.reach.Reach.TheVariants as reaches
use Rattle.gptp_system.specs.declared.sending.Sending.{Sending}
use Rattle.gptp_setup.specs.declared.timer.Timer.{Timer}
use Rattle.gptp_setup.specs.declared.timer.Timer.TheVariants as timers
use Rattle.gptp_setup.specs.Intervals.{interval_of}
use Rattle.gptp_setup.specs.SettlingParams.{has_sync_timeout}
use Rattle.gptp_system.specs.State.{SystemState, held_at, is_capable_at, number, on_port, own, stamp_time, with_peer}
use Rattle.gptp_system.specs.Sends.{with_send}
use Rattle.gptp_system.specs.Selection.{Becomes, Selects, SelectsIf, announced_again}
use Rattle.gptp_system.specs.Measuring.{responded, Turns, TurnsAndAsks, TurnsIf, answering_done, asking, down, is_turned, owed_at, owes, owing, request_of, silenced, turned}
use Rattle.gptp_system.specs.Announcing.{aged_at, announced_at, compared, replaces_held, with_priority}
use Rattle.gptp_system.specs.Lapse.{lapsed}
use Rattle.gptp_system.specs.Syncing.{HearsFollowUpIf, HearsSyncIf, KeepsIf, KnowsBy, KnowsIf, RelaysBy, RelaysIf, SyncsIf, delay_at, is_followed, is_leading, own_time, root_rate_at, restarted, said_on, timer_stopped, telling, told_by}
use Rattle.gptp_system.specs.Takeover.{leading}
use Rattle.gptp_system.specs.Steps.{Expires as TimerExpires, HearsFrame, HearsMessage}
use Rattle.gptp_system.specs.Input.{Input, Steps, PortUp, PortDown, Frame, Expires, Priority}
use Rattle.gptp_system.specs.Reach.{AreAt, AreAtPorts, SendsWithin, Leaves, asking_reach, is_of_time, is_selected, is_touched, is_touched_asking, is_touched_by, reach, same_timer, stops_at, timer_reach, type_reach}
use Rattle.gptp_system.proofs.ChangedLemmas.{change-length}
use Rattle.gptp_system.proofs.DueLemmas.{CoversSelection, Spares, leaves_on, on_port_leaves, selects_leaves, telling_leaves}
use Rattle.gptp_system.specs.Counters.{AreCounted}
use Rattle.gptp_system.specs.Messages.{Announcing, Answering, Telling}
use Rattle.gptp_system.proofs.CounterLemmas.{announced_counted, counted_more, counted_on, counted_on_port, counted_other, counted_then, selects_counted, telling_counted}
use Rattle.gptp_system.proofs.SendLemmas.{responds_answer}
use Rattle.gptp_system.proofs.TypeLemmas.{type_is, type_number}
use Rattle.gptp_system.proofs.WithinLemmas.{AreFew, announcement_few, at_ports, one_more, responds_few, selects_few, silent, tells_few}
use Rattle.gptp_system.proofs.CalmLemmas.{Calm, calm_apart, calm_held, calm_on, calm_peer, calm_port, lapsed_calm, turned_calm}

-- ---- a step

-- a step sends within this reach, leaves the timers that aren't touched, and counts what it sends
pub record Goes (r : Reach) (touched : Timer → Bool) (s s' : SystemState) (sends : List Sending) : Type 0 where
  pub within : SendsWithin r (length s.ports) sends
  pub leaves : Leaves touched s s'
  pub counts : AreCounted s s' sends

becomes : (r : Reach) (touched : Timer → Bool) (s t s' : SystemState) (sends : List Sending) → Calm touched s t
    → Becomes t s' sends → Goes r touched s s' sends
becomes r touched s t s' sends calm b = record {
  within = silent r (length s.ports) sends b.silent;
  leaves = subst (Leaves touched s) (sym b.state) calm.leaves;
  counts = subst (λ x. AreCounted s x sends) (sym b.state) (subst (AreCounted s t) (sym b.silent) calm.counts);
}

rests : (r : Reach) (touched : Timer → Bool) (s s' : SystemState) (sends : List Sending) → Becomes s s' sends
    → Goes r touched s s' sends
rests r touched s s' sends b =
    becomes r touched s s s' sends
    (calm_apart touched s s refl refl refl refl (λ off. refl) (λ off. refl) (λ off. refl)) b

-- what is changed before it is selected keeps all ports and spares the other timers
selects : (touched : Timer → Bool) → CoversSelection touched → (now : ℕ) (s t u : SystemState) (sends : List Sending)
    → Calm touched s t → length t.ports ≡ length s.ports → Selects now t u sends → Goes reaches.All touched s u sends
selects touched covers now s t u sends calm long k = record {
  within = at_ports (length s.ports) sends (subst (λ n. AreFew n sends) long (selects_few now t u sends k));
  leaves = leaves_on touched s t u calm.leaves (selects_leaves touched covers now t u sends k);
  counts = counted_on s t u sends calm.counts (selects_counted now t u sends k);
}

-- ---- measuring

turns : (r : Reach) (touched : Timer → Bool) (p : ℕ) (step : PeerState → PeerState) (now : ℕ) (s s' : SystemState)
    (sends : List Sending)
    → (is_turned step (number s.ports p) ≡ true → (r ≡ reaches.All) × CoversSelection touched)
    → Turns p step now s s' sends → Goes r touched s s' sends
turns r touched p step now s s' sends far h = go (is_turned step (number s.ports p)) refl h
  where
    go : (b : Bool) → is_turned step (number s.ports p) ≡ b → TurnsIf b p step now s s' sends
        → Goes r touched s s' sends
    go true is k =
        let (all, covers) = far is in
        subst (λ x. Goes x touched s s' sends) (sym all)
        (selects touched covers now s (turned p step s) s' sends (turned_calm touched covers p step s)
        (change-length (λ (q : Port). record q { peer = step q.peer }) p s.ports) k)
    go false is k =
        becomes r touched s (with_peer p step s) s' sends (calm_peer touched p step s) k

-- a port that turns is there
turned_there : (step : PeerState → PeerState) (p : ℕ) (qs : List Port) → is_turned step (number qs p) ≡ true
    → (1 ≤ p) × (p ≤ length qs)
turned_there step zero qs is = absurd cc
turned_there step (suc i) qs is = go (slice_get qs i) refl is
  where
    go : (o : Option Port) → slice_get qs i ≡ o → is_turned step o ≡ true → (1 ≤ suc i) × (suc i ≤ length qs)
    go None there on = absurd cc
    go (Some q) there on = let within = slice_get_within qs i q there in (omega arith, omega arith)

covers_asking : (p : ℕ) → CoversSelection (is_touched_asking true p)
covers_asking p timer off = go (same_timer (timers.Pdelay p) timer) (is_selected timer) off
  where
    go : (a b : Bool) → (a || (true && b)) ≡ false → b ≡ false
    go true b e = absurd cc
    go false b e = e

itself_touched : (p : ℕ) → (p == p) ≡ false → ⊥
itself_touched p off = let on = eq-eqb p p refl in cc

first_touched : (p : ℕ) (b : Bool) → ((p == p) || b) ≡ false → ⊥
first_touched p b off = let on = eq-eqb p p refl in go (p == p) on off
  where
    go : (a : Bool) → a ≡ true → (a || b) ≡ false → ⊥
    go true is e = cc
    go false is e = cc

turns_and_asks : (stops : Bool) (p : ℕ) (step : PeerState → PeerState) (now : ℕ) (s s' : SystemState)
    (sends : List Sending) → is_turned step (number s.ports p) ≡ stops → TurnsAndAsks p step now s s' sends
    → Goes (asking_reach stops p) (is_touched_asking stops p) s s' sends
turns_and_asks stops p step now s s' sends is k = record {
  within = subst (SendsWithin (asking_reach stops p) (length s.ports)) (sym k.sends_are)
      (sent stops (subst (λ b. TurnsIf b p step now s k.between k.first) is k.turns) is);
  leaves = leaves_on touched s k.between s' first.leaves asked.leaves;
  counts = subst (AreCounted s s') (sym k.sends_are)
      (counted_more s s' (request_of p k.between) k.first refl refl
      (counted_then s k.between s' k.first first.counts asked.counts));
}
  where
    touched : Timer → Bool
    touched = is_touched_asking stops p

    spares : Spares touched p (asking (stamp_time k.between now) (now + interval_of k.between.params.pdelay))
    spares = record {
      announce = λ off q. refl;
      pdelay = λ off q. absurd (first_touched p _ off);
      respond = λ off q. refl;
    }

    far : is_turned step (number s.ports p) ≡ true → (asking_reach stops p ≡ reaches.All) × CoversSelection touched
    far on = let is_true : stops ≡ true = sym is ∙ on in (
      ap (λ b. asking_reach b p) is_true,
      subst (λ b. CoversSelection (is_touched_asking b p)) (sym is_true) (covers_asking p),
    )

    first : Goes (asking_reach stops p) touched s k.between k.first
    first = turns (asking_reach stops p) touched p step now s k.between k.first far k.turns

    asked : Calm touched k.between s'
    asked =
        subst (Calm touched k.between) (sym k.state)
        (calm_port touched p (asking (stamp_time k.between now) (now + interval_of k.between.params.pdelay)) k.between
        spares (λ q. refl) (λ q. refl))

    sent : (b : Bool) → TurnsIf b p step now s k.between k.first → is_turned step (number s.ports p) ≡ b
        → SendsWithin (asking_reach b p) (length s.ports) (with_send (request_of p k.between) k.first)
    sent true h on =
        let (least, most) = turned_there step p s.ports on in
        one_more (request_of p k.between) (length s.ports) k.first least most
        (subst (λ n. AreFew n k.first)
        (change-length (λ (q : Port). record q { peer = step q.peer }) p s.ports)
        (selects_few now (turned p step s) k.between k.first h))
    sent false h off =
        subst (λ xs. AreAt p (with_send (request_of p k.between) xs)) (sym h.silent)
        (record { port = alone; few = omega arith })
      where
        alone : (x : Sending) → In x (request_of p k.between ∷ []) → x.port ≡ p
        alone x (inl here) = ap (λ (y : Sending). y.port) here
        alone x (inr later) = absurd later

-- where a port begins anew, it stops being asCapable if it was
reset_turns : (q : Option Port) → is_turned reset_peer q ≡ option_map_or (λ (q : Port). is_capable q.peer) q false
reset_turns None = refl
reset_turns (Some q) = go (is_capable q.peer)
  where
    go : (b : Bool) → (if b then not (is_capable (reset_peer q.peer)) else is_capable (reset_peer q.peer)) ≡ b
    go true = refl
    go false = refl

goes_down : (p now : ℕ) (s s' : SystemState) (sends : List Sending) → Selects now (down p s) s' sends
    → Goes reaches.All (is_touched (PortDown p) s) s s' sends
goes_down p now s s' sends k =
    selects touched covers now s (down p s) s' sends
    (calm_on touched s (on_port p silenced s) (down p s)
    (calm_port touched p silenced s spares (λ q. refl) (λ q. refl))
    (calm_held touched covers (on_port p silenced s) (down p s).held))
    (change-length silenced p s.ports) k
  where
    touched : Timer → Bool
    touched = is_touched (PortDown p) s

    covers : CoversSelection touched
    covers timer off =
        go (same_timer (timers.Pdelay p) timer) (same_timer (timers.Respond p) timer) (is_selected timer) off
      where
        go : (a b c : Bool) → (a || (b || c)) ≡ false → c ≡ false
        go true b c e = absurd cc
        go false true c e = absurd cc
        go false false c e = e

    spares : Spares touched p silenced
    spares = record {
      announce = λ off q. refl;
      pdelay = λ off q. absurd (first_touched p _ off);
      respond = λ off q. absurd (first_touched p _ off);
    }

-- ---- Announces

no_cover : CoversSelection is_selected
no_cover timer off = off

hears_announce : (p : ℕ) (a : AnnounceView) (now : ℕ) (s s' : SystemState) (sends : List Sending) (answer : Answer)
    → HearsMessage p (messages.Announce a) now s s' sends answer → Goes reaches.All is_selected s s' sends
hears_announce p a now s s' sends answer (inl k) = rests reaches.All is_selected s s' sends k.becomes
hears_announce p a now s s' sends answer (inr (inl k)) = rests reaches.All is_selected s s' sends k.becomes
hears_announce p a now s s' sends answer (inr (inr k)) = go
    (replaces_held (comparison (held_at s p) (own s p) a)) k.selects
  where
    go : (b : Bool) → SelectsIf b now (compared p a now s) s' sends → Goes reaches.All is_selected s s' sends
    go true h =
        selects is_selected no_cover now s (compared p a now s) s' sends
        (calm_held is_selected no_cover s (compared p a now s).held) refl h
    go false h =
        becomes reaches.All is_selected s (compared p a now s) s' sends
        (calm_held is_selected no_cover s (compared p a now s).held) h

-- ---- time

keeps_if : (b : Bool) (r : Reach) (touched : Timer → Bool) (head : Head) (now : ℕ) (s s' : SystemState)
    (sends : List Sending) (answer : Answer)
    → KeepsIf b head now s s' sends answer → Goes r touched s s' sends
keeps_if true r touched head now s s' sends answer k =
    becomes r touched s _ s' sends
    (calm_apart touched s _ refl refl refl refl (λ off. refl) (λ off. refl) (λ off. refl)) k.becomes
keeps_if false r touched head now s s' sends answer k = rests r touched s s' sends k.becomes

hears_sync : (b : Bool) (r : Reach) (touched : Timer → Bool) (p : ℕ) (head : Head) (now : ℕ) (s s' : SystemState)
    (sends : List Sending) (answer : Answer)
    → HearsSyncIf b p head now s s' sends answer → Goes r touched s s' sends
hears_sync false r touched p head now s s' sends answer k = rests r touched s s' sends k.becomes
hears_sync true r touched p head now s s' sends answer k =
    keeps_if (is_followed p head s) r touched head now s s' sends answer k

knows_by : (b : Bool) (info : SyncInfo) (delay rate : ℤ) (now : ℕ) (s s' : SystemState) (sends : List Sending)
    (answer : Answer)
    → KnowsBy b info delay rate now s s' sends answer
    → Goes reaches.Nothing is_of_time s s' sends
knows_by true info delay rate now s s' sends answer k =
    becomes reaches.Nothing is_of_time s _ s' sends
    (calm_apart is_of_time s _ refl refl refl refl (λ off. refl) (λ off. absurd cc) (λ off. absurd cc)) k.becomes
knows_by false info delay rate now s s' sends answer (inl k) =
    becomes reaches.Nothing is_of_time s _ s' sends
    (calm_apart is_of_time s _ refl refl refl refl (λ off. refl) (λ off. absurd cc) (λ off. refl)) k.becomes
knows_by false info delay rate now s s' sends answer (inr k) =
    becomes reaches.Nothing is_of_time s _ s' sends
    (calm_apart is_of_time s _ refl refl refl refl (λ off. refl) (λ off. refl) (λ off. refl)) k.becomes

knows_if : (said : Option SyncInfo) (delay rate : ℤ) (now : ℕ) (s s' : SystemState) (sends : List Sending)
    (answer : Answer)
    → KnowsIf said delay rate now s s' sends answer
    → Goes reaches.Nothing is_of_time s s' sends
knows_if None delay rate now s s' sends answer k = rests reaches.Nothing is_of_time s s' sends k.becomes
knows_if (Some info) delay rate now s s' sends answer k =
    knows_by (has_sync_timeout s.params) info delay rate now s s' sends answer k

hears_follow_up : (b : Bool) (p : ℕ) (m : FollowUp) (now : ℕ) (s s' : SystemState) (sends : List Sending)
    (answer : Answer)
    → HearsFollowUpIf b p m now s s' sends answer → Goes reaches.Nothing is_of_time s s' sends
hears_follow_up false p m now s s' sends answer k =
    rests reaches.Nothing is_of_time s s' sends k.becomes
hears_follow_up true p m now s s' sends answer k =
    knows_if (said_on p m s) (delay_at s p) (root_rate_at s p) now s s' sends answer k

restarted_calm : (now : ℕ) (s : SystemState) → Calm (same_timer timers.Sync) s (restarted now s)
restarted_calm now s =
    calm_apart (same_timer timers.Sync) s _ refl refl refl refl (λ off. absurd cc) (λ off. refl) (λ off. refl)

led_calm : (now : ℕ) (s : SystemState) → Calm (same_timer timers.Sync) s (restarted now (leading now s))
led_calm now s =
    calm_apart (same_timer timers.Sync) s _ refl refl refl refl (λ off. absurd cc) (λ off. refl) (λ off. refl)

stopped_calm : (s : SystemState) → Calm (same_timer timers.Relay) s (timer_stopped s)
stopped_calm s =
    calm_apart (same_timer timers.Relay) s _ refl refl refl refl (λ off. refl) (λ off. absurd cc) (λ off. refl)

-- all Master ports tell time
tells : (touched : Timer → Bool) (told : Relayed) (s t s' : SystemState) (sends : List Sending) → Calm touched s t
    → told_by told t ≡ told_by told s → s' ≡ telling t → sends ≡ told_by told s → Goes reaches.All touched s s' sends
tells touched told s t s' sends calm same is sent = record {
  within = subst (AreAtPorts (length s.ports)) (sym sent) (tells_few told s);
  leaves = subst (Leaves touched s) (sym is) (leaves_on touched s t (telling t) calm.leaves (telling_leaves touched t));
  counts = subst (λ x. AreCounted s x sends) (sym is)
      (counted_on s t (telling t) sends calm.counts
      (subst (AreCounted t (telling t)) (same ∙ sym sent) (telling_counted told t)));
}

syncs_if : (b : Bool) (now : ℕ) (s s' : SystemState) (sends : List Sending) → SyncsIf b now s s' sends
    → Goes reaches.All (same_timer timers.Sync) s s' sends
syncs_if true now s s' sends k =
    tells (same_timer timers.Sync) (own_time k.stamp k.rest) s (restarted now (leading now s)) s' sends
    (led_calm now s) refl k.state k.sends_are
syncs_if false now s s' sends k =
    becomes reaches.All (same_timer timers.Sync) s (restarted now s) s' sends (restarted_calm now s) k

relays_by : (b : Bool) (info : SyncInfo) (now : ℕ) (s s' : SystemState) (sends : List Sending)
    → RelaysBy b info now s s' sends → Goes reaches.All (same_timer timers.Relay) s s' sends
relays_by true info now s s' sends k =
    tells (same_timer timers.Relay) k.told s (timer_stopped s) s' sends (stopped_calm s) refl k.state k.sends_are
relays_by false info now s s' sends (inl k) =
    tells (same_timer timers.Relay) _ s (timer_stopped s) s' sends (stopped_calm s) refl k.state k.sends_are
relays_by false info now s s' sends (inr k) =
    becomes reaches.All (same_timer timers.Relay) s (timer_stopped s) s' sends (stopped_calm s) k.becomes

relays_if : (known : Option SyncInfo) (now : ℕ) (s s' : SystemState) (sends : List Sending)
    → RelaysIf known now s s' sends → Goes reaches.All (same_timer timers.Relay) s s' sends
relays_if None now s s' sends k =
    becomes reaches.All (same_timer timers.Relay) s (timer_stopped s) s' sends (stopped_calm s) k
relays_if (Some info) now s s' sends k = relays_by (has_sync_timeout s.params) info now s s' sends k

-- ---- frames

pub hears_message : (p : ℕ) (m : Message) (now : ℕ) (s s' : SystemState) (sends : List Sending) (answer : Answer)
    → HearsMessage p m now s s' sends answer
    → Goes (type_reach (type_number m)) (is_touched_by (type_number m) p) s s' sends
hears_message p (messages.Sync head) now s s' sends answer k =
    hears_sync (is_capable_at s p) reaches.Nothing (is_touched_by 0x0 p) p head now s s' sends answer k
hears_message p (messages.PdelayReq head) now s s' sends answer k =
    becomes reaches.Nothing (same_timer (timers.Respond p)) s (owes p head now s) s' sends
    (calm_port (same_timer (timers.Respond p)) p (owing _ _) s
    (record {
      announce = λ off q. refl;
      pdelay = λ off q. refl;
      respond = λ off q. absurd (itself_touched p off);
    })
    (λ q. refl) (λ q. refl))
    k.becomes
hears_message p (messages.PdelayResp m) now s s' sends answer k =
    becomes reaches.Nothing (is_touched_by 0x3 p) s
    (with_peer p (after_response m (stamp_time s now)) s) s' sends
    (calm_peer (is_touched_by 0x3 p) p (after_response m (stamp_time s now)) s) k.becomes
hears_message p (messages.FollowUp m) now s s' sends answer k =
    hears_follow_up (is_capable_at s p) p m now s s' sends answer k
hears_message p (messages.PdelayRespFollowUp m) now s s' sends answer k =
    turns reaches.All is_selected p (after_follow_up m) now s s' sends (λ on. (refl, no_cover)) k.turns
hears_message p (messages.Announce a) now s s' sends answer k = hears_announce p a now s s' sends answer k

hears_frame : (p : ℕ) (octets : List ℕ) (now : ℕ) (s s' : SystemState) (sends : List Sending) (answer : Answer)
    → HearsFrame p octets now s s' sends answer
    → Goes (reach (Frame p octets) s) (is_touched (Frame p octets) s) s s' sends
hears_frame p octets now s s' sends answer (inl k) =
    subst (λ kind. Goes (type_reach kind) (is_touched_by kind p) s s' sends) (sym (type_is octets k.message k.reads))
    (hears_message p k.message now s s' sends answer k.hears)
hears_frame p octets now s s' sends answer (inr k) =
    rests (reach (Frame p octets) s) (is_touched (Frame p octets) s) s s' sends k.becomes

-- ---- all steps

answering_quiet : Answering ≡ Announcing → ⊥
answering_quiet e = cc

answering_dumb : Answering ≡ Telling → ⊥
answering_dumb e = cc

expires : (timer : Timer) (now : ℕ) (s s' : SystemState) (sends : List Sending) → TimerExpires timer now s s' sends
    → Goes (timer_reach timer s) (is_touched (Expires timer) s) s s' sends
expires (timers.Announce p) now s s' sends k = record {
  within = subst (AreAt p) (sym k.sends_are) (announcement_few p s);
  leaves = subst (Leaves (same_timer (timers.Announce p)) s) (sym k.state)
      (on_port_leaves (same_timer (timers.Announce p)) p (announced_again now)
      (record {
        announce = λ off q. absurd (itself_touched p off);
        pdelay = λ off q. refl;
        respond = λ off q. refl;
      })
      s);
  counts = subst (λ x. AreCounted s x sends) (sym k.state)
      (subst (AreCounted s (announced_at p now s)) (sym k.sends_are) (announced_counted p now s));
}
expires (timers.Age p) now s s' sends k =
    selects is_selected no_cover now s (aged_at p now s) s' sends
    (calm_held is_selected no_cover s (aged_at p now s).held) refl k
expires (timers.Pdelay p) now s s' sends k = turns_and_asks (stops_at p s) p after_interval now s s' sends refl k
expires (timers.Respond p) now s s' sends k = record {
  within = responds_few (owed_at s p) p now s sends k.responds;
  leaves = subst (Leaves (same_timer (timers.Respond p)) s) (sym k.state)
      (on_port_leaves (same_timer (timers.Respond p)) p answering_done
      (record {
        announce = λ off q. refl;
        pdelay = λ off q. refl;
        respond = λ off q. absurd (itself_touched p off);
      })
      s);
  counts = subst (λ x. AreCounted s x sends) (sym k.state)
      (counted_other Answering answering_quiet answering_dumb s (responded p s) sends
      (responds_answer (owed_at s p) p now s sends k.responds)
      (counted_on_port p answering_done s (λ q. refl) (λ q. refl)));
}
expires timers.Sync now s s' sends k = syncs_if (is_leading s) now s s' sends k
expires timers.Relay now s s' sends k = relays_if s.known now s s' sends k
expires timers.Lapse now s s' sends k =
    selects is_selected no_cover now s (lapsed s) s' sends (lapsed_calm is_selected no_cover s) refl k

pub steps_reach : (input : Input) (now : ℕ) (s s' : SystemState) (sends : List Sending) (answer : Answer)
    → Steps input now s s' sends answer → Goes (reach input s) (is_touched input s) s s' sends
steps_reach (PortUp p) now s s' sends answer k =
    turns_and_asks (is_capable_at s p) p reset_peer now s s' sends (reset_turns (number s.ports p)) k
steps_reach (PortDown p) now s s' sends answer k = goes_down p now s s' sends k
steps_reach (Frame p octets) now s s' sends answer k = hears_frame p octets now s s' sends answer k
steps_reach (Expires timer) now s s' sends answer k = expires timer now s s' sends k
steps_reach (Priority value) now s s' sends answer k =
    selects is_selected no_cover now s (with_priority value s) s' sends
    (calm_apart is_selected s (with_priority value s) refl refl refl refl (λ off. refl) (λ off. refl) (λ off. refl))
    refl k
