-- Which messages each step sends, case by case.
use Rattle.std.proofs.Common.{◌≡◌, ◌<◌, ℕ, zero, suc, ◌+◌, ℤ, Bool, true, false, List, [], ◌∷◌, length, get_or, Option, Some, None, slice_get, refl, sym, ap, subst, ◌∙◌, inl, inr, arith}
use Rattle.std.specs.Prelude.{if◌then◌else◌, ◌==◌}
use Rattle.std.specs.Option.{option_map_or, option_and_then}
use Rattle.std.proofs.lemmas.Option.{none-some, slice_get-get_or, slice_get_within}
use Rattle.gptp_lists.specs.Members.{In}
use Rattle.gptp_messages.specs.declared.announce.AnnounceView.{AnnounceView}
use Rattle.gptp_messages.specs.declared.follow_up.FollowUp.{FollowUp}
use Rattle.gptp_messages.specs.declared.head.Head.{Head}
use Rattle.gptp_messages.specs.declared.message.Message.{Message}
use Rattle.gptp_messages.specs.declared.message.Message.TheVariants as messages
use Rattle.gptp_receipt.specs.Held.{comparison}
use Rattle.gptp_correction.specs.declared.correction.Relayed.{Relayed}
use Rattle.gptp_correction.specs.declared.sync_in.SyncInfo.{SyncInfo}
use Rattle.gptp_pdelay.specs.declared.progress.Progress.TheVariants as progresses
use Rattle.gptp_pdelay.specs.Peer.{PeerState, after_follow_up, after_interval, is_open, loses_too_many, reset_peer}
use Rattle.gptp_system.specs.declared.answer.Answer.{Answer}
use Rattle.gptp_system.specs.declared.port.Port.{Port}
use Rattle.gptp_system.specs.declared.sending.Sending.{Sending}
use Rattle.gptp_setup.specs.declared.timer.Timer.{Timer}
use Rattle.gptp_setup.specs.declared.timer.Timer.TheVariants as timers
use Rattle.gptp_system.specs.State.{SystemState, clock, due, held_at, is_capable_at, number, own}
use Rattle.gptp_system.specs.Sends.{announcement, with_send}
use Rattle.gptp_system.specs.Selection.{Selects, SelectsIf, announcements, fresh_ports}
use Rattle.gptp_system.specs.Measuring.{Turns, TurnsAndAsks, TurnsIf, is_turned, request_of}
use Rattle.gptp_system.specs.Announcing.{announcement_at, compared, replaces_held}
use Rattle.gptp_setup.specs.SettlingParams.{has_sync_timeout}
use Rattle.gptp_system.specs.Syncing.{HearsFollowUpIf, HearsSyncIf, KeepsIf, KnowsBy, KnowsIf, RelaysBy, RelaysIf, SyncsIf, delay_at, is_followed, is_leading, own_time, root_rate_at, said_on, told_by}
use Rattle.gptp_system.specs.Steps.{Expires as TimerExpires, HearsFrame, HearsMessage}
use Rattle.gptp_system.specs.Input.{Input, IsTimely, Steps, PortUp, PortDown, Frame, Expires, Priority}
use Rattle.gptp_system.specs.Facts.{Keeps}
use Rattle.gptp_system.specs.Measures.{Part, only_at, measure_at, part_stepped}
use Rattle.gptp_system.specs.Messages.{AllAre, Announcing, AreSent, AsksOnce, Kind, Telling, message_kind}
use Rattle.gptp_system.proofs.FactLemmas.{keeps_length}
use Rattle.gptp_system.proofs.StepLemmas.{turns as turns_steady}
use Rattle.gptp_system.proofs.MeasureLemmas.{turns as turns_parts}
use Rattle.gptp_system.proofs.SendLemmas.{syncs_tell}
use Rattle.gptp_system.proofs.TimelyLemmas.{moment_of, port_stands}

silent_all : (kind : Kind) (sends : List Sending) → sends ≡ [] → AllAre kind sends
silent_all kind sends none x member = absurd (subst (In x) none member)

pub announcements_announce : (c root steps n : ℕ) (fs : List Bool) (qs : List Port)
    → AllAre Announcing (announcements c root steps n fs qs)
announcements_announce c root steps n [] qs x member = absurd member
announcements_announce c root steps n (f ∷ fs) [] x member = absurd member
announcements_announce c root steps n (f ∷ fs) (q ∷ qs) x member =
    go f (announcements_announce c root steps (n + 1) fs qs x) member
  where
    first : Sending
    first = announcement (record { clock = c; port = n }) root steps q

    rest : List Sending
    rest = announcements c root steps (n + 1) fs qs

    go : (b : Bool) → (In x rest → message_kind x.body ≡ Announcing) → In x (if b then first ∷ rest else rest)
        → message_kind x.body ≡ Announcing
    go true ih (inl here) = rw here refl
    go true ih (inr later) = ih later
    go false ih later = ih later

selects : (now : ℕ) (t u : SystemState) (sends : List Sending) → Selects now t u sends → AllAre Announcing sends
selects now t u sends k =
    subst (AllAre Announcing) (sym k.sends_are)
    (announcements_announce (clock t) k.vector.root k.vector.steps 1 (fresh_ports k.vector t) t.ports)

selects_if : (b : Bool) (now : ℕ) (t u : SystemState) (sends : List Sending) → SelectsIf b now t u sends
    → AllAre Announcing sends
selects_if true now t u sends k = selects now t u sends k
selects_if false now t u sends k = silent_all Announcing sends k.silent

turns : (p : ℕ) (step : PeerState → PeerState) (now : ℕ) (s s' : SystemState) (sends : List Sending)
    → Turns p step now s s' sends
    → AllAre Announcing sends
turns p step now s s' sends h = go (is_turned step (number s.ports p)) h
  where
    go : (b : Bool) → TurnsIf b p step now s s' sends → AllAre Announcing sends
    go true k = selects now _ s' sends k
    go false k = silent_all Announcing sends k.silent

-- ---- requests

only_next : (p n : ℕ) (step : PeerState → PeerState) → ((x : PeerState) → (step x).next ≡ x.next) → (x : Part)
    → (only_at p (part_stepped step) n x).peer.next ≡ x.peer.next
only_next p n step same x = go (n == p)
  where
    go : (b : Bool) → (if b then part_stepped step x else x).peer.next ≡ x.peer.next
    go true = same x.peer
    go false = refl

-- the sequence number is the one that the port had before the step
next_kept : (p : ℕ) (step : PeerState → PeerState) (now : ℕ) (s t : SystemState) (sends : List Sending) (q : Port)
    → ((x : PeerState) → (step x).next ≡ x.next) → number s.ports p ≡ Some q → Turns p step now s t sends
    → request_of p t ≡ request_of p s
next_kept zero step now s t sends q same there k = absurd (none-some q there)
next_kept (suc i) step now s t sends q same there k =
    go (slice_get-get_or t.ports i q within)
  where
    kept : Keeps s t
    kept = (turns_steady (suc i) step now s t sends k).sound.kept

    within : i < length t.ports
    within = let long = keeps_length s t kept in let before = slice_get_within s.ports i q there in omega arith

    go : slice_get t.ports i ≡ Some (get_or t.ports i q) → request_of (suc i) t ≡ request_of (suc i) s
    go stands = by (turns_parts (suc i) step now s t sends k i (get_or t.ports i q) stands)
      where
        by : ((p : Port) × (slice_get s.ports i ≡ Some p) ×
            (measure_at (get_or t.ports i q) ≡ only_at (suc i) (part_stepped step) (suc i) (measure_at p)))
            → request_of (suc i) t ≡ request_of (suc i) s
        by (p, was, is) =
            let next : (get_or t.ports i q).peer.next ≡ p.peer.next =
            ap (λ (x : Part). x.peer.next) is ∙ only_next (suc i) (suc i) step same (measure_at p) in
            let after : option_map_or (λ (x : Port). x.peer.next) (slice_get t.ports i) 0 ≡
            (get_or t.ports i q).peer.next =
            ap (λ o. option_map_or (λ (x : Port). x.peer.next) o 0) stands in
            let before : option_map_or (λ (x : Port). x.peer.next) (slice_get s.ports i) 0 ≡ p.peer.next =
            ap (λ o. option_map_or (λ (x : Port). x.peer.next) o 0) was in
            rw (kept.same_clock, kept.params, after, next, before) refl

asks_once : (p : ℕ) (step : PeerState → PeerState) (now : ℕ) (s s' : SystemState) (sends : List Sending) (q : Port)
    → ((x : PeerState) → (step x).next ≡ x.next) → number s.ports p ≡ Some q → TurnsAndAsks p step now s s' sends
    → AsksOnce s p sends
asks_once p step now s s' sends q same there k = record {
  announces = k.first;
  all = turns p step now s k.between k.first k.turns;
  is = k.sends_are ∙ ap (λ x. with_send x k.first) (next_kept p step now s k.between k.first q same there k.turns);
}

-- the sequence number of the next request stays
pub interval_next : (x : PeerState) → (after_interval x).next ≡ x.next
interval_next x = go (is_open x.progress) (loses_too_many x)
  where
    go : (open_one too_many : Bool)
        → (if open_one
        then (if too_many then reset_peer x else record x { progress = progresses.Closed; lost = x.lost + 1 })
        else x).next ≡ x.next
    go true true = refl
    go true false = refl
    go false too_many = refl

-- ---- time

tells : (told : Relayed) (s : SystemState) (sends : List Sending) → sends ≡ told_by told s → AllAre Telling sends
tells told s sends is x member = syncs_tell (clock s) s.params.sync told 1 s.held s.ports x (subst (In x) is member)

syncs_if : (b : Bool) (now : ℕ) (s s' : SystemState) (sends : List Sending) → SyncsIf b now s s' sends
    → AllAre Telling sends
syncs_if true now s s' sends k = tells (own_time k.stamp k.rest) s sends k.sends_are
syncs_if false now s s' sends k = silent_all Telling sends k.silent

relays_by : (b : Bool) (info : SyncInfo) (now : ℕ) (s s' : SystemState) (sends : List Sending)
    → RelaysBy b info now s s' sends → AllAre Telling sends
relays_by true info now s s' sends k = tells k.told s sends k.sends_are
relays_by false info now s s' sends (inl k) = tells _ s sends k.sends_are
relays_by false info now s s' sends (inr k) = silent_all Telling sends k.becomes.silent

relays_if : (known : Option SyncInfo) (now : ℕ) (s s' : SystemState) (sends : List Sending)
    → RelaysIf known now s s' sends → AllAre Telling sends
relays_if None now s s' sends k = silent_all Telling sends k.silent
relays_if (Some info) now s s' sends k = relays_by (has_sync_timeout s.params) info now s s' sends k

hears_sync : (b : Bool) (p : ℕ) (head : Head) (now : ℕ) (s s' : SystemState) (sends : List Sending) (answer : Answer)
    → HearsSyncIf b p head now s s' sends answer → AllAre Announcing sends
hears_sync false p head now s s' sends answer k = silent_all Announcing sends k.becomes.silent
hears_sync true p head now s s' sends answer h = go (is_followed p head s) h
  where
    go : (b : Bool) → KeepsIf b head now s s' sends answer → AllAre Announcing sends
    go true k = silent_all Announcing sends k.becomes.silent
    go false k = silent_all Announcing sends k.becomes.silent

knows_by : (b : Bool) (info : SyncInfo) (delay rate : ℤ) (now : ℕ) (s s' : SystemState) (sends : List Sending)
    (answer : Answer)
    → KnowsBy b info delay rate now s s' sends answer → AllAre Announcing sends
knows_by true info delay rate now s s' sends answer k = silent_all Announcing sends k.becomes.silent
knows_by false info delay rate now s s' sends answer (inl k) = silent_all Announcing sends k.becomes.silent
knows_by false info delay rate now s s' sends answer (inr k) = silent_all Announcing sends k.becomes.silent

knows_if : (said : Option SyncInfo) (delay rate : ℤ) (now : ℕ) (s s' : SystemState) (sends : List Sending)
    (answer : Answer)
    → KnowsIf said delay rate now s s' sends answer → AllAre Announcing sends
knows_if None delay rate now s s' sends answer k = silent_all Announcing sends k.becomes.silent
knows_if (Some info) delay rate now s s' sends answer k =
    knows_by (has_sync_timeout s.params) info delay rate now s s' sends answer k

hears_follow_up : (b : Bool) (p : ℕ) (m : FollowUp) (now : ℕ) (s s' : SystemState) (sends : List Sending)
    (answer : Answer)
    → HearsFollowUpIf b p m now s s' sends answer → AllAre Announcing sends
hears_follow_up false p m now s s' sends answer k = silent_all Announcing sends k.becomes.silent
hears_follow_up true p m now s s' sends answer k =
    knows_if (said_on p m s) (delay_at s p) (root_rate_at s p) now s s' sends answer k

-- ---- all steps

hears_announce : (p : ℕ) (a : AnnounceView) (now : ℕ) (s s' : SystemState) (sends : List Sending) (answer : Answer)
    → HearsMessage p (messages.Announce a) now s s' sends answer → AllAre Announcing sends
hears_announce p a now s s' sends answer (inl k) = silent_all Announcing sends k.becomes.silent
hears_announce p a now s s' sends answer (inr (inl k)) = silent_all Announcing sends k.becomes.silent
hears_announce p a now s s' sends answer (inr (inr k)) =
    selects_if (replaces_held (comparison (held_at s p) (own s p) a)) now (compared p a now s) s' sends k.selects

hears_message : (p : ℕ) (m : Message) (now : ℕ) (s s' : SystemState) (sends : List Sending) (answer : Answer)
    → HearsMessage p m now s s' sends answer → AllAre Announcing sends
hears_message p (messages.Sync head) now s s' sends answer k =
    hears_sync (is_capable_at s p) p head now s s' sends answer k
hears_message p (messages.PdelayReq head) now s s' sends answer k = silent_all Announcing sends k.becomes.silent
hears_message p (messages.PdelayResp m) now s s' sends answer k = silent_all Announcing sends k.becomes.silent
hears_message p (messages.FollowUp m) now s s' sends answer k =
    hears_follow_up (is_capable_at s p) p m now s s' sends answer k
hears_message p (messages.PdelayRespFollowUp m) now s s' sends answer k =
    turns p (after_follow_up m) now s s' sends k.turns
hears_message p (messages.Announce a) now s s' sends answer k = hears_announce p a now s s' sends answer k

hears_frame : (p : ℕ) (octets : List ℕ) (now : ℕ) (s s' : SystemState) (sends : List Sending) (answer : Answer)
    → HearsFrame p octets now s s' sends answer → AllAre Announcing sends
hears_frame p octets now s s' sends answer (inl k) = hears_message p k.message now s s' sends answer k.hears
hears_frame p octets now s s' sends answer (inr k) = silent_all Announcing sends k.becomes.silent

announcement_announces : (p : ℕ) (s : SystemState) → AllAre Announcing (announcement_at p s)
announcement_announces p s = go (number s.ports p)
  where
    go : (o : Option Port)
        → AllAre Announcing (option_map_or (λ (q : Port). announcement (own s p) s.root s.steps q ∷ []) o [])
    go None x member = absurd member
    go (Some q) x (inl here) = rw here refl
    go (Some q) x (inr later) = absurd later

-- a port whose timer is due is there
pub port_there : (p t : ℕ) (s : SystemState) → due (timers.Pdelay p) s ≡ Some t
    → (q : Port) × (number s.ports p ≡ Some q)
port_there p t s is = go (number s.ports p) refl is
  where
    go : (o : Option Port) → number s.ports p ≡ o → option_and_then (λ (q : Port). q.pdelay) o ≡ Some t
        → (q : Port) × (number s.ports p ≡ Some q)
    go None there e = absurd (none-some t e)
    go (Some q) there e = (q, there)

expires : (timer : Timer) (now t : ℕ) (s s' : SystemState) (sends : List Sending) → due timer s ≡ Some t
    → TimerExpires timer now s s' sends
    → AreSent s now (Expires timer) sends
expires (timers.Announce p) now t s s' sends is k =
    subst (AllAre Announcing) (sym k.sends_are) (announcement_announces p s)
expires (timers.Age p) now t s s' sends is k = selects now _ s' sends k
expires (timers.Pdelay p) now t s s' sends is k =
    let (q, there) = port_there p t s is in
    asks_once p after_interval now s s' sends q interval_next there k
expires (timers.Respond p) now t s s' sends is k = k.responds
expires timers.Sync now t s s' sends is k = syncs_if (is_leading s) now s s' sends k
expires timers.Relay now t s s' sends is k = relays_if s.known now s s' sends k
expires timers.Lapse now t s s' sends is k = selects now _ s' sends k

pub steps_send : (input : Input) (now : ℕ) (s s' : SystemState) (sends : List Sending) (answer : Answer)
    → IsTimely s now input
    → Steps input now s s' sends answer → AreSent s now input sends
steps_send (PortUp p) now s s' sends answer calm k =
    let (q, there) = port_stands s p calm in
    asks_once p reset_peer now s s' sends q (λ x. refl) there k
steps_send (PortDown p) now s s' sends answer calm k = selects now _ s' sends k
steps_send (Frame p octets) now s s' sends answer calm k = hears_frame p octets now s s' sends answer k
steps_send (Expires timer) now s s' sends answer calm k =
    let (t, is, past) = moment_of (due timer s) now calm in expires timer now t s s' sends is k
steps_send (Priority value) now s s' sends answer calm k = selects now _ s' sends k
