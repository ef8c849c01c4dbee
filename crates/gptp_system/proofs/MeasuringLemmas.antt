-- The measuring of a port, and selection after it.
use Rattle.std.proofs.Common.{◌≡◌, ℕ, ◌+◌, ◌-◌, ◌≤◌, ℤ, Bool, true, false, nat_le, if◌then◌else◌, List, [], ◌∷◌, length, Option, Some, None, get_or, set, refl, sym, ap, ◌∙◌, subst, arith, FitsSigned, w8, to_z, of_z}
use Rattle.std.proofs.lemmas.Int.{ints, to_z-of_z}
use Rattle.std.specs.List.{prefix_len}
use Rattle.std.specs.Option.{option_map_or}
use Rattle.arrayvec.specs.ArrayVec.{with_items}
use Rattle.gptp_receipt.specs.declared.held.Held.{Held}
use Rattle.gptp_receipt.specs.Held.{received}
use Rattle.gptp_roles.specs.Role.{is_fresh}
use Rattle.gptp_roles.proofs.EachLemmas.{length-each_from}
use Rattle.gptp_pdelay.specs.declared.progress.Progress.{Progress}
use Rattle.gptp_messages.specs.declared.peer_delay.PdelayResp.{PdelayResp}
use Rattle.gptp_messages.specs.declared.peer_delay.PdelayRespFollowUp.{PdelayRespFollowUp}
use Rattle.gptp_pdelay.specs.Peer.{PeerState, is_capable, changes_capability, after_follow_up, after_interval, after_response, answered_by, completed, given_up, is_open, loses_too_many, measured_by}
use Rattle.gptp_pdelay.specs.declared.exchange.Measurement.{Measurement}
use Rattle.gptp_system.specs.declared.port.Port.{Port}
use Rattle.gptp_system.specs.declared.sending.Sending.{Sending}
use Rattle.gptp_system.specs.declared.state.State.{State}
use Rattle.gptp_setup.specs.declared.limits.TheConstants.{MOST_PORTS}
use Rattle.gptp_setup.specs.Intervals.{IsLog}
use Rattle.gptp_system.specs.Measuring.{down, held_if, held_turned, is_turned, settled, SettlesIf, silenced, turned, Turns, TurnsIf}
use Rattle.gptp_system.specs.Ready.{IsReady, state_of}
use Rattle.gptp_system.specs.Selection.{fresh_ports, Selects}
use Rattle.gptp_system.specs.Sends.{sends_up_to}
use Rattle.gptp_system.specs.State.{SystemState, clock, number, on_held, on_port, with_peer}
use Rattle.gptp_system.proofs.AnnouncementLemmas.{length-all_announced, length-announcements}
use Rattle.gptp_system.proofs.ChangedLemmas.{change-length}
use Rattle.gptp_system.proofs.WrittenLemmas.{held_ready, held_written, number_at, number-change, port_ready, port_written}

-- ---- selection

flags-length : (now : ℕ) (s s' : SystemState) (sends : List Sending) (selects : Selects now s s' sends)
    → length (fresh_ports selects.vector s) ≡ length s.held
flags-length now s s' sends selects = length-each_from (is_fresh selects.vector (clock s)) 1 s.held

-- it sends at most once on a port
pub selects_few : (now : ℕ) (s s' : SystemState) (sends : List Sending) → IsReady s → Selects now s s' sends
    → length sends ≤ MOST_PORTS
selects_few now s s' sends ready selects =
    let v = selects.vector in
    let most = length-announcements (clock s) v.root v.steps 1 (fresh_ports v s) s.ports in
    let flags = flags-length now s s' sends selects in
    omega (arith, ap length selects.sends_are, most, flags, ready.places, ready.few)

-- and keeps the number of ports
pub selects_places : (now : ℕ) (s s' : SystemState) (sends : List Sending) → IsReady s → Selects now s s' sends
    → length s'.ports ≡ length s.ports
selects_places now s s' sends ready selects =
    let flags = flags-length now s s' sends selects in
    let few : length (fresh_ports selects.vector s) ≤ length s.ports = omega (arith, flags, ready.places) in
    ap (λ (t : SystemState). length t.ports) selects.state
    ∙ length-all_announced now (fresh_ports selects.vector s) s.ports few

-- ---- a step of the measuring

-- what a port holds is nothing that it received
pub held_if-empty : (b : Bool) → received (held_if b) ≡ None
held_if-empty true = refl
held_if-empty false = refl

-- a step that leaves what is owed leaves a port ready
pub step_ready : (step : PeerState → PeerState) → ((q : PeerState) → (step q).waiting ≡ q.waiting)
    → (p : ℕ) (s : SystemState) → IsReady s → IsReady (with_peer p step s)
step_ready step keeps p s ready =
    port_ready p _ s (λ q is. record { log_interval = is.log_interval; waiting = rw (keeps q.peer) is.waiting }) ready

settled_is : (p : ℕ) (step : PeerState → PeerState) (s : SystemState) (q : Port) → number s.ports p ≡ Some q
    → settled p (with_peer p step s) ≡ turned p step s
settled_is p step s q here =
    let after = number-change (λ (one : Port). record one { peer = step one.peer }) p s.ports q here in
    ap (λ (o : Option Port). on_held p (λ h. held_if (option_map_or (λ (one : Port). is_capable one.peer) o false))
    (with_peer p step s)) after
    ∙ sym (ap (λ (o : Option Port). on_held p (held_turned step o) (with_peer p step s)) here)

by_turn : (b : Bool) (p : ℕ) (step : PeerState → PeerState) (now : ℕ) (s s' : SystemState) (sends : List Sending)
    (q : Port) → number s.ports p ≡ Some q
    → SettlesIf b p now (with_peer p step s) s' sends → TurnsIf b p step now s s' sends
by_turn true p step now s s' sends q here settles =
    subst (λ (t : SystemState). Selects now t s' sends) (settled_is p step s q here) settles
by_turn false p step now s s' sends q here settles = settles

-- a port that was written after a step, and settled, has turned
pub has_turned : (s : State) (s' : SystemState) (sends : List Sending) (step : PeerState → PeerState) (p now i : ℕ)
    (xs : List Port) (d y : Port) (b : Bool)
    → 1 ≤ p → p ≤ length s.ports.items → xs ≡ s.ports.items → i ≡ p - 1
    → y ≡ record (get_or xs i d) { peer = step (get_or xs i d).peer }
    → b ≡ changes_capability (get_or xs i d).peer (step (get_or xs i d).peer)
    → SettlesIf b p now (state_of (record s { ports = with_items s.ports (set xs i y) })) s' sends
    → Turns p step now (state_of s) s' sends
has_turned s s' sends step p now i xs d y b least most items place value changed settles =
    let written = port_written s (λ (one : Port). record one { peer = step one.peer }) p i xs d y least most items
    place value in
    let at = number_at s.ports.items p i xs d least most items place in
    let turns = by_turn b p step now (state_of s) s' sends (get_or xs i d)
    at (subst (λ (t : SystemState). SettlesIf b p now t s' sends) written settles) in
    subst (λ (c : Bool). TurnsIf c p step now (state_of s) s' sends) (changed ∙ sym (ap (is_turned step) at)) turns

-- ---- what is owed stays

either_keeps : (b : Bool) (x y q : PeerState) → x.waiting ≡ q.waiting → y.waiting ≡ q.waiting
    → (if b then x else y).waiting ≡ q.waiting
either_keeps true x y q first second = first
either_keeps false x y q first second = second

perhaps_keeps : {X : Type 0} (f : X → PeerState) (o : Option X) (q : PeerState) → ((x : X) → (f x).waiting ≡ q.waiting)
    → (option_map_or f o q).waiting ≡ q.waiting
perhaps_keeps f None q keeps = refl
perhaps_keeps f (Some x) q keeps = keeps x

-- where an interval ends
pub interval_keeps : (q : PeerState) → (after_interval q).waiting ≡ q.waiting
interval_keeps q =
    either_keeps (is_open q.progress) (given_up q) q q (either_keeps (loses_too_many q) _ _ q refl refl) refl

-- where a response comes
pub response_keeps : (m : PdelayResp) (t4 : ℤ) (q : PeerState) → (after_response m t4 q).waiting ≡ q.waiting
response_keeps m t4 q =
    perhaps_keeps (λ (progress : Progress). record q { progress = progress }) (answered_by m t4 q.own q.progress) q
    (λ _. refl)

-- and where a follow-up comes
pub follow_up_keeps : (m : PdelayRespFollowUp) (q : PeerState) → (after_follow_up m q).waiting ≡ q.waiting
follow_up_keeps m q =
    perhaps_keeps (λ (one : Measurement). completed one q) (measured_by m q.own q.last q.past q.progress) q (λ _. refl)

-- ---- sends

-- how many sends are of ports up to one, counted by a test
pub up_to_is : (p : ℕ) (xs : List Sending) → prefix_len (λ (one : Sending). nat_le one.port p) xs ≡ sends_up_to p xs
up_to_is p [] = refl
up_to_is p (x ∷ xs) = ap (λ (n : ℕ). if nat_le x.port p then 1 + n else 0) (up_to_is p xs)

-- ---- states that are written

-- what a port holds is written by whether it is asCapable
pub holding_ready : (s : State) (b : Bool) (p i : ℕ) (hs : List Held) (e h : Held) → 1 ≤ p → p ≤ length s.ports.items
    → hs ≡ s.held.items → i ≡ p - 1 → h ≡ held_if b
    → IsReady (state_of s) → IsReady (state_of (record s { held = with_items s.held (set hs i h) }))
holding_ready s b p i hs e h least most items place value ready =
    let there : p ≤ length s.held.items = omega (arith, most, ready.places) in
    let written = held_written s (λ _. held_if b) p i hs e h least there items place value in
    subst IsReady (sym written) (held_ready p (λ _. held_if b) (state_of s) (λ _. held_if-empty b) ready)

pub holding_settles : (s : State) (b : Bool) (p i j : ℕ) (hs : List Held) (e h : Held) (qs : List Port) (d : Port)
    → 1 ≤ p → p ≤ length s.ports.items
    → hs ≡ s.held.items → i ≡ p - 1 → h ≡ held_if b → qs ≡ s.ports.items → j ≡ p - 1
    → b ≡ is_capable (get_or qs j d).peer
    → IsReady (state_of s) → state_of (record s { held = with_items s.held (set hs i h) }) ≡ settled p (state_of s)
holding_settles s b p i j hs e h qs d least most helds place value ports place-again capable ready =
    let there : p ≤ length s.held.items = omega (arith, most, ready.places) in
    let written = held_written s (λ _. held_if b) p i hs e h least there helds place value in
    let at = number_at s.ports.items p j qs d least most ports place-again in
    let is = capable ∙ sym (ap (λ (o : Option Port). option_map_or (λ (q : Port). is_capable q.peer) o false) at) in
    written ∙ ap (λ (c : Bool). on_held p (λ _. held_if c) (state_of s)) is

-- a port is silenced, and takes no part
pub down_written : (s : State) (p i j : ℕ) (qs : List Port) (d q : Port) (hs : List Held) (e h : Held) → 1 ≤ p
    → p ≤ length s.ports.items → p ≤ length s.held.items
    → qs ≡ s.ports.items → i ≡ p - 1 → q ≡ silenced (get_or qs i d) → hs ≡ s.held.items → j ≡ p - 1 → h ≡ held_if false
    → state_of (record s { ports = with_items s.ports (set qs i q); held = with_items s.held (set hs j h) })
    ≡ down p (state_of s)
down_written s p i j qs d q hs e h least most there ports place is-silenced helds place-again is-held =
    held_written (record s { ports = with_items s.ports (set qs i q) }) (λ _. held_if false) p j hs e h least there
    helds place-again is-held
    ∙ ap (λ (t : SystemState). on_held p (λ _. held_if false) t)
    (port_written s silenced p i qs d q least most ports place is-silenced)

pub down_ready : (p : ℕ) (s : SystemState) → IsReady s → IsReady (down p s)
down_ready p s ready =
    held_ready p (λ _. held_if false) (on_port p silenced s) (λ _. refl)
    (port_ready p silenced s (λ q is. record { log_interval = is.log_interval; waiting = is.waiting }) ready)

-- a port is written after a step
pub stepped_ready : (s : State) (step : PeerState → PeerState) (p i : ℕ) (qs : List Port) (d q : Port)
    → ((one : PeerState) → (step one).waiting ≡ one.waiting)
    → 1 ≤ p → p ≤ length s.ports.items → qs ≡ s.ports.items → i ≡ p - 1
    → q ≡ record (get_or qs i d) { peer = step (get_or qs i d).peer }
    → IsReady (state_of s) → IsReady (state_of (record s { ports = with_items s.ports (set qs i q) }))
stepped_ready s step p i qs d q keeps least most ports place value ready =
    let written = port_written s (λ (one : Port). record one { peer = step one.peer }) p i qs d q least most ports
    place value in
    subst IsReady (sym written) (step_ready step keeps p (state_of s) ready)

-- the ports keep their number
pub stepped_places : (s : State) (step : PeerState → PeerState) (p i : ℕ) (qs : List Port) (d q : Port)
    → 1 ≤ p → p ≤ length s.ports.items → qs ≡ s.ports.items → i ≡ p - 1
    → q ≡ record (get_or qs i d) { peer = step (get_or qs i d).peer }
    → length (with_items s.ports (set qs i q)).items ≡ length s.ports.items
stepped_places s step p i qs d q least most ports place value =
    let written = port_written s (λ (one : Port). record one { peer = step one.peer }) p i qs d q least most ports
    place value in
    ap (λ (t : SystemState). length t.ports) written
    ∙ change-length (λ (one : Port). record one { peer = step one.peer }) p s.ports.items

-- a logarithm of an interval goes to 8 bits and back
pub log_back : (log : ℤ) → IsLog log → to_z w8 (of_z w8 log) ≡ log
log_back log is = let fits : FitsSigned w8 log = omega (arith, ints, is.low, is.high) in to_z-of_z w8 log fits
