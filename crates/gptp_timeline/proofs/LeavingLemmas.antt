-- Which acts leave what is shown of every system as it was.
use Rattle.std.proofs.Common.{◌≡◌, ◌%◌, ◌==◌, ℕ, ℤ, zero, suc, Bool, true, false, List, [], ◌∷◌, map, length, Option, Some, None, if◌then◌else◌, option_map, is_some, slice_get, slice_set, inl, inr, refl, sym, ap, subst, ◌∙◌, arith}
use Rattle.std.specs.Prelude.{◌||◌}
use Rattle.std.specs.List.{range_with_len}
use Rattle.std.specs.Option.{option_map_or}
use Rattle.std.proofs.lemmas.Bool.Decides.{nat_tests}
use Rattle.std.proofs.lemmas.Option.{same_Some, slice_get-map}
use Rattle.gptp_model.specs.Act.{in_state, Calls, Hears}
use Rattle.gptp_model.specs.Carried.{first_type}
use Rattle.gptp_model.specs.World.{WorldState, receiver}
use Rattle.gptp_model.specs.declared.done.Done.{Done}
use Rattle.gptp_model.specs.declared.done.Done.TheVariants.{Heard, Quiet}
use Rattle.gptp_model.specs.declared.station.Station.{Station}
use Rattle.gptp_model.proofs.SteadyLemmas.{same_clock}
use Rattle.gptp_links.specs.Fate.{Draw}
use Rattle.gptp_links.specs.declared.link.Direction.{Direction}
use Rattle.gptp_messages.specs.Head.{message_type}
use Rattle.gptp_messages.specs.declared.head.Head.{Head}
use Rattle.gptp_messages.specs.declared.message.Message.{Message}
use Rattle.gptp_messages.specs.declared.message.Message.TheVariants as messages
use Rattle.gptp_messages.specs.declared.peer_delay.PdelayResp.{PdelayResp}
use Rattle.gptp_pdelay.specs.Peer.{PeerState, after_response, answered_by, is_capable}
use Rattle.gptp_pdelay.specs.declared.progress.Progress.{Progress}
use Rattle.gptp_roles.specs.declared.role.Role.{Role}
use Rattle.gptp_scenario.specs.declared.change.Act.TheVariants.{Deliver, Expire}
use Rattle.gptp_setup.specs.declared.timer.Timer.{Timer}
use Rattle.gptp_setup.specs.declared.timer.Timer.TheVariants as timers
use Rattle.gptp_setup.specs.SettlingParams.{has_sync_timeout}
use Rattle.gptp_system.specs.Announcing.{announced_at}
use Rattle.gptp_system.specs.Input.{Input, Frame as FrameHeard, Expires as TimerExpires, Steps}
use Rattle.gptp_system.specs.Measuring.{answering_done, owes, responded, HearsRequest, HearsResponse}
use Rattle.gptp_system.specs.Selection.{announced_again}
use Rattle.gptp_system.specs.Start.{role_at}
use Rattle.gptp_system.specs.State.{SystemState, change, change_at, clock, is_capable_at, number, on_port, stamp_time, with_peer}
use Rattle.gptp_system.specs.Steps.{HearsFrame, HearsMessage}
use Rattle.gptp_system.specs.Syncing.{is_followed, is_leading, restarted, telling, timer_stopped, HearsSync, HearsSyncIf, KeepsIf, RelaysBy, RelaysIf, SyncsIf}
use Rattle.gptp_system.specs.Takeover.{leading}
use Rattle.gptp_system.specs.declared.answer.Answer.{Answer}
use Rattle.gptp_system.specs.declared.answer.Answer.TheVariants as answers
use Rattle.gptp_system.specs.declared.port.Port.{Port}
use Rattle.gptp_system.specs.declared.sending.Sending.{Sending}
use Rattle.gptp_system.proofs.PortLemmas.{counted-map}
use Rattle.gptp_system.proofs.TypeLemmas.{type_is, type_number}
use Rattle.gptp_messages.specs.declared.follow_up.FollowUp.{FollowUp}
use Rattle.gptp_timeline.specs.Leaving.{FrameLeaves, LeavesAll, TimerLeaves, TypeLeaves, can_take_over}
use Rattle.gptp_timeline.specs.Readings.{by_expiry, by_receipt}
use Rattle.gptp_timeline.specs.declared.readings.SystemReading.{SystemReading}
use Rattle.gptp_timeline.specs.Ports.{shown_port, shown_ports}
use Rattle.gptp_timeline.specs.Receipts.{is_follow_up, received_by, receiver_clock}
use Rattle.gptp_timeline.specs.Shown.{live_among, shown_of, live_system}
use Rattle.gptp_timeline.specs.declared.ports.ShownPort.{ShownPort}
use Rattle.gptp_timeline.specs.declared.shown.Shown.{Shown}

-- ---- what is shown of a system

-- whether a port is asCapable
abbrev pub capable : Port → Bool
capable q = is_capable q.peer

-- what is shown of a port and of all ports, by which of them are asCapable
abbrev port_by : SystemState → List Bool → ℕ → ShownPort
port_by s capables p = record {
  role = role_at s p;
  capable = option_map_or (λ c. c) (number capables p) false;
}

abbrev ports_by : SystemState → List Bool → List ShownPort
ports_by s capables = map (port_by s capables) (range_with_len 1 (length capables))

pub capable_number : (qs : List Port) (p : ℕ)
    → option_map_or (λ (q : Port). is_capable q.peer) (number qs p) false
    ≡ option_map_or (λ c. c) (number (map capable qs) p) false
capable_number qs zero = refl
capable_number qs (suc i) =
    sym (ap (λ c. option_map_or (λ c. c) c false) (slice_get-map capable qs i) ∙ one (slice_get qs i))
  where
    one : (q : Option Port) → option_map_or (λ c. c) (option_map capable q) false
        ≡ option_map_or (λ (q : Port). is_capable q.peer) q false
    one None = refl
    one (Some q) = refl

port_shown : (s : SystemState) (p : ℕ) → shown_port s p ≡ port_by s (map capable s.ports) p
port_shown s p = ap (λ (c : Bool). record { role = role_at s p; capable = c }) (capable_number s.ports p)

map_each : {X Y : Type 0} (f g : X → Y) → ((x : X) → f x ≡ g x) → (xs : List X) → map f xs ≡ map g xs
map_each f g same [] = refl
map_each f g same (x ∷ xs) = ap (λ y. y ∷ map f xs) (same x) ∙ ap (λ ys. g x ∷ ys) (map_each f g same xs)

count_same : (qs : List Port) → length qs ≡ length (map capable qs)
count_same [] = refl
count_same (q ∷ qs) = ap suc (count_same qs)

ports_shown : (s : SystemState) → shown_ports s ≡ ports_by s (map capable s.ports)
ports_shown s =
    map_each (shown_port s) (port_by s (map capable s.ports)) (port_shown s) (range_with_len 1 (length s.ports))
    ∙ ap (λ n. map (port_by s (map capable s.ports)) (range_with_len 1 n)) (count_same s.ports)

-- where the rest stays, and the same ports are asCapable
pub ports_leave : (s s' : SystemState) → s'.root ≡ s.root → s'.steps ≡ s.steps → s'.slave ≡ s.slave
    → s'.offset ≡ s.offset → ((p : ℕ) → role_at s' p ≡ role_at s p)
    → map capable s'.ports ≡ map capable s.ports → shown_of s' ≡ shown_of s
ports_leave s s' root steps slave offset role ports =
    let caps = map capable s'.ports in
    ap (λ ps. made s'.root s'.steps s'.slave s'.offset ps) (ports_shown s'
    ∙ map_each (port_by s' caps) (port_by s caps)
    (λ p. ap (λ (r : Role). record { role = r; capable = option_map_or (λ c. c) (number caps p) false }) (role p))
    (range_with_len 1 (length caps))
    ∙ ap (ports_by s) ports ∙ sym (ports_shown s))
    ∙ ap (λ r. made r s'.steps s'.slave s'.offset (shown_ports s)) root
    ∙ ap (λ n. made s.root n s'.slave s'.offset (shown_ports s)) steps
    ∙ ap (λ p. made s.root s.steps p s'.offset (shown_ports s)) slave
    ∙ ap (λ o. made s.root s.steps s.slave o (shown_ports s)) offset
  where
    made : ℕ → ℕ → Option ℕ → Option ℤ → List ShownPort → Shown
    made root steps slave offset ports = record {
      root = root;
      steps = steps;
      slave = slave;
      known = is_some offset;
      ports = ports;
    }

-- one port is changed, and stays asCapable or not
pub changed_at : (f : Port → Port) → ((q : Port) → capable (f q) ≡ capable q) → (i : ℕ) (qs : List Port)
    → map capable (change_at f i qs) ≡ map capable qs
changed_at f same i [] = refl
changed_at f same zero (q ∷ qs) = ap (λ c. c ∷ map capable qs) (same q)
changed_at f same (suc i) (q ∷ qs) = ap (λ cs. capable q ∷ cs) (changed_at f same i qs)

pub port_leaves : (p : ℕ) (f : Port → Port) (s : SystemState) → ((q : Port) → capable (f q) ≡ capable q)
    → shown_of (on_port p f s) ≡ shown_of s
port_leaves p f s same = ports_leave s (on_port p f s) refl refl refl refl (λ n. refl) (by p)
  where
    by : (p : ℕ) → map capable (change f p s.ports) ≡ map capable s.ports
    by zero = refl
    by (suc i) = changed_at f same i s.ports

-- all Master ports count a Sync
telling_leaves : (s : SystemState) → shown_of (telling s) ≡ shown_of s
telling_leaves s =
    ports_leave s (telling s) refl refl refl refl (λ n. refl) (counted-map capable (λ q. refl) s.held s.ports)

-- ---- timers

became : (s t s' : SystemState) → s' ≡ t → shown_of t ≡ shown_of s → shown_of s' ≡ shown_of s
became s t s' is same = ap shown_of is ∙ same

pub announce_leaves : (p : ℕ) → TimerLeaves (timers.Announce p)
announce_leaves p now s s' sends k =
    became s (announced_at p now s) s' k.state (port_leaves p (announced_again now) s (λ q. refl))

pub respond_leaves : (p : ℕ) → TimerLeaves (timers.Respond p)
respond_leaves p now s s' sends k = became s (responded p s) s' k.state (port_leaves p answering_done s (λ q. refl))

pub sync_leaves : TimerLeaves timers.Sync
sync_leaves now s s' sends k = by (is_leading s) k
  where
    by : (leads : Bool) → SyncsIf leads now s s' sends → shown_of s' ≡ shown_of s
    by true k =
        became s (telling (restarted now (leading now s))) s' k.state (telling_leaves (restarted now (leading now s)))
    by false k = became s (restarted now s) s' k.state refl

pub relay_leaves : TimerLeaves timers.Relay
relay_leaves now s s' sends k = by s.known k
  where
    stopped : s' ≡ timer_stopped s → shown_of s' ≡ shown_of s
    stopped is = became s (timer_stopped s) s' is refl

    told : s' ≡ telling (timer_stopped s) → shown_of s' ≡ shown_of s
    told is = became s (telling (timer_stopped s)) s' is (telling_leaves (timer_stopped s))

    by_timeout : (held : Bool) (info : _) → RelaysBy held info now s s' sends → shown_of s' ≡ shown_of s
    by_timeout true info k = told k.state
    by_timeout false info (inl k) = told k.state
    by_timeout false info (inr k) = stopped k.becomes.state

    by : (known : Option _) → RelaysIf known now s s' sends → shown_of s' ≡ shown_of s
    by None k = stopped k.state
    by (Some info) k = by_timeout (has_sync_timeout s.params) info k

-- ---- frames

module _ (p now : ℕ) (s s' : SystemState) (sends : List Sending) (answer : Answer) where
  hears_sync : (head : Head) → HearsSync p head now s s' sends answer → shown_of s' ≡ shown_of s
  hears_sync head k = by (is_capable_at s p) k
    where
      followed : (follows : Bool) → KeepsIf follows head now s s' sends answer → shown_of s' ≡ shown_of s
      followed true k = became s _ s' k.becomes.state refl
      followed false k = ap shown_of k.becomes.state

      by : (on : Bool) → HearsSyncIf on p head now s s' sends answer → shown_of s' ≡ shown_of s
      by false k = ap shown_of k.becomes.state
      by true k = followed (is_followed p head s) k

  hears_request : (head : Head) → HearsRequest p head now s s' sends answer → shown_of s' ≡ shown_of s
  hears_request head k = became s (owes p head now s) s' k.becomes.state (port_leaves p _ s (λ q. refl))

  recorded : (progress : Option Progress) (peer : PeerState)
      → is_capable (option_map_or (λ progress. record peer { progress = progress }) progress peer) ≡ is_capable peer
  recorded None peer = refl
  recorded (Some progress) peer = refl

  hears_response : (m : PdelayResp) → HearsResponse p m now s s' sends answer → shown_of s' ≡ shown_of s
  hears_response m k =
      let t4 = stamp_time s now in
      became s (with_peer p (after_response m t4) s) s' k.becomes.state
      (port_leaves p (λ q. record q { peer = after_response m t4 q.peer }) s
      (λ q. recorded (answered_by m t4 q.peer.own q.peer.progress) q.peer))

  -- by its messageType it is a Sync, a Pdelay_Req or a Pdelay_Resp
  abbrev IsQuiet : ℕ → Type 0
  IsQuiet type = (type == 0 || (type == 2 || type == 3)) ≡ true

  hears_message : (m : Message) → IsQuiet (type_number m) → HearsMessage p m now s s' sends answer
      → shown_of s' ≡ shown_of s
  hears_message (messages.Sync head) quiet k = hears_sync head k
  hears_message (messages.PdelayReq head) quiet k = hears_request head k
  hears_message (messages.PdelayResp m) quiet k = hears_response m k
  hears_message (messages.FollowUp m) quiet k = absurd cc
  hears_message (messages.PdelayRespFollowUp m) quiet k = absurd cc
  hears_message (messages.Announce a) quiet k = absurd cc

  hears_frame : (octets : List ℕ) → IsQuiet (message_type octets) → HearsFrame p octets now s s' sends answer
      → shown_of s' ≡ shown_of s
  hears_frame octets quiet (inl k) =
      hears_message k.message (subst IsQuiet (type_is octets k.message k.reads) quiet) k.hears
  hears_frame octets quiet (inr k) = ap shown_of k.becomes.state

pub type_leaves : (type : ℕ) → (type == 0 || (type == 2 || type == 3)) ≡ true → TypeLeaves type
type_leaves type quiet octet octets is = record {
  same = λ port now s s' sends answer. hears_frame port now s s' sends answer (octet ∷ octets)
      (subst (λ n. (n == 0 || (n == 2 || n == 3)) ≡ true) (sym is) quiet);
  other = ap (λ n. n == 8) is ∙ by type quiet;
}
  where
    by : (type : ℕ) → (type == 0 || (type == 2 || type == 3)) ≡ true → type == 8 ≡ false
    by type quiet = grind (arith, nat_tests)

-- a frame by its messageType
pub first_leaves : (octets : List ℕ) (type : ℕ) → first_type octets ≡ Some type → TypeLeaves type → FrameLeaves octets
first_leaves [] type first leaves = absurd cc
first_leaves (o ∷ os) type first leaves = leaves o os (same_Some (o % 16) type first)

-- ---- acts

-- one station becomes another of which this is the same
abbrev first_of : {X : Type 0} → Bool → Bool → X → Option X → Option X
first_of named live one others = if named then (if live then Some one else None) else others

module _ {X : Type 0} (f : SystemState → X) where
  first_is : (name : ℕ) (s : Station) (ss : List Station)
      → option_map f (live_among name (s ∷ ss))
      ≡ first_of (clock s.system == name) s.live (f s.system) (option_map f (live_among name ss))
  first_is name s ss = by (clock s.system == name) s.live
    where
      by : (named live : Bool)
          → option_map f (if named then (if live then Some s.system else None) else live_among name ss)
          ≡ first_of named live (f s.system) (option_map f (live_among name ss))
      by true true = refl
      by true false = refl
      by false live = refl

  station_leaves : (name place : ℕ) (stations : List Station) (old new : Station)
      → slice_get stations place ≡ Some old → clock new.system ≡ clock old.system → new.live ≡ old.live
      → f new.system ≡ f old.system
      → option_map f (live_among name (slice_set stations place new)) ≡ option_map f (live_among name stations)
  station_leaves name place [] old new there named live same = absurd cc
  station_leaves name zero (s ∷ ss) old new there named live same =
      let is : old ≡ s = sym (same_Some s old there) in
      let others = option_map f (live_among name ss) in
      first_is name new ss
      ∙ ap (λ c. first_of (c == name) new.live (f new.system) others) named
      ∙ ap (λ l. first_of (clock old.system == name) l (f new.system) others) live
      ∙ ap (λ x. first_of (clock old.system == name) old.live x others) same
      ∙ ap (λ (x : Station). first_of (clock x.system == name) x.live (f x.system) others) is
      ∙ sym (first_is name s ss)
  station_leaves name (suc place) (s ∷ ss) old new there named live same =
      first_is name s (slice_set ss place new)
      ∙ ap (first_of (clock s.system == name) s.live (f s.system))
      (station_leaves name place ss old new there named live same)
      ∙ sym (first_is name s ss)

  -- a call by which this stays of its system
  calls_leave : (place : ℕ) (input : Input) (w : WorldState) (draws : List Draw) (answer : Answer) (w' : WorldState)
      → ((s s' : SystemState) (sends : List Sending) → Steps input w.time s s' sends answer → f s' ≡ f s)
      → Calls place input w draws answer w' → (name : ℕ)
      → option_map f (live_system name w') ≡ option_map f (live_system name w)
  calls_leave place input w draws answer w' leaves calls name =
      ap (λ v. option_map f (live_system name v)) calls.is
      ∙ station_leaves name place w.stations calls.station (in_state calls.after calls.station) calls.here
      (same_clock input w.time calls.station.system calls.after calls.sends answer calls.steps) refl
      (leaves calls.station.system calls.after calls.sends calls.steps)

  -- a frame by which it does
  hears_leaves : (place port : ℕ) (octets : List ℕ) (w : WorldState) (draws : List Draw) (answer : Option Answer)
      (w' : WorldState)
      → ((s s' : SystemState) (sends : List Sending) (told : Answer)
      → HearsFrame port octets w.time s s' sends told → f s' ≡ f s)
      → Hears place port octets w draws answer w' → (name : ℕ)
      → option_map f (live_system name w') ≡ option_map f (live_system name w)
  hears_leaves place port octets w draws None w' leaves (failed, none, is) name =
      ap (λ v. option_map f (live_system name v)) is
  hears_leaves place port octets w draws (Some answer) w' leaves calls name =
      calls_leave place (FrameHeard port octets) w draws answer w'
      (λ s s' sends steps. leaves s s' sends answer steps) calls name

-- no system takes over by an expiry of another timer than Sync
pub none_takes_over : (number : ℕ) (timer : Timer) (w : WorldState) (systems : List SystemReading)
    → can_take_over (Expire number timer) ≡ false → by_expiry w systems number timer ≡ None
none_takes_over number timers.Sync w systems other = absurd cc
none_takes_over number timers.Relay w systems other = refl
none_takes_over number timers.Lapse w systems other = refl
none_takes_over number (timers.Announce p) w systems other = refl
none_takes_over number (timers.Age p) w systems other = refl
none_takes_over number (timers.Pdelay p) w systems other = refl
none_takes_over number (timers.Respond p) w systems other = refl

pub expiry_leaves : (number : ℕ) (timer : Timer) (done : Done) → TimerLeaves timer
    → LeavesAll (Expire number timer) done
expiry_leaves number timer done leaves = record {
  is_other = refl;
  stays = λ w w' draws (quiet, at). record {
    same = λ name. calls_leave shown_of at.place (TimerExpires timer) _ draws at.so.answer w'
        (λ s s' sends steps. leaves w.time s s' sends steps) at.so.calls name;
    nobody = ap received_by quiet;
  };
  reads_on = λ other w systems. none_takes_over number timer w systems other;
}

-- nobody receives time by what is no Follow_Up
none_receives : (clock : ℕ) (answer : Option Answer) (octets : List ℕ) → is_follow_up octets ≡ false
    → receiver_clock clock answer octets ≡ None
none_receives clock None octets other = refl
none_receives clock (Some answers.Used) octets other = rw other refl
none_receives clock (Some answers.Disabled) octets other = refl
none_receives clock (Some (answers.Refused refused)) octets other = refl
none_receives clock (Some answers.Ignored) octets other = refl
none_receives clock (Some answers.Superior) octets other = refl
none_receives clock (Some answers.Repeated) octets other = refl
none_receives clock (Some answers.Inferior) octets other = refl
none_receives clock (Some answers.Own) octets other = refl
none_receives clock (Some answers.Steps) octets other = refl
none_receives clock (Some answers.Loop) octets other = refl
none_receives clock (Some answers.Long) octets other = refl

-- the frame of which is told does so
abbrev pub HeardLeaves : Done → Type 0
HeardLeaves Quiet = ⊥
HeardLeaves (Heard clock port answer frame) = FrameLeaves frame.items

pub delivery_leaves : (link : ℕ) (direction : Direction) (done : Done) → HeardLeaves done
    → LeavesAll (Deliver link direction) done
delivery_leaves link direction Quiet leaves = absurd leaves
delivery_leaves link direction (Heard clock port answer frame) leaves = record {
  is_other = refl;
  stays = λ w w' draws d. record {
    same = λ name. let (clock_is, port_is, told, octets_are) = d.told in
        hears_leaves shown_of d.delivers.place (receiver direction d.delivers.channel).port d.octets _ draws d.answer w'
        ((subst FrameLeaves octets_are leaves).same (receiver direction d.delivers.channel).port w.time)
        d.delivers.hears name;
    nobody = none_receives clock answer frame.items leaves.other;
  };
  reads_on = λ other w systems. ap (by_receipt w systems) (none_receives clock answer frame.items leaves.other);
}
