-- Calls of systems, one or one after another, in two worlds that are the same but for time.
use Rattle.std.proofs.Common.{◌≡◌, ◌<◌, ℕ, ℤ, true, false, List, [], ◌∷◌, map, length, Bool, Option, Some, None, FitsSigned, w8, slice_get, slice_set, refl, sym, ap, subst, ◌∙◌, inl, inr}
use Rattle.std.specs.Prelude.{◌&&◌, ◌||◌, if◌then◌else◌}
use Rattle.std.specs.List.{filter, range_with_len, AllZip}
use Rattle.std.proofs.lemmas.Option.{none-some, same_Some}
use Rattle.gptp_vector.specs.declared.port.PortId.{PortId}
use Rattle.gptp_links.specs.declared.bounds.Bounds.{Bounds}
use Rattle.gptp_links.specs.Fate.{Draw}
use Rattle.gptp_messages.specs.declared.follow_up.FollowUp.{FollowUp}
use Rattle.gptp_messages.specs.declared.message.Message.{Message}
use Rattle.gptp_messages.specs.declared.message.Message.TheVariants as messages
use Rattle.gptp_messages.specs.Grammar.{message_of, Reads, StampIsRead}
use Rattle.gptp_messages.specs.MessageType.{type_of}
use Rattle.gptp_messages.specs.declared.head.Head.{Head}
use Rattle.gptp_scaled.specs.Stamp.{Timestamp}
use Rattle.gptp_receipt.specs.Held.{comparison}
use Rattle.gptp_pdelay.specs.Peer.{PeerState, after_follow_up, after_interval, reset_peer}
use Rattle.gptp_correction.specs.declared.sync_in.SyncInfo.{SyncInfo}
use Rattle.gptp_correction.specs.SyncIn.{belongs, information, together, KeptSync}
use Rattle.gptp_setup.specs.declared.setup.Params.{Params}
use Rattle.gptp_setup.specs.declared.setup.Setup.{Setup}
use Rattle.gptp_setup.specs.declared.timer.Timer.{Timer}
use Rattle.gptp_setup.specs.declared.timer.Timer.TheVariants as timers
use Rattle.gptp_setup.specs.SettlingParams.{has_sync_timeout}
use Rattle.gptp_system.specs.declared.answer.Answer.{Answer}
use Rattle.gptp_system.specs.declared.sending.Sending.{Sending}
use Rattle.gptp_system.specs.Announcing.{aged_at, compared, replaces_held, with_priority}
use Rattle.gptp_system.specs.Input.{Input, PortUp, PortDown, Frame, Priority, Steps}
use Rattle.gptp_system.specs.Input.{Expires as TimerExpires}
use Rattle.gptp_system.specs.Lapse.{lapsed}
use Rattle.gptp_system.specs.Measuring.{down, is_turned, turned, Turns, TurnsAndAsks, TurnsIf}
use Rattle.gptp_system.specs.Selection.{follows_on, kept_if, Becomes, Selects, SelectsIf}
use Rattle.gptp_system.specs.Start.{started}
use Rattle.gptp_system.specs.State.{SystemState, clock, due, held_at, is_capable_at, number, own}
use Rattle.gptp_system.specs.Steps.{Expires, HearsMessage}
use Rattle.gptp_system.specs.Syncing.{delay_at, forgetting, is_followed, is_leading, is_slave_at, root_rate_at, said_on, HearsFollowUpIf, HearsSyncIf, KeepsIf, KnowsBy, KnowsIf, RelaysBy, RelaysIf, SyncsIf}
use Rattle.gptp_system.proofs.StepLemmas.{steps_sound}
use Rattle.gptp_system.proofs.TypeLemmas.{type_is}
use Rattle.gptp_model.specs.declared.station.Station.{Station}
use Rattle.gptp_model.specs.declared.item.Item.TheVariants.{Expiry}
use Rattle.gptp_model.specs.Act.{all_timers, in_state, set_timers, Calls}
use Rattle.gptp_model.specs.Changing.{fresh, is_link_end, is_up_at, up_ports, with_station, CallsAll, CallsIfLive, Starts, StartsAll, TellsEnds}
use Rattle.gptp_model.specs.Pending.{set_due, Entry}
use Rattle.gptp_model.specs.Sends.{SendsAll}
use Rattle.gptp_model.specs.Sound.{HaveOwnClocks}
use Rattle.gptp_model.specs.World.{Channel, Net, WorldState, station_due, timers_from}
use Rattle.gptp_model.proofs.StayLemmas.{calls_carry, calls_if_live_carry, carry_join, starts_stays}
use Rattle.gptp_determinism.specs.BesideTime.{KnowsStamp, SameBeside, beside_time}
use Rattle.gptp_determinism.specs.BesideWorlds.{LinksBeside, NetsBeside, StationsBeside, SystemsBeside, WorldsBeside, setup_beside}
use Rattle.gptp_determinism.specs.ContinuesLaws.{FitAlike}
use Rattle.gptp_determinism.specs.Named.{AnswersOnce, HaveOwnPorts, IsNamed}
use Rattle.gptp_determinism.specs.StepLaws.{SameAnswer}
use Rattle.gptp_determinism.proofs.BesideSendLemmas.{each_at, each_back, each_set, sends_beside, sends_say}
use Rattle.gptp_determinism.proofs.ContinuesLemmas.{steps_alike, timers_beside_time}
use Rattle.gptp_determinism.proofs.NameLemmas.{named_still, ports_kept}
use Rattle.gptp_determinism.proofs.SendLemmas.{in_order, AreDrawn}

-- ---- what is known of a time stays a timestamp

-- all that is known then was known, or is a timestamp
record KeepsStamp (s t : SystemState) : Type 0 where
  keeps : KnowsStamp s → KnowsStamp t

same_known : (s t : SystemState) → t.known ≡ s.known → KeepsStamp s t
same_known s t same = record { keeps = λ knows info is. knows info (sym same ∙ is) }

unknown : (s t : SystemState) → t.known ≡ None → KeepsStamp s t
unknown s t none = record { keeps = λ knows info is. absurd (none-some info (sym none ∙ is)) }

kept_known : (same : Bool) (s : SystemState) (info : SyncInfo) → kept_if same s.known ≡ Some info → s.known ≡ Some info
kept_known true s info is = is
kept_known false s info is = absurd (none-some info is)

becomes_stamp : (s u t : SystemState) (sends : List Sending) → KeepsStamp s u → Becomes u t sends → KeepsStamp s t
becomes_stamp s u t sends kept k = subst (KeepsStamp s) (sym k.state) kept

selects_stamp : (now : ℕ) (s u t : SystemState) (sends : List Sending) → u.known ≡ s.known → Selects now u t sends
    → KeepsStamp s t
selects_stamp now s u t sends same k =
    subst (KeepsStamp s) (sym k.state) (record {
      keeps = λ knows info is. knows info (sym same ∙ kept_known (follows_on k.vector u) u info is);
    })

selects_if_stamp : (selects : Bool) (now : ℕ) (s u t : SystemState) (sends : List Sending) → u.known ≡ s.known
    → SelectsIf selects now u t sends → KeepsStamp s t
selects_if_stamp true now s u t sends same k = selects_stamp now s u t sends same k
selects_if_stamp false now s u t sends same k = becomes_stamp s u t sends (same_known s u same) k

turns_stamp : (p : ℕ) (step : PeerState → PeerState) (now : ℕ) (s t : SystemState) (sends : List Sending)
    → Turns p step now s t sends → KeepsStamp s t
turns_stamp p step now s t sends k = by (is_turned step (number s.ports p)) k
  where
    by : (turns : Bool) → TurnsIf turns p step now s t sends → KeepsStamp s t
    by true k = selects_stamp now s (turned p step s) t sends refl k
    by false k = becomes_stamp s _ t sends (same_known s _ refl) k

asks_stamp : (p : ℕ) (step : PeerState → PeerState) (now : ℕ) (s t : SystemState) (sends : List Sending)
    → TurnsAndAsks p step now s t sends → KeepsStamp s t
asks_stamp p step now s t sends k =
    subst (KeepsStamp s) (sym k.state)
    (record { keeps = λ knows info is. (turns_stamp p step now s k.between k.first k.turns).keeps knows info is })

-- a Follow_Up that reads says a timestamp
read_nanos : (octets : List ℕ) (m : FollowUp) → Reads octets (messages.FollowUp m) → m.origin.nanos < 1000000000
read_nanos octets m reads =
    let kind : type_of 0x8 ≡ Some reads.kind =
    subst (λ n. type_of n ≡ Some reads.kind) (type_is octets (messages.FollowUp m) reads) reads.header.kind_is in
    let same = same_Some _ reads.kind kind in
    let is = one m _
    (subst (λ k. messages.FollowUp m ≡ message_of k octets reads.path reads.rate) (sym same) reads.is) in
    let stamp = subst (λ k. StampIsRead k octets) (sym same) reads.stamp in
    subst (λ (x : FollowUp). x.origin.nanos < 1000000000) (sym is) stamp
  where
    one : (a b : FollowUp) → messages.FollowUp a ≡ messages.FollowUp b → a ≡ b
    one a b e = cc

-- what is said with a Follow_Up has its origin
together_origin : (is : Bool) (kept : KeptSync) (m : FollowUp) (info : SyncInfo)
    → (if is then Some (together m kept) else None) ≡ Some info → m.origin ≡ info.origin
together_origin true kept m info is = ap (λ (x : SyncInfo). x.origin) (same_Some (together m kept) info is)
together_origin false kept m info is = absurd (none-some info is)

information_origin : (kept : Option KeptSync) (m : FollowUp) (info : SyncInfo) → information kept m ≡ Some info
    → m.origin ≡ info.origin
information_origin None m info is = absurd (none-some info is)
information_origin (Some kept) m info is = together_origin (belongs m kept) kept m info is

said_origin : (slave : Bool) (kept : Option KeptSync) (m : FollowUp) (info : SyncInfo)
    → (if slave then information kept m else None) ≡ Some info → m.origin ≡ info.origin
said_origin true kept m info is = information_origin kept m info is
said_origin false kept m info is = absurd (none-some info is)

knows_stamp : (on : Bool) (info : SyncInfo) (delay rate : ℤ) (now : ℕ) (s t : SystemState) (sends : List Sending)
    (answer : Answer) → info.origin.nanos < 1000000000 → KnowsBy on info delay rate now s t sends answer
    → KeepsStamp s t
knows_stamp true info delay rate now s t sends answer nanos k =
    subst (KeepsStamp s) (sym k.becomes.state) (record {
      keeps = λ knows other is. subst (λ (x : SyncInfo). x.origin.nanos < 1000000000)
          (same_Some info other is) nanos;
    })
knows_stamp false info delay rate now s t sends answer nanos (inl k) =
    subst (KeepsStamp s) (sym k.becomes.state) (record {
      keeps = λ knows other is. subst (λ (x : SyncInfo). x.origin.nanos < 1000000000)
          (same_Some info other is) nanos;
    })
knows_stamp false info delay rate now s t sends answer nanos (inr k) =
    becomes_stamp s (forgetting s) t sends (unknown s (forgetting s) refl) k.becomes

knows_if_stamp : (said : Option SyncInfo) (delay rate : ℤ) (now : ℕ) (s t : SystemState) (sends : List Sending)
    (answer : Answer) → ((info : SyncInfo) → said ≡ Some info → info.origin.nanos < 1000000000)
    → KnowsIf said delay rate now s t sends answer → KeepsStamp s t
knows_if_stamp None delay rate now s t sends answer nanos k =
    becomes_stamp s s t sends (same_known s s refl) k.becomes
knows_if_stamp (Some info) delay rate now s t sends answer nanos k =
    knows_stamp (has_sync_timeout s.params) info delay rate now s t sends answer (nanos info refl) k

follows_stamp : (on : Bool) (p : ℕ) (m : FollowUp) (now : ℕ) (s t : SystemState) (sends : List Sending)
    (answer : Answer) → m.origin.nanos < 1000000000 → HearsFollowUpIf on p m now s t sends answer → KeepsStamp s t
follows_stamp true p m now s t sends answer nanos k =
    knows_if_stamp (said_on p m s) (delay_at s p) (root_rate_at s p) now s t sends answer
    (λ info is. subst (λ (stamp : Timestamp). stamp.nanos < 1000000000)
    (said_origin (is_slave_at s p) s.sync_in m info is) nanos) k
follows_stamp false p m now s t sends answer nanos k = becomes_stamp s s t sends (same_known s s refl) k.becomes

syncs_stamp : (on : Bool) (p : ℕ) (head : Head) (now : ℕ) (s t : SystemState) (sends : List Sending) (answer : Answer)
    → HearsSyncIf on p head now s t sends answer → KeepsStamp s t
syncs_stamp true p head now s t sends answer k = by (is_followed p head s) k
  where
    by : (keeps : Bool) → KeepsIf keeps head now s t sends answer → KeepsStamp s t
    by true k = becomes_stamp s _ t sends (same_known s _ refl) k.becomes
    by false k = becomes_stamp s s t sends (same_known s s refl) k.becomes
syncs_stamp false p head now s t sends answer k = becomes_stamp s s t sends (same_known s s refl) k.becomes

message_stamp : (p : ℕ) (octets : List ℕ) (m : Message) (now : ℕ) (s t : SystemState) (sends : List Sending)
    (answer : Answer) → Reads octets m → HearsMessage p m now s t sends answer → KeepsStamp s t
message_stamp p octets (messages.Sync head) now s t sends answer reads k =
    syncs_stamp (is_capable_at s p) p head now s t sends answer k
message_stamp p octets (messages.PdelayReq head) now s t sends answer reads k =
    becomes_stamp s _ t sends (same_known s _ refl) k.becomes
message_stamp p octets (messages.PdelayResp m) now s t sends answer reads k =
    becomes_stamp s _ t sends (same_known s _ refl) k.becomes
message_stamp p octets (messages.FollowUp m) now s t sends answer reads k =
    follows_stamp (is_capable_at s p) p m now s t sends answer (read_nanos octets m reads) k
message_stamp p octets (messages.PdelayRespFollowUp m) now s t sends answer reads k =
    turns_stamp p (after_follow_up m) now s t sends k.turns
message_stamp p octets (messages.Announce a) now s t sends answer reads (inl k) =
    becomes_stamp s s t sends (same_known s s refl) k.becomes
message_stamp p octets (messages.Announce a) now s t sends answer reads (inr (inl k)) =
    becomes_stamp s s t sends (same_known s s refl) k.becomes
message_stamp p octets (messages.Announce a) now s t sends answer reads (inr (inr k)) =
    selects_if_stamp (replaces_held (comparison (held_at s p) (own s p) a)) now s (compared p a now s)
    t sends refl k.selects

relays_stamp : (on : Bool) (info : SyncInfo) (now : ℕ) (s t : SystemState) (sends : List Sending)
    → RelaysBy on info now s t sends → KeepsStamp s t
relays_stamp true info now s t sends k = subst (KeepsStamp s) (sym k.state) (same_known s _ refl)
relays_stamp false info now s t sends (inl k) = subst (KeepsStamp s) (sym k.state) (same_known s _ refl)
relays_stamp false info now s t sends (inr k) = becomes_stamp s _ t sends (same_known s _ refl) k.becomes

relays_if_stamp : (known : Option SyncInfo) (now : ℕ) (s t : SystemState) (sends : List Sending)
    → RelaysIf known now s t sends → KeepsStamp s t
relays_if_stamp None now s t sends k = becomes_stamp s _ t sends (same_known s _ refl) k
relays_if_stamp (Some info) now s t sends k = relays_stamp (has_sync_timeout s.params) info now s t sends k

leads_stamp : (leads : Bool) (now : ℕ) (s t : SystemState) (sends : List Sending) → SyncsIf leads now s t sends
    → KeepsStamp s t
leads_stamp true now s t sends k = subst (KeepsStamp s) (sym k.state) (same_known s _ refl)
leads_stamp false now s t sends k = becomes_stamp s _ t sends (same_known s _ refl) k

timer_stamp : (timer : Timer) (now : ℕ) (s t : SystemState) (sends : List Sending) → Expires timer now s t sends
    → KeepsStamp s t
timer_stamp (timers.Announce p) now s t sends k = subst (KeepsStamp s) (sym k.state) (same_known s _ refl)
timer_stamp (timers.Age p) now s t sends k = selects_stamp now s (aged_at p now s) t sends refl k
timer_stamp (timers.Pdelay p) now s t sends k = asks_stamp p after_interval now s t sends k
timer_stamp (timers.Respond p) now s t sends k = subst (KeepsStamp s) (sym k.state) (same_known s _ refl)
timer_stamp timers.Sync now s t sends k = leads_stamp (is_leading s) now s t sends k
timer_stamp timers.Relay now s t sends k = relays_if_stamp s.known now s t sends k
timer_stamp timers.Lapse now s t sends k = selects_stamp now s (lapsed s) t sends refl k

-- every step
steps_stamp : (input : Input) (now : ℕ) (s t : SystemState) (sends : List Sending) (answer : Answer)
    → Steps input now s t sends answer → KeepsStamp s t
steps_stamp (PortUp p) now s t sends answer k = asks_stamp p reset_peer now s t sends k
steps_stamp (PortDown p) now s t sends answer k = selects_stamp now s (down p s) t sends refl k
steps_stamp (Frame p octets) now s t sends answer (inl k) =
    message_stamp p octets k.message now s t sends answer k.reads k.hears
steps_stamp (Frame p octets) now s t sends answer (inr k) =
    becomes_stamp s s t sends (same_known s s refl) k.becomes
steps_stamp (TimerExpires timer) now s t sends answer k = timer_stamp timer now s t sends k
steps_stamp (Priority value) now s t sends answer k = selects_stamp now s (with_priority value s) t sends refl k

-- ---- timers

pub dues_same : (x y : Station) → StationsBeside x y → (timer : Timer) → station_due timer x ≡ station_due timer y
dues_same x y is timer =
    ap (λ live. if live then due timer x.system else None) is.live
    ∙ ap (λ (d : Option ℕ). if y.live then d else None) (timers_beside_time x.system y.system is.system.same timer)

timers_set : (place : ℕ) (x y : Station) → ((timer : Timer) → station_due timer x ≡ station_due timer y)
    → (ts : List Timer) (es : List Entry) → set_timers place x ts es ≡ set_timers place y ts es
timers_set place x y same [] es = refl
timers_set place x y same (t ∷ ts) es =
    timers_set place x y same ts (set_due (Expiry place t) (station_due t x) es)
    ∙ ap (λ (d : Option ℕ). set_timers place y ts (set_due (Expiry place t) d es)) (same t)

pub all_timers_beside : (place : ℕ) (x y : Station) (n m : Net) → StationsBeside x y → NetsBeside n m
    → NetsBeside (all_timers place x n) (all_timers place y m)
all_timers_beside place x y n m is nets = record {
  links = nets.links;
  pending =
      ap (set_timers place x (timers_from 1 x.system.ports)) nets.pending
      ∙ ap (λ (s : SystemState). set_timers place x (timers_from 1 s.ports) m.pending) is.system.same
      ∙ timers_set place x y (dues_same x y is) (timers_from 1 y.system.ports) m.pending;
}

-- ---- one call

in_state_beside : (s t : SystemState) (x y : Station) → SystemsBeside s t → StationsBeside x y
    → StationsBeside (in_state s x) (in_state t y)
in_state_beside s t x y systems is = record { setup = is.setup; log = is.log; system = systems; live = is.live }

-- stations that are at one place
pub stations_at : (w v : WorldState) (place : ℕ) (x y : Station) → WorldsBeside w v
    → slice_get w.stations place ≡ Some x → slice_get v.stations place ≡ Some y → StationsBeside x y
stations_at w v place x y is here there = each_at StationsBeside w.stations v.stations place x y is.stations here there

-- one of them is live, and the other hasn't failed
pub both_live : (w v : WorldState) (place : ℕ) (x y : Station) → WorldsBeside w v
    → slice_get w.stations place ≡ Some x → slice_get v.stations place ≡ Some y → x.live ≡ true → y.live ≡ false → ⊥
both_live w v place x y is here there live failed =
    let e : true ≡ false = sym live ∙ (stations_at w v place x y is here there).live ∙ failed in cc

pub one_live : (w v : WorldState) (place : ℕ) (x y : Station) → WorldsBeside w v
    → slice_get w.stations place ≡ Some x → slice_get v.stations place ≡ Some y → x.live ≡ false → y.live ≡ true → ⊥
one_live w v place x y is here there failed live =
    let e : true ≡ false = sym live ∙ sym (stations_at w v place x y is here there).live ∙ failed in cc

module _ {F : Type 0} (answers : Bounds → ℕ → F → Option ℕ → F → Type 0) (once : AnswersOnce answers) where
  pub calls_beside : (place : ℕ) (input other : Input) (w v w' v' : WorldState) (ds es : List Draw)
      (answer said : Answer) → HaveOwnPorts w.net.channels → WorldsBeside w v → SameBeside input other
      → ((x y : Station) → slice_get w.stations place ≡ Some x → slice_get v.stations place ≡ Some y
      → FitAlike input other w.time x.system y.system)
      → AreDrawn answers once ds es → Calls place input w ds answer w' → Calls place other v es said v'
      → (ds ≡ es) × WorldsBeside w' v' × SameAnswer input answer said
  calls_beside place input other w v w' v' ds es answer said own is alike fit both k l =
      let x = k.station in
      let y = l.station in
      let pair = stations_at w v place x y is k.here l.here in
      let steps = subst (λ (t : ℕ). Steps other t y.system l.after l.sends said) (sym is.time) l.steps in
      let step = steps_alike input other w.time x.system k.after y.system l.after k.sends l.sends answer said
      pair.system.same alike (fit x y k.here l.here) k.steps steps in
      let kept = (steps_sound input w.time x.system k.after k.sends answer k.steps).kept in
      let after : SystemsBeside k.after l.after = record {
        same = step.state;
        one = (steps_stamp input w.time x.system k.after k.sends answer k.steps).keeps pair.system.one;
        other = (steps_stamp other w.time y.system l.after l.sends said steps).keeps pair.system.other;
        log = subst (λ (p : Params). FitsSigned w8 p.sync) (sym kept.params) pair.system.log;
      } in
      let stations = in_state_beside k.after l.after x y after pair in
      let start = all_timers_beside place (in_state k.after x) (in_state l.after y) w.net v.net stations is.net in
      let sent = subst (λ (t : ℕ). SendsAll t l.after l.sends es (all_timers place (in_state l.after y) v.net) l.net)
      (sym is.time) l.sent in
      let (draws, nets) =
      sends_beside answers once w.time k.after l.after k.sends l.sends (all_timers place (in_state k.after x) w.net)
      (all_timers place (in_state l.after y) v.net) k.net l.net ds es (ap clock step.state) own start
      (sends_say x.system y.system k.after l.after k.sends l.sends pair.system.same step.state pair.system.one
      pair.system.other pair.system.log step.sends_are) both k.sent sent in
      let worlds : WorldsBeside (record w { stations = slice_set w.stations place (in_state k.after x); net = k.net })
      (record v { stations = slice_set v.stations place (in_state l.after y); net = l.net }) = record {
        time = is.time;
        last_change = is.last_change;
        stations =
            each_set StationsBeside w.stations v.stations place (in_state k.after x)
            (in_state l.after y) is.stations stations;
        net = nets;
      } in (
        draws,
        subst (λ (z : WorldState). WorldsBeside z v') (sym k.is)
            (subst (WorldsBeside (record w {
              stations = slice_set w.stations place (in_state k.after x);
              net = k.net;
            })) (sym l.is) worlds),
        step.answer_is,
      )

-- ---- several

-- an input that asks nothing of the time of a system
pub record IsPlain (input : Input) : Type 0 where
  pub same : SameBeside input input
  pub fit : (now : ℕ) (s t : SystemState) → FitAlike input input now s t

pub plain_up : (p : ℕ) → IsPlain (PortUp p)
plain_up p = record { same = refl; fit = λ now s t. tt }

pub plain_down : (p : ℕ) → IsPlain (PortDown p)
plain_down p = record { same = refl; fit = λ now s t. tt }

pub plain_priority : (value : ℕ) → IsPlain (Priority value)
plain_priority value = record { same = refl; fit = λ now s t. tt }

-- the systems of one clock stand at one place
pub places_same : (w v : WorldState) (number other place at : ℕ) (x y : Station) → HaveOwnClocks w → WorldsBeside w v
    → number ≡ other → slice_get w.stations place ≡ Some x → clock x.system ≡ number
    → slice_get v.stations at ≡ Some y → clock y.system ≡ other → at ≡ place
places_same w v number other place at x y own is same here named there called =
    let (z, z-here, z-same) = each_back StationsBeside w.stations v.stations at y is.stations there in
    own at place z x z-here here (ap clock z-same.system.same ∙ called ∙ sym same ∙ sym named)

-- ---- starts

pub started_beside : (now : ℕ) (a b : Setup) → setup_beside a ≡ setup_beside b → FitsSigned w8 a.params.sync
    → SystemsBeside (started a now) (started b now)
started_beside now a b same log = record {
  same = ap (λ (setup : Setup). beside_time (started setup now)) same;
  one = λ info known. absurd (none-some info known);
  other = λ info known. absurd (none-some info known);
  log = log;
}

fresh_beside : (now : ℕ) (x y : Station) → StationsBeside x y → StationsBeside (fresh now x) (fresh now y)
fresh_beside now x y is =
    record { setup = is.setup; log = is.log; system = started_beside now x.setup y.setup is.setup is.log; live = refl }

-- the same links are up at a port
ups_same : (number port : ℕ) (cs ds : List Channel) → AllZip LinksBeside cs ds
    → is_up_at cs number port ≡ is_up_at ds number port
ups_same number port [] [] each = refl
ups_same number port [] (d ∷ ds) each = absurd each
ups_same number port (c ∷ cs) [] each = absurd each
ups_same number port (c ∷ cs) (d ∷ ds) each =
    let is = each.0 in
    let up = is.up in
    let a = is.a in
    let b = is.b in
    let rest = ups_same number port cs ds each.1 in
    λ i. (up i && (is_link_end number port (a i) || is_link_end number port (b i))) || rest i

up_ports_same : (x y : Station) (n m : Net) → StationsBeside x y → NetsBeside n m → up_ports x n ≡ up_ports y m
up_ports_same x y n m is nets =
    let number = clock x.system in
    let ups = λ (p : ℕ). ups_same number p n.channels m.channels nets.links in
    let ports : SystemState → List ℕ =
    λ s. filter (λ p. is_up_at m.channels (clock s) p) (range_with_len 1 (length s.ports)) in
    (λ i. filter (λ p. ups p i) (range_with_len 1 (length x.system.ports))) ∙ ap ports is.system.same

module _ {F : Type 0} (answers : Bounds → ℕ → F → Option ℕ → F → Type 0) (once : AnswersOnce answers) where
  pub calls_if_live_beside : (place : ℕ) (input : Input) (w v w' v' : WorldState) (ds es : List Draw) → IsPlain input
      → HaveOwnPorts w.net.channels → WorldsBeside w v → AreDrawn answers once ds es → CallsIfLive place input w ds w'
      → CallsIfLive place input v es v' → (ds ≡ es) × WorldsBeside w' v'
  calls_if_live_beside place input w v w' v' ds es plain own is both (inl (answer, k)) (inl (said, l)) =
      let same = calls_beside answers once place input input w v w' v' ds es answer said own is plain.same
      (λ x y here there. plain.fit w.time x.system y.system) both k l in
      (same.0, same.1)
  calls_if_live_beside place input w v w' v' ds es plain own is both (inl (answer, k)) (inr (failed, none, same)) =
      absurd (both_live w v place k.station failed.station is k.here failed.here k.live failed.failed)
  calls_if_live_beside place input w v w' v' ds es plain own is both (inr (failed, none, same)) (inl (said, l)) =
      absurd (one_live w v place failed.station l.station is failed.here l.here failed.failed l.live)
  calls_if_live_beside place input w v w' v' ds es plain own is both (inr (_, k-none, k-same))
      (inr (_, l-none, l-same)) = (
        k-none ∙ sym l-none,
        subst (λ (z : WorldState). WorldsBeside z v') (sym k-same) (subst (WorldsBeside w) (sym l-same) is),
      )

  -- both ends of a link are told
  pub tells_ends_beside : (input : ℕ → Input) (c d : Channel) (w v w' v' : WorldState) (ds es : List Draw)
      → ((p : ℕ) → IsPlain (input p)) → LinksBeside c d → IsNamed w → WorldsBeside w v → AreDrawn answers once ds es
      → TellsEnds input c w ds w' → TellsEnds input d v es v' → (ds ≡ es) × WorldsBeside w' v'
  tells_ends_beside input c d w v w' v' ds es plain links named is both k l =
      let a-places = places_same w v c.a.clock d.a.clock k.place_a l.place_a k.station_a l.station_a named.clocks is
      (ap (λ (p : PortId). p.clock) links.a) k.is_a.here k.is_a.named l.is_a.here l.is_a.named in
      let b-places = places_same w v c.b.clock d.b.clock k.place_b l.place_b k.station_b l.station_b named.clocks is
      (ap (λ (p : PortId). p.clock) links.b) k.is_b.here k.is_b.named l.is_b.here l.is_b.named in
      let at_a = subst (λ (i : ℕ). CallsIfLive i (input c.a.port) v l.first l.between) a-places
      (subst (λ (p : PortId). CallsIfLive l.place_a (input p.port) v l.first l.between) (sym links.a) l.at_a) in
      let at_b = subst (λ (i : ℕ). CallsIfLive i (input c.b.port) l.between l.second v') b-places
      (subst (λ (p : PortId). CallsIfLive l.place_b (input p.port) l.between l.second v') (sym links.b) l.at_b) in
      let joins = carry_join w.net.channels k.between.net.channels
      (calls_if_live_carry k.place_a (input c.a.port) w k.first k.between k.at_a) in
      in_order answers once {P = WorldsBeside k.between l.between} {Q = WorldsBeside w' v'} ds es k.first k.second
      l.first l.second both k.draws_are l.draws_are
      (λ drawn. calls_if_live_beside k.place_a (input c.a.port) w v k.between l.between k.first l.first
      (plain c.a.port) named.ports is drawn k.at_a at_a)
      (λ between drawn. calls_if_live_beside k.place_b (input c.b.port) k.between l.between w' v' k.second l.second
      (plain c.b.port) (ports_kept w.net.channels k.between.net.channels joins named.ports) between drawn k.at_b at_b)

  -- ports of a live system come up, one after another
  calls_all_beside : (place : ℕ) (ports : List ℕ) (w v w' v' : WorldState) (ds es : List Draw)
      → HaveOwnPorts w.net.channels → WorldsBeside w v → AreDrawn answers once ds es
      → CallsAll place (map PortUp ports) w ds w' → CallsAll place (map PortUp ports) v es v'
      → (ds ≡ es) × WorldsBeside w' v'
  calls_all_beside place [] w v w' v' ds es own is both k l = (
    k.0 ∙ sym l.0,
    subst (λ (z : WorldState). WorldsBeside z v') (sym k.1) (subst (WorldsBeside w) (sym l.1) is),
  )
  calls_all_beside place (p ∷ ports) w v w' v' ds es own is both (first, rest, x, answer, d-is, k, k-more)
      (third, fourth, y, said, e-is, l, l-more) =
      let joins = carry_join w.net.channels x.net.channels (calls_carry place (PortUp p) w first answer x k) in
      in_order answers once {P = WorldsBeside x y} {Q = WorldsBeside w' v'} ds es first rest third fourth both d-is e-is
      (λ drawn. let same = calls_beside answers once place (PortUp p) (PortUp p) w v x y first third answer said own is
      refl (λ a b here there. tt) drawn k l in (same.0, same.1))
      (λ between drawn. calls_all_beside place ports x y w' v' rest fourth
      (ports_kept w.net.channels x.net.channels joins own) between drawn k-more l-more)

  pub starts_beside : (place : ℕ) (w v w' v' : WorldState) (ds es : List Draw) → HaveOwnPorts w.net.channels
      → WorldsBeside w v → AreDrawn answers once ds es → Starts place w ds w' → Starts place v es v'
      → (ds ≡ es) × WorldsBeside w' v'
  starts_beside place w v w' v' ds es own is both k l =
      let x = k.station in
      let y = l.station in
      let pair = fresh_beside w.time x y (stations_at w v place x y is k.here l.here) in
      let begun : ℕ → Station → WorldState → WorldState = λ now station z.
      record (with_station place (fresh now station) z) { net = all_timers place (fresh now station) z.net } in
      let worlds : WorldsBeside (begun w.time x w) (begun w.time y v) = record {
        time = is.time;
        last_change = is.last_change;
        stations =
            each_set StationsBeside w.stations v.stations place (fresh w.time x) (fresh w.time y) is.stations pair;
        net = all_timers_beside place (fresh w.time x) (fresh w.time y) w.net v.net pair is.net;
      } in
      let ports = up_ports_same (fresh w.time x) (fresh w.time y) w.net v.net pair is.net in
      let calls = subst (λ (ps : List ℕ). CallsAll place (map PortUp ps) (begun w.time y v) es v') (sym ports)
      (subst (λ (t : ℕ). CallsAll place (map PortUp (up_ports (fresh t y) v.net)) (begun t y v) es v') (sym is.time)
      l.calls) in
      calls_all_beside place (up_ports (fresh w.time x) w.net) (begun w.time x w) (begun w.time y v) w' v' ds es own
      worlds both k.calls calls

  pub starts_all_beside : (places : List ℕ) (w v w' v' : WorldState) (ds es : List Draw) → IsNamed w → WorldsBeside w v
      → AreDrawn answers once ds es → StartsAll places w ds w' → StartsAll places v es v'
      → (ds ≡ es) × WorldsBeside w' v'
  starts_all_beside [] w v w' v' ds es named is both k l = (
    k.0 ∙ sym l.0,
    subst (λ (z : WorldState). WorldsBeside z v') (sym k.1) (subst (WorldsBeside w) (sym l.1) is),
  )
  starts_all_beside (place ∷ places) w v w' v' ds es named is both (first, rest, x, d-is, k, k-more)
      (third, fourth, y, e-is, l, l-more) =
      in_order answers once {P = WorldsBeside x y} {Q = WorldsBeside w' v'} ds es first rest third fourth both d-is e-is
      (λ drawn. starts_beside place w v x y first third named.ports is drawn k l)
      (λ between drawn. starts_all_beside places x y w' v' rest fourth
      (named_still w x (starts_stays place w first x named.setups k) named) between drawn k-more l-more)
