-- What every act, every change and every start keeps: what each of their elementary steps keeps.
use Rattle.std.proofs.Common.{◌≡◌, ◌≤◌, ℕ, Bool, true, false, List, [], ◌∷◌, length, map, Option, Some, None, slice_get, refl, sym, ap, subst, ◌∙◌, inl, inr, arith}
use Rattle.std.specs.Prelude.{⊤}
use Rattle.std.proofs.lemmas.Option.{same_Some}
use Rattle.gptp_lists.specs.Members.{In}
use Rattle.gptp_lists.proofs.MappedLemmas.{same_there}
use Rattle.gptp_lists.proofs.PlaceLemmas.{get-set_same}
use Rattle.gptp_links.specs.declared.link.Direction.{Direction}
use Rattle.gptp_links.specs.declared.link.Direction.TheVariants.{FromA, FromB}
use Rattle.gptp_links.specs.Fate.{Draw}
use Rattle.gptp_links.specs.Queue.{Frame}
use Rattle.gptp_setup.specs.declared.timer.Timer.{Timer}
use Rattle.gptp_system.specs.declared.answer.Answer.{Answer}
use Rattle.gptp_system.specs.Input.{Input, IsTimely, Expires as TimerExpires, Frame as FrameHeard, PortDown, PortUp, Priority}
use Rattle.gptp_system.specs.State.{SystemState, clock, due}
use Rattle.gptp_system.specs.Steps.{HasPortNumber, IsDue, IsUp}
use Rattle.gptp_scenario.specs.declared.change.Act.{Act}
use Rattle.gptp_scenario.specs.declared.change.Act.TheVariants.{Change as Changing, Deliver, Expire}
use Rattle.gptp_scenario.specs.declared.change.Change.{Change}
use Rattle.gptp_scenario.specs.declared.change.Change.TheVariants.{Fail, Inject, LinkDown, LinkSet, LinkUp, Priority1, Recover}
use Rattle.gptp_model.specs.declared.done.Done.{Done}
use Rattle.gptp_model.specs.declared.station.Station.{Station}
use Rattle.gptp_model.specs.Act.{Calls, Delivers, Hears, TakesFrame, TimerRunsOut}
use Rattle.gptp_model.specs.Acts.{Acts, Changes, set_to}
use Rattle.gptp_model.specs.Agrees.{stopped}
use Rattle.gptp_model.specs.Ahead.{HasPorts, IsPortAmong}
use Rattle.gptp_model.specs.Changing.{CallsAll, CallsIfLive, ComesUpIf, FailsIf, GoesDownIf, Injects, InjectsIf, RecoversIf, Starts, StartsAll, TellsEnds, brought_up, failed, fresh, taken_down, up_ports, with_bounds, with_setup, with_station}
use Rattle.gptp_model.specs.Sound.{IsWired, JoinPorts}
use Rattle.gptp_model.specs.World.{Channel, Net, WorldState, port_id, receiver, sender, station_due, world_queue}
use Rattle.gptp_model.proofs.AgreeLemmas.{replaced}
use Rattle.gptp_model.proofs.AheadLemmas.{calls_ports, live_due}
use Rattle.gptp_model.proofs.UpLemmas.{brought_ports}

-- ---- ports that come up or go down

-- the ports at the ends of a link are those of systems
pub join_among : (w : WorldState) (link : ℕ) (channel : Channel) → JoinPorts w
    → slice_get w.net.channels link ≡ Some channel → (direction : Direction)
    → IsPortAmong (sender direction channel) w.stations
join_among w link channel ports here direction place station there named =
    ports link place direction channel station here there named

-- a system has as many ports as before
calls_if_live_ports : (place : ℕ) (input : Input) (w : WorldState) (draws : List Draw) (w' : WorldState)
    → CallsIfLive place input w draws w' → (other ports : ℕ) → HasPorts other ports w → HasPorts other ports w'
calls_if_live_ports place input w draws w' (inl (answer, k)) other ports has =
    calls_ports place input w draws answer w' k other ports has
calls_if_live_ports place input w draws w' (inr (failed, none, is)) other ports has =
    subst (HasPorts other ports) (sym is) has

-- every call that gives a port such an input keeps this; that the port is one of the system follows from what is known
abbrev pub PortCallsKeep : Type 0 → (ℕ → Input) → (WorldState → Type 0) → Type 0
PortCallsKeep Known input Is = (place port : ℕ) (w : WorldState) (draws : List Draw) (answer : Answer) (w' : WorldState)
    (k : Calls place (input port) w draws answer w') → (Known → HasPortNumber k.station.system port) → Is w → Is w'

module _ (Known : Type 0) (Is : WorldState → Type 0) (input : ℕ → Input) (called : PortCallsKeep Known input Is) where
  port_told : (place port : ℕ) (w : WorldState) (draws : List Draw) (w' : WorldState)
      → (Known → (station : Station) → slice_get w.stations place ≡ Some station → HasPortNumber station.system port)
      → CallsIfLive place (input port) w draws w' → Is w → Is w'
  port_told place port w draws w' of (inl (answer, k)) is =
      called place port w draws answer w' k (λ known. of known k.station k.here) is
  port_told place port w draws w' of (inr (failed, none, same)) is = subst Is (sym same) is

  -- both ends of a link are told
  pub ends_told : (channel : Channel) (w : WorldState) (draws : List Draw) (w' : WorldState)
      → (Known → (direction : Direction) → IsPortAmong (sender direction channel) w.stations)
      → TellsEnds input channel w draws w' → Is w → Is w'
  ends_told channel w draws w' ports k is =
      port_told k.place_b channel.b.port k.between k.second w' at_b k.at_b
      (port_told k.place_a channel.a.port w k.first k.between at_a k.at_a is)
    where
      at_a : Known → (station : Station) → slice_get w.stations k.place_a ≡ Some station
          → HasPortNumber station.system channel.a.port
      at_a known station there =
          ports known FromA k.place_a station there
          (ap (λ (x : Station). clock x.system) (same_there w.stations k.place_a station k.station_a there k.is_a.here)
          ∙ k.is_a.named)

      at_b : Known → (station : Station) → slice_get k.between.stations k.place_b ≡ Some station
          → HasPortNumber station.system channel.b.port
      at_b known station there =
          let old = ports known FromB k.place_b k.station_b k.is_b.here k.is_b.named in
          let count = calls_if_live_ports k.place_a (input channel.a.port) w k.first k.between k.at_a k.place_b
          (length k.station_b.system.ports)
          (λ other here. ap (λ (x : Station). length x.system.ports)
          (same_there w.stations k.place_b other k.station_b here k.is_b.here))
          station there in
          record { least = old.least; most = rw count old.most }

-- Ports of the system at a place, which has as many as this one, are told one after another. What is so: with those
-- that are still to be told.
module _ (input : ℕ → Input) (place : ℕ) (s : SystemState) (Is : List ℕ → WorldState → Type 0)
    (called : (port : ℕ) (ports : List ℕ) (w : WorldState) (draws : List Draw) (answer : Answer) (w' : WorldState)
    (k : Calls place (input port) w draws answer w') → HasPortNumber k.station.system port → Is (port ∷ ports) w
    → Is ports w') where
  pub ports_told : (ports : List ℕ) (w : WorldState) (draws : List Draw) (w' : WorldState)
      → HasPorts place (length s.ports) w → ((port : ℕ) → In port ports → HasPortNumber s port)
      → CallsAll place (map input ports) w draws w' → Is ports w → Is [] w'
  ports_told [] w draws w' has among (none, same) is = subst (Is []) (sym same) is
  ports_told (p ∷ ps) w draws w' has among (first, rest, between, answer, split, k, more) is =
      let of = among p (inl refl) in
      let count = has k.station k.here in
      let there : HasPortNumber k.station.system p = record { least = of.least; most = rw count of.most } in
      ports_told ps between rest w' (calls_ports place (input p) w first answer between k place (length s.ports) has)
      (λ q member. among q (inr member)) more (called p ps w first answer between k there is)

-- ---- starts

-- a system stands at its place as it starts, and then its ports come up
pub start_ports_told : (place : ℕ) (Is : List ℕ → WorldState → Type 0)
    → ((port : ℕ) (ports : List ℕ) (w : WorldState) (draws : List Draw) (answer : Answer) (w' : WorldState)
    (k : Calls place (PortUp port) w draws answer w') → HasPortNumber k.station.system port → Is (port ∷ ports) w
    → Is ports w')
    → (w : WorldState) (draws : List Draw) (w' : WorldState) → (k : Starts place w draws w')
    → Is (up_ports (fresh w.time k.station) w.net) (replaced place (fresh w.time k.station) w) → Is [] w'
start_ports_told place Is called w draws w' k =
    let new : Station = fresh w.time k.station in
    ports_told PortUp place new.system Is called (up_ports new w.net) (replaced place new w) draws w'
    (λ station there. ap (λ (x : Station). length x.system.ports)
    (sym (same_Some new station (sym (get-set_same w.stations place k.station new k.here) ∙ there))))
    (brought_ports new w.net) k.calls

pub start_told : (Known : Type 0) (Is : WorldState → Type 0) → PortCallsKeep Known PortUp Is → (place : ℕ)
    (w : WorldState) (draws : List Draw) (w' : WorldState) → (k : Starts place w draws w')
    → Is (replaced place (fresh w.time k.station) w) → Is w'
start_told Known Is called place =
    start_ports_told place (λ ports. Is)
    (λ port ports w draws answer w' k of. called place port w draws answer w' k (λ known. of))

module _ (Known : Type 0) (Is : WorldState → Type 0) (called : PortCallsKeep Known PortUp Is)
    (started : (place : ℕ) (station : Station) (w : WorldState) → slice_get w.stations place ≡ Some station → Is w
    → Is (replaced place (fresh w.time station) w)) where
  pub system_starts : (place : ℕ) (w : WorldState) (draws : List Draw) (w' : WorldState) → Starts place w draws w'
      → Is w → Is w'
  system_starts place w draws w' k is =
      start_told Known Is called place w draws w' k (started place k.station w k.here is)

  pub systems_start : (places : List ℕ) (w : WorldState) (draws : List Draw) (w' : WorldState)
      → StartsAll places w draws w' → Is w → Is w'
  systems_start [] w draws w' (none, same) is = subst Is (sym same) is
  systems_start (place ∷ places) w draws w' (first, rest, between, split, one, more) is =
      systems_start places between rest w' more (system_starts place w first between one is)

-- ---- the elementary steps

-- what is known of what an input says: that of a frame in flight, and that a change sets such a priority1
abbrev pub SaysWhatIsKnown : (Act → Type 0) → (List ℕ → Type 0) → Input → Type 0
SaysWhatIsKnown Allows Says (FrameHeard port octets) = Says octets
SaysWhatIsKnown Allows Says (Priority value) = (number : ℕ) × Allows (Changing (Priority1 number value))
SaysWhatIsKnown Allows Says input = ⊤

-- an input as a system is given it: in time, which follows from what is known of the world
pub record IsGiven (Known : Type 0) (Allows : Act → Type 0) (Says : List ℕ → Type 0) (input : Input) (now : ℕ)
    (s : SystemState) : Type 0 where
  pub timely : Known → IsTimely s now input
  pub says : SaysWhatIsKnown Allows Says input

-- What each elementary step of an act keeps. Known is ⊤ where the world is known to be wired, and ⊥ where nothing is
-- known of it; Allows: the acts; Says: what frames in flight say.
pub record Elementary (Known : Type 0) (Allows : Act → Type 0) (Says : List ℕ → Type 0) (Is : WorldState → Type 0) :
    Type 0 where
  pub system_called : (place : ℕ) (input : Input) (w : WorldState) (draws : List Draw) (answer : Answer)
      (w' : WorldState) (k : Calls place input w draws answer w')
      → IsGiven Known Allows Says input w.time k.station.system → Is w → Is w'
  pub frame_taken : (link : ℕ) (direction : Direction) (octets : List ℕ) (channel : Channel) (w : WorldState)
      (net : Net)
      → TakesFrame link direction w.time octets channel w.net net → Is w → Is (record w { net = net }) × Says octets
  pub timer_stopped : (place : ℕ) (timer : Timer) (w : WorldState) → Is w → Is (stopped place timer w)
  pub link_down : (place : ℕ) (channel : Channel) (w : WorldState) → slice_get w.net.channels place ≡ Some channel
      → Is w → Is (record w { net = taken_down place channel w.net })
  pub link_up : (place : ℕ) (channel : Channel) (w : WorldState) → slice_get w.net.channels place ≡ Some channel
      → Is w → Is (record w { net = brought_up place channel w.net })
  pub link_set : (number port min max loss place : ℕ) (channel : Channel) (w : WorldState)
      → slice_get w.net.channels place ≡ Some channel → Allows (Changing (LinkSet number port min max loss))
      → w.last_change ≡ w.time → Is w
      → Is (record w { net = with_bounds (set_to min max loss channel) place channel w.net })
  pub system_failed : (place : ℕ) (station : Station) (w : WorldState) → slice_get w.stations place ≡ Some station
      → Is w → Is (failed place station w)
  pub system_started : (place : ℕ) (station : Station) (w : WorldState) → slice_get w.stations place ≡ Some station
      → Is w → Is (replaced place (fresh w.time station) w)
  pub priority_set : (number value place : ℕ) (station : Station) (w : WorldState)
      → slice_get w.stations place ≡ Some station → Allows (Changing (Priority1 number value)) → Is w
      → Is (with_station place (with_setup value station) w)
  pub octets_injected : (number port : ℕ) (octets : List ℕ) (w : WorldState) (draws : List Draw) (w' : WorldState)
      → Allows (Changing (Inject number port octets)) → Injects (port_id number port) octets w draws w' → Is w → Is w'
  pub change_counted : (w : WorldState) → Is w → Is (record w { last_change = w.time })

-- ---- in time

-- a timer that runs out is due
pub expires_due : (place : ℕ) (timer : Timer) (w : WorldState) (draws : List Draw) (w' : WorldState)
    → (k : TimerRunsOut place timer w draws w') → due timer k.calls.station.system ≡ Some w.time
expires_due place timer w draws w' k =
    sym (live_due k.calls.station timer k.calls.live)
    ∙ ap (station_due timer) (same_there w.stations place k.calls.station k.station k.calls.here k.here) ∙ k.now_due

pub expires_timely : (place : ℕ) (timer : Timer) (w : WorldState) (draws : List Draw) (w' : WorldState)
    → (k : TimerRunsOut place timer w draws w') → IsDue k.calls.station.system timer w.time
expires_timely place timer w draws w' k =
    let least : w.time ≤ w.time = omega arith in rw (expires_due place timer w draws w' k) least

-- a frame is in flight on a link that is up, so that the port at its end measures that link
opposite_up : (w : WorldState) (link place : ℕ) (direction : Direction) (channel : Channel) (station : Station)
    → IsWired w
    → slice_get w.net.channels link ≡ Some channel → channel.up ≡ true → slice_get w.stations place ≡ Some station
    → station.live ≡ true → clock station.system ≡ (receiver direction channel).clock
    → IsUp station.system (receiver direction channel).port
opposite_up w link place FromA channel station is here up there live named =
    is.linked link place FromB channel station here up there live named
opposite_up w link place FromB channel station is here up there live named =
    is.linked link place FromA channel station here up there live named

in_flight_up : (up : Bool) (frames : List Frame) (oldest : Frame) (rest : List Frame) → (up ≡ false → frames ≡ [])
    → frames ≡ oldest ∷ rest → up ≡ true
in_flight_up true frames oldest rest still front = refl
in_flight_up false frames oldest rest still front = let none = still refl in absurd cc

pub delivered_up : (link : ℕ) (direction : Direction) (octets : List ℕ) (w : WorldState) (draws : List Draw)
    (answer : Option Answer) (w' : WorldState) (k : Delivers link direction octets w draws answer w') → IsWired w
    → k.station.live ≡ true → IsUp k.station.system (receiver direction k.channel).port
delivered_up link direction octets w draws answer w' k is live =
    let up = in_flight_up k.channel.up (world_queue direction k.channel) _ k.takes.rest
    (is.flow link direction k.channel k.takes.here).still k.takes.front in
    opposite_up w link k.place direction k.channel k.station is k.takes.here up k.there live k.is_end

-- and so where it stands at that place
pub reached_up : (link : ℕ) (direction : Direction) (octets : List ℕ) (w : WorldState) (draws : List Draw)
    (answer : Option Answer) (w' : WorldState) (k : Delivers link direction octets w draws answer w') → IsWired w
    → (station : Station) → slice_get w.stations k.place ≡ Some station → station.live ≡ true
    → IsUp station.system (receiver direction k.channel).port
reached_up link direction octets w draws answer w' k wired station here live =
    let same : k.station ≡ station = same_there w.stations k.place k.station station k.there here in
    subst (λ (x : Station). IsUp x.system (receiver direction k.channel).port) same
    (delivered_up link direction octets w draws answer w' k wired (ap (λ (x : Station). x.live) same ∙ live))

-- ---- every act

module _ {Known : Type 0} {Allows : Act → Type 0} {Says : List ℕ → Type 0} {Is : WorldState → Type 0}
    (e : Elementary Known Allows Says Is) where
  port_up : PortCallsKeep Known PortUp Is
  port_up place port w draws answer w' k of =
      e.system_called place (PortUp port) w draws answer w' k (record { timely = of; says = tt })

  port_down : PortCallsKeep Known PortDown Is
  port_down place port w draws answer w' k of =
      e.system_called place (PortDown port) w draws answer w' k (record { timely = of; says = tt })

  pub start_by : (place : ℕ) (w : WorldState) (draws : List Draw) (w' : WorldState) → Starts place w draws w' → Is w
      → Is w'
  start_by = system_starts Known Is port_up e.system_started

  pub starts_by : (places : List ℕ) (w : WorldState) (draws : List Draw) (w' : WorldState)
      → StartsAll places w draws w' → Is w → Is w'
  starts_by = systems_start Known Is port_up e.system_started

  -- ---- changes

  goes_down : (up : Bool) (place : ℕ) (channel : Channel) (w : WorldState) (draws : List Draw) (w' : WorldState)
      → slice_get w.net.channels place ≡ Some channel → (Known → JoinPorts w)
      → GoesDownIf up place channel w draws w' → Is w → Is w'
  goes_down false place channel w draws w' here joins (none, same) is = subst Is (sym same) is
  goes_down true place channel w draws w' here joins k is =
      ends_told Known Is PortDown port_down channel (record w { net = taken_down place channel w.net }) draws w'
      (λ known. join_among w place channel (joins known) here) k (e.link_down place channel w here is)

  comes_up : (up : Bool) (place : ℕ) (channel : Channel) (w : WorldState) (draws : List Draw) (w' : WorldState)
      → slice_get w.net.channels place ≡ Some channel → (Known → JoinPorts w)
      → ComesUpIf up place channel w draws w' → Is w → Is w'
  comes_up true place channel w draws w' here joins (none, same) is = subst Is (sym same) is
  comes_up false place channel w draws w' here joins k is =
      ends_told Known Is PortUp port_up channel (record w { net = brought_up place channel w.net }) draws w'
      (λ known. join_among w place channel (joins known) here) k (e.link_up place channel w here is)

  fails : (live : Bool) (place : ℕ) (station : Station) (w : WorldState) (draws : List Draw) (w' : WorldState)
      → slice_get w.stations place ≡ Some station → FailsIf live place station w draws w' → Is w → Is w'
  fails true place station w draws w' here (none, same) is =
      subst Is (sym same) (e.system_failed place station w here is)
  fails false place station w draws w' here (none, same) is = subst Is (sym same) is

  recovers : (live : Bool) (place : ℕ) (w : WorldState) (draws : List Draw) (w' : WorldState)
      → RecoversIf live place w draws w' → Is w → Is w'
  recovers true place w draws w' (none, same) is = subst Is (sym same) is
  recovers false place w draws w' k is = start_by place w draws w' k is

  priority_told : (number value place : ℕ) (w : WorldState) (draws : List Draw) (w' : WorldState)
      → Allows (Changing (Priority1 number value)) → CallsIfLive place (Priority value) w draws w' → Is w → Is w'
  priority_told number value place w draws w' allowed (inl (answer, k)) is =
      e.system_called place (Priority value) w draws answer w' k
      (record { timely = λ known. tt; says = (number, allowed) }) is
  priority_told number value place w draws w' allowed (inr (failed, none, same)) is = subst Is (sym same) is

  injects : (up : Bool) (number port : ℕ) (octets : List ℕ) (w : WorldState) (draws : List Draw) (w' : WorldState)
      → Allows (Changing (Inject number port octets)) → InjectsIf up (port_id number port) octets w draws w' → Is w
      → Is w'
  injects true number port octets w draws w' allowed k is = e.octets_injected number port octets w draws w' allowed k is
  injects false number port octets w draws w' allowed (none, same) is = subst Is (sym same) is

  -- a change at the world's time, which is counted as the last
  pub changes_by : (change : Change) (w : WorldState) (draws : List Draw) (w' : WorldState) → (Known → JoinPorts w)
      → w.last_change ≡ w.time → Allows (Changing change) → Changes change w draws w' → Is w → Is w'
  changes_by (LinkDown number port) w draws w' joins now allowed k is =
      goes_down k.channel.up k.place k.channel w draws w' k.is.here joins k.so is
  changes_by (LinkUp number port) w draws w' joins now allowed k is =
      comes_up k.channel.up k.place k.channel w draws w' k.is.here joins k.so is
  changes_by (LinkSet number port min max loss) w draws w' joins now allowed k is =
      subst Is (sym k.so.1) (e.link_set number port min max loss k.place k.channel w k.is.here allowed now is)
  changes_by (Fail number) w draws w' joins now allowed k is =
      fails k.station.live k.place k.station w draws w' k.is.here k.so is
  changes_by (Recover number) w draws w' joins now allowed k is = recovers k.station.live k.place w draws w' k.so is
  changes_by (Priority1 number value) w draws w' joins now allowed k is =
      priority_told number value k.place (with_station k.place (with_setup value k.station) w) draws w' allowed k.so
      (e.priority_set number value k.place k.station w k.is.here allowed is)
  changes_by (Inject number port octets) w draws w' joins now allowed k is =
      injects k.channel.up number port octets w draws w' allowed k.so is

  -- ---- acts

  arrives : (link : ℕ) (direction : Direction) (octets : List ℕ) (w : WorldState) (draws : List Draw)
      (answer : Option Answer) (w' : WorldState) → (Known → IsWired w)
      → Delivers link direction octets w draws answer w' → Is w → Is w'
  arrives link direction octets w draws answer w' wired k is = by answer k.hears
    where
      port : ℕ
      port = (receiver direction k.channel).port

      taken : WorldState
      taken = record w { net = k.net }

      left : Is taken × Says octets
      left = e.frame_taken link direction octets k.channel w k.net k.takes is

      by : (a : Option Answer) → Hears k.place port octets taken draws a w' → Is w'
      by (Some one) c =
          e.system_called k.place (FrameHeard port octets) taken draws one w' c
          (record {
            timely = λ known.
                reached_up link direction octets w draws answer w' k (wired known) c.station c.here c.live;
            says = left.1;
          }) left.0
      by None (failed, none, same) = subst Is (sym same) left.0

  runs_out : (place : ℕ) (timer : Timer) (w : WorldState) (draws : List Draw) (w' : WorldState)
      → TimerRunsOut place timer w draws w' → Is w → Is w'
  runs_out place timer w draws w' k is =
      e.system_called place (TimerExpires timer) (stopped place timer w) draws k.answer w' k.calls
      (record { timely = λ known. expires_timely place timer w draws w' k; says = tt })
      (e.timer_stopped place timer w is)

  pub acts_by : (act : Act) (w : WorldState) (draws : List Draw) (done : Done) (w' : WorldState) → (Known → IsWired w)
      → Allows act → Acts act w draws done w' → Is w → Is w'
  acts_by (Deliver link direction) w draws done w' wired allowed k is =
      arrives link direction k.octets w draws k.answer w' wired k.delivers is
  acts_by (Expire number timer) w draws done w' wired allowed k is = runs_out k.1.place timer w draws w' k.1.so is
  acts_by (Changing change) w draws done w' wired allowed k is =
      let now : WorldState = record w { last_change = w.time } in
      changes_by change now draws w' (λ known. (wired known).ports) refl allowed k.1 (e.change_counted w is)
