-- Each port of a live system at a link that is up measures that link, and acts keep it so.
use Rattle.std.proofs.Common.{◌≡◌, ◌≢◌, ◌⊎◌, ℕ, Bool, true, false, List, [], ◌∷◌, map, Option, Some, None, slice_get, slice_set, refl, sym, ap, subst, ◌∙◌, inl, inr}
use Rattle.gptp_lists.specs.Members.{In}
use Rattle.gptp_vector.specs.declared.port.PortId.{PortId}
use Rattle.gptp_links.specs.declared.bounds.Bounds.{Bounds}
use Rattle.gptp_links.specs.declared.link.Direction.{Direction}
use Rattle.gptp_links.specs.declared.link.Direction.TheVariants.{FromA, FromB}
use Rattle.gptp_links.specs.Fate.{Draw}
use Rattle.gptp_system.specs.declared.answer.Answer.{Answer}
use Rattle.gptp_setup.specs.declared.timer.Timer.{Timer}
use Rattle.gptp_system.specs.Input.{Input, PortUp, PortDown, Frame as FrameHeard, Expires as TimerExpires, Priority}
use Rattle.gptp_system.specs.State.{clock}
use Rattle.gptp_system.specs.Steps.{HasPortNumber, IsUp}
use Rattle.gptp_model.specs.declared.station.Station.{Station}
use Rattle.gptp_model.specs.World.{Channel, Net, WorldState, sender, receiver}
use Rattle.gptp_model.specs.Act.{all_timers, in_state, Calls, Delivers, TimerRunsOut, Hears, HasFailed}
use Rattle.gptp_model.specs.Agrees.{stopped}
use Rattle.gptp_model.specs.Changing.{brought_up, failed, fresh, lost, taken_down, up_ports, with_bounds, with_setup, with_station, CallsAll, CallsIfLive, ComesUpIf, FailsIf, GoesDownIf, RecoversIf, Starts, StartsAll, TellsEnds, InjectsIf}
use Rattle.gptp_model.specs.World.{port_id}
use Rattle.gptp_model.specs.Sound.{AreApart, AreLinked, HaveOwnClocks, HaveTheirSetups, JoinPorts, IsWired}
use Rattle.gptp_model.proofs.ActsByLemmas.{join_among}
use Rattle.gptp_model.proofs.AgreeLemmas.{replaced}
use Rattle.gptp_lists.proofs.MappedLemmas.{same_there}
use Rattle.gptp_lists.proofs.PlaceLemmas.{get-set_same, set_each}
use Rattle.gptp_model.proofs.SteadyLemmas.{same_clock}
use Rattle.gptp_model.proofs.StayLemmas.{begins_same, calls_if_live_stay, calls_stay, carry_same, refreshed_stays, sends_carry, sends_one_carry, set_carry, starts_stays, stays_clocks, stays_ports, stays_setups, takes_carry, tells_ends_carry, CarryTheSame, Stays}
use Rattle.gptp_model.proofs.EndLemmas.{HasPort, among_has, stays_has_port}
use Rattle.gptp_model.proofs.UpLemmas.{brings_port, brought_ports, comes_up, is_down, stays_up}
use Rattle.gptp_scenario.specs.declared.change.Act.{Act}
use Rattle.gptp_model.specs.Acts.{Acts, Changes, set_to}
use Rattle.gptp_scenario.specs.declared.change.Change.{Change}
use Rattle.gptp_scenario.specs.declared.change.Act.TheVariants.{Change as Changing, Deliver, Expire}
use Rattle.gptp_model.specs.declared.done.Done.{Done}
use Rattle.gptp_scenario.specs.declared.change.Change.TheVariants.{Fail, Inject, LinkDown, LinkSet, LinkUp, Priority1, Recover}

-- ---- all but some ports

-- each port of a live system at a link that is up measures that link, or is one of these
abbrev pub LinkedBut : (PortId → Type 0) → WorldState → Type 0
LinkedBut Excepted w = (link place : ℕ) (direction : Direction) (channel : Channel) (station : Station)
    → slice_get w.net.channels link ≡ Some channel → channel.up ≡ true
    → slice_get w.stations place ≡ Some station → station.live ≡ true
    → clock station.system ≡ (sender direction channel).clock
    → Excepted (sender direction channel) ⊎ IsUp station.system (sender direction channel).port

-- none is
abbrev pub NoPort : PortId → Type 0
NoPort port = ⊥

pub but_none : (w : WorldState) → AreLinked w → LinkedBut NoPort w
but_none w linked link place direction channel station here up there live named =
    inr (linked link place direction channel station here up there live named)

-- where no link that is up begins at one of these, all ports measure their links
pub linked_all : (Excepted : PortId → Type 0) (w : WorldState) → LinkedBut Excepted w
    → ((link : ℕ) (direction : Direction) (channel : Channel) → slice_get w.net.channels link ≡ Some channel
    → channel.up ≡ true → Excepted (sender direction channel) → ⊥)
    → AreLinked w
linked_all Excepted w but unused link place direction channel station here up there live named =
    by (but link place direction channel station here up there live named)
  where
    by : Excepted (sender direction channel) ⊎ IsUp station.system (sender direction channel).port
        → IsUp station.system (sender direction channel).port
    by (inl excepted) = absurd (unused link direction channel here up excepted)
    by (inr runs) = runs

pub none_linked : (w : WorldState) → LinkedBut NoPort w → AreLinked w
none_linked w but = linked_all NoPort w but (λ link direction channel here up excepted. excepted)

-- ---- what changes

-- the links carry no more than they carried
pub net_but : (Excepted : PortId → Type 0) (w : WorldState) (net : Net) → CarryTheSame w.net.channels net.channels
    → LinkedBut Excepted w → LinkedBut Excepted (record w { net = net })
net_but Excepted w net carry but link place direction channel station here up there live named =
    let was = carry link channel here in
    let same = begins_same w.net.channels link direction channel was.joins in
    subst (λ p. Excepted p ⊎ IsUp station.system p.port) (sym same)
    (but link place direction was.joins.old station was.joins.here (was.up up) there live
    (named ∙ ap (λ (p : PortId). p.clock) same))

-- at its ports that are none of these, a live system measures its links
abbrev Measures : (PortId → Type 0) → WorldState → Station → Type 0
Measures Excepted w station = (link : ℕ) (direction : Direction) (channel : Channel)
    → slice_get w.net.channels link ≡ Some channel → channel.up ≡ true → station.live ≡ true
    → clock station.system ≡ (sender direction channel).clock
    → Excepted (sender direction channel) ⊎ IsUp station.system (sender direction channel).port

-- one system becomes another, and the others have no new exceptions
station_but : (Before After : PortId → Type 0) (w : WorldState) (place : ℕ) (old new : Station)
    → slice_get w.stations place ≡ Some old → Measures After w new
    → ((other : ℕ) (station : Station) (port : PortId) → other ≢ place → slice_get w.stations other ≡ Some station
    → clock station.system ≡ port.clock → Before port → After port)
    → LinkedBut Before w → LinkedBut After (with_station place new w)
station_but Before After w place old new here own others but link other direction channel station at up there =
    set_each (λ other (x : Station). x.live ≡ true → clock x.system ≡ (sender direction channel).clock
    → After (sender direction channel) ⊎ IsUp x.system (sender direction channel).port) w.stations place old new here
    (λ live named. own link direction channel at up live named)
    (λ k x apart stands live named. by k x apart stands named
    (but link k direction channel x at up stands live named))
    other station there
  where
    by : (k : ℕ) (x : Station) → k ≢ place → slice_get w.stations k ≡ Some x
        → clock x.system ≡ (sender direction channel).clock
        → Before (sender direction channel) ⊎ IsUp x.system (sender direction channel).port
        → After (sender direction channel) ⊎ IsUp x.system (sender direction channel).port
    by k x apart stands named (inl excepted) =
        inl (others k x (sender direction channel) apart stands named excepted)
    by k x apart stands named (inr runs) = inr runs

-- ---- a call

-- what a call makes of the ports of its system
calls_but : (Before After : PortId → Type 0) (place : ℕ) (input : Input) (w : WorldState) (draws : List Draw)
    (answer : Answer) (w' : WorldState) → (calls : Calls place input w draws answer w')
    → ((port : PortId) → clock calls.station.system ≡ port.clock → Before port ⊎ IsUp calls.station.system port.port
    → After port ⊎ IsUp calls.after port.port)
    → ((other : ℕ) (station : Station) (port : PortId) → other ≢ place → slice_get w.stations other ≡ Some station
    → clock station.system ≡ port.clock → Before port → After port)
    → LinkedBut Before w → LinkedBut After w'
calls_but Before After place input w draws answer w' calls own others but =
    let new : Station = in_state calls.after calls.station in
    let named = same_clock input w.time calls.station.system calls.after calls.sends answer calls.steps in
    subst (LinkedBut After) (sym calls.is)
    (net_but After (with_station place new w) calls.net
    (sends_carry w.time calls.after calls.sends draws (all_timers place new w.net) calls.net calls.sent)
    (station_but Before After w place calls.station new calls.here
    (λ link direction channel here up live is.
    own (sender direction channel) (sym named ∙ is)
    (but link place direction channel calls.station here up calls.here calls.live (sym named ∙ is)))
    others but))

-- No input but that a link goes down stops the measuring of a port. A port that it stops is excepted anyway.
pub calls_kept : (Excepted : PortId → Type 0) (place : ℕ) (input : Input) (w : WorldState) (draws : List Draw)
    (answer : Answer) (w' : WorldState) → (calls : Calls place input w draws answer w')
    → ((port : PortId) → clock calls.station.system ≡ port.clock → input ≡ PortDown port.port → Excepted port)
    → LinkedBut Excepted w → LinkedBut Excepted w'
calls_kept Excepted place input w draws answer w' calls downs but =
    calls_but Excepted Excepted place input w draws answer w' calls own (λ other station port apart there named is. is)
    but
  where
    by : (port : PortId) → clock calls.station.system ≡ port.clock → IsUp calls.station.system port.port
        → (input ≡ PortDown port.port) ⊎ (input ≢ PortDown port.port) → Excepted port ⊎ IsUp calls.after port.port
    by port named runs (inl down) = inl (downs port named down)
    by port named runs (inr other) =
        inr (stays_up input w.time calls.station.system calls.after calls.sends answer port.port calls.steps other runs)

    own : (port : PortId) → clock calls.station.system ≡ port.clock
        → Excepted port ⊎ IsUp calls.station.system port.port → Excepted port ⊎ IsUp calls.after port.port
    own port named (inl excepted) = inl excepted
    own port named (inr runs) = by port named runs (is_down input port.port)

-- ---- the links of ports go down and come up

same_port : (p q : PortId) → p.clock ≡ q.clock → p.port ≡ q.port → p ≡ q
same_port p q clocks ports = ap (λ c. port_id c p.port) clocks ∙ ap (port_id q.clock) ports

-- a port whose link goes down is excepted already
pub down_if_live : (Excepted : PortId → Type 0) (place : ℕ) (port : PortId) (w : WorldState) (draws : List Draw)
    (w' : WorldState) → Excepted port → HasPort place port w → LinkedBut Excepted w
    → CallsIfLive place (PortDown port.port) w draws w' → LinkedBut Excepted w'
down_if_live Excepted place port w draws w' excepted has but (inl (answer, calls)) =
    calls_kept Excepted place (PortDown port.port) w draws answer w' calls
    (λ q named down.
    let same : port.port ≡ q.port = cc in
    subst Excepted (same_port port q (sym (has calls.station calls.here).0 ∙ named) same) excepted) but
down_if_live Excepted place port w draws w' excepted has but (inr (failed, undrawn, is)) =
    subst (LinkedBut Excepted) (sym is) but

-- a port whose link comes up is excepted no more
pub calls_up : (Before After : PortId → Type 0) (place : ℕ) (port : PortId) (w : WorldState) (draws : List Draw)
    (answer : Answer) (w' : WorldState) → HaveOwnClocks w → HasPort place port w
    → ((q : PortId) → Before q → After q ⊎ (q ≡ port)) → LinkedBut Before w
    → Calls place (PortUp port.port) w draws answer w' → LinkedBut After w'
calls_up Before After place port w draws answer w' clocks has less but calls =
    calls_but Before After place (PortUp port.port) w draws answer w' calls own others but
  where
    at : (clock calls.station.system ≡ port.clock) × HasPortNumber calls.station.system port.port
    at = has calls.station calls.here

    runs_now : (q : PortId) → After q ⊎ (q ≡ port) → After q ⊎ IsUp calls.after q.port
    runs_now q (inl excepted) = inl excepted
    runs_now q (inr same) =
        inr (subst (λ (r : PortId). IsUp calls.after r.port) (sym same)
        (comes_up w.time calls.station.system calls.after calls.sends answer port.port calls.steps at.1))

    own : (q : PortId) → clock calls.station.system ≡ q.clock → Before q ⊎ IsUp calls.station.system q.port
        → After q ⊎ IsUp calls.after q.port
    own q named (inl excepted) = runs_now q (less q excepted)
    own q named (inr runs) =
        inr (stays_up (PortUp port.port) w.time calls.station.system calls.after calls.sends answer q.port calls.steps
        (λ same. absurd cc) runs)

    others : (other : ℕ) (station : Station) (q : PortId) → other ≢ place → slice_get w.stations other ≡ Some station
        → clock station.system ≡ q.clock → Before q → After q
    others other station q apart there named excepted = by (less q excepted)
      where
        by : After q ⊎ (q ≡ port) → After q
        by (inl still) = still
        by (inr same) =
            absurd (apart (clocks other place station calls.station there calls.here
            (named ∙ ap (λ (r : PortId). r.clock) same ∙ sym at.0)))

-- where the system has failed nothing is asked of it
failed_but : (Before After : PortId → Type 0) (place : ℕ) (port : PortId) (w : WorldState) → HaveOwnClocks w
    → HasPort place port w → HasFailed place w → ((q : PortId) → Before q → After q ⊎ (q ≡ port)) → LinkedBut Before w
    → LinkedBut After w
failed_but Before After place port w clocks has off less but link other direction channel station here up there live
    named =
    by (but link other direction channel station here up there live named)
  where
    gone : sender direction channel ≡ port → true ≡ false
    gone same =
        let at : other ≡ place =
        clocks other place station off.station there off.here
        (named ∙ ap (λ (r : PortId). r.clock) same ∙ sym (has off.station off.here).0) in
        let one : station ≡ off.station =
        same_there w.stations other station off.station there (ap (slice_get w.stations) at ∙ off.here) in
        sym live ∙ ap (λ (s : Station). s.live) one ∙ off.failed

    still : After (sender direction channel) ⊎ (sender direction channel ≡ port)
        → After (sender direction channel) ⊎ IsUp station.system (sender direction channel).port
    still (inl excepted) = inl excepted
    still (inr same) = let both = gone same in absurd cc

    by : Before (sender direction channel) ⊎ IsUp station.system (sender direction channel).port
        → After (sender direction channel) ⊎ IsUp station.system (sender direction channel).port
    by (inl excepted) = still (less (sender direction channel) excepted)
    by (inr runs) = inr runs

pub up_if_live : (Before After : PortId → Type 0) (place : ℕ) (port : PortId) (w : WorldState) (draws : List Draw)
    (w' : WorldState) → HaveOwnClocks w → HasPort place port w → ((q : PortId) → Before q → After q ⊎ (q ≡ port))
    → LinkedBut Before w → CallsIfLive place (PortUp port.port) w draws w' → LinkedBut After w'
up_if_live Before After place port w draws w' clocks has less but (inl (answer, calls)) =
    calls_up Before After place port w draws answer w' clocks has less but calls
up_if_live Before After place port w draws w' clocks has less but (inr (off, undrawn, is)) =
    subst (LinkedBut After) (sym is) (failed_but Before After place port w clocks has off less but)

-- ---- acts

calls_linked : (place : ℕ) (input : Input) (w : WorldState) (draws : List Draw) (answer : Answer) (w' : WorldState)
    → ((p : ℕ) → input ≢ PortDown p) → AreLinked w → Calls place input w draws answer w' → AreLinked w'
calls_linked place input w draws answer w' not_down linked calls =
    none_linked w' (calls_kept NoPort place input w draws answer w' calls (λ port named down. not_down port.port down)
    (but_none w linked))

hears_linked : (place port : ℕ) (octets : List ℕ) (w : WorldState) (draws : List Draw) (answer : Option Answer)
    (w' : WorldState) → AreLinked w → Hears place port octets w draws answer w' → AreLinked w'
hears_linked place port octets w draws (Some answer) w' linked hears =
    calls_linked place (FrameHeard port octets) w draws answer w' (λ p same. absurd cc) linked hears
hears_linked place port octets w draws None w' linked hears = subst AreLinked (sym hears.2) linked

net_linked : (w : WorldState) (net : Net) → CarryTheSame w.net.channels net.channels → AreLinked w
    → AreLinked (record w { net = net })
net_linked w net carry linked = none_linked (record w { net = net }) (net_but NoPort w net carry (but_none w linked))

delivers_linked : (link : ℕ) (direction : Direction) (octets : List ℕ) (w : WorldState) (draws : List Draw)
    (answer : Option Answer) (w' : WorldState) → AreLinked w → Delivers link direction octets w draws answer w'
    → AreLinked w'
delivers_linked link direction octets w draws answer w' linked delivers =
    hears_linked delivers.place (receiver direction delivers.channel).port octets (record w { net = delivers.net })
    draws answer w' (net_linked w delivers.net
    (takes_carry link direction w.time octets delivers.channel w.net delivers.net delivers.takes) linked)
    delivers.hears

expires_linked : (place : ℕ) (timer : Timer) (w : WorldState) (draws : List Draw) (w' : WorldState)
    → AreLinked w → TimerRunsOut place timer w draws w' → AreLinked w'
expires_linked place timer w draws w' linked expires =
    calls_linked place (TimerExpires timer) (stopped place timer w) draws expires.answer w' (λ p same. absurd cc) linked
    expires.calls

-- ---- a link goes down, or comes up

-- the port is one that the link joins
abbrev IsJoined : Channel → PortId → Type 0
IsJoined channel port = (port ≡ channel.a) ⊎ (port ≡ channel.b)

-- A link goes down: no link that is up is at its ports any more.
lost_unused : (place : ℕ) (channel : Channel) (w : WorldState) → slice_get w.net.channels place ≡ Some channel
    → AreApart w → (link : ℕ) (direction : Direction) (c : Channel)
    → slice_get (slice_set w.net.channels place (lost channel)) link ≡ Some c → c.up ≡ true
    → IsJoined channel (sender direction c) → ⊥
lost_unused place channel w here apart link direction c there =
    set_each (λ other (x : Channel). x.up ≡ true → IsJoined channel (sender direction x) → ⊥) w.net.channels place
    channel (lost channel) here (λ up joined. absurd cc) by link c there
  where
    by : (other : ℕ) (x : Channel) → other ≢ place → slice_get w.net.channels other ≡ Some x → x.up ≡ true
        → IsJoined channel (sender direction x) → ⊥
    by other x elsewhere stands up (inl at_a) = elsewhere (apart other place direction FromA x channel stands here at_a)
    by other x elsewhere stands up (inr at_b) = elsewhere (apart other place direction FromB x channel stands here at_b)

taken_down_linked : (place : ℕ) (channel : Channel) (w : WorldState) → slice_get w.net.channels place ≡ Some channel
    → AreLinked w → AreLinked (record w { net = taken_down place channel w.net })
taken_down_linked place channel w here linked =
    net_linked w (taken_down place channel w.net)
    (set_carry w.net.channels place channel (lost channel) here refl refl (λ up. absurd cc)) linked

goes_down : (place : ℕ) (channel : Channel) (w : WorldState) (draws : List Draw) (w' : WorldState)
    → slice_get w.net.channels place ≡ Some channel → HaveTheirSetups w → JoinPorts w → AreApart w → AreLinked w
    → TellsEnds PortDown channel (record w { net = taken_down place channel w.net }) draws w' → AreLinked w'
goes_down place channel w draws w' here setups ports apart linked tells =
    linked_all (IsJoined channel) w' told (λ link direction c there up joined.
    let was = tells_ends_carry PortDown channel down draws w' tells link c there in
    let same = begins_same down.net.channels link direction c was.joins in
    lost_unused place channel w here apart link direction was.joins.old was.joins.here (was.up up)
    (subst (IsJoined channel) same joined))
  where
    down : WorldState
    down = record w { net = taken_down place channel w.net }

    but : LinkedBut (IsJoined channel) down
    but link k direction c station at up there live named =
        inr (taken_down_linked place channel w here linked link k direction c station at up there live named)

    has_b : HasPort tells.place_b channel.b tells.between
    has_b =
        stays_has_port tells.place_b channel.b down tells.between
        (calls_if_live_stay tells.place_a (PortDown channel.a.port) down tells.first tells.between setups tells.at_a)
        (among_has tells.place_b channel.b tells.station_b down tells.is_b
        (join_among w place channel ports here FromB))

    told : LinkedBut (IsJoined channel) w'
    told =
        down_if_live (IsJoined channel) tells.place_b channel.b tells.between tells.second w' (inr refl) has_b
        (down_if_live (IsJoined channel) tells.place_a channel.a down tells.first tells.between (inl refl)
        (among_has tells.place_a channel.a tells.station_a down tells.is_a
        (join_among w place channel ports here FromA))
        but tells.at_a) tells.at_b

goes_down_linked : (up : Bool) (place : ℕ) (channel : Channel) (w : WorldState) (draws : List Draw)
    (w' : WorldState) → slice_get w.net.channels place ≡ Some channel → IsWired w
    → GoesDownIf up place channel w draws w' → AreLinked w'
goes_down_linked false place channel w draws w' here wired goes = subst AreLinked (sym goes.1) wired.linked
goes_down_linked true place channel w draws w' here wired goes =
    goes_down place channel w draws w' here wired.setups wired.ports wired.apart wired.linked goes

-- A link comes up: all ports but its own measure their links.
begins_there : (direction : Direction) (channel : Channel)
    → IsJoined channel (sender direction (record channel { up = true }))
begins_there FromA channel = inl refl
begins_there FromB channel = inr refl

brought_up_but : (place : ℕ) (channel : Channel) (w : WorldState) → slice_get w.net.channels place ≡ Some channel
    → AreLinked w → LinkedBut (IsJoined channel) (record w { net = brought_up place channel w.net })
brought_up_but place channel w here linked link k direction c station at up there live named =
    set_each (λ other (x : Channel). x.up ≡ true → clock station.system ≡ (sender direction x).clock
    → IsJoined channel (sender direction x) ⊎ IsUp station.system (sender direction x).port) w.net.channels place
    channel (record channel { up = true }) here (λ on is. inl (begins_there direction channel))
    (λ other x apart stands on is. inr (linked other k direction x station stands on there live is)) link c at up named

brought_up_linked : (place : ℕ) (channel : Channel) (w : WorldState) (draws : List Draw) (w' : WorldState)
    → slice_get w.net.channels place ≡ Some channel → HaveTheirSetups w → HaveOwnClocks w → JoinPorts w → AreLinked w
    → TellsEnds PortUp channel (record w { net = brought_up place channel w.net }) draws w' → AreLinked w'
brought_up_linked place channel w draws w' here setups clocks ports linked tells =
    none_linked w'
    (up_if_live (λ port. port ≡ channel.b) NoPort tells.place_b channel.b tells.between tells.second w'
    (stays_clocks at tells.between first clocks)
    (stays_has_port tells.place_b channel.b at tells.between first
    (among_has tells.place_b channel.b tells.station_b at tells.is_b (join_among w place channel ports here FromB)))
    (λ port is. inr is)
    (up_if_live (IsJoined channel) (λ port. port ≡ channel.b) tells.place_a channel.a at tells.first tells.between
    clocks
    (among_has tells.place_a channel.a tells.station_a at tells.is_a (join_among w place channel ports here FromA))
    less (brought_up_but place channel w here linked) tells.at_a) tells.at_b)
  where
    at : WorldState
    at = record w { net = brought_up place channel w.net }

    first : Stays at tells.between
    first = calls_if_live_stay tells.place_a (PortUp channel.a.port) at tells.first tells.between setups tells.at_a

    less : (port : PortId) → IsJoined channel port → (port ≡ channel.b) ⊎ (port ≡ channel.a)
    less port (inl is) = inr is
    less port (inr is) = inl is

comes_up_linked : (up : Bool) (place : ℕ) (channel : Channel) (w : WorldState) (draws : List Draw)
    (w' : WorldState) → slice_get w.net.channels place ≡ Some channel → IsWired w
    → ComesUpIf up place channel w draws w' → AreLinked w'
comes_up_linked true place channel w draws w' here wired comes = subst AreLinked (sym comes.1) wired.linked
comes_up_linked false place channel w draws w' here wired comes =
    brought_up_linked place channel w draws w' here wired.setups wired.clocks wired.ports wired.linked comes

with_bounds_linked : (bounds : Bounds) (place : ℕ) (channel : Channel) (w : WorldState)
    → slice_get w.net.channels place ≡ Some channel → AreLinked w
    → AreLinked (record w { net = with_bounds bounds place channel w.net })
with_bounds_linked bounds place channel w here linked =
    net_linked w (with_bounds bounds place channel w.net)
    (set_carry w.net.channels place channel (record channel { bounds = bounds }) here refl refl (λ up. up)) linked

injects_linked : (up : Bool) (from : PortId) (octets : List ℕ) (w : WorldState) (draws : List Draw) (w' : WorldState)
    → AreLinked w → InjectsIf up from octets w draws w' → AreLinked w'
injects_linked false from octets w draws w' linked (none, is) = subst AreLinked (sym is) linked
injects_linked true from octets w draws w' linked k =
    subst AreLinked (sym k.is)
    (net_linked w k.net (sends_one_carry w.time from octets k.draw w.net k.net k.sent) linked)

-- ---- changes of a system

-- one system becomes another in the same state, or fails
same_linked : (place : ℕ) (w : WorldState) (old new : Station) → slice_get w.stations place ≡ Some old
    → new.system ≡ old.system → (new.live ≡ true → old.live ≡ true) → AreLinked w → AreLinked (with_station place new w)
same_linked place w old new here same lives linked link other direction channel station at up there =
    set_each (λ k (x : Station). x.live ≡ true → clock x.system ≡ (sender direction channel).clock
    → IsUp x.system (sender direction channel).port) w.stations place old new here
    (λ live named. rw same (linked link place direction channel old at up here (lives live) (rw (← same) named)))
    (λ k x apart stands live named. linked link k direction channel x at up stands live named) other station there

fails_linked : (live : Bool) (place : ℕ) (station : Station) (w : WorldState) (draws : List Draw) (w' : WorldState)
    → slice_get w.stations place ≡ Some station → AreLinked w → FailsIf live place station w draws w' → AreLinked w'
fails_linked true place station w draws w' here linked fails =
    let new : Station = record station { live = false } in
    subst AreLinked (sym fails.1)
    (net_linked (with_station place new w) (all_timers place new w.net) (carry_same w.net.channels)
    (same_linked place w station new here refl (λ live. absurd cc) linked))
fails_linked false place station w draws w' here linked fails = subst AreLinked (sym fails.1) linked

prioritized_linked : (value place : ℕ) (station : Station) (w : WorldState) (draws : List Draw) (w' : WorldState)
    → slice_get w.stations place ≡ Some station → AreLinked w
    → CallsIfLive place (Priority value) (with_station place (with_setup value station) w) draws w' → AreLinked w'
prioritized_linked value place station w draws w' here linked called = by called
  where
    set : WorldState
    set = with_station place (with_setup value station) w

    ready : AreLinked set
    ready = same_linked place w station (with_setup value station) here refl (λ live. live) linked

    by : CallsIfLive place (Priority value) set draws w' → AreLinked w'
    by (inl (answer, calls)) =
        calls_linked place (Priority value) set draws answer w' (λ p same. absurd cc) ready calls
    by (inr (off, undrawn, is)) = subst AreLinked (sym is) ready

-- ---- a start

-- the port is one of these of the system with a clock
abbrev IsOneOf : ℕ → List ℕ → PortId → Type 0
IsOneOf number ports port = (port.clock ≡ number) × In port.port ports

-- ports come up, one after another
calls_all_up : (place number : ℕ) (ports : List ℕ) (w : WorldState) (draws : List Draw) (w' : WorldState)
    → HaveTheirSetups w → HaveOwnClocks w → ((p : ℕ) → In p ports → HasPort place (port_id number p) w)
    → LinkedBut (IsOneOf number ports) w → CallsAll place (map PortUp ports) w draws w' → AreLinked w'
calls_all_up place number [] w draws w' setups clocks has but calls =
    subst AreLinked (sym calls.1)
    (linked_all (IsOneOf number []) w but (λ link direction channel here up excepted. excepted.1))
calls_all_up place number (p ∷ ps) w draws w' setups clocks has but (first, rest, between, answer, is, calls, more) =
    calls_all_up place number ps between rest w' (stays_setups w between stays) (stays_clocks w between stays clocks)
    (λ q among. stays_has_port place (port_id number q) w between stays (has q (inr among)))
    (calls_up (IsOneOf number (p ∷ ps)) (IsOneOf number ps) place (port_id number p) w first answer between clocks
    (has p (inl refl)) less but calls) more
  where
    stays : Stays w between
    stays = calls_stay place (PortUp p) w first answer between setups calls

    less : (q : PortId) → IsOneOf number (p ∷ ps) q → IsOneOf number ps q ⊎ (q ≡ port_id number p)
    less q (named, inl here) = inr (same_port q (port_id number p) named here)
    less q (named, inr there) = inl (named, there)

-- A system starts: each of its ports whose link is up comes up.
starts_linked : (place : ℕ) (w : WorldState) (draws : List Draw) (w' : WorldState) → HaveTheirSetups w
    → HaveOwnClocks w → JoinPorts w → AreLinked w → Starts place w draws w' → AreLinked w'
starts_linked place w draws w' setups clocks ports linked starts =
    calls_all_up place (clock new.system) (up_ports new w.net) begun draws w' (stays_setups w begun stays)
    (stays_clocks w begun stays clocks) has but starts.calls
  where
    new : Station
    new = fresh w.time starts.station

    begun : WorldState
    begun = replaced place new w

    stays : Stays w begun
    stays = refreshed_stays place starts.station w starts.here setups

    now_here : slice_get begun.stations place ≡ Some new
    now_here = get-set_same w.stations place starts.station new starts.here

    has : (p : ℕ) → In p (up_ports new w.net) → HasPort place (port_id (clock new.system) p) begun
    has p among station there =
        subst (λ (s : Station). (clock s.system ≡ clock new.system) × HasPortNumber s.system p)
        (same_there begun.stations place new station now_here there) (refl, brought_ports new w.net p among)

    Asked : PortId → Type 0
    Asked = IsOneOf (clock new.system) (up_ports new w.net)

    asked : Measures Asked w new
    asked link direction channel here up live named =
        inl (
          sym named,
          brings_port new w.net link direction channel here up named
              (stays_ports w begun stays ports link place direction channel new here now_here named),
        )

    but : LinkedBut Asked begun
    but =
        net_but Asked (with_station place new w) (all_timers place new w.net) (carry_same w.net.channels)
        (station_but NoPort Asked w place starts.station new starts.here asked
        (λ other station port apart there named excepted. absurd excepted) (but_none w linked))

recovers_linked : (live : Bool) (place : ℕ) (w : WorldState) (draws : List Draw) (w' : WorldState) → IsWired w
    → RecoversIf live place w draws w' → AreLinked w'
recovers_linked true place w draws w' wired recovers = subst AreLinked (sym recovers.1) wired.linked
recovers_linked false place w draws w' wired recovers =
    starts_linked place w draws w' wired.setups wired.clocks wired.ports wired.linked recovers

pub starts_all_linked : (places : List ℕ) (w : WorldState) (draws : List Draw) (w' : WorldState) → HaveTheirSetups w
    → HaveOwnClocks w → JoinPorts w → AreLinked w → StartsAll places w draws w' → AreLinked w'
starts_all_linked [] w draws w' setups clocks ports linked starts = subst AreLinked (sym starts.1) linked
starts_all_linked (place ∷ places) w draws w' setups clocks ports linked (first, rest, between, is, one, more) =
    let stays = starts_stays place w first between setups one in
    starts_all_linked places between rest w' (stays_setups w between stays) (stays_clocks w between stays clocks)
    (stays_ports w between stays ports) (starts_linked place w first between setups clocks ports linked one) more

-- ---- all acts

changes_linked : (change : Change) (w : WorldState) (draws : List Draw) (w' : WorldState) → IsWired w
    → Changes change w draws w' → AreLinked w'
changes_linked (LinkDown number port) w draws w' wired k =
    goes_down_linked k.channel.up k.place k.channel w draws w' k.is.here wired k.so
changes_linked (LinkUp number port) w draws w' wired k =
    comes_up_linked k.channel.up k.place k.channel w draws w' k.is.here wired k.so
changes_linked (LinkSet number port min max loss) w draws w' wired k =
    subst AreLinked (sym k.so.1)
    (with_bounds_linked (set_to min max loss k.channel) k.place k.channel w k.is.here wired.linked)
changes_linked (Fail number) w draws w' wired k =
    fails_linked k.station.live k.place k.station w draws w' k.is.here wired.linked k.so
changes_linked (Recover number) w draws w' wired k = recovers_linked k.station.live k.place w draws w' wired k.so
changes_linked (Priority1 number value) w draws w' wired k =
    prioritized_linked value k.place k.station w draws w' k.is.here wired.linked k.so
changes_linked (Inject number port octets) w draws w' wired k =
    injects_linked k.channel.up (port_id number port) octets w draws w' wired.linked k.so

pub acts_linked : (act : Act) (w : WorldState) (draws : List Draw) (done : Done) (w' : WorldState) → IsWired w
    → Acts act w draws done w' → AreLinked w'
acts_linked (Deliver link direction) w draws done w' wired k =
    delivers_linked link direction k.octets w draws k.answer w' wired.linked k.delivers
acts_linked (Expire number timer) w draws done w' wired k =
    expires_linked k.1.place timer w draws w' wired.linked k.1.so
acts_linked (Changing change) w draws done w' wired k =
    changes_linked change (record w { last_change = w.time }) draws w' (record {
      setups = wired.setups;
      clocks = wired.clocks;
      ports = wired.ports;
      apart = wired.apart;
      flow = wired.flow;
      linked = wired.linked;
    }) k.1
