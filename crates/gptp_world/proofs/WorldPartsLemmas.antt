-- How a call of a system is carried out.
use Rattle.std.proofs.Common.{◌≡◌, ◌≢◌, ◌⊎◌, ℕ, ◌*◌, ◌≤◌, if◌then◌else◌, Bool, true, false, List, [], length, map, Option, Some, slice_get, slice_set, slice_index_or, refl, ap, ap₂, subst, sym, ◌∙◌, inl, inr, arith}
use Rattle.std.proofs.lemmas.Option.{same_Some}
use Rattle.std.proofs.lemmas.List.{length-set}
use Rattle.gptp_links.specs.declared.bounds.Bounds.{Bounds}
use Rattle.gptp_messages.specs.Head.{message_type}
use Rattle.gptp_system.specs.declared.answer.Answer.{Answer}
use Rattle.gptp_system.specs.declared.reach.Reach.{Reach}
use Rattle.gptp_system.specs.declared.reach.Reach.TheVariants as reaches
use Rattle.gptp_system.specs.declared.sending.Sending.{Sending}
use Rattle.gptp_system.specs.Input.{Input, IsTimely, Steps, PortUp, PortDown, Frame, Expires, Priority}
use Rattle.gptp_system.specs.Reach.{SendsWithin}
use Rattle.gptp_system.specs.State.{SystemState, clock}
use Rattle.gptp_traffic.specs.declared.joined_link.Lane.{Lane}
use Rattle.gptp_world.specs.declared.net.Net.{Net as Between}
use Rattle.gptp_model.specs.declared.station.Station.{Station}
use Rattle.gptp_model.specs.Act.{set_timers, all_timers, in_state}
use Rattle.gptp_world.specs.Net.{SentAll}
use Rattle.gptp_world.specs.Directory.{BeginsAt}
use Rattle.gptp_world.specs.Net.{between, IsNet, OnlyEntries}
use Rattle.gptp_model.specs.World.{port_id}
use Rattle.gptp_world.specs.Room.{for_call, no_room, WorldHasRoom, Uses}
use Rattle.gptp_system.specs.Reach.{may_select, reach, timer_reach}
use Rattle.gptp_setup.specs.declared.limits.TheConstants.{MOST_PORTS}
use Rattle.gptp_setup.specs.declared.timer.Timer.{Timer}
use Rattle.gptp_setup.specs.declared.timer.Timer.TheVariants as timers
use Rattle.gptp_system.specs.Steps.{IsTimerOf}
use Rattle.gptp_system.proofs.ReachLemmas.{steps_reach}
use Rattle.gptp_system.proofs.TimelyLemmas.{timely_timer}
use Rattle.gptp_world.specs.declared.world_parts.WorldParts.{WorldParts}
use Rattle.gptp_world.specs.WorldParts.{clock_at_place, for_left, Called, CallUses, CarriesOut, HasRoomToCall, HasStepped, IsLiveAt, IsWorldParts, IsTimelyAt}
use Rattle.gptp_model.specs.Pending.{Entry}
use Rattle.gptp_model.specs.World.{timers_from, Channel, Net}
use Rattle.gptp_world.proofs.NeedLemmas.{covered, still_room, uses_less, Covers}
use Rattle.gptp_model.proofs.SteadyLemmas.{same_clock, same_ports}
use Rattle.gptp_lists.proofs.PlaceLemmas.{read, get-set_same, get-set_other, map-set_same, same_place}

-- ---- the timers are set

pub net_kept : (used : ℕ) (net net' : Between) → OnlyEntries used net net' → IsNet net → IsNet net'
net_kept used net net' only is =
    let channels = only.channels in let directory = only.directory in
    record { joins = rw (channels, directory) is.joins }

pub timers_set : (used place : ℕ) (station : Station) (net net' : Between) → OnlyEntries used net net'
    → net'.traffic.net.pending ≡ set_timers place station (timers_from 1 station.system.ports) net.traffic.net.pending
    → between net' ≡ all_timers place station (between net)
timers_set used place station net net' only entries = ap₂ made only.channels entries
  where
    made : List Channel → List Entry → Net
    made channels pending = record { channels = channels; pending = pending }

-- ---- what a call sends has room

-- a step that sends at a port is of a system that has one, and so sends at most two frames at each
pub few_sends : (r : Reach) (ports : ℕ) (xs : List Sending) → SendsWithin r ports xs
    → ((p : ℕ) → r ≡ reaches.Port p → 1 ≤ ports) → length xs ≤ 2 * ports
few_sends reaches.Nothing ports xs within has = rw within (omega arith)
few_sends (reaches.Port one) ports xs within has =
    let few = within.few in let some = has one refl in omega (arith, few, some)
few_sends reaches.All ports xs within has = within.few

-- ---- one call

clocks_kept : (parts : WorldParts) (place : ℕ) (old new : Station) → IsWorldParts parts
    → slice_get parts.stations.items place ≡ Some old
    → clock new.system ≡ clock old.system
    → map clock_at_place (slice_set parts.stations.items place new) ≡ parts.net.directory.clocks
clocks_kept parts place old new is here same =
    map-set_same clock_at_place parts.stations.items place old new here same ∙ is.clocks

few_kept : (parts : WorldParts) (place : ℕ) (old new : Station) → IsWorldParts parts
    → slice_get parts.stations.items place ≡ Some old
    → length new.system.ports ≡ length old.system.ports
    → (other : ℕ) (station : Station) → slice_get (slice_set parts.stations.items place new) other ≡ Some station
    → length station.system.ports ≤ MOST_PORTS
few_kept parts place old new is here same other station there = by (same_place other place)
  where
    by : (other ≡ place) ⊎ (other ≢ place) → length station.system.ports ≤ MOST_PORTS
    by (inl places) =
        let now_here = get-set_same parts.stations.items place old new here in
        let one : station ≡ new =
        same_Some station new
        (sym there ∙ (ap (slice_get (slice_set parts.stations.items place new)) places ∙ now_here)) in
        let few = is.few place old here in
        rw one (rw same few)
    by (inr apart) = is.few other station (sym (get-set_other parts.stations.items place other new apart) ∙ there)

ports_kept : (parts : WorldParts) (place : ℕ) (old new : Station) → IsWorldParts parts
    → slice_get parts.stations.items place ≡ Some old
    → length new.system.ports ≡ length old.system.ports → clock new.system ≡ clock old.system
    → (other : ℕ) (station : Station) (p : ℕ) (lane : Lane)
    → slice_get (slice_set parts.stations.items place new) other ≡ Some station
    → BeginsAt parts.net.directory.joins (port_id (clock station.system) p) lane → (1 ≤ p)
    × (p ≤ length station.system.ports)
ports_kept parts place old new is here count clocks other station p lane there begins = by (same_place other place)
  where
    by : (other ≡ place) ⊎ (other ≢ place) → (1 ≤ p) × (p ≤ length station.system.ports)
    by (inl places) =
        let now_here = get-set_same parts.stations.items place old new here in
        let one : station ≡ new =
        same_Some station new
        (sym there ∙ (ap (slice_get (slice_set parts.stations.items place new)) places ∙ now_here)) in
        let starts : BeginsAt parts.net.directory.joins (port_id (clock old.system) p) lane = rw (← clocks, ← one)
        begins in
        rw one (rw count (is.ports place old p lane here starts))
    by (inr apart) =
        is.ports other station p lane (sym (get-set_other parts.stations.items place other new apart) ∙ there) begins

-- a timer that reaches one port alone is of a system that has a port
timer_has_port : (timer : Timer) (s : SystemState) → IsTimerOf s timer → (p : ℕ) → timer_reach timer s ≡ reaches.Port p
    → 1 ≤ length s.ports
timer_has_port (timers.Announce q) s is p at = let least = is.least in let most = is.most in omega arith
timer_has_port (timers.Age q) s is p at = let least = is.least in let most = is.most in omega arith
timer_has_port (timers.Pdelay q) s is p at = let least = is.least in let most = is.most in omega arith
timer_has_port (timers.Respond q) s is p at = let least = is.least in let most = is.most in omega arith
timer_has_port timers.Sync s is p at = absurd cc
timer_has_port timers.Relay s is p at = absurd cc
timer_has_port timers.Lapse s is p at = absurd cc

-- no frame reaches one port alone
frame_reaches : (selects : Bool) (p : ℕ) → (if selects then reaches.All else reaches.Nothing) ≡ reaches.Port p → ⊥
frame_reaches true p at = absurd cc
frame_reaches false p at = absurd cc

-- an input that reaches one port alone is given to a system that has a port
has_port : (input : Input) (s : SystemState) (now : ℕ) → IsTimely s now input → (p : ℕ) → reach input s ≡ reaches.Port p
    → 1 ≤ length s.ports
has_port (PortUp q) s now is p at = let least = is.least in let most = is.most in omega arith
has_port (PortDown q) s now is p at = absurd cc
has_port (Frame q octets) s now is p at = absurd (frame_reaches (may_select (message_type octets)) p at)
has_port (Expires timer) s now is p at = timer_has_port timer s (timely_timer timer s now is) p at
has_port (Priority value) s now is p at = absurd cc

-- what a call leaves needs no more than any call can
call_covers : (s s' : SystemState) (sends : List Sending) → length s'.ports ≡ length s.ports
    → length sends ≤ 2 * length s.ports → Covers (for_call s) (for_left s' sends)
call_covers s s' sends ports few = record { entries = omega (arith, ports, few); buffers = omega (arith, few) }

-- a step of a system leaves no more
step_covers : (input : Input) (now : ℕ) (s s' : SystemState) (sends : List Sending) (answer : Answer)
    → IsTimely s now input → Steps input now s s' sends answer → Covers (for_call s) (for_left s' sends)
step_covers input now s s' sends answer timely steps =
    call_covers s s' sends (same_ports input now s s' sends answer steps)
    (few_sends (reach input s) (length s.ports) sends (steps_reach input now s s' sends answer steps).within
    (has_port input s now timely))

-- ---- one call

-- the live system at a place took a step
unfoldable pub stepped : (parts stage' : WorldParts) (place : ℕ) (input : Input) (answer : Answer) (one : Station)
    (after : SystemState)
    → IsLiveAt place parts → one ≡ slice_index_or parts.stations.items place one
    → Steps input parts.now one.system after stage'.outbox.items answer
    → stage'.stations.items ≡ slice_set parts.stations.items place (in_state after one) → stage'.net ≡ parts.net
    → stage'.now ≡ parts.now → stage'.last_change ≡ parts.last_change → HasStepped place input answer parts stage'
stepped parts stage' place input answer one after live value steps stations net now last =
    let is : one ≡ live.station = value ∙ read parts.stations.items place live.station one live.here in
    record {
      station = one;
      after = after;
      here = live.here ∙ ap Some (sym is);
      live = rw is live.live;
      steps = steps;
      stations = stations;
      net = net;
      now = now;
      last_change = last;
    }

-- what it left can be carried out
pub carries : (parts stage' : WorldParts) (place : ℕ) (input : Input) (answer : Answer) → IsWorldParts parts
    → HasRoomToCall place parts
    → HasStepped place input answer parts stage' → IsTimelyAt input place parts → CarriesOut place stage'
carries parts stage' place input answer is room step timely =
    let old = step.station in let after = step.after in let sends = stage'.outbox.items in
    let new = in_state after old in
    let steps = step.steps in let stations = step.stations in let net = step.net in let now = step.now in
    let ports = same_ports input parts.now old.system after sends answer steps in
    let clocks = same_clock input parts.now old.system after sends answer steps in
    let same : room.station ≡ old = same_Some room.station old (sym room.here ∙ step.here) in
    let has : WorldHasRoom (for_call old.system) parts.net =
    subst (λ (x : Station). WorldHasRoom (for_call x.system) parts.net) same room.room in
    let places = is.systems in
    let small = is.few place old step.here in
    record {
      station = new;
      here = rw stations (get-set_same parts.stations.items place old new step.here);
      net = rw net is.net;
      clocks = rw (stations, net) (clocks_kept parts place old new is step.here clocks);
      systems = rw (stations, net) (rw (length-set parts.stations.items place new) places);
      moment = rw now is.moment;
      few = rw ports small;
      room = rw net
          (covered (for_call old.system) (for_left after sends) parts.net
          (step_covers input parts.now old.system after sends answer (timely old step.here) steps) has);
    }

-- a stage in which a system became another with the same clock and as many ports
pub becomes : (parts stage' : WorldParts) (place : ℕ) (old new : Station) → IsWorldParts parts
    → slice_get parts.stations.items place ≡ Some old
    → length new.system.ports ≡ length old.system.ports → clock new.system ≡ clock old.system
    → stage'.stations.items ≡ slice_set parts.stations.items place new → IsNet stage'.net
    → stage'.net.directory ≡ parts.net.directory
    → stage'.net.traffic.systems ≡ parts.net.traffic.systems → stage'.now ≡ parts.now → stage'.outbox.items ≡ []
    → IsWorldParts stage'
becomes parts stage' place old new is here ports clocks list net directory systems now outbox =
    let places = is.systems in
    record {
      net = net;
      clocks = rw (list, directory) (clocks_kept parts place old new is here clocks);
      systems = rw (list, systems) (rw (length-set parts.stations.items place new) places);
      few = rw list (few_kept parts place old new is here ports);
      ports = rw (list, directory) (ports_kept parts place old new is here ports clocks);
      empty = outbox;
      moment = rw now is.moment;
    }

-- the stage after it was carried out, from the one that it left
pub stays : (parts left stage' : WorldParts) (place : ℕ) (input : Input) (answer : Answer) → IsWorldParts parts
    → HasStepped place input answer parts left → stage'.stations ≡ left.stations → IsNet stage'.net
    → stage'.net.directory ≡ left.net.directory → stage'.net.traffic.systems ≡ left.net.traffic.systems
    → stage'.now ≡ left.now
    → stage'.outbox.items ≡ [] → IsWorldParts stage'
stays parts left stage' place input answer is step stations net directory systems now outbox =
    let old = step.station in
    becomes parts stage' place old (in_state step.after old) is step.here
    (same_ports input parts.now old.system step.after left.outbox.items answer step.steps)
    (same_clock input parts.now old.system step.after left.outbox.items answer step.steps)
    (ap (λ xs. xs.items) stations ∙ step.stations) net
    (directory ∙ ap (λ (n : Between). n.directory) step.net)
    (systems ∙ ap (λ (n : Between). n.traffic.systems) step.net)
    (now ∙ step.now) outbox

-- it was one call of the system
pub called : {F : Type 0} (answers : Bounds → ℕ → F → Option ℕ → F → Type 0) (fate fate_after : F)
    (parts left stage' : WorldParts)
    (place : ℕ) (input : Input) (answer : Answer) → (step : HasStepped place input answer parts left)
    → SentAll answers left.now step.after left.outbox.items fate fate_after
    (all_timers place (in_state step.after step.station) (between left.net)) (between stage'.net)
    → stage'.stations ≡ left.stations → stage'.now ≡ left.now → stage'.last_change ≡ left.last_change
    → Called answers place input answer fate fate_after parts stage'
called answers fate fate_after parts left stage' place input answer step sent stations now last =
    let list = step.stations in let net = step.net in let moment = step.now in let change = step.last_change in
    record {
      draws = sent.draws;
      drawn = sent.drawn;
      calls = record {
        station = step.station;
        after = step.after;
        sends = left.outbox.items;
        net = between stage'.net;
        here = step.here;
        live = step.live;
        steps = step.steps;
        sent = rw (← net, ← moment) sent.sends_all;
        is = rw (stations, now, last, list, moment, change) refl;
      };
    }

-- it used no more room than any call can
pub call_uses : (parts left : WorldParts) (net : Between) (place : ℕ) (input : Input) (answer : Answer)
    → HasStepped place input answer parts left
    → IsTimelyAt input place parts
    → ((station : Station) → slice_get left.stations.items place ≡ Some station
    → Uses (for_left station.system left.outbox.items) left.net net)
    → CallUses place parts net
call_uses parts left net place input answer step timely uses = λ station here.
    let old = step.station in let after = step.after in let sends = left.outbox.items in
    let new = in_state after old in
    let one : station ≡ old = same_Some station old (sym here ∙ step.here) in
    let now_here : slice_get left.stations.items place ≡ Some new =
    ap (λ xs. slice_get xs place) step.stations ∙ get-set_same parts.stations.items place old new step.here in
    let between = step.net in
    let used : Uses (for_left after sends) parts.net net = rw (← between) (uses new now_here) in
    rw one
    (uses_less (for_call old.system) (for_left after sends) parts.net net
    (step_covers input parts.now old.system after sends answer (timely old step.here) step.steps) used)

-- ---- another net

-- a stage whose net became another, with everything where it was
pub net_replaced : (parts : WorldParts) (net : Between) → IsWorldParts parts → IsNet net
    → net.directory ≡ parts.net.directory
    → net.traffic.systems ≡ parts.net.traffic.systems → IsWorldParts (record parts { net = net })
net_replaced parts net is still directory systems = record {
  net = still;
  clocks = rw directory is.clocks;
  systems = let places = is.systems in rw systems places;
  few = is.few;
  ports = rw directory is.ports;
  empty = is.empty;
  moment = is.moment;
}

-- there is still room for a call
pub room_kept : (place : ℕ) (parts : WorldParts) (net : Between) → Uses no_room parts.net net
    → HasRoomToCall place parts → HasRoomToCall place (record parts { net = net })
room_kept place parts net uses has = record {
  station = has.station;
  here = has.here;
  room = still_room (for_call has.station.system) parts.net net uses has.room;
}
