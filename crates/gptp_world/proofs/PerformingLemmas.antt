-- Acts that are there, and due, are carried out.
use Rattle.std.proofs.Common.{◌≡◌, ◌≢◌, ◌<◌, ℕ, Bool, true, false, not, List, [], ◌∷◌, length, Option, Some, slice_get, slice_index_or, refl, ap, sym, subst, ◌∙◌}
use Rattle.std.specs.Prelude.{⊤}
use Rattle.std.proofs.lemmas.Option.{same_Some, slice_get_within}
use Rattle.gptp_links.specs.declared.bounds.Bounds.{Bounds}
use Rattle.gptp_links.specs.declared.link.Direction.{Direction}
use Rattle.gptp_links.specs.declared.link.Direction.TheVariants.{FromA, FromB}
use Rattle.gptp_links.specs.Fate.{Draw}
use Rattle.gptp_system.specs.declared.answer.Answer.{Answer}
use Rattle.gptp_setup.specs.declared.timer.Timer.{Timer}
use Rattle.gptp_system.specs.Input.{Priority}
use Rattle.gptp_system.specs.State.{clock}
use Rattle.gptp_system.specs.Steps.{IsUp}
use Rattle.gptp_vector.specs.declared.port.PortId.{PortId}
use Rattle.gptp_world.specs.declared.act_target.ActTarget.{ActTarget}
use Rattle.gptp_world.specs.declared.act_target.ActTarget.TheVariants as aims
use Rattle.gptp_traffic.specs.declared.joined_link.Lane.{Lane}
use Rattle.gptp_scenario.specs.declared.change.Act.{Act}
use Rattle.gptp_scenario.specs.declared.change.Act.TheVariants.{Deliver, Expire, Change as Changing}
use Rattle.gptp_scenario.specs.declared.change.Change.{Change}
use Rattle.gptp_scenario.specs.declared.change.Change.TheVariants as changes
use Rattle.gptp_model.specs.declared.done.Done.{Done}
use Rattle.gptp_model.specs.declared.done.Done.TheVariants.{Quiet}
use Rattle.gptp_world.specs.declared.net.Net.{Net as Between}
use Rattle.gptp_world.specs.declared.world_parts.WorldParts.{WorldParts}
use Rattle.gptp_model.specs.declared.station.Station.{Station}
use Rattle.gptp_model.specs.Acts.{Acts, AtPlace, Changes, IsOldestDue, TellsHearing}
use Rattle.gptp_scenario.specs.Allowed.{IsFitAct}
use Rattle.gptp_world.specs.ActTarget.{IsTargetOf, IsTargetOfChange}
use Rattle.gptp_traffic.specs.Traffic.{join_of, SentOne}
use Rattle.gptp_model.specs.Changing.{with_bounds, with_setup, with_station, CallsIfLive, InjectsIf}
use Rattle.gptp_world.specs.Delivering.{Delivered, MayHear}
use Rattle.gptp_world.specs.Directory.{direction_end, Join}
use Rattle.gptp_world.specs.Memory.{AsksForNoMemory, ChangesWithoutMemory}
use Rattle.gptp_world.specs.Net.{between, LinkIs}
use Rattle.gptp_world.specs.Performing.{octets_of, ActIsDone, CanChange, HasRoomForTarget, Injected, OfLink, OfSystem, Turned, TurnsOver}
use Rattle.gptp_model.specs.Sound.{AreLinked, Flows, IsSound, IsWired}
use Rattle.gptp_world.specs.WorldParts.{clock_at_place, world_of, HasRoomToCall, IsWorldParts, SystemIs}
use Rattle.gptp_world.specs.Telling.{HasRoomAtEnds}
use Rattle.gptp_model.specs.World.{Channel, WorldState, port_id, receiver, sender}
use Rattle.gptp_world.proofs.ActTargetLemmas.{lane_joins}
use Rattle.gptp_world.proofs.EndLemmas.{end_same, known_join}
use Rattle.gptp_lists.proofs.MappedLemmas.{mapped_there}
use Rattle.gptp_lists.proofs.PlaceLemmas.{member_there, read}

-- ---- where it is

-- what an act is about is among the links, or the systems
abbrev pub IsWithin : ActTarget → WorldParts → Type 0
IsWithin (aims.Arrival lane) parts = lane.link < length parts.net.traffic.net.channels
IsWithin (aims.Timer place timer) parts = place < length parts.stations.items
IsWithin (aims.LinkDown link) parts = link < length parts.net.traffic.net.channels
IsWithin (aims.LinkUp link) parts = link < length parts.net.traffic.net.channels
IsWithin (aims.LinkSet link bounds) parts = link < length parts.net.traffic.net.channels
IsWithin (aims.Fail place) parts = place < length parts.stations.items
IsWithin (aims.Recover place) parts = place < length parts.stations.items
IsWithin (aims.Priority1 place value) parts = place < length parts.stations.items
IsWithin (aims.Inject lane) parts = lane.link < length parts.net.traffic.net.channels

link_within : (parts : WorldParts) (link : ℕ) (channel : Channel)
    → slice_get (world_of parts).net.channels link ≡ Some channel
    → link < length parts.net.traffic.net.channels
link_within parts link channel here = slice_get_within parts.net.traffic.net.channels link channel here

change_within : (change : Change) (target : ActTarget) (parts : WorldParts)
    → IsTargetOfChange change (world_of parts) target
    → IsWithin target parts
change_within (changes.LinkDown number port) (aims.LinkDown link) parts at =
    link_within parts link at.channel at.is.here
change_within (changes.LinkUp number port) (aims.LinkUp link) parts at = link_within parts link at.channel at.is.here
change_within (changes.LinkSet number port min max loss) (aims.LinkSet link bounds) parts (at, is) =
    link_within parts link at.channel at.is.here
change_within (changes.Fail number) (aims.Fail place) parts at =
    slice_get_within parts.stations.items place at.station at.is.here
change_within (changes.Recover number) (aims.Recover place) parts at =
    slice_get_within parts.stations.items place at.station at.is.here
change_within (changes.Priority1 number value) (aims.Priority1 place set) parts (at, is) =
    slice_get_within parts.stations.items place at.station at.is.here
change_within (changes.Inject number port octets) (aims.Inject lane) parts at =
    link_within parts lane.link at.channel at.here
change_within change target parts at = absurd at

pub aim_within : (act : Act) (target : ActTarget) (parts : WorldParts) → IsTargetOf act (world_of parts) target
    → IsWithin target parts
aim_within (Deliver link direction) (aims.Arrival lane) parts (same, (way, at)) =
    subst (λ i. i < length parts.net.traffic.net.channels) (sym same) (link_within parts link at.channel at.here)
aim_within (Expire number timer) (aims.Timer place set) parts (at, same) =
    slice_get_within parts.stations.items place at.station at.is.here
aim_within (Changing change) target parts at = change_within change target parts at
aim_within act target parts at = absurd at

-- ---- what asks for no room

-- a link is up or down, and not both
pub never_both : (net : Between) (link : ℕ) (up : Bool) → link < length net.traffic.net.channels
    → ((channel : Channel) → slice_get net.traffic.net.channels link ≡ Some channel → up ≡ channel.up)
    → LinkIs (not up) link net → ⊥
never_both net link up within found is =
    let (channel, here) = member_there net.traffic.net.channels link within
    in by up (found channel here ∙ is channel here)
  where
    by : (up : Bool) → up ≡ not up → ⊥
    by true same = absurd cc
    by false same = absurd cc

-- an act about this asks for none
abbrev pub AsksForNone : ActTarget → WorldParts → Type 0
AsksForNone (aims.LinkDown link) parts = LinkIs false link parts.net
AsksForNone (aims.LinkUp link) parts = LinkIs true link parts.net
AsksForNone (aims.LinkSet link bounds) parts = ⊤
AsksForNone (aims.Fail place) parts = ⊤
AsksForNone (aims.Recover place) parts = SystemIs true place parts
AsksForNone (aims.Inject lane) parts = LinkIs false lane.link parts.net
AsksForNone target parts = ⊥

link_is : (parts : WorldParts) (link : ℕ) (up : Bool) (channel : Channel)
    → slice_get (world_of parts).net.channels link ≡ Some channel → channel.up ≡ up → LinkIs up link parts.net
link_is parts link up channel here is = λ other there.
    ap (λ (x : Channel). x.up) (same_Some other channel (sym there ∙ here)) ∙ is

system_is : (parts : WorldParts) (place : ℕ) (live : Bool) (station : Station)
    → slice_get parts.stations.items place ≡ Some station → station.live ≡ live → SystemIs live place parts
system_is parts place live station here is = λ other there.
    let same : other ≡ station = same_Some other station (sym there ∙ here) in ap (λ (x : Station). x.live) same ∙ is

free_change : (change : Change) (target : ActTarget) (parts : WorldParts)
    → IsTargetOfChange change (world_of parts) target
    → ChangesWithoutMemory change (world_of parts) → AsksForNone target parts
free_change (changes.LinkDown number port) (aims.LinkDown link) parts at asks =
    link_is parts link false at.channel at.is.here (asks link at.channel at.is)
free_change (changes.LinkUp number port) (aims.LinkUp link) parts at asks =
    link_is parts link true at.channel at.is.here (asks link at.channel at.is)
free_change (changes.LinkSet number port min max loss) (aims.LinkSet link bounds) parts at asks = tt
free_change (changes.Fail number) (aims.Fail place) parts at asks = tt
free_change (changes.Recover number) (aims.Recover place) parts at asks =
    system_is parts place true at.station at.is.here (asks place at.station at.is)
free_change (changes.Priority1 number value) (aims.Priority1 place set) parts at asks = asks
free_change (changes.Inject number port octets) (aims.Inject lane) parts at asks =
    link_is parts lane.link false at.channel at.here
    (asks lane.link at.channel (lane_joins (port_id number port) (world_of parts) lane at))
free_change change target parts at asks = absurd at

-- what an act that asks for no memory is about asks for none
pub free_aim : (act : Act) (target : ActTarget) (parts : WorldParts) → IsTargetOf act (world_of parts) target
    → AsksForNoMemory act (world_of parts) → AsksForNone target parts
free_aim (Changing change) target parts at asks = free_change change target parts at asks
free_aim act target parts at asks = absurd asks

-- ---- a frame that arrives

-- nothing is in flight on a link that is down
carries_up : (direction : Direction) (channel : Channel) (time : ℕ) → Flows direction channel
    → IsOldestDue direction time channel
    → channel.up ≡ true
carries_up direction channel time flows oldest = by channel.up refl
  where
    by : (up : Bool) → channel.up ≡ up → channel.up ≡ true
    by true is = is
    by false is =
        let none : [] ≡ oldest.oldest ∷ oldest.rest = sym (flows.still is) ∙ oldest.front in absurd cc

-- where one direction of a link ends the other begins
end_up : (w : WorldState) (link place : ℕ) (direction : Direction) (channel : Channel) (station : Station) → AreLinked w
    → slice_get w.net.channels link ≡ Some channel → channel.up ≡ true → slice_get w.stations place ≡ Some station
    → station.live ≡ true → clock station.system ≡ (receiver direction channel).clock
    → IsUp station.system (receiver direction channel).port
end_up w link place FromA channel station linked there up here live named =
    linked link place FromB channel station there up here live named
end_up w link place FromB channel station linked there up here live named =
    linked link place FromA channel station there up here live named

-- the directory knows where a lane ends
end_is : (parts : WorldParts) (link : ℕ) (direction : Direction) (join : Join) (channel : Channel) → IsWorldParts parts
    → slice_get parts.net.directory.joins link ≡ Some join → slice_get (world_of parts).net.channels link ≡ Some channel
    → direction_end direction join ≡ receiver direction channel
end_is parts link direction join channel is there here =
    let one : join ≡ join_of channel =
    same_Some join (join_of channel) (sym there ∙ known_join parts.net link channel is.net here) in
    ap (direction_end direction) one ∙ end_same direction channel

-- the port that a frame reaches is one whose link is up
pub may_hear : (parts : WorldParts) (lane : Lane) (time : ℕ) → IsWorldParts parts → IsWired (world_of parts)
    → AtPlace lane.link (world_of parts).net (IsOldestDue lane.direction time) → MayHear lane parts
may_hear parts lane time is wired at = λ join place there placed station here live.
    let ends = end_is parts lane.link lane.direction join at.channel is there at.here in
    let known : slice_get parts.net.directory.clocks place ≡ Some (clock station.system) =
    ap (λ cs. slice_get cs place) (sym is.clocks)
    ∙ mapped_there clock_at_place parts.stations.items place station here in
    let named : clock station.system ≡ (direction_end lane.direction join).clock =
    same_Some (clock station.system) (direction_end lane.direction join).clock (sym known ∙ placed) in
    let up = carries_up lane.direction at.channel time (wired.flow lane.link lane.direction at.channel at.here) at.so in
    subst (λ (port : PortId). IsUp station.system port.port) (sym ends)
    (end_up (world_of parts) lane.link place lane.direction at.channel station wired.linked at.here up here live
    (named ∙ ap (λ (port : PortId). port.clock) ends))

-- it is told where the frame went
pub arrived : {F : Type 0} (answers : Bounds → ℕ → F → Option ℕ → F → Type 0) (lane : Lane) (reached : PortId)
    (answer : Option Answer) (octets : List ℕ) (done : Done) (fate fate_after : F) (parts stage' : WorldParts)
    → IsWorldParts parts
    → TellsHearing reached answer octets done
    → Delivered answers lane reached answer octets fate fate_after parts stage'
    → ActIsDone answers (Deliver lane.link lane.direction) done fate fate_after parts stage'
arrived answers lane reached answer octets done fate fate_after parts stage' is told delivered =
    let delivers = delivered.delivers in let channel = delivers.channel in
    let ends : reached ≡ receiver lane.direction channel =
    delivered.is_end ∙ end_is parts lane.link lane.direction delivered.join channel is delivered.there
    delivers.takes.here in
    record {
      draws = delivered.draws;
      drawn = delivered.drawn;
      acts = record {
        channel = channel;
        octets = octets;
        answer = answer;
        here = delivers.takes.here;
        told = subst (λ port. TellsHearing port answer octets done) ends told;
        delivers = delivers;
      };
    }

-- ---- a change, by place

-- what is so of a link with the state in which it was found
pub of_link : (parts : WorldParts) (link : ℕ) (up : Bool) (So : Bool → Channel → Type 0)
    → ((channel : Channel) → slice_get parts.net.traffic.net.channels link ≡ Some channel → up ≡ channel.up)
    → OfLink link (world_of parts) (So up) → OfLink link (world_of parts) (λ channel. So channel.up channel)
of_link parts link up So found so = λ channel here. subst (λ b. So b channel) (found channel here) (so channel here)

-- what is so of one is so of the link there
pub of_this : (w : WorldState) (link : ℕ) (one : Channel) (So : Channel → Type 0)
    → slice_get w.net.channels link ≡ Some one
    → So one → OfLink link w So
of_this w link one So there so = λ channel here. subst So (same_Some one channel (sym there ∙ here)) so

-- the same of a system
pub of_system : (parts : WorldParts) (place : ℕ) (one : Station) (live : Bool) (So : Bool → Station → Type 0)
    → one ≡ slice_index_or parts.stations.items place one → one.live ≡ live
    → OfSystem place (world_of parts) (So live) → OfSystem place (world_of parts) (λ station. So station.live station)
of_system parts place one live So value is so = λ station here.
    let same : one ≡ station = value ∙ read parts.stations.items place station one here in
    subst (λ b. So b station) (sym is ∙ ap (λ (x : Station). x.live) same) (so station here)

pub of_that : (w : WorldState) (place : ℕ) (one : Station) (So : Station → Type 0)
    → slice_get w.stations place ≡ Some one
    → So one → OfSystem place w So
of_that w place one So there so = λ station here. subst So (same_Some one station (sym there ∙ here)) so

-- ---- an injection, by place

-- a frame went onto a lane whose link is up
pub injected : {F : Type 0} (answers : Bounds → ℕ → F → Option ℕ → F → Type 0) (lane : Lane) (octets : List ℕ)
    (fate fate_after : F) (parts : WorldParts) (net : Between) (channel : Channel)
    → slice_get parts.net.traffic.net.channels lane.link ≡ Some channel → channel.up ≡ true
    → SentOne answers parts.now (sender lane.direction channel) octets fate fate_after
    (between parts.net)
    (between net)
    → Injected answers lane octets fate fate_after parts (record parts { net = net })
injected answers lane octets fate fate_after parts net channel here up sent =
    let w = world_of parts in let w' = world_of (record parts { net = net }) in let draws = sent.draw ∷ [] in
    record {
      draws = draws;
      drawn = (fate_after, sent.drawn, refl);
      injects = of_this w lane.link channel
          (λ channel. InjectsIf channel.up (sender lane.direction channel) octets w draws w')
          here
          (subst (λ b. InjectsIf b (sender lane.direction channel) octets w draws w') (sym up)
          (record { draw = sent.draw; net = between net; drawn_once = refl; sent = sent.sends; is = refl }));
    }

-- none went onto one whose link is down
pub not_injected : {F : Type 0} (answers : Bounds → ℕ → F → Option ℕ → F → Type 0) (lane : Lane) (octets : List ℕ)
    (fate : F) (parts : WorldParts)
    → ((channel : Channel) → slice_get parts.net.traffic.net.channels lane.link ≡ Some channel
    → false ≡ channel.up)
    → Injected answers lane octets fate fate parts parts
not_injected answers lane octets fate parts down =
    let w = world_of parts in
    record {
      draws = [];
      drawn = refl;
      injects = of_link parts lane.link false (λ up channel. InjectsIf up (sender lane.direction channel) octets w [] w)
          down (λ channel here. (refl, refl));
    }

-- ---- a change, by name

-- the world in which now is the time of the last change
abbrev pub changed_now : WorldParts → WorldParts
changed_now parts = record parts { last_change = parts.now }

pub changes_so : (change : Change) (target : ActTarget) (parts : WorldParts) (draws : List Draw) (w' : WorldState)
    → IsTargetOfChange change (world_of parts) target → TurnsOver target (world_of (changed_now parts)) draws w'
    → Changes change (world_of (changed_now parts)) draws w'
changes_so (changes.LinkDown number port) (aims.LinkDown link) parts draws w' at turns =
    record { place = link; channel = at.channel; is = at.is; so = turns at.channel at.is.here }
changes_so (changes.LinkUp number port) (aims.LinkUp link) parts draws w' at turns =
    record { place = link; channel = at.channel; is = at.is; so = turns at.channel at.is.here }
changes_so (changes.LinkSet number port min max loss) (aims.LinkSet link bounds) parts draws w' (at, is) turns =
    let w = world_of (changed_now parts) in
    record {
      place = link;
      channel = at.channel;
      is = at.is;
      so = subst (λ b. (draws ≡ []) × (w' ≡ record w { net = with_bounds b link at.channel w.net })) is
          (turns at.channel at.is.here);
    }
changes_so (changes.Fail number) (aims.Fail place) parts draws w' at turns = record {
  place = place;
  station = at.station;
  is = record { here = at.is.here; named = at.is.named };
  so = turns at.station at.is.here;
}
changes_so (changes.Recover number) (aims.Recover place) parts draws w' at turns = record {
  place = place;
  station = at.station;
  is = record { here = at.is.here; named = at.is.named };
  so = turns at.station at.is.here;
}
changes_so (changes.Priority1 number value) (aims.Priority1 place set) parts draws w' (at, is) turns =
    let w = world_of (changed_now parts) in
    record {
      place = place;
      station = at.station;
      is = record { here = at.is.here; named = at.is.named };
      so = subst (λ v. CallsIfLive place (Priority v) (with_station place (with_setup v at.station) w) draws w') is
          (turns at.station at.is.here);
    }
changes_so (changes.Inject number port octets) (aims.Inject lane) parts draws w' at turns = absurd turns
changes_so change target parts draws w' at turns = absurd at

-- what is changed can be changed
pub can_change : (change : Change) (target : ActTarget) (parts : WorldParts) → IsSound (world_of parts)
    → IsFitAct (Changing change)
    → ((lane : Lane) → target ≢ aims.Inject lane) → IsTargetOfChange change (world_of parts) target
    → CanChange target (changed_now parts)
can_change (changes.LinkDown number port) (aims.LinkDown link) parts sound fit other at =
    link_within parts link at.channel at.is.here
can_change (changes.LinkUp number port) (aims.LinkUp link) parts sound fit other at =
    link_within parts link at.channel at.is.here
can_change (changes.LinkSet number port min max loss) (aims.LinkSet link bounds) parts sound fit other (at, is) = (
  link_within parts link at.channel at.is.here,
  rw is (record { positive = fit.positive; ordered = fit.ordered; short = fit.short; share = fit.share }),
)
can_change (changes.Fail number) (aims.Fail place) parts sound fit other at =
    slice_get_within parts.stations.items place at.station at.is.here
can_change (changes.Recover number) (aims.Recover place) parts sound fit other at = record {
  station = at.station;
  here = at.is.here;
  setup = sound.wired.setups place at.station at.is.here;
  params = (sound.on_time.stations place at.station at.is.here).setup;
}
can_change (changes.Priority1 number value) (aims.Priority1 place set) parts sound fit other (at, is) =
    slice_get_within parts.stations.items place at.station at.is.here
can_change (changes.Inject number port octets) (aims.Inject lane) parts sound fit other at =
    absurd (other lane refl)
can_change change target parts sound fit other at = absurd at

-- the time of the last change takes no room
pub same_stage : (parts : WorldParts) → IsWorldParts parts → IsWorldParts (changed_now parts)
same_stage parts is = record {
  net = is.net;
  clocks = is.clocks;
  systems = is.systems;
  few = is.few;
  ports = is.ports;
  empty = is.empty;
  moment = is.moment;
}

same_room_at_ends : (link : ℕ) (parts : WorldParts) → HasRoomAtEnds link parts → HasRoomAtEnds link (changed_now parts)
same_room_at_ends link parts has =
    let both = has.room in
    record {
      a = has.a;
      b = has.b;
      ends = has.ends;
      room = record {
        station_a = both.station_a;
        station_b = both.station_b;
        here_a = both.here_a;
        here_b = both.here_b;
        room = both.room;
      };
    }

same_room_to_call : (place : ℕ) (parts : WorldParts) → HasRoomToCall place parts
    → HasRoomToCall place (changed_now parts)
same_room_to_call place parts has = record { station = has.station; here = has.here; room = has.room }

pub same_room : (target : ActTarget) (parts : WorldParts) → HasRoomForTarget target parts
    → HasRoomForTarget target (changed_now parts)
same_room (aims.Arrival lane) parts has = λ join place there placed.
    same_room_to_call place parts (has join place there placed)
same_room (aims.Timer place timer) parts has = same_room_to_call place parts has
same_room (aims.LinkDown link) parts has = λ up. same_room_at_ends link parts (has up)
same_room (aims.LinkUp link) parts has = λ down. same_room_at_ends link parts (has down)
same_room (aims.LinkSet link bounds) parts has = has
same_room (aims.Fail place) parts has = has
same_room (aims.Recover place) parts has = λ failed.
    let room = has failed in record { station = room.station; here = room.here; room = room.room }
same_room (aims.Priority1 place value) parts has = same_room_to_call place parts has
same_room (aims.Inject lane) parts has = has

-- an act that is neither a delivery nor an expiry is a change
pub record IsSomeChange (act : Act) (target : ActTarget) (w : WorldState) : Type 0 where
  pub change : Change
  pub act_is : act ≡ Changing change
  pub at : IsTargetOfChange change w target

pub is_change : (act : Act) (target : ActTarget) (w : WorldState) → ((lane : Lane) → target ≢ aims.Arrival lane)
    → ((place : ℕ) (timer : Timer) → target ≢ aims.Timer place timer) → IsTargetOf act w target
    → IsSomeChange act target w
is_change (Deliver link direction) (aims.Arrival lane) w no_arrival no_timer at = absurd (no_arrival lane refl)
is_change (Expire number timer) (aims.Timer place set) w no_arrival no_timer at = absurd (no_timer place set refl)
is_change (Changing change) target w no_arrival no_timer at = record { change = change; act_is = refl; at = at }
is_change act target w no_arrival no_timer at = absurd at

pub change_told : {F : Type 0} (answers : Bounds → ℕ → F → Option ℕ → F → Type 0)
    (act : Act) (target : ActTarget) (fate fate_after : F)
    (parts stage' : WorldParts) → IsSomeChange act target (world_of parts)
    → Turned answers target fate fate_after (changed_now parts) stage'
    → ActIsDone answers act Quiet fate fate_after parts stage'
change_told answers act target fate fate_after parts stage' is turned = record {
  draws = turned.draws;
  drawn = turned.drawn;
  acts = subst (λ x. Acts x (world_of parts) turned.draws Quiet (world_of stage')) (sym is.act_is)
      (refl, changes_so is.change target parts turned.draws (world_of stage') is.at turned.turns);
}

-- an injection on a lane is that of a change
pub injection_told : {F : Type 0} (answers : Bounds → ℕ → F → Option ℕ → F → Type 0) (act : Act) (lane : Lane)
    (fate fate_after : F) (parts stage' : WorldParts) → IsTargetOf act (world_of parts) (aims.Inject lane)
    → Injected answers lane (octets_of act) fate fate_after (changed_now parts) stage'
    → ActIsDone answers act Quiet fate fate_after parts stage'
injection_told answers (Changing (changes.Inject number port octets)) lane fate fate_after parts stage' at was =
    record {
      draws = was.draws;
      drawn = was.drawn;
      acts = (
        refl,
        record {
          place = lane.link;
          channel = at.channel;
          is = lane_joins (port_id number port) (world_of parts) lane at;
          so = subst
              (λ from. InjectsIf at.channel.up from octets (world_of (changed_now parts)) was.draws (world_of stage'))
              at.begins (was.injects at.channel at.here);
        },
      );
    }
injection_told answers (Changing (changes.LinkDown number port)) lane fate fate_after parts stage' at was = absurd at
injection_told answers act lane fate fate_after parts stage' at was = absurd at
