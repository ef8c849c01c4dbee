-- Worlds whose systems can be called, and what they come to with some draws of a fate.
use Rattle.std.proofs.Common.{◌≡◌, ◌<◌, ℕ, List, [], ◌++◌, length, Option, Some, slice_get, slice_set, refl, sym, ap, subst, ◌∙◌, arith}
use Rattle.std.proofs.lemmas.List.{length-set}
use Rattle.std.proofs.lemmas.Option.{slice_get_within}
use Rattle.gptp_lists.proofs.MappedLemmas.{same_there}
use Rattle.gptp_lists.proofs.PlaceLemmas.{get-set_all, member_there}
use Rattle.gptp_vector.specs.declared.port.PortId.{PortId}
use Rattle.gptp_links.specs.declared.bounds.Bounds.{Bounds}
use Rattle.gptp_links.specs.declared.link.Direction.{Direction}
use Rattle.gptp_links.specs.Bounds.{Fit}
use Rattle.gptp_links.specs.Fate.{Draw, Draws}
use Rattle.gptp_links.proofs.DrawLemmas.{draws-append}
use Rattle.gptp_setup.specs.Intervals.{AreParams, IsMoment}
use Rattle.gptp_system.specs.Facts.{IsSystem}
use Rattle.gptp_system.specs.State.{clock, SystemState}
use Rattle.gptp_system.specs.Steps.{HasPortNumber}
use Rattle.gptp_model.specs.declared.station.Station.{Station}
use Rattle.gptp_model.specs.Ahead.{AreFit}
use Rattle.gptp_model.specs.Pending.{Entry}
use Rattle.gptp_model.specs.Sound.{HaveTheirSetups, IsSound}
use Rattle.gptp_model.specs.World.{sender, Channel, Net, WorldState}
use Rattle.gptp_model.proofs.AheadLemmas.{relinked_fit}
use Rattle.gptp_model.proofs.StayLemmas.{begins_same, net_stays, same_stays, set_join, stays_on, stays_setups, IsSameSystem, Stays}
use Rattle.gptp_determinism.specs.GoingOn.{CanGoOn}
use Rattle.gptp_determinism.proofs.SendExistLemmas.{HasFrames, HaveFrames}

-- ---- worlds whose systems can be called

-- a system is such as steps ask for, and can start again
pub record IsRunning (station : Station) : Type 0 where
  pub system : IsSystem station.system
  pub params : AreParams station.setup.params

-- what is asked of a world for its systems to be called
pub record CanCall (w : WorldState) : Type 0 where
  pub moment : IsMoment w.time
  pub stations : (place : ℕ) (station : Station) → slice_get w.stations place ≡ Some station → IsRunning station
  pub setups : HaveTheirSetups w
  pub links : AreFit w.net.channels
  pub frames : HaveFrames w.net.channels

-- the systems of a world can be called, are as many and the same as those of one before, and its links join the same
-- ports
pub record GoesOn (w w' : WorldState) : Type 0 where
  pub can : CanCall w'
  pub stays : Stays w w'
  pub count : length w'.stations ≡ length w.stations

-- a world goes on over two steps
goes_on : (u v w : WorldState) → GoesOn u v → GoesOn v w → GoesOn u w
goes_on u v w first second = record {
  can = second.can;
  stays = stays_on u v w first.stays second.stays;
  count = second.count ∙ first.count;
}

-- a world whose systems can be called goes on as it is
pub itself_on : (w : WorldState) → CanCall w → GoesOn w w
itself_on w can = record { can = can; stays = same_stays w can.setups; count = refl }

-- a system that is the same still
pub record StandsStill (stations : List Station) (place : ℕ) (old : Station) : Type 0 where
  pub new : Station
  pub here : slice_get stations place ≡ Some new
  pub same : IsSameSystem old new

-- each system stands at its place still
pub stands_still : (w w' : WorldState) (place : ℕ) (station : Station) → GoesOn w w'
    → slice_get w.stations place ≡ Some station → StandsStill w'.stations place station
stands_still w w' place station on here =
    let within = slice_get_within w.stations place station here in
    let count = on.count in
    let inside : place < length w'.stations = omega arith in
    let (new, there) = member_there w'.stations place inside in
    let was = on.stays.stations place new there in
    let one : was.old ≡ station = same_there w.stations place was.old station was.here here in
    record { new = new; here = there; same = subst (λ (x : Station). IsSameSystem x new) one was.same }

-- a port of a system that has its ports still is one of it
pub port_still : (old new : SystemState) (p : ℕ) → length new.ports ≡ length old.ports → HasPortNumber old p
    → HasPortNumber new p
port_still old new p count port =
    record { least = port.least; most = let most = port.most in omega arith }

-- one system becomes another that runs, and is the same, and other things are pending
pub station_on : (place : ℕ) (old new : Station) (w : WorldState) (pending : List Entry)
    → slice_get w.stations place ≡ Some old → IsRunning new
    → Stays w (record w { stations = slice_set w.stations place new; net = record w.net { pending = pending } })
    → CanCall w
    → GoesOn w (record w { stations = slice_set w.stations place new; net = record w.net { pending = pending } })
station_on place old new w pending here running stays can =
    let v : WorldState =
    record w { stations = slice_set w.stations place new; net = record w.net { pending = pending } } in
    record {
      can = record {
        moment = can.moment;
        stations = get-set_all IsRunning w.stations place old new here running can.stations;
        setups = stays_setups w v stays;
        links = can.links;
        frames = can.frames;
      };
      stays = stays;
      count = length-set w.stations place new;
    }

-- one link becomes another between the same ports, and other things are pending
pub link_on : (place : ℕ) (old new : Channel) (w : WorldState) (pending : List Entry)
    → slice_get w.net.channels place ≡ Some old → new.a ≡ old.a → new.b ≡ old.b → Fit new.bounds → HasFrames new
    → CanCall w
    → GoesOn w (record w { net = record { channels = slice_set w.net.channels place new; pending = pending } })
link_on place old new w pending here a b fit frames can =
    let net : Net = record { channels = slice_set w.net.channels place new; pending = pending } in
    record {
      can = record {
        moment = can.moment;
        stations = can.stations;
        setups = can.setups;
        links = relinked_fit w.net.channels place old new here fit can.links;
        frames = get-set_all HasFrames w.net.channels place old new here frames can.frames;
      };
      stays = net_stays w net can.setups (set_join w.net.channels place old new here a b);
      count = refl;
    }

-- the time, that of the last change, and what is pending are nothing to it
pub time_on : (w : WorldState) (time last_change : ℕ) (pending : List Entry) → IsMoment time → CanCall w
    → GoesOn w (record w { time = time; last_change = last_change; net = record w.net { pending = pending } })
time_on w time last_change pending moment can =
    let same = same_stays w can.setups in
    record {
      can = record {
        moment = moment;
        stations = can.stations;
        setups = can.setups;
        links = can.links;
        frames = can.frames;
      };
      stays = record { stations = same.stations; links = same.links };
      count = refl;
    }

-- the system with a port
pub record HasEnd (port : PortId) (stations : List Station) : Type 0 where
  pub place : ℕ
  pub station : Station
  pub here : slice_get stations place ≡ Some station
  pub named : clock station.system ≡ port.clock
  pub port_of : HasPortNumber station.system port.port

-- each link ends at ports of systems
abbrev pub HaveEnds : WorldState → Type 0
HaveEnds w = (link : ℕ) (direction : Direction) (channel : Channel) → slice_get w.net.channels link ≡ Some channel
    → HasEnd (sender direction channel) w.stations

-- a sound world that comes of one whose links end at systems can go on
pub can_go_on : (w v : WorldState) → HaveEnds w → GoesOn w v → IsSound v → CanGoOn v
can_go_on w v ends on sound = record {
  sound = sound;
  systems = λ place station here. (on.can.stations place station here).system;
  ends = λ link direction channel here.
      let was = on.stays.links link channel here in
      let same = begins_same w.net.channels link direction channel was in
      let end = ends link direction was.old was.here in
      let still = stands_still w v end.place end.station on end.here in
      let number : (sender direction was.old).clock ≡ (sender direction channel).clock =
      ap (λ (p : PortId). p.clock) (sym same) in (
        end.place,
        still.new,
        record { here = still.here; named = still.same.named ∙ end.named ∙ number },
      );
  octets = λ link direction channel here. on.can.frames link channel here direction;
}

-- ---- what a world comes to with some draws

module _ {F : Type 0} (answers : Bounds → ℕ → F → Option ℕ → F → Type 0) where
  -- with some draws of a fate a world comes to another so
  pub record Comes (w : WorldState) (fate : F) (So : List Draw → WorldState → Type 0) : Type 0 where
    pub draws : List Draw
    pub fate_after : F
    pub after : WorldState
    pub drawn : Draws answers fate draws fate_after
    pub so : So draws after
    pub on : GoesOn w after

  -- without a draw
  pub comes_without : (w after : WorldState) (fate : F) (So : List Draw → WorldState → Type 0) → So [] after
      → GoesOn w after → Comes w fate So
  comes_without w after fate So so on =
      record { draws = []; fate_after = fate; after = after; drawn = refl; so = so; on = on }

  -- and so in another way that follows
  pub comes_so : (w : WorldState) (fate : F) (So To : List Draw → WorldState → Type 0)
      → ((draws : List Draw) (v : WorldState) → So draws v → To draws v) → Comes w fate So → Comes w fate To
  comes_so w fate So To leads k = record {
    draws = k.draws;
    fate_after = k.fate_after;
    after = k.after;
    drawn = k.drawn;
    so = leads k.draws k.after k.so;
    on = k.on;
  }

  -- from a world before it too, which becomes it without a draw
  pub comes_from : (u w : WorldState) (fate : F) (So : List Draw → WorldState → Type 0) → GoesOn u w → Comes w fate So
      → Comes u fate So
  comes_from u w fate So on k = record {
    draws = k.draws;
    fate_after = k.fate_after;
    after = k.after;
    drawn = k.drawn;
    so = k.so;
    on = goes_on u w k.after on k.on;
  }

  -- one after the other, where both make what is asked
  pub comes_in_turn : (w : WorldState) (fate : F) (First So : List Draw → WorldState → Type 0)
      (one : Comes w fate First) (Second : List Draw → WorldState → Type 0)
      (two : Comes one.after one.fate_after Second)
      → So (one.draws ++ two.draws) two.after → Comes w fate So
  comes_in_turn w fate First So one Second two so = record {
    draws = one.draws ++ two.draws;
    fate_after = two.fate_after;
    after = two.after;
    drawn = draws-append answers fate one.fate_after two.fate_after one.draws two.draws one.drawn two.drawn;
    so = so;
    on = goes_on w one.after two.after one.on two.on;
  }
