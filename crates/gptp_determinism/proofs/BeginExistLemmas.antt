-- Every network has a world that begins, and every act that is ready is done.
use Rattle.std.proofs.Common.{◌≡◌, ◌≤◌, ◌<◌, ◌+◌, ℕ, zero, suc, length, Option, Some, slice_get, ap, subst, ◌∙◌, arith}
use Rattle.std.specs.List.{range_with_len, AllByRecursion}
use Rattle.std.proofs.lemmas.List.{length-map}
use Rattle.gptp_lists.proofs.MappedLemmas.{mapped, mapped_there}
use Rattle.gptp_links.specs.declared.bounds.Bounds.{Bounds}
use Rattle.gptp_links.specs.declared.link.Direction.{Direction}
use Rattle.gptp_links.specs.declared.link.Direction.TheVariants.{FromA, FromB}
use Rattle.gptp_setup.specs.Intervals.{IsMoment}
use Rattle.gptp_system.specs.State.{clock}
use Rattle.gptp_scenario.specs.declared.network.LinkSpec.{LinkSpec}
use Rattle.gptp_scenario.specs.Network.{IsNetwork, IsPort, IsWire, NetworkState}
use Rattle.gptp_model.specs.declared.station.Station.{Station}
use Rattle.gptp_model.specs.Acts.{at}
use Rattle.gptp_model.specs.Initial.{channel_from, initial, setup_of, station_of, stations_of}
use Rattle.gptp_model.specs.Sound.{IsSound}
use Rattle.gptp_model.specs.World.{sender, Channel, WorldState}
use Rattle.gptp_model.proofs.SoundLemmas.{acts_sound, later_sound, starts_sound}
use Rattle.gptp_world.proofs.InitialLemmas.{initial_on_time, initial_ports, initial_setups, initial_sound, intervals_within}
use Rattle.gptp_determinism.specs.ExistenceLaws.{ActsExist, BeginningsExist}
use Rattle.gptp_determinism.specs.GoingOn.{CanGoOn}
use Rattle.gptp_determinism.proofs.ActExistLemmas.{acts_come}
use Rattle.gptp_determinism.proofs.CallExistLemmas.{started_system, starts_all_exist}
use Rattle.gptp_determinism.proofs.ComeLemmas.{can_go_on, CanCall, GoesOn, HaveEnds, IsRunning}
use Rattle.gptp_determinism.proofs.SendExistLemmas.{HasFrames}
use Rattle.gptp_determinism.proofs.StepExistLemmas.{steps_exist}

-- ---- the world that a network makes

-- nothing is in flight, and its systems can be called
idle_frames : (wire : LinkSpec) → HasFrames (channel_from wire)
idle_frames wire FromA = tt
idle_frames wire FromB = tt

initial_can : (n : NetworkState) → IsNetwork n → CanCall (initial n)
initial_can n is = record {
  moment = omega arith;
  stations = λ place station there.
      let (m, stands, same) = mapped (station_of n) n.systems place station there in
      let limits = is.systems place m stands in
      let params = is.params.ranges.params in
      subst IsRunning same (record {
        system = started_system (setup_of n m) 0 limits.ports params (intervals_within n is place m stands)
            limits.phase limits.drift;
        params = params;
      });
  setups = initial_setups n is;
  links = (initial_on_time n is).links;
  frames = λ link channel there.
      let (wire, stands, same) = mapped channel_from n.links link channel there in
      subst HasFrames same (idle_frames wire);
}

-- a link of a network joins ports of it
end_port : (n : NetworkState) (direction : Direction) (wire : LinkSpec) (link : ℕ) → IsWire n link wire
    → IsPort n.systems (sender direction (channel_from wire))
end_port n FromA wire link is = is.a
end_port n FromB wire link is = is.b

-- so its links end at systems
initial_ends : (n : NetworkState) → IsNetwork n → HaveEnds (initial n)
initial_ends n is link direction channel here =
    let (wire, stands, same) = mapped channel_from n.links link channel here in
    let port = end_port n direction wire link (is.links link wire stands) in
    let station : Station = station_of n port.system in
    let there : slice_get (stations_of n) port.place ≡ Some station =
    mapped_there (station_of n) n.systems port.place port.system port.there in
    let named : clock station.system ≡ (sender direction channel).clock =
    port.clock ∙ ap (λ (c : Channel). (sender direction c).clock) same in
    record {
      place = port.place;
      station = station;
      here = there;
      named = named;
      port_of = initial_ports n is link port.place direction channel station here there named;
    }

-- each number of a range is below its end
range_below : (first count most : ℕ) → first + count ≤ most
    → AllByRecursion (λ place. place < most) (range_with_len first count)
range_below first zero most within = tt
range_below first (suc count) most within =
    let here : first < most = omega arith in
    let more : first + 1 + count ≤ most = omega arith in
    (here, range_below (first + 1) count most more)

-- the world that a network makes begins, and can go on
pub beginnings_exist : {F : Type 0} (answers : Bounds → ℕ → F → Option ℕ → F → Type 0) → BeginningsExist answers
beginnings_exist answers all n fate is =
    let places = range_with_len 0 (length n.systems) in
    let many : length (stations_of n) ≡ length n.systems = length-map n.systems (station_of n) in
    let within : 0 + length n.systems ≤ length (stations_of n) = omega arith in
    let k = starts_all_exist answers all steps_exist places (initial n) fate
    (range_below 0 (length n.systems) (length (stations_of n)) within) (initial_can n is) in
    let sound : IsSound k.after = starts_sound places (initial n) k.draws k.after (initial_sound n is) k.so in (
      k.fate_after,
      k.after,
      record { draws = k.draws; drawn = k.drawn; starts = k.so },
      can_go_on (initial n) k.after (initial_ends n is) k.on sound,
    )

-- ---- acts

-- a world that can go on is one whose systems can be called, and whose links end at them
can_at : (w : WorldState) (time : ℕ) → IsMoment time → CanGoOn w → CanCall (at time w)
can_at w time moment is = record {
  moment = moment;
  stations = λ place station here. record {
    system = is.systems place station here;
    params = (is.sound.on_time.stations place station here).setup;
  };
  setups = is.sound.wired.setups;
  links = is.sound.on_time.links;
  frames = λ link channel here direction. is.octets link direction channel here;
}

ends_in : (w : WorldState) → CanGoOn w → HaveEnds w
ends_in w is link direction channel here =
    let (place, station, end) = is.ends link direction channel here in
    record {
      place = place;
      station = station;
      here = end.here;
      named = end.named;
      port_of = is.sound.wired.ports link place direction channel station here end.here end.named;
    }

-- an act that is ready is done, and the world can go on then
pub acts_exist : {F : Type 0} (answers : Bounds → ℕ → F → Option ℕ → F → Type 0) → ActsExist answers
acts_exist answers all timed fate w is allowed octets ready =
    let k = acts_come answers all steps_exist timed.act timed.at w fate is.sound.wired
    (can_at w timed.at allowed.moment is) (ends_in w is) allowed.fit octets ready in
    let (done, acts) = k.so in
    let before : IsSound (at timed.at w) =
    later_sound w timed.at w.last_change is.sound ready.timely.first in
    let sound : IsSound k.after = acts_sound timed.act (at timed.at w) k.draws done k.after before allowed.fit acts in
    let on : GoesOn (at timed.at w) k.after = k.on in (
      k.fate_after,
      k.after,
      done,
      record { ready = ready; draws = k.draws; drawn = k.drawn; acts = acts },
      can_go_on (at timed.at w) k.after (ends_in w is) on sound,
    )
