-- A change of the network is made with some draws of a fate.
use Rattle.std.proofs.Common.{◌≡◌, ◌⊎◌, ℕ, Bool, true, false, List, [], ◌∷◌, Option, Some, slice_get, refl, sym, subst, inl, inr}
use Rattle.std.specs.List.{AllByRecursion}
use Rattle.gptp_lists.proofs.PlaceLemmas.{get-set_same}
use Rattle.gptp_vector.specs.declared.port.PortId.{PortId}
use Rattle.gptp_links.specs.declared.bounds.Bounds.{Bounds}
use Rattle.gptp_links.specs.declared.link.Direction.TheVariants.{FromA, FromB}
use Rattle.gptp_system.specs.Input.{PortDown, PortUp, Priority}
use Rattle.gptp_scenario.specs.declared.change.Act.TheVariants.{Change as Changing}
use Rattle.gptp_scenario.specs.declared.change.Change.{Change}
use Rattle.gptp_scenario.specs.declared.change.Change.TheVariants.{LinkDown, LinkUp, LinkSet, Fail, Recover, Priority1, Inject}
use Rattle.gptp_scenario.specs.Allowed.{IsFitAct}
use Rattle.gptp_model.specs.declared.station.Station.{Station}
use Rattle.gptp_model.specs.Act.{all_timers}
use Rattle.gptp_model.specs.Acts.{set_to, Changes, IsThereToChange}
use Rattle.gptp_model.specs.Changing.{brought_up, failed, lost, taken_down, with_bounds, with_setup, with_station, CallsIfLive, ComesUpIf, FailsIf, GoesDownIf, Injects, InjectsIf, RecoversIf, Starts, TellsEnds}
use Rattle.gptp_model.specs.World.{port_id, Channel, WorldState}
use Rattle.gptp_model.proofs.AheadLemmas.{sent_later}
use Rattle.gptp_model.proofs.StayLemmas.{failed_stays, injects_stay, with_setup_stays}
use Rattle.gptp_determinism.specs.ExistenceLaws.{StepsExist}
use Rattle.gptp_determinism.specs.GoingOn.{AnswersAll, AreOfFrame, InjectsOctets, IsOfOctets}
use Rattle.gptp_determinism.proofs.CallExistLemmas.{calls_if_live_exist, starts_exist, tells_ends_exist}
use Rattle.gptp_determinism.proofs.ComeLemmas.{comes_from, comes_so, comes_without, itself_on, link_on, station_on, CanCall, Comes, GoesOn, HaveEnds}
use Rattle.gptp_determinism.proofs.SendExistLemmas.{one_is_sent, sends_one_frames, HasFrames, IsUpAt}

-- ---- what is changed

-- what a change is about is there at another time too
pub still_there : (c : Change) (w : WorldState) (time last_change : ℕ) → IsThereToChange c w
    → IsThereToChange c (record w { time = time; last_change = last_change })
still_there (LinkDown number port) w time last_change there = there
still_there (LinkUp number port) w time last_change there = there
still_there (LinkSet number port min max loss) w time last_change there = there
still_there (Fail number) w time last_change there = record {
  place = there.place;
  station = there.station;
  is = record { here = there.is.here; named = there.is.named };
  so = tt;
}
still_there (Recover number) w time last_change there = record {
  place = there.place;
  station = there.station;
  is = record { here = there.is.here; named = there.is.named };
  so = tt;
}
still_there (Priority1 number value) w time last_change there = record {
  place = there.place;
  station = there.station;
  is = record { here = there.is.here; named = there.is.named };
  so = tt;
}
still_there (Inject number port octets) w time last_change there = there

-- nothing is in flight on a link that went down
lost_frames : (channel : Channel) → HasFrames (lost channel)
lost_frames channel FromA = tt
lost_frames channel FromB = tt

-- the same is in flight
same_frames : (old new : Channel) → new.from_a ≡ old.from_a → new.from_b ≡ old.from_b → HasFrames old → HasFrames new
same_frames old new a b frames FromA = subst (AllByRecursion IsOfOctets) (sym a) (frames FromA)
same_frames old new a b frames FromB = subst (AllByRecursion IsOfOctets) (sym b) (frames FromB)

-- a link that is up begins at a port that it joins
joined_up : (channels : List Channel) (place : ℕ) (channel : Channel) (port : PortId)
    → slice_get channels place ≡ Some channel → channel.up ≡ true → (channel.a ≡ port) ⊎ (channel.b ≡ port)
    → IsUpAt channels port
joined_up channels place channel port here up (inl a) =
    record { place = place; direction = FromA; channel = channel; here = here; begins = a; up = up }
joined_up channels place channel port here up (inr b) =
    record { place = place; direction = FromB; channel = channel; here = here; begins = b; up = up }

module _ {F : Type 0} (answers : Bounds → ℕ → F → Option ℕ → F → Type 0) (all : AnswersAll answers)
    (steps : StepsExist) where
  -- ---- a link

  -- it goes down or comes up, and its ends are told where that is new
  goes_down_exists : (up : Bool) (place : ℕ) (channel : Channel) (w : WorldState) (fate : F)
      → slice_get w.net.channels place ≡ Some channel → CanCall w → HaveEnds w
      → Comes answers w fate (GoesDownIf up place channel w)
  goes_down_exists false place channel w fate here can ends =
      comes_without answers w w fate (GoesDownIf false place channel w) (refl, refl) (itself_on w can)
  goes_down_exists true place channel w fate here can ends =
      let down : WorldState = record w { net = taken_down place channel w.net } in
      let on : GoesOn w down =
      link_on place channel (lost channel) w down.net.pending here refl refl (can.links place channel here)
      (lost_frames channel) can in
      comes_so answers w fate (TellsEnds PortDown channel down) (GoesDownIf true place channel w) (λ draws v told. told)
      (comes_from answers w down fate (TellsEnds PortDown channel down) on
      (tells_ends_exist answers all steps PortDown channel down fate (λ s now p of. of) (λ p. tt) on.can
      (ends place FromA channel here) (ends place FromB channel here)))

  comes_up_exists : (up : Bool) (place : ℕ) (channel : Channel) (w : WorldState) (fate : F)
      → slice_get w.net.channels place ≡ Some channel → CanCall w → HaveEnds w
      → Comes answers w fate (ComesUpIf up place channel w)
  comes_up_exists true place channel w fate here can ends =
      comes_without answers w w fate (ComesUpIf true place channel w) (refl, refl) (itself_on w can)
  comes_up_exists false place channel w fate here can ends =
      let up : WorldState = record w { net = brought_up place channel w.net } in
      let new : Channel = record channel { up = true } in
      let on : GoesOn w up =
      link_on place channel new w w.net.pending here refl refl (can.links place channel here)
      (same_frames channel new refl refl (can.frames place channel here)) can in
      comes_so answers w fate (TellsEnds PortUp channel up) (ComesUpIf false place channel w) (λ draws v told. told)
      (comes_from answers w up fate (TellsEnds PortUp channel up) on
      (tells_ends_exist answers all steps PortUp channel up fate (λ s now p of. of) (λ p. tt) on.can
      (ends place FromA channel here) (ends place FromB channel here)))

  -- octets enter it, where it is up
  injects_exists : (up : Bool) (from : PortId) (octets : List ℕ) (w : WorldState) (fate : F) → AreOfFrame octets
      → CanCall w → (up ≡ true → IsUpAt w.net.channels from) → Comes answers w fate (InjectsIf up from octets w)
  injects_exists false from octets w fate are can begins =
      comes_without answers w w fate (InjectsIf false from octets w) (refl, refl) (itself_on w can)
  injects_exists true from octets w fate are can begins =
      let one = one_is_sent answers w.time from octets w.net fate all can.links (begins refl) in
      let v : WorldState = record w { net = one.after } in
      let injects : Injects from octets w (one.draw ∷ []) v = record {
        draw = one.draw;
        net = one.after;
        drawn_once = refl;
        sent = one.sent;
        is = refl;
      } in
      record {
        draws = one.draw ∷ [];
        fate_after = one.fate_after;
        after = v;
        drawn = (one.fate_after, one.drawn, refl);
        so = injects;
        on = record {
          can = record {
            moment = can.moment;
            stations = can.stations;
            setups = can.setups;
            links = (sent_later w.time from octets one.draw w.net one.after can.links one.sent).links;
            frames = sends_one_frames w.time from octets one.draw w.net one.after are can.frames one.sent;
          };
          stays = injects_stay from octets w (one.draw ∷ []) v can.setups injects;
          count = refl;
        };
      }

  -- ---- a system

  -- it fails, recovers, or has another priority1
  fails_exists : (live : Bool) (place : ℕ) (station : Station) (w : WorldState) (fate : F)
      → slice_get w.stations place ≡ Some station → CanCall w → Comes answers w fate (FailsIf live place station w)
  fails_exists false place station w fate here can =
      comes_without answers w w fate (FailsIf false place station w) (refl, refl) (itself_on w can)
  fails_exists true place station w fate here can =
      let off : Station = record station { live = false } in
      let running = can.stations place station here in
      comes_without answers w (failed place station w) fate (FailsIf true place station w) (refl, refl)
      (station_on place station off w (all_timers place off w.net).pending here
      (record { system = running.system; params = running.params }) (failed_stays place station w here can.setups) can)

  recovers_exists : (live : Bool) (place : ℕ) (station : Station) (w : WorldState) (fate : F)
      → slice_get w.stations place ≡ Some station → CanCall w → Comes answers w fate (RecoversIf live place w)
  recovers_exists true place station w fate here can =
      comes_without answers w w fate (RecoversIf true place w) (refl, refl) (itself_on w can)
  recovers_exists false place station w fate here can =
      comes_so answers w fate (Starts place w) (RecoversIf false place w) (λ draws v starts. starts)
      (starts_exist answers all steps place w station fate here can)

  prioritized_exists : (value place : ℕ) (station : Station) (w : WorldState) (fate : F)
      → slice_get w.stations place ≡ Some station → CanCall w
      → Comes answers w fate (CallsIfLive place (Priority value) (with_station place (with_setup value station) w))
  prioritized_exists value place station w fate here can =
      let new : Station = with_setup value station in
      let set : WorldState = with_station place new w in
      let running = can.stations place station here in
      let on : GoesOn w set =
      station_on place station new w w.net.pending here
      (record { system = running.system; params = running.params })
      (with_setup_stays value place station w here can.setups) can in
      comes_from answers w set fate (CallsIfLive place (Priority value) set) on
      (calls_if_live_exist answers all steps place (Priority value) set new fate
      (get-set_same w.stations place station new here) tt tt on.can)

  -- ---- all changes

  -- a change is made, where there is what it is about
  pub changes_exist : (c : Change) (w : WorldState) (fate : F) → CanCall w → HaveEnds w → IsFitAct (Changing c)
      → InjectsOctets (Changing c) → IsThereToChange c w → Comes answers w fate (Changes c w)
  changes_exist (LinkDown number port) w fate can ends fit octets there =
      comes_so answers w fate (GoesDownIf there.channel.up there.place there.channel w)
      (Changes (LinkDown number port) w)
      (λ draws v k. record { place = there.place; channel = there.channel; is = there.is; so = k })
      (goes_down_exists there.channel.up there.place there.channel w fate there.is.here can ends)
  changes_exist (LinkUp number port) w fate can ends fit octets there =
      comes_so answers w fate (ComesUpIf there.channel.up there.place there.channel w) (Changes (LinkUp number port) w)
      (λ draws v k. record { place = there.place; channel = there.channel; is = there.is; so = k })
      (comes_up_exists there.channel.up there.place there.channel w fate there.is.here can ends)
  changes_exist (LinkSet number port min max loss) w fate can ends fit octets there =
      let channel : Channel = there.channel in
      let bounds : Bounds = set_to min max loss channel in
      let new : Channel = record channel { bounds = bounds } in
      comes_without answers w (record w { net = with_bounds bounds there.place channel w.net }) fate
      (Changes (LinkSet number port min max loss) w)
      (record { place = there.place; channel = channel; is = there.is; so = (refl, refl) })
      (link_on there.place channel new w w.net.pending there.is.here refl refl
      (record { positive = fit.positive; ordered = fit.ordered; short = fit.short; share = fit.share })
      (same_frames channel new refl refl (can.frames there.place channel there.is.here)) can)
  changes_exist (Fail number) w fate can ends fit octets there =
      comes_so answers w fate (FailsIf there.station.live there.place there.station w) (Changes (Fail number) w)
      (λ draws v k. record { place = there.place; station = there.station; is = there.is; so = k })
      (fails_exists there.station.live there.place there.station w fate there.is.here can)
  changes_exist (Recover number) w fate can ends fit octets there =
      comes_so answers w fate (RecoversIf there.station.live there.place w) (Changes (Recover number) w)
      (λ draws v k. record { place = there.place; station = there.station; is = there.is; so = k })
      (recovers_exists there.station.live there.place there.station w fate there.is.here can)
  changes_exist (Priority1 number value) w fate can ends fit octets there =
      let set : WorldState = with_station there.place (with_setup value there.station) w in
      comes_so answers w fate (CallsIfLive there.place (Priority value) set) (Changes (Priority1 number value) w)
      (λ draws v k. record { place = there.place; station = there.station; is = there.is; so = k })
      (prioritized_exists value there.place there.station w fate there.is.here can)
  changes_exist (Inject number port octets) w fate can ends fit are there =
      comes_so answers w fate (InjectsIf there.channel.up (port_id number port) octets w)
      (Changes (Inject number port octets) w)
      (λ draws v k. record { place = there.place; channel = there.channel; is = there.is; so = k })
      (injects_exists there.channel.up (port_id number port) octets w fate are can
      (λ up. joined_up w.net.channels there.place there.channel (port_id number port) there.is.here up there.is.joined))
