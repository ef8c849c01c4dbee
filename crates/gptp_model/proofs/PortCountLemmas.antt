-- How many ports each system has: one for each interval of its setup, after every act.
use Rattle.std.proofs.Common.{◌≡◌, ◌≢◌, ◌⊎◌, ℕ, List, length, Some, slice_get, slice_set, sym, ap, subst, ◌∙◌, inl, inr}
use Rattle.std.proofs.lemmas.Option.{same_Some}
use Rattle.gptp_links.specs.Fate.{Draw}
use Rattle.gptp_roles.specs.Selection.{clock_of}
use Rattle.gptp_system.specs.declared.answer.Answer.{Answer}
use Rattle.gptp_system.specs.Input.{Input}
use Rattle.gptp_system.proofs.FactLemmas.{keeps_length}
use Rattle.gptp_system.proofs.StartLemmas.{length-new_ports}
use Rattle.gptp_system.proofs.StepLemmas.{steps_sound}
use Rattle.gptp_model.specs.declared.station.Station.{Station}
use Rattle.gptp_model.specs.World.{Net, WorldState}
use Rattle.gptp_model.specs.Act.{all_timers, in_state, Calls}
use Rattle.gptp_model.specs.Changing.{fresh}
use Rattle.gptp_model.specs.Agrees.{HaveTheirPorts}
use Rattle.gptp_lists.proofs.PlaceLemmas.{get-set_same, get-set_other, same_place}
use Rattle.gptp_model.proofs.AgreeLemmas.{replaced}

-- one system becomes another that has its ports
station_has_ports : (place : ℕ) (w : WorldState) (old new : Station) (net : Net)
    → slice_get w.stations place ≡ Some old → length new.system.ports ≡ length new.setup.intervals.items
    → HaveTheirPorts w
    → HaveTheirPorts (record w { stations = slice_set w.stations place new; net = net })
station_has_ports place w old new net here count have other station there = by (same_place other place)
  where
    by : (other ≡ place) ⊎ (other ≢ place) → length station.system.ports ≡ length station.setup.intervals.items
    by (inl same) =
        let now_here = get-set_same w.stations place old new here in
        let one : station ≡ new =
        same_Some station new (sym there ∙ (ap (slice_get (slice_set w.stations place new)) same ∙ now_here)) in
        rw one count
    by (inr apart) = have other station (sym (get-set_other w.stations place other new apart) ∙ there)

pub calls_have_ports : (place : ℕ) (input : Input) (w : WorldState) (draws : List Draw) (answer : Answer)
    (w' : WorldState) → HaveTheirPorts w → Calls place input w draws answer w' → HaveTheirPorts w'
calls_have_ports place input w draws answer w' have calls =
    let count = keeps_length calls.station.system calls.after
    (steps_sound input w.time calls.station.system calls.after calls.sends answer calls.steps).kept in
    subst HaveTheirPorts (sym calls.is)
    (station_has_ports place w calls.station (in_state calls.after calls.station) calls.net calls.here
    (count ∙ have place calls.station calls.here) have)

-- and so it is as it starts
pub fresh_has_ports : (place : ℕ) (station : Station) (w : WorldState) → slice_get w.stations place ≡ Some station
    → HaveTheirPorts w → HaveTheirPorts (replaced place (fresh w.time station) w)
fresh_has_ports place station w here =
    let new : Station = fresh w.time station in
    let setup = station.setup in
    station_has_ports place w station new (all_timers place new w.net) here
    (length-new_ports (clock_of setup.identity) setup.params 1 setup.intervals.items)
