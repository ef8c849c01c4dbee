-- Every act leaves a world sound, and an act at its moment leaves less to do then.
use Rattle.std.proofs.Common.{◌≡◌, ℕ, ◌<◌, List, [], map, Option, Some, slice_get, refl, ap, sym, ◌∙◌}
use Rattle.std.specs.Option.{option_map_or}
use Rattle.gptp_links.specs.declared.link.Direction.{Direction}
use Rattle.gptp_links.specs.Fate.{Draw}
use Rattle.gptp_links.specs.Queue.{Frame}
use Rattle.gptp_system.specs.declared.answer.Answer.{Answer}
use Rattle.gptp_setup.specs.declared.timer.Timer.{Timer}
use Rattle.gptp_scenario.specs.declared.change.Act.{Act}
use Rattle.gptp_model.specs.declared.done.Done.{Done}
use Rattle.gptp_model.specs.declared.item.Item.TheVariants.{Expiry, Arrival}
use Rattle.gptp_model.specs.declared.station.Station.{Station}
use Rattle.gptp_model.specs.Act.{Delivers, TimerRunsOut}
use Rattle.gptp_model.specs.Acts.{Acts}
use Rattle.gptp_scenario.specs.Allowed.{IsFitAct}
use Rattle.gptp_model.specs.Agrees.{Agrees, HaveTheirPorts}
use Rattle.gptp_model.specs.Ahead.{due_by, AllArePending}
use Rattle.gptp_model.specs.Changing.{StartsAll}
use Rattle.gptp_model.specs.Pending.{times_of_item, timer_time, NothingBefore}
use Rattle.gptp_model.specs.Sound.{IsSound, IsWired}
use Rattle.gptp_model.specs.World.{Channel, WorldState, world_queue, station_due}
use Rattle.gptp_model.proofs.ActsByLemmas.{delivered_up}
use Rattle.gptp_model.proofs.AgreeLemmas.{agrees_at}
use Rattle.gptp_model.proofs.ChangeAgreeLemmas.{acts_agree, starts_all_agree}
use Rattle.gptp_model.proofs.ChangeOnTimeLemmas.{acts_on_time, starts_all_on_time}
use Rattle.gptp_model.proofs.OnTimeLemmas.{delivers_due_by, expires_due_by, passes_on_time}
use Rattle.gptp_model.proofs.WiredLemmas.{acts_wired, starts_all_wired, time_wired}

-- ---- what is pending, place by place

pub agrees_pending : (w : WorldState) → Agrees w → AllArePending w
agrees_pending w agrees place station here timer =
    agrees (Expiry place timer) ∙ ap (λ o. option_map_or (λ (x : Station). timer_time (station_due timer x)) o []) here

pub agrees_arrivals : (w : WorldState) → Agrees w → (link : ℕ) (direction : Direction) (channel : Channel)
    → slice_get w.net.channels link ≡ Some channel
    → times_of_item (Arrival link direction) w.net.pending ≡ map (λ (f : Frame). f.due) (world_queue direction channel)
agrees_arrivals w agrees link direction channel here =
    agrees (Arrival link direction)
    ∙ ap (λ o. option_map_or (λ (c : Channel). map (λ (f : Frame). f.due) (world_queue direction c)) o []) here

-- ---- time that passes

pub later_sound : (w : WorldState) (time last_change : ℕ) → IsSound w → NothingBefore time w.net.pending
    → IsSound (record w { time = time; last_change = last_change })
later_sound w time last_change is first = record {
  wired = time_wired w time last_change is.wired;
  on_time = passes_on_time w (record w { time = time; last_change = last_change }) refl refl is.on_time
      (agrees_pending w is.agrees) first;
  agrees = agrees_at w time last_change is.agrees;
}

-- ---- a delivery

pub delivers_less : (link : ℕ) (direction : Direction) (octets : List ℕ) (w : WorldState) (draws : List Draw)
    (answer : Option Answer) (w' : WorldState) → IsSound w → Delivers link direction octets w draws answer w'
    → due_by w.time w'.net.pending < due_by w.time w.net.pending
delivers_less link direction octets w draws answer w' is k =
    delivers_due_by link direction octets w draws answer w' k (is.on_time.stations k.place k.station k.there).steady
    (delivered_up link direction octets w draws answer w' k is.wired) is.on_time.links
    (agrees_pending w is.agrees k.place k.station k.there)
    (agrees_arrivals w is.agrees link direction k.channel k.takes.here)

-- ---- an expiry

pub expires_less : (place : ℕ) (timer : Timer) (w : WorldState) (draws : List Draw) (w' : WorldState) → IsSound w
    → TimerRunsOut place timer w draws w' → due_by w.time w'.net.pending < due_by w.time w.net.pending
expires_less place timer w draws w' is k =
    expires_due_by place timer w draws w' k (is.on_time.stations place k.station k.here).steady is.on_time.links
    (agrees_pending w is.agrees place k.station k.here)

-- ---- all acts

-- each system has a port for each interval of its setup
have_ports : (w : WorldState) → IsWired w → HaveTheirPorts w
have_ports w is place station here =
    let its = is.setups place station here in its.ports ∙ sym its.intervals.many

pub acts_sound : (act : Act) (w : WorldState) (draws : List Draw) (done : Done) (w' : WorldState) → IsSound w
    → IsFitAct act
    → Acts act w draws done w' → IsSound w'
acts_sound act w draws done w' is fit k = record {
  wired = acts_wired act w draws done w' is.wired k;
  on_time = acts_on_time act w draws done w' is.wired fit is.on_time k;
  agrees = acts_agree act w draws done w' (have_ports w is.wired) is.agrees k;
}

-- so does a start of all systems
pub starts_sound : (places : List ℕ) (w : WorldState) (draws : List Draw) (w' : WorldState) → IsSound w
    → StartsAll places w draws w' → IsSound w'
starts_sound places w draws w' is k = record {
  wired = starts_all_wired places w draws w' is.wired k;
  on_time = starts_all_on_time places w draws w' is.wired.setups is.on_time k;
  agrees = starts_all_agree places w draws w' (have_ports w is.wired) is.agrees k;
}
