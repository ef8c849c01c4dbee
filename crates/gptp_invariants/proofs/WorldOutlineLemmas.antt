-- What acts, starts and changes leave as it is: the time, and how many systems there are. A change is the last one.
use Rattle.std.proofs.Common.{◌≡◌, ℕ, false, List, length, length-set, refl, slice_set, sym, subst, ◌∙◌}
use Rattle.std.specs.Prelude.{⊤}
use Rattle.gptp_links.specs.Fate.{Draw}
use Rattle.gptp_scenario.specs.declared.change.Act.{Act}
use Rattle.gptp_scenario.specs.declared.change.Act.TheVariants.{Change as Changing}
use Rattle.gptp_scenario.specs.declared.change.Change.{Change}
use Rattle.gptp_model.specs.declared.done.Done.{Done}
use Rattle.gptp_model.specs.declared.station.Station.{Station}
use Rattle.gptp_model.specs.Act.{all_timers, in_state}
use Rattle.gptp_model.specs.Acts.{Acts, set_to}
use Rattle.gptp_model.specs.Agrees.{stopped}
use Rattle.gptp_model.specs.Changing.{StartsAll, brought_up, fresh, taken_down, with_bounds, with_setup}
use Rattle.gptp_model.specs.World.{Net, WorldState}
use Rattle.gptp_model.proofs.ActsByLemmas.{Elementary, acts_by, changes_by, starts_by}

-- how many systems there are
abbrev pub count : WorldState → ℕ
count w = length w.stations

-- The time, and how many systems there are, are as in the first world. If that had its last change at its time, so has
-- this one.
record IsInOutline (first w : WorldState) : Type 0 where
  time : w.time ≡ first.time
  systems : count w ≡ count first
  last : first.last_change ≡ first.time → w.last_change ≡ first.time

itself : (w : WorldState) → IsInOutline w w
itself w = record { time = refl; systems = refl; last = λ now. now }

-- other links, and another system at a place
net_is : (first w : WorldState) (net : Net) → IsInOutline first w → IsInOutline first (record w { net = net })
net_is first w net is = record { time = is.time; systems = is.systems; last = is.last }

station_is : (first w : WorldState) (place : ℕ) (station : Station) (net : Net) → IsInOutline first w
    → IsInOutline first (record w { stations = slice_set w.stations place station; net = net })
station_is first w place station net is =
    record { time = is.time; systems = length-set w.stations place station ∙ is.systems; last = is.last }

keeps : (first : WorldState) → Elementary ⊥ (λ act. ⊤) (λ octets. ⊤) (IsInOutline first)
keeps first = record {
  system_called = λ place input w draws answer w' k given is.
      subst (IsInOutline first) (sym k.is) (station_is first w place (in_state k.after k.station) k.net is);
  frame_taken = λ link direction octets channel w net k is. (net_is first w net is, tt);
  timer_stopped = λ place timer w is. net_is first w (stopped place timer w).net is;
  link_down = λ place channel w here is. net_is first w (taken_down place channel w.net) is;
  link_up = λ place channel w here is. net_is first w (brought_up place channel w.net) is;
  link_set = λ number port min max loss place channel w here allowed now is.
      net_is first w (with_bounds (set_to min max loss channel) place channel w.net) is;
  system_failed = λ place station w here is.
      let off : Station = record station { live = false } in
      station_is first w place off (all_timers place off w.net) is;
  system_started = λ place station w here is.
      let new : Station = fresh w.time station in
      station_is first w place new (all_timers place new w.net) is;
  priority_set = λ number value place station w here allowed is.
      station_is first w place (with_setup value station) w.net is;
  octets_injected = λ number port octets w draws w' allowed k is.
      subst (IsInOutline first) (sym k.is) (net_is first w k.net is);
  change_counted = λ w is. record { time = is.time; systems = is.systems; last = λ now. is.time };
}

-- ---- an act happens at the time of the world, and changes nothing of how many systems there are

pub acts_time : (act : Act) (w : WorldState) (draws : List Draw) (done : Done) (w' : WorldState)
    → Acts act w draws done w' → w'.time ≡ w.time
acts_time act w draws done w' k = (acts_by (keeps w) act w draws done w' (λ none. absurd none) tt k (itself w)).time

pub acts_count : (act : Act) (w : WorldState) (draws : List Draw) (done : Done) (w' : WorldState)
    → Acts act w draws done w' → count w' ≡ count w
acts_count act w draws done w' k =
    (acts_by (keeps w) act w draws done w' (λ none. absurd none) tt k (itself w)).systems

pub starts_all_count : (places : List ℕ) (w : WorldState) (draws : List Draw) (w' : WorldState)
    → StartsAll places w draws w' → count w' ≡ count w
starts_all_count places w draws w' k = (starts_by (keeps w) places w draws w' k (itself w)).systems

-- ---- a change is the last one

pub starts_are_last : (places : List ℕ) (w : WorldState) (draws : List Draw) (w' : WorldState)
    → w.last_change ≡ w.time → StartsAll places w draws w' → w'.last_change ≡ w'.time
starts_are_last places w draws w' now k =
    let is = starts_by (keeps w) places w draws w' k (itself w) in is.last now ∙ sym is.time

pub change_is_last : (change : Change) (w : WorldState) (draws : List Draw) (done : Done) (w' : WorldState)
    → Acts (Changing change) w draws done w' → w'.last_change ≡ w'.time
change_is_last change w draws done w' k =
    let now : WorldState = record w { last_change = w.time } in
    let is = changes_by (keeps now) change now draws w' (λ none. absurd none) refl tt k.1 (itself now) in
    is.last refl ∙ sym is.time
