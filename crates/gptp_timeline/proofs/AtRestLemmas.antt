-- Every system of a world is at rest: it follows what its ports hold. No act ends that.
use Rattle.std.proofs.Common.{◌≡◌, ℕ, List, Some, slice_get}
use Rattle.std.specs.Prelude.{⊤}
use Rattle.gptp_model.specs.declared.station.Station.{Station}
use Rattle.gptp_model.specs.Acts.{Acts}
use Rattle.gptp_model.specs.Ahead.{IsWorldOnTime}
use Rattle.gptp_model.specs.World.{WorldState}
use Rattle.gptp_model.specs.declared.done.Done.{Done}
use Rattle.gptp_links.specs.Fate.{Draw}
use Rattle.gptp_scenario.specs.declared.change.Act.{Act}
use Rattle.gptp_model.proofs.ActsByLemmas.{Elementary, acts_by}
use Rattle.gptp_invariants.proofs.WorldEachLemmas.{OfEach, each_kept}
use Rattle.gptp_system.specs.Facts.{AreHeld, IsAtRest}
use Rattle.gptp_system.specs.Start.{started}
use Rattle.gptp_system.specs.State.{SystemState}
use Rattle.gptp_system.proofs.RestLemmas.{new_held, new_rest}
use Rattle.gptp_system.proofs.StepLemmas.{steps_sound}
use Rattle.gptp_system.proofs.SystemLemmas.{is_new}

-- what its ports received qualified there, and it follows that
pub record Follows (s : SystemState) : Type 0 where
  pub held : AreHeld s
  pub rest : IsAtRest s

abbrev pub AllFollow : List Station → Type 0
AllFollow stations = (place : ℕ) (station : Station) → slice_get stations place ≡ Some station → Follows station.system

-- they do in a world that is on time
pub first_follow : (w : WorldState) → IsWorldOnTime w → AllFollow w.stations
first_follow w on_time place station there =
    let steady = (on_time.stations place station there).steady in record { held = steady.held; rest = steady.rest }

follow_kept : Elementary ⊥ (λ act. ⊤) (λ octets. ⊤) (OfEach (λ x. Follows x.system))
follow_kept = each_kept (λ x. Follows x.system)
    (λ input now station after sends answer steps before.
    let sound = steps_sound input now station.system after sends answer steps in
    record { held = sound.held before.held; rest = sound.rest before.held before.rest })
    (λ station before. before)
    (λ now station before.
    let s = started station.setup now in
    let is = is_new station.setup now in
    record { held = new_held s is; rest = new_rest s is })
    (λ value station before. before)

pub acts_follow : (act : Act) (w : WorldState) (draws : List Draw) (done : Done) (w' : WorldState)
    → Acts act w draws done w' → AllFollow w.stations → AllFollow w'.stations
acts_follow act w draws done w' k all = acts_by follow_kept act w draws done w' (λ none. absurd none) tt k all
