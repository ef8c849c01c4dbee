-- Calls leave a world encodable, and such that each of its systems can be called.
use Rattle.std.proofs.Common.{◌≡◌, ◌<◌, ◌^◌, ℕ, Bool, List, length, Some, slice_get, sym, ap, subst, ◌∙◌}
use Rattle.std.proofs.lemmas.Option.{none-some}
use Rattle.gptp_links.specs.Fate.{Draw}
use Rattle.gptp_receipt.specs.Held.{received}
use Rattle.gptp_system.specs.declared.answer.Answer.{Answer}
use Rattle.gptp_setup.specs.declared.setup.Setup.{Setup}
use Rattle.gptp_system.specs.Input.{Input, IsTimely}
use Rattle.gptp_setup.specs.Intervals.{AreParams}
use Rattle.gptp_system.specs.Start.{started}
use Rattle.gptp_system.proofs.StartLemmas.{disabled_at}
use Rattle.gptp_model.specs.declared.station.Station.{Station}
use Rattle.gptp_model.specs.Act.{Calls, in_state}
use Rattle.gptp_model.specs.Ahead.{IsSteady}
use Rattle.gptp_model.specs.Sound.{IsItsSetup, IsSound}
use Rattle.gptp_model.specs.World.{WorldState}
use Rattle.gptp_lists.proofs.PlaceLemmas.{get-set_all}
use Rattle.gptp_model.proofs.StayLemmas.{called_same}
use Rattle.gptp_model.proofs.SteadyLemmas.{steps_steady}
use Rattle.gptp_invariants.specs.WorldEncodable.{IsEncodable, StationFits}
use Rattle.gptp_invariants.proofs.WorldEncodableLemmas.{calls_encodable}
use Rattle.gptp_invariants.proofs.ChoiceTouchLemmas.{InputFits}

-- ---- calls

-- a system that can be called
pub record CanAnswer (station : Station) : Type 0 where
  pub params : AreParams station.setup.params
  pub steady : IsSteady station.system
  pub its : IsItsSetup station

-- an encodable world in which every system can be called
pub record IsAnswering (w : WorldState) : Type 0 where
  pub stations : (place : ℕ) (station : Station) → slice_get w.stations place ≡ Some station → CanAnswer station
  pub encodable : IsEncodable w

pub sound_answers : (w : WorldState) → IsSound w → IsEncodable w → IsAnswering w
sound_answers w sound encodable = record {
  stations = λ place station here.
      let on = sound.on_time.stations place station here in
      record { params = on.setup; steady = on.steady; its = sound.wired.setups place station here };
  encodable = encodable;
}

pub calls_answering : (place : ℕ) (input : Input) (w : WorldState) (draws : List Draw) (answer : Answer)
    (w' : WorldState)
    → IsAnswering w → (k : Calls place input w draws answer w') → IsTimely k.station.system w.time input
    → InputFits input → IsAnswering w'
calls_answering place input w draws answer w' is k timely fits =
    let old = is.stations place k.station k.here in
    let called : Station = in_state k.after k.station in
    let new : CanAnswer called = record {
      params = old.params;
      steady = steps_steady input w.time k.station.system k.after k.sends answer old.steady k.steps;
      its = (called_same input w place draws answer w' k old.its).its;
    } in
    record {
      stations =
          subst
          (λ (v : WorldState). (other : ℕ) (station : Station) → slice_get v.stations other ≡ Some station
          → CanAnswer station)
          (sym k.is) (get-set_all CanAnswer w.stations place k.station called k.here new is.stations);
      encodable = calls_encodable place input w draws answer w' k old.steady old.its timely fits is.encodable;
    }

-- ---- starts

-- what starts holds nothing that it received
pub new_fits : (now : ℕ) (setup : Setup) (live : Bool) → setup.identity < 2 ^ 112
    → StationFits (record { setup = setup; system = started setup now; live = live })
new_fits now setup live small = record {
  system = record {
    identity = small;
    held = λ i h stands r got.
        let off = disabled_at (length setup.intervals.items) i h stands in
        absurd (none-some r (ap received (sym off) ∙ got));
  };
  setup = small;
}
