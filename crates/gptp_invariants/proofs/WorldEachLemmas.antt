-- What is so of each system of a world: every act keeps it that each step of a system, its start and its setup keep.
use Rattle.std.proofs.Common.{◌≡◌, ℕ, false, List, Some, slice_get, sym, subst}
use Rattle.std.specs.Prelude.{⊤}
use Rattle.gptp_lists.proofs.PlaceLemmas.{get-set_all}
use Rattle.gptp_system.specs.declared.answer.Answer.{Answer}
use Rattle.gptp_system.specs.declared.sending.Sending.{Sending}
use Rattle.gptp_system.specs.Input.{Input, Steps}
use Rattle.gptp_system.specs.State.{SystemState}
use Rattle.gptp_model.specs.declared.station.Station.{Station}
use Rattle.gptp_model.specs.Act.{in_state}
use Rattle.gptp_model.specs.Changing.{fresh, with_setup}
use Rattle.gptp_model.specs.World.{WorldState}
use Rattle.gptp_model.proofs.ActsByLemmas.{Elementary}

abbrev pub OfEach : (Station → Type 0) → WorldState → Type 0
OfEach So w = (place : ℕ) (station : Station) → slice_get w.stations place ≡ Some station → So station

pub each_kept : (So : Station → Type 0)
    → ((input : Input) (now : ℕ) (station : Station) (after : SystemState) (sends : List Sending) (answer : Answer)
    → Steps input now station.system after sends answer → So station → So (in_state after station))
    → ((station : Station) → So station → So (record station { live = false }))
    → ((now : ℕ) (station : Station) → So station → So (fresh now station))
    → ((value : ℕ) (station : Station) → So station → So (with_setup value station))
    → Elementary ⊥ (λ act. ⊤) (λ octets. ⊤) (OfEach So)
each_kept So stepped failed started set = record {
  system_called = λ place input w draws answer w' k given each.
      subst (OfEach So) (sym k.is)
      (get-set_all So w.stations place k.station (in_state k.after k.station) k.here
      (stepped input w.time k.station k.after k.sends answer k.steps (each place k.station k.here)) each);
  frame_taken = λ link direction octets channel w net k each. (each, tt);
  timer_stopped = λ place timer w each. each;
  link_down = λ place channel w here each. each;
  link_up = λ place channel w here each. each;
  link_set = λ number port min max loss place channel w here allowed now each. each;
  system_failed = λ place station w here each.
      get-set_all So w.stations place station (record station { live = false }) here
      (failed station (each place station here)) each;
  system_started = λ place station w here each.
      get-set_all So w.stations place station (fresh w.time station) here
      (started w.time station (each place station here)) each;
  priority_set = λ number value place station w here allowed each.
      get-set_all So w.stations place station (with_setup value station) here
      (set value station (each place station here)) each;
  octets_injected = λ number port octets w draws w' allowed k each. subst (OfEach So) (sym k.is) each;
  change_counted = λ w each. each;
}
