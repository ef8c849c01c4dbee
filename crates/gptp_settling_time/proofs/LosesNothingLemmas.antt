-- What makes nothing of what stands takes nothing away from a world, among events that do.
use Rattle.std.proofs.Common.{ℕ, refl, sym, ap, subst, ◌∙◌, inl, inr}
use Rattle.gptp_lists.specs.Members.{In}
use Rattle.gptp_graph.specs.Snapshot.{Snapshot, clocks}
use Rattle.gptp_setup.specs.SettlingParams.{SettlingParams}
use Rattle.gptp_model.specs.World.{WorldState}
use Rattle.std.specs.Prelude.{slice_get}
use Rattle.gptp_invariants.specs.ChoiceSettlesAsMachine.{IsWorld}
use Rattle.gptp_invariants.specs.DelayMeasured.{LinkIsMeasured}
use Rattle.gptp_invariants.specs.WorldNews.{AreReadyBy, AreSilentBy}
use Rattle.gptp_invariants.specs.WorldStanding.{channel_is_used}
use Rattle.gptp_settling_time.proofs.LosingLemmas.{TakesAway}
use Rattle.gptp_settling_time.proofs.SameLinkLemmas.{ready_same}
use Rattle.gptp_settling_time.proofs.StandsStillLemmas.{StandsStill, links_still, silent_then, snapshot_still, stay_still, stood_still, systems_still}

module _ (p : SettlingParams) (w w' : WorldState) (still : StandsStill w w') where
  pub still_takes : (since silent : ℕ) → IsWorld p w → IsWorld p w' → LinkIsMeasured w' → AreReadyBy p since w
      → AreSilentBy p silent w → TakesAway p since silent w w'
  still_takes since silent is is' measured' ready silent_by = record {
    time = still.time;
    world = is';
    measured = measured';
    quiet = silent_then p silent w w' still is' measured' silent_by;
    goes = λ at s. inr (inl (stay_still p silent w w' still is' measured' at s));
    ready = λ at s.
        ready_same p since at w w' (links_still w w' still at) (ready at (stood_still w w' still p is is' at s));
    lived = λ v known. subst (λ (g : Snapshot). In v (clocks g)) (snapshot_still w w' still) known;
    used = λ link channel here used. record {
      old = channel;
      here = ap (λ cs. slice_get cs link) (sym still.channels) ∙ here;
      used = ap (λ systems. channel_is_used systems channel) (sym (systems_still w w' still)) ∙ used;
      bounds = refl;
    };
    flight = λ link direction channel here dead. record {
      old = channel;
      here = ap (λ cs. slice_get cs link) (sym still.channels) ∙ here;
      a = refl;
      b = refl;
      fewer = λ f member. member;
    };
  }
