-- A world of which links or systems are gone, and nothing else, is left: all that it holds and what is in flight fits
-- the snapshot that it fitted, and each link that is left stays at its stage.
use Rattle.std.proofs.Common.{◌≤◌, ◌*◌, ℕ, pred, sym, subst, arith}
use Rattle.gptp_graph.specs.PathBound.{path_bound}
use Rattle.gptp_graph.specs.Snapshot.{IsWellFormed, Snapshot}
use Rattle.gptp_setup.specs.SettlingParams.{SettlingParams}
use Rattle.gptp_model.specs.World.{WorldState}
use Rattle.gptp_bmca_machine.specs.Calm.{Calm}
use Rattle.gptp_bmca_machine.specs.Levels.{Invariant}
use Rattle.gptp_bmca_machine.specs.LossLaws.{EverythingFits}
use Rattle.gptp_bmca_machine.specs.Network.{Network}
use Rattle.gptp_bmca_machine.specs.RestLaws.{SameWiring}
use Rattle.gptp_bmca_machine.specs.Sound.{RunIsSound}
use Rattle.gptp_bmca_machine.specs.SoundLaws.{AllAreNear}
use Rattle.gptp_invariants.specs.ChoiceCalm.{HaveQuietLinks, delay_in}
use Rattle.gptp_invariants.specs.ChoiceSettlesAsMachine.{IsWorld}
use Rattle.gptp_invariants.specs.ChoiceView.{says_announce, view}
use Rattle.gptp_invariants.specs.WorldStanding.{snapshot_of}
use Rattle.gptp_invariants.proofs.WorldStandsLemmas.{stands_well}
use Rattle.gptp_settling_time.proofs.AlwaysClaimedLemmas.{IsStanding}
use Rattle.gptp_settling_time.proofs.FitsLemmas.{IsLeftUnmoved, UnlinkedHoldNothing, received_still}
use Rattle.gptp_settling_time.proofs.LeftClaimedLemmas.{HaveAskedLong, IsLeftAlways, left_calm, left_net, left_network}
use Rattle.gptp_settling_time.proofs.ReducedLemmas.{IsReduced, fits_reduced, levels_reduced}
use Rattle.gptp_settling_time.proofs.SettledSeenLemmas.{IsSettledSeen}
use Rattle.gptp_settling_time.proofs.UnlinkedLemmas.{LostAreFarther}

module _ (p : SettlingParams) (before : Snapshot) (silent : ℕ) (w w' : WorldState) (is' : IsWorld p w')
    (well : IsWellFormed before) (seen : IsSettledSeen p w) (less : IsReduced (view w) (view w'))
    (left : IsLeftUnmoved (snapshot_of w) (snapshot_of w')) (still : IsLeftUnmoved before (snapshot_of w'))
    (same : SameWiring seen.n (left_network p silent w')) (fits : EverythingFits says_announce before seen.n (view w))
    (standing : IsStanding p silent w') (asked : HaveAskedLong w')
    (unlinked : HaveQuietLinks p.params w' → UnlinkedHoldNothing (snapshot_of w') (view w'))
    (near : AllAreNear (snapshot_of w')) (farther : LostAreFarther before (snapshot_of w'))
    (late : pred (path_bound (snapshot_of w')) * delay_in w' ≤ w'.time) where
  abbrev n' : Network
  n' = left_network p silent w'

  well' : IsWellFormed (snapshot_of w')
  well' = stands_well w' is'.sound is'.between is'.encodable

  left_seen : IsLeftUnmoved seen.n.graph (snapshot_of w')
  left_seen = subst (λ h. IsLeftUnmoved h (snapshot_of w')) (sym seen.graph) left

  fits' : EverythingFits says_announce before n' (view w')
  fits' = fits_reduced says_announce before seen.n n' seen.net.graph well' left_seen (view w) (view w') less fits

  module _ (quiet : HaveQuietLinks p.params w') where
    calm' : Calm n' (view w')
    calm' = left_calm p silent w' standing asked quiet (unlinked quiet)

    sound' : RunIsSound n' (view w')
    sound' by = received_still before n' (view w') well well' still calm' (unlinked quiet) fits'.stations

    invariant' : Invariant says_announce n' (view w')
    invariant' = record {
      sound = sound';
      levels = levels_reduced says_announce seen.n n' seen.net (left_net p silent w' is') same left_seen (view w)
          (view w') less seen.calm calm' seen.invariant seen.late sound' (λ q linked. omega arith);
    }

  pub begins_left : IsLeftAlways p before silent w'
  begins_left = record {
    standing = standing;
    asked = asked;
    well = well;
    left = still;
    near = near;
    farther = farther;
    late = late;
    seen = λ quiet off. record { unlinked = unlinked quiet; fits = fits'; invariant = invariant' quiet };
  }
