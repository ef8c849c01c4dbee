-- A world in which what others heard of a failed system ages, and each link that is up is in use: as it lost its power.
-- Nothing is held or in flight but over links in use, so that traces are told anew from then on.
use Rattle.std.proofs.Common.{◌≡◌, ◌∙◌, ◌+◌, ◌*◌, ℕ, suc, pred, List, refl, ap, subst, sym, inl, inr, arith}
use Rattle.gptp_graph.specs.Snapshot.{IsWellFormed, Snapshot}
use Rattle.gptp_scenario.specs.Calm.{NothingLapses}
use Rattle.gptp_scenario.specs.Network.{pace_of}
use Rattle.gptp_scenario.specs.SyncWait.{sync_paths}
use Rattle.gptp_scenario.specs.declared.change.Timed.{Timed}
use Rattle.gptp_scenario.specs.declared.sync_wait.SyncPaths.{SyncPaths}
use Rattle.gptp_setup.specs.SettlingParams.{SettlingParams, largest_interval}
use Rattle.gptp_model.specs.World.{WorldState}
use Rattle.gptp_bmca_machine.specs.LossLaws.{EverythingFits}
use Rattle.gptp_network.specs.Document.{DocumentState}
use Rattle.gptp_invariants.specs.ChoiceCalm.{HaveQuietLinks, delay_in, sync_paths_of}
use Rattle.gptp_invariants.specs.ChoiceView.{says_announce, view}
use Rattle.gptp_invariants.specs.WorldStanding.{snapshot_of}
use Rattle.gptp_invariants.proofs.WorldStandsLemmas.{stands_well}
use Rattle.gptp_theorem.specs.PlayedLaws.{IsPlayable}
use Rattle.gptp_theorem.proofs.SyncPathLemmas.{paths_stand}
use Rattle.gptp_settling_time.specs.EventKinds.{TellsAnew, nearer_echo_span}
use Rattle.gptp_settling_time.specs.Losses.{UpIsUsed}
use Rattle.gptp_settling_time.proofs.AgingClaimedLemmas.{IsAgingAlways, aging_left, aging_now}
use Rattle.gptp_settling_time.proofs.AgingToLemmas.{IsAgingTo}
use Rattle.gptp_settling_time.proofs.ClearedToLemmas.{IsClearedTo}
use Rattle.gptp_settling_time.proofs.BecomesSoundLemmas.{nearer_echo}
use Rattle.gptp_settling_time.proofs.ClearsLemmas.{rights, was_best}
use Rattle.gptp_settling_time.proofs.DueLemmas.{UpIsInUse, in_use_joins}
use Rattle.gptp_settling_time.proofs.FitsLemmas.{flight_still}
use Rattle.gptp_settling_time.proofs.KeptToLemmas.{KeepsTo}
use Rattle.gptp_settling_time.proofs.LeftClaimedLemmas.{HaveAskedBy, IsLeftAlways, left_itself, left_network}
use Rattle.gptp_settling_time.proofs.LeftToLemmas.{answered_in_use, up_in_use}
use Rattle.gptp_settling_time.proofs.UnlinkedLemmas.{IsLeftSeen}

module _ (p : SettlingParams) (g : Snapshot) (aged silent : ℕ) (w : WorldState)
    (is : IsAgingAlways p g aged silent w) (used : UpIsInUse w) where
  well' : IsWellFormed (snapshot_of w)
  well' = stands_well w is.standing.world.sound is.standing.world.between is.standing.world.encodable

  module _ (quiet : HaveQuietLinks p.params w) (off : NothingLapses p.params) where
    -- ports without a link aren't capable now
    claims : IsLeftSeen says_announce g (left_network p w.time w) (view w)
    claims =
        aging_left p g aged w.time w
        (aging_now p g aged silent w is (answered_in_use p w is.standing.world used w.time)) quiet off
        (inr (omega arith))

    fits : EverythingFits says_announce (snapshot_of w) (left_network p silent w) (view w)
    fits = record {
      lanes = λ j l f a at among said known.
          flight_still g (snapshot_of w) is.well well' is.left l a
          (in_use_joins w is.standing.world.sound used j l f at among) (claims.fits.lanes j l f a at among said known);
      stations = claims.invariant.sound (omega arith);
    }

    left_so : IsLeftSeen says_announce (snapshot_of w) (left_network p silent w) (view w)
    left_so = record {
      unlinked = claims.unlinked;
      fits = fits;
      invariant = record { sound = claims.invariant.sound; levels = claims.invariant.levels };
    }

  -- all fits what is left of it
  pub lost_left : IsLeftAlways p (snapshot_of w) silent w
  lost_left = left_itself p silent w is.standing is.asked is.near is.way left_so

-- so right traces are told in a world of a document, as the last link goes down that isn't used
pub aging_cleared : (d : DocumentState) (ago events : List Timed) (aged silent : ℕ) (w : WorldState)
    → IsAgingTo d ago events aged silent w → UpIsUsed d.network events → w.last_change ≡ w.time
    → IsClearedTo d ago events w.time silent (suc (w.time + nearer_echo (pace_of d.network) w))
    (w.time + nearer_echo (pace_of d.network) w + delay_in w) w
aging_cleared d ago events aged silent w so used now =
    let p = pace_of d.network in
    let is = so.since in
    let in_use = up_in_use d events w so.keeps used in
    record {
      keeps = so.keeps;
      before = snapshot_of w;
      is = rights p (snapshot_of w) w.time silent (delay_in w) w (lost_left p so.before aged silent w is in_use)
          (subst (λ t. HaveAskedBy t w) now is.asked)
          (inl (in_use, refl)) so.before
          (was_best so.before (snapshot_of w) is.well (well' p so.before aged silent w is in_use) is.left)
          (λ quiet off. let itself = (is.seen quiet off).itself in
          record { lanes = itself.lanes; stations = itself.stations });
      were = so.were;
    }

-- so it is told of a document
pub told_anew : (d : DocumentState) (playable : IsPlayable d) (ago events : List Timed)
    (time aged silent since right old : ℕ) (w : WorldState) → KeepsTo d events w → w.time ≡ time
    → w.last_change ≡ w.time → IsAgingTo d ago events aged silent w → TellsAnew d.network events time since right old
    → IsClearedTo d ago events since silent right old w
told_anew d playable ago events time aged silent since right old w keeps here last so (used, begun, right_is, old_is) =
    let p = pace_of d.network in
    let paths : sync_paths d.network events ≡ sync_paths_of w =
    paths_stand d.network events w playable.network keeps.stands keeps.claim.world.sound in
    let echo : nearer_echo_span d.network events ≡ nearer_echo p w =
    ap (λ (u : SyncPaths). pred (pred u.systems) * (largest_interval p + u.delay)) paths in
    let delay : (sync_paths d.network events).delay ≡ delay_in w = ap (λ (u : SyncPaths). u.delay) paths in
    subst (λ t. IsClearedTo d ago events t silent right old w) (here ∙ sym begun)
    (subst (λ t. IsClearedTo d ago events w.time silent t old w) (omega (arith, right_is, here, echo))
    (subst (λ t. IsClearedTo d ago events w.time silent (suc (w.time + nearer_echo p w)) t w)
    (omega (arith, old_is, here, echo, delay)) (aging_cleared d ago events aged silent w so used last)))
