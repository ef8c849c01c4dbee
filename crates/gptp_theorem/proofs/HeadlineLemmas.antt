-- The theorem from its parts.
use Rattle.std.proofs.Common.{◌≤◌, ◌+◌, ℕ, suc, List, Option, length, subst, arith}
use Rattle.gptp_lists.proofs.SystemSpecLemmas.{In-slice_get}
use Rattle.gptp_graph.specs.Labelling.{SystemLine}
use Rattle.gptp_graph.specs.PathBound.{BoundsPaths, path_bound}
use Rattle.gptp_graph.specs.Snapshot.{IsWellFormed}
use Rattle.gptp_graph.proofs.ChoiceLemmas.{same_choice}
use Rattle.gptp_graph.proofs.PathBoundLemmas.{paths_within}
use Rattle.gptp_links.specs.declared.bounds.Bounds.{Bounds}
use Rattle.gptp_scaled.specs.Counts.{AreWithin}
use Rattle.gptp_setup.specs.SettlingParams.{SettlingParams}
use Rattle.gptp_scenario.specs.Network.{pace_of}
use Rattle.gptp_scenario.specs.SettlingAtOnce.{settling_span_at_once}
use Rattle.gptp_model.specs.Acts.{at}
use Rattle.gptp_model.specs.declared.done.Done.{Done}
use Rattle.gptp_model.specs.declared.done.Done.TheVariants.{Quiet, Heard}
use Rattle.gptp_model.specs.Prompt.{HavePace}
use Rattle.gptp_model.specs.Advancing.{Told}
use Rattle.gptp_model.specs.World.{WorldState}
use Rattle.gptp_network.specs.Document.{DocumentState}
use Rattle.gptp_network.specs.Snapshot.{events_by}
use Rattle.gptp_report.specs.Run.{PlaysRun}
use Rattle.gptp_invariants.specs.WorldBounded.{IsBoundedWorld}
use Rattle.gptp_invariants.specs.ChoiceCalm.{IsQuietWorld}
use Rattle.gptp_invariants.specs.WorldCalmFor.{IsCalmFor, at_once_span, span_over}
use Rattle.gptp_invariants.specs.WorldSettlingInvariant.{SettlingInvariant}
use Rattle.gptp_invariants.specs.SyncExact.{IsHeardExact, exact_span}
use Rattle.gptp_invariants.specs.WorldKnown.{AreSet}
use Rattle.gptp_invariants.specs.ChoiceSettled.{Settled}
use Rattle.gptp_invariants.specs.WorldStanding.{snapshot_of}
use Rattle.gptp_invariants.proofs.WorldBoundedLemmas.{bounded_at_once, bounded_by_paths}
use Rattle.gptp_invariants.proofs.ChoiceCalmKeptLemmas.{later_quiet}
use Rattle.gptp_invariants.proofs.WorldSettlingInvariantLemmas.{settled_at_once, settled_by_paths}
use Rattle.gptp_invariants.proofs.SyncExactLemmas.{receipts_are_exact}
use Rattle.gptp_invariants.proofs.ChoiceSettlesAsMachineLemmas.{systems_bound}
use Rattle.gptp_invariants.proofs.WorldStandsLemmas.{stands_well}
use Rattle.gptp_invariants.proofs.WorldTreeLemmas.{settled_is_tree}
use Rattle.gptp_certificate.specs.Stated.{States}
use Rattle.gptp_certificate.proofs.SettledLemmas.{settled_choice}
use Rattle.gptp_theorem.specs.Headline.{HasComeDown, HasPassed, Headline, HeadlineAtOnce, HeadlineByNeighbours, HeadlineBySystems, WorldIsCalm, IsCertified, IsSettled, UsesFollowUp}
use Rattle.gptp_theorem.specs.HeadlineLaws.{HasSnapshotOf, IsAtRestAtOnce, WorldsAreExact}
use Rattle.gptp_theorem.specs.PlayedLaws.{DocumentIsAtRest, IsPlayable}
use Rattle.gptp_theorem.proofs.CalmLemmas.{document_calm, pace_stands, quiet_stands}
use Rattle.gptp_theorem.proofs.SettlingInvariantLemmas.{events_made, played_claimed}
use Rattle.gptp_theorem.proofs.PlayedLemmas.{played_stands}
use Rattle.gptp_theorem.proofs.SnapshotLemmas.{snapshots_stand}
use Rattle.gptp_theorem.proofs.SyncPathLemmas.{paths_stand}

-- ---- of a world

-- what is asked on the page is what the laws of gptp_invariants ask
pub quiet_as : (p : SettlingParams) (w : WorldState) → WorldIsCalm p w → IsQuietWorld p.params w
quiet_as p w calm = record {
  links = λ link channel here used.
      (let (lossless, good) = calm.links channel (In-slice_get channel w.net.channels link here) used in
      record { lossless = lossless; good = good });
  lapses = calm.lapses;
}

calm_for : (p : SettlingParams) (m : ℕ) (w : WorldState) → WorldIsCalm p w → HasPassed p m w → IsCalmFor (span_over m) w
calm_for p m w calm passed = record { pace = p; set = calm.of; quiet = quiet_as p w calm; late = passed }

abbrev exact_for : (p : SettlingParams) (m steps time : ℕ) (w : WorldState) → WorldIsCalm p w
    → HasComeDown p m steps time w
    → IsCalmFor (exact_span m steps) (at time w)
exact_for p m steps time w calm come = record {
  pace = p;
  set = calm.of;
  quiet = later_quiet p.params w time (quiet_as p w calm);
  late = omega (arith, come);
}

-- a settled world, of which what the systems state is bounded
module _ (w : WorldState) (claimed : SettlingInvariant w) (settled : Settled w) (bounded : IsBoundedWorld w) where
  wf : IsWellFormed (snapshot_of w)
  wf =
      let is = claimed.is.world in
      stands_well w is.sound is.between is.encodable

  certified : (lines : List SystemLine) → States w lines → IsCertified w lines
  certified lines states =
      let right = settled_choice w wf settled bounded lines claimed.is.world.sound.wired.clocks states in
      record {
        right = right;
        only = λ other rising choice. same_choice (snapshot_of w) other lines wf choice right rising states.rising;
      }

  pub is_settled : IsSettled w
  is_settled = record { tree = settled_is_tree w claimed settled; certified = certified }

-- a calm one is such
pub settled_for : (m : ℕ) (w : WorldState) → SettlingInvariant w → BoundsPaths (snapshot_of w) m
    → IsCalmFor (span_over m) w
    → IsSettled w
settled_for m w claimed paths calm =
    is_settled w claimed (settled_by_paths m w claimed paths calm) (bounded_by_paths m w claimed paths calm)

pub worlds_settle : (w : WorldState) → SettlingInvariant w → Headline w
worlds_settle w claimed p m calm paths passed = settled_for m w claimed paths (calm_for p m w calm passed)

pub at_once : (w : WorldState) → SettlingInvariant w → HeadlineAtOnce w
at_once w claimed p m calm off paths passed =
    let sooner : IsCalmFor (at_once_span m) w =
    record { pace = p; set = calm.of; quiet = quiet_as p w calm; late = passed } in
    is_settled w claimed (settled_at_once m w claimed paths sooner off) (bounded_at_once m w claimed paths sooner off)

pub by_systems : (w : WorldState) → SettlingInvariant w → HeadlineBySystems w
by_systems w claimed p calm passed =
    worlds_settle w claimed p (length (snapshot_of w).systems) calm
    (systems_bound claimed.pace w claimed.is.world) passed

pub by_neighbours : (w : WorldState) → SettlingInvariant w → HeadlineByNeighbours w
by_neighbours w claimed p calm passed =
    let is = claimed.is.world in
    worlds_settle w claimed p (path_bound (snapshot_of w)) calm
    (paths_within (snapshot_of w) (stands_well w is.sound is.between is.encodable)) passed

pub worlds_are_exact : {F : Type 0} (answers : Bounds → ℕ → F → Option ℕ → F → Type 0) → WorldsAreExact answers
worlds_are_exact answers timed fate fate_after w w' done all k moment p m steps number error offset ahead calm bounded
    come leaves near way is_ahead =
    by done leaves.uses
    (receipts_are_exact answers timed fate fate_after w w' all (omega (arith, moment)) done k)
  where
    by : (told : Done) → UsesFollowUp number told → IsHeardExact w timed.at w' told → AreWithin error offset ahead
    by Quiet uses exact = absurd uses
    by (Heard clock port answer frame) (same, used, (message, reads)) exact =
        subst (λ name. IsHeardExact w timed.at w' (Heard name port answer frame)) same exact message leaves.system
        offset reads used leaves.shows leaves.is m steps error ahead (exact_for p m (suc steps) timed.at w calm come)
        bounded near way is_ahead

pub of_a_network : (w : WorldState) → SettlingInvariant w → (p : SettlingParams) × HavePace p w × AreSet p w
of_a_network w claimed =
    let set = claimed.is.world.known.set in (claimed.pace, λ place station here. (set place station here).starts, set)

-- ---- of a document

pub documents_lead : {F : Type 0} (answers : Bounds → ℕ → F → Option ℕ → F → Type 0) (d : DocumentState) (until : ℕ)
    (fate : F) (told : List Told) (w : WorldState) → IsPlayable d → PlaysRun answers d until fate told w
    → DocumentIsAtRest d until → IsSettled w × HasSnapshotOf d until w
documents_lead answers d until fate told w is plays rest =
    let reached = played_stands answers d until fate told w is.network (events_made d until is.network is.events) plays
    in
    let claimed = played_claimed answers d until fate told w is plays in
    let calm = document_calm d until w is.network reached claimed rest in (
      settled_for (length (snapshot_of w).systems) w claimed (systems_bound claimed.pace w claimed.is.world)
          (record { pace = calm.pace; set = calm.set; quiet = calm.quiet; late = calm.late }),
      λ g stands.
          let (systems, links) =
          snapshots_stand d.network (events_by until d.events) w g reached.stands reached.sound stands in
          record { systems = systems; links = links },
    )

pub documents_at_once : {F : Type 0} (answers : Bounds → ℕ → F → Option ℕ → F → Type 0) (d : DocumentState)
    (until : ℕ) (fate : F) (told : List Told) (w : WorldState) → IsPlayable d → PlaysRun answers d until fate told w
    → IsAtRestAtOnce d until → IsSettled w × HasSnapshotOf d until w
documents_at_once answers d until fate told w is plays rest =
    let reached = played_stands answers d until fate told w is.network (events_made d until is.network is.events) plays
    in
    let claimed = played_claimed answers d until fate told w is plays in
    let n = d.network in
    let events = events_by until d.events in
    let so = reached.stands in
    let m = path_bound (snapshot_of w) in
    let world = claimed.is.world in
    let bounded = paths_within (snapshot_of w) (stands_well w world.sound world.between world.encodable) in
    let calm : IsCalmFor (at_once_span m) w = record {
      pace = pace_of n;
      set = pace_stands n events w so;
      quiet = quiet_stands n events w is.network so reached.sound rest.calm;
      late = subst (λ paths. w.last_change + settling_span_at_once (pace_of n) paths ≤ w.time)
          (paths_stand n events w is.network so reached.sound) (rw (so.last, reached.now) rest.settled);
    } in (
      is_settled w claimed (settled_at_once m w claimed bounded calm rest.nothing)
          (bounded_at_once m w claimed bounded calm rest.nothing),
      λ g stands.
          let (systems, links) = snapshots_stand n events w g so reached.sound stands in
          record { systems = systems; links = links },
    )
