-- The claim on carried time in every world of a network: wherever it is calm for long enough, time is carried right.
use Rattle.std.specs.Prelude.{◌+◌, ◌≤◌, ◌^◌, ℕ}
use Rattle.gptp_graph.specs.PathBound.{BoundsPaths}
use Rattle.gptp_setup.specs.SettlingParams.{SettlingParams}
use Rattle.gptp_scenario.specs.SettlingTime.{settling_span_with, window_span}
use Rattle.gptp_model.specs.World.{WorldState}
use Rattle.gptp_invariants.specs.ChoiceCalm.{IsQuietWorld, sync_paths_of}
use Rattle.gptp_invariants.specs.WorldSettlingInvariant.{KeepsAll}
use Rattle.gptp_invariants.specs.WorldStanding.{snapshot_of}
use Rattle.gptp_invariants.specs.SyncOwnClock.{TellAsSetUp}
use Rattle.gptp_invariants.specs.SyncTimed.{CarriesTime}

-- the world is quiet, no path of it has more than m systems, and by this time it has settled since its last change, and
-- rates are measured over whole windows
pub record IsCalmBy (p : SettlingParams) (m settled : ℕ) (w : WorldState) : Type 0 where
  pub quiet : IsQuietWorld p.params w
  pub bounded : BoundsPaths (snapshot_of w) m
  pub passed : w.last_change + settling_span_with p (sync_paths_of w) m + window_span p.params ≤ settled

-- from each such time on time is carried right, as long as clocks can show it; no delay is above the threshold
abbrev pub CarriesWhereCalm : SettlingParams → WorldState → Type 0
CarriesWhereCalm p w = (m settled : ℕ) → IsCalmBy p m settled w → settled ≤ w.time → w.time ≤ 10 ^ 18
    → CarriesTime p.params settled p.params.threshold w

-- what every world of a network keeps, this claim with it, and that systems tell as they are set up
pub record WorldInvariant (w : WorldState) : Type 0 where
  pub pace : SettlingParams
  pub is : KeepsAll pace w
  pub carries : CarriesWhereCalm pace w
  pub own : TellAsSetUp w
