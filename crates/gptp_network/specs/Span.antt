-- How long the network of a document takes at most to settle from a time on, by how many systems a path has (profile).
use Rattle.std.specs.Prelude.{◌≡◌, ℕ, Option, Some, None}
use Rattle.gptp_graph.specs.PathBound.{path_bound}
use Rattle.gptp_graph.specs.Snapshot.{Snapshot}
use Rattle.gptp_scenario.specs.Calm.{IsCalm}
use Rattle.gptp_scenario.specs.Network.{pace_of}
use Rattle.gptp_scenario.specs.SettlingTime.{settling_span_with}
use Rattle.gptp_scenario.specs.SyncWait.{sync_paths}
use Rattle.gptp_network.specs.Document.{DocumentState}
use Rattle.gptp_network.specs.Snapshot.{IsSnapshot, events_by}

-- the network is calm after the events up to a time
abbrev pub IsCalmAt : DocumentState → ℕ → Type 0
IsCalmAt d at = IsCalm d.network (events_by at d.events)

-- The span at a time: that of as many systems as a path has at most after the events up to then, and of what Sync then
-- has to cross.
pub record IsSpan (d : DocumentState) (at span : ℕ) : Type 0 where
  pub snapshot : Snapshot
  pub stands : IsSnapshot d at snapshot
  pub is : span
      ≡ settling_span_with (pace_of d.network) (sync_paths d.network (events_by at d.events)) (path_bound snapshot)

-- the bound at a time: that span where it is calm then
abbrev pub IsBound : DocumentState → ℕ → Option ℕ → Type 0
IsBound d at (Some span) = IsCalmAt d at × IsSpan d at span
IsBound d at None = IsCalmAt d at → ⊥
