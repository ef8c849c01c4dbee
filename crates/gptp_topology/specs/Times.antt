-- The times of a document: 0, and those of its events, each once; with what is known of each (profile).
use Rattle.std.specs.Prelude.{◌≡◌, ℕ, ◌==◌, if◌then◌else◌, List, [], ◌∷◌, map, Option}
use Rattle.std.specs.List.{AllByRecursion}
use Rattle.gptp_scenario.specs.SyncWait.{sync_paths}
use Rattle.gptp_scenario.specs.declared.change.Timed.{Timed}
use Rattle.gptp_network.specs.Document.{DocumentState}
use Rattle.gptp_network.specs.Snapshot.{events_by}
use Rattle.gptp_network.specs.Span.{IsBound}
use Rattle.gptp_topology.specs.Tables.{late_of}
use Rattle.gptp_topology.specs.declared.times.CalmTime.{CalmTime}

-- a time, and those of the events after it that have another than the one before them
abbrev pub times_from : ℕ → List Timed → List ℕ
times_from at [] = at ∷ []
times_from at (t ∷ ts) = if t.at == at then times_from at ts else at ∷ times_from t.at ts

abbrev pub times_of : List Timed → List ℕ
times_of events = times_from 0 events

-- for how long at most a settled system waits for Sync after the events up to a time, where that isn't below the
-- timeout
abbrev pub late_at : DocumentState → ℕ → Option ℕ
late_at d at = late_of d.network.params (sync_paths d.network (events_by at d.events))

-- a time of a document, with its bound and that wait
pub record IsCalmTime (d : DocumentState) (t : CalmTime) : Type 0 where
  pub bound : IsBound d t.at t.bound
  pub needs : t.needs ≡ late_at d t.at

-- each time of a document
pub record AreCalmTimes (d : DocumentState) (times : List CalmTime) : Type 0 where
  pub times_are : map (λ (t : CalmTime). t.at) times ≡ times_of d.events
  pub each : AllByRecursion (IsCalmTime d) times
