-- The network of a document that can be played is well formed at each time.
use Rattle.std.proofs.Common.{nat_le, ℕ}
use Rattle.gptp_graph.specs.Snapshot.{IsWellFormed, Snapshot}
use Rattle.gptp_network.specs.Document.{DocumentState}
use Rattle.gptp_network.specs.Snapshot.{events_by, IsSnapshot}
use Rattle.gptp_network.proofs.SnapshotLemmas.{from_filter}
use Rattle.gptp_scenario.specs.declared.change.Timed.{Timed}
use Rattle.gptp_settling_time.proofs.WellFormedLemmas.{after_well}
use Rattle.gptp_theorem.specs.PlayedLaws.{IsPlayable}

pub playable_well : (d : DocumentState) → IsPlayable d → (time : ℕ) (g : Snapshot) → IsSnapshot d time g
    → IsWellFormed g
playable_well d playable time g stands =
    after_well d playable (events_by time d.events)
    (λ t member. (from_filter (λ (u : Timed). nat_le u.at time) t d.events member).0) g stands
