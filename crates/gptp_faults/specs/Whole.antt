-- The network of a document after all its events (profile).
use Rattle.std.specs.Prelude.{◌≡◌, ℕ, List}
use Rattle.std.specs.List.{AllByRecursion}
use Rattle.gptp_graph.specs.Snapshot.{Snapshot}
use Rattle.gptp_network.specs.Document.{DocumentState}
use Rattle.gptp_network.specs.Snapshot.{IsSnapshot}
use Rattle.gptp_scenario.specs.Calm.{last_change}
use Rattle.gptp_topology.specs.declared.course.Cable.{Cable}
use Rattle.gptp_faults.specs.Cables.{cables_after, HasBounds}
use Rattle.gptp_faults.specs.Parts.{AreFew, AreWhole}

-- its links, its live systems with the links in use, and the systems of each component
pub record WholeState : Type 0 where
  pub cables : List Cable
  pub snapshot : Snapshot
  pub parts : List (List ℕ)

abbrev pub whole_record : List Cable → Snapshot → List (List ℕ) → WholeState
whole_record cables snapshot parts = record { cables = cables; snapshot = snapshot; parts = parts }

-- what holds of each
pub record IsSound (w : WholeState) : Type 0 where
  pub bounds : AllByRecursion HasBounds w.cables
  pub few : AreFew w.parts

-- it is that of this document
pub record IsWhole (d : DocumentState) (w : WholeState) : Type 0 where
  pub cables : w.cables ≡ cables_after d
  pub stands : IsSnapshot d (last_change d.events) w.snapshot
  pub parts : AreWhole w.snapshot w.parts
