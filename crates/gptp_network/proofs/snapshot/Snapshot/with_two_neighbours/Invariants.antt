-- Those among the first systems have been counted, and they are no more than were looked at.
use Rattle.std.proofs.Common.{◌≡◌, ◌≤◌, take}
use Rattle.std.specs.List.{count_by}
use Rattle.gptp_graph.specs.PathBound.{has_two_neighbours}
use Rattle.gptp_graph.specs.Snapshot.{clocks}
use Rattle.gptp_network.proofs.snapshot.Snapshot.with_two_neighbours.Given as goal

abbrev pub invariant-loop-place : goal.invariant-loop-place
invariant-loop-place l =
    (l.count ≡ count_by (has_two_neighbours l.self) (take l.place (clocks l.self))) × (l.count ≤ l.place)
