-- The first ports have been gone through.
use Rattle.std.proofs.Common.{◌+◌}
use Rattle.gptp_network.specs.PathBound.{NeighboursAreKnown}
use Rattle.gptp_network.proofs.snapshot.Snapshot.neighbours.Given as goal

abbrev pub invariant-loop-place : goal.invariant-loop-place
invariant-loop-place l = NeighboursAreKnown l.self l.clock (l.place + 1) l.known
