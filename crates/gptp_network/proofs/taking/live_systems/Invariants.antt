-- The systems so far are those that live among the first of the network.
use Rattle.std.proofs.Common.{take}
use Rattle.gptp_network.specs.SnapshotTables.{AreLive}
use Rattle.gptp_network.proofs.taking.live_systems.Given as goal

abbrev pub invariant-loop-place : goal.invariant-loop-place
invariant-loop-place l = AreLive (take l.place l.network.systems) l.events l.systems.items
