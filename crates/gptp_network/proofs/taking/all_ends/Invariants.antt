-- The ends so far are those of the first links.
use Rattle.std.proofs.Common.{◌≡◌, take}
use Rattle.std.specs.List.{flat_map}
use Rattle.gptp_network.specs.SnapshotTables.{both_ends}
use Rattle.gptp_network.proofs.taking.all_ends.Given as goal

abbrev pub invariant-loop-link : goal.invariant-loop-link
invariant-loop-link l = l.ends.items ≡ flat_map both_ends (take l.link-index l.links)
