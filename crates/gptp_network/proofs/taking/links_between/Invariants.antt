-- The links so far are those that are used of the first of the network.
use Rattle.std.proofs.Common.{◌≡◌, take}
use Rattle.gptp_network.specs.Snapshot.{used_links}
use Rattle.gptp_network.specs.SnapshotTables.{seen_links, seen_systems}
use Rattle.gptp_network.proofs.taking.links_between.Given as goal

abbrev pub invariant-loop-place : goal.invariant-loop-place
invariant-loop-place l =
    seen_links l.links.items ≡ used_links (take l.place l.network.links) l.events (seen_systems l.systems)
