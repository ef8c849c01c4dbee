use Rattle.std.proofs.Common.{◌≡◌, take}
use Rattle.gptp_world.specs.Directory.{joins_of}
use Rattle.gptp_world.proofs.directory.list_joins.Given as goal

abbrev pub invariant-loop-place : goal.invariant-loop-place
invariant-loop-place l = l.joins.items ≡ take l.place (joins_of l.network.links)
