use Rattle.std.proofs.Common.{◌≡◌, take}
use Rattle.gptp_world.specs.Directory.{directory_clocks}
use Rattle.gptp_world.proofs.directory.list_clocks.Given as goal

abbrev pub invariant-loop-place : goal.invariant-loop-place
invariant-loop-place l = l.clocks.items ≡ take l.place (directory_clocks l.network.systems)
