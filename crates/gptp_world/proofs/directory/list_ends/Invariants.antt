use Rattle.std.proofs.Common.{take}
use Rattle.gptp_world.specs.Directory.{AreEndPlaces}
use Rattle.gptp_world.proofs.directory.list_ends.Given as goal

abbrev pub invariant-loop-join : goal.invariant-loop-join
invariant-loop-join l = AreEndPlaces l.clocks (take l.join-index l.joins) l.ends.items
