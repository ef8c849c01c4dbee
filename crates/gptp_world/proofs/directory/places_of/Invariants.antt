use Rattle.std.proofs.Common.{take}
use Rattle.gptp_world.specs.Directory.{ArePlacesOfClocks}
use Rattle.gptp_world.proofs.directory.places_of.Given as goal

abbrev pub invariant-loop-number : goal.invariant-loop-number
invariant-loop-number l = ArePlacesOfClocks l.clocks (take l.number-index l.numbers) l.places.items
