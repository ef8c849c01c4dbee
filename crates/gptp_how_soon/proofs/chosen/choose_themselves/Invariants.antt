-- The first systems, so far.
use Rattle.std.proofs.Common.{◌≡◌, map, take}
use Rattle.gptp_how_soon.specs.Chosen.{itself}
use Rattle.gptp_how_soon.proofs.chosen.choose_themselves.Given as goal

abbrev pub invariant-loop-system : goal.invariant-loop-system
invariant-loop-system l = l.chosen.items ≡ map itself (take l.system-index l.systems)
