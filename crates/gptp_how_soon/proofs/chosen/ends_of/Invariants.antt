-- Those of the first links, so far.
use Rattle.std.proofs.Common.{◌≡◌, map, take}
use Rattle.gptp_how_soon.specs.Chosen.{ends_among}
use Rattle.gptp_how_soon.proofs.chosen.ends_of.Given as goal

abbrev pub invariant-loop-cable : goal.invariant-loop-cable
invariant-loop-cable l = l.ends.items ≡ map (ends_among l.systems) (take l.cable-index l.cables)
