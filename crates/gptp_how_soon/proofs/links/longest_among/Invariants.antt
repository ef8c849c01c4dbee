-- The greatest so far, and that of the links that are left, is that of all.
use Rattle.std.proofs.Common.{◌≡◌, drop, max}
use Rattle.gptp_how_soon.specs.Links.{longest_among}
use Rattle.gptp_how_soon.proofs.links.longest_among.Given as goal

abbrev pub invariant-loop-cable : goal.invariant-loop-cable
invariant-loop-cable l = max (longest_among (drop l.cable-index l.cables)) l.longest ≡ longest_among l.cables
