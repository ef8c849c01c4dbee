-- Those of the first links so far, then those of the links that are left.
use Rattle.std.proofs.Common.{◌≡◌, ◌++◌, drop}
use Rattle.gptp_how_soon.specs.Links.{lost_among}
use Rattle.gptp_how_soon.proofs.links.lost_among.Given as goal

abbrev pub invariant-loop-place : goal.invariant-loop-place
invariant-loop-place l =
    l.lost.items ++ lost_among (drop l.place l.used_before) (drop l.place l.used)
    ≡ lost_among l.used_before l.used
