-- Those of the first links so far, then those of the links that are left.
use Rattle.std.proofs.Common.{◌≡◌, ◌++◌, drop}
use Rattle.gptp_how_soon.specs.Chosen.{ends_in_use}
use Rattle.gptp_how_soon.proofs.chosen.ends_in_use.Given as goal

abbrev pub invariant-loop-place : goal.invariant-loop-place
invariant-loop-place l =
    l.links.items ++ ends_in_use (drop l.place l.ends) (drop l.place l.used) ≡ ends_in_use l.ends l.used
