-- Those of the first links so far, then those of the links that are left.
use Rattle.std.proofs.Common.{◌≡◌, ◌++◌, drop}
use Rattle.gptp_how_soon.specs.Links.{new_among}
use Rattle.gptp_how_soon.proofs.links.new_links.Given as goal

abbrev pub invariant-loop-place : goal.invariant-loop-place
invariant-loop-place l =
    l.new.items ++ new_among l.first (drop l.place l.standings) (drop l.place l.used_before)
    ≡ new_among l.first l.standings l.used_before
