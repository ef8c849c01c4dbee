-- The cases so far are the first links.
use Rattle.std.proofs.Common.{◌≡◌, map, take}
use Rattle.gptp_faults.specs.Cases.{link_case}
use Rattle.gptp_faults.proofs.cases.used_links.Given as goal

abbrev pub invariant-loop-place : goal.invariant-loop-place
invariant-loop-place l = l.cases.items ≡ map link_case (take l.place l.snapshot.links)
