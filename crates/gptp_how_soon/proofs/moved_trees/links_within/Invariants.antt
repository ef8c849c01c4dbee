-- Those of the first links so far, then those of the links that are left.
use Rattle.std.proofs.Common.{◌≡◌, ◌++◌, drop, filter}
use Rattle.gptp_how_soon.specs.TurnedTree.{is_turned_at, leads_within}
use Rattle.gptp_how_soon.proofs.moved_trees.links_within.Given as goal

abbrev pub invariant-loop-ends : goal.invariant-loop-ends
invariant-loop-ends l =
    l.within.items ++ filter (leads_within (is_turned_at l.systems l.before l.now)) (drop l.ends-index l.links)
    ≡ filter (leads_within (is_turned_at l.systems l.before l.now)) l.links
