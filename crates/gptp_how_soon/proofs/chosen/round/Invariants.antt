-- The links that are left are passed as all were at first.
use Rattle.std.proofs.Common.{◌≡◌, drop}
use Rattle.gptp_how_soon.specs.Chosen.{passing_all}
use Rattle.gptp_how_soon.proofs.chosen.round.Given as goal

abbrev pub invariant-loop-ends : goal.invariant-loop-ends
invariant-loop-ends l =
    passing_all l.before l.after.items (drop l.ends-index l.links) ≡ passing_all l.before l.before l.links
