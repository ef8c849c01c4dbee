-- Those so far, and those of the moments that are left, are all.
use Rattle.std.proofs.Common.{◌≡◌, ◌++◌, drop}
use Rattle.gptp_lint.specs.Components.{apart_from}
use Rattle.gptp_lint.proofs.components.apart_of.Given as goal

abbrev pub invariant-loop-moment : goal.invariant-loop-moment
invariant-loop-moment l =
    l.apart.items ++ apart_from l.before (drop l.moment-index l.moments) ≡ apart_from 0 l.moments
