-- Those so far, and those of the moments that are left, are all.
use Rattle.std.proofs.Common.{◌≡◌, ◌++◌, [], drop}
use Rattle.gptp_lint.specs.Components.{nobody_from}
use Rattle.gptp_lint.proofs.components.nobody_of.Given as goal

abbrev pub invariant-loop-moment : goal.invariant-loop-moment
invariant-loop-moment l =
    l.nobody.items ++ nobody_from l.before (drop l.moment-index l.moments) ≡ nobody_from [] l.moments
