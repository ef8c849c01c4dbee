-- Those so far, and those of the bests that are left, are all.
use Rattle.std.proofs.Common.{◌≡◌, ◌++◌, drop}
use Rattle.std.specs.List.{flat_map}
use Rattle.gptp_lint.specs.Components.{nobody_if}
use Rattle.gptp_lint.proofs.components.push_nobodies.Given as goal

abbrev pub invariant-loop-best : goal.invariant-loop-best
invariant-loop-best l =
    l.nobody.items ++ flat_map (nobody_if l.before l.moment.at) (drop l.best-index l.best-items)
    ≡ l.initial.nobody.items ++ flat_map (nobody_if l.before l.moment.at) l.best-items
