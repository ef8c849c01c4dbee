-- Those so far, and those of the bests that are left, are all.
use Rattle.std.proofs.Common.{◌≡◌, ◌++◌, drop}
use Rattle.std.specs.List.{flat_map}
use Rattle.gptp_lint.specs.Moments.{chance_at}
use Rattle.gptp_lint.proofs.components.chances_in.Given as goal

abbrev pub invariant-loop-best : goal.invariant-loop-best
invariant-loop-best l =
    l.chance.items ++ flat_map (chance_at l.labels) (drop l.best-index l.bests) ≡ flat_map (chance_at l.labels) l.bests
