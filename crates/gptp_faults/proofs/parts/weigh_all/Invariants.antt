-- The weights so far and those of the systems that are left are those of all.
use Rattle.std.proofs.Common.{◌≡◌, ◌++◌, drop, map}
use Rattle.gptp_faults.specs.Parts.{weigh_among, weighed}
use Rattle.gptp_faults.proofs.parts.weigh_all.Given as goal

abbrev pub invariant-loop-one : goal.invariant-loop-one
invariant-loop-one l = l.weights.items ++ map (weigh_among l.all) (drop l.one-index l.all) ≡ weighed l.all
