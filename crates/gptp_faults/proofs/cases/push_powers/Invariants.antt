-- The cases so far and those of the clocks that are left are those of all.
use Rattle.std.proofs.Common.{◌≡◌, ◌++◌, drop, map}
use Rattle.gptp_faults.specs.declared.cases.Case.TheVariants as cases
use Rattle.gptp_faults.proofs.cases.push_powers.Given as goal

abbrev pub invariant-loop-clock : goal.invariant-loop-clock
invariant-loop-clock l = l.cases.items ++ map cases.Power (drop l.clock-index l.clocks)
    ≡ l.initial.cases.items ++ map cases.Power l.clocks
