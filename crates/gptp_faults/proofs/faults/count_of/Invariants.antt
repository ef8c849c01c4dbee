-- The count is that of the numbers so far which belong to the part.
use Rattle.std.proofs.Common.{◌≡◌, ◌≤◌, length}
use Rattle.gptp_faults.specs.Outcomes.{case_numbers}
use Rattle.gptp_faults.proofs.faults.count_of.Given as goal

abbrev pub invariant-loop-number : goal.invariant-loop-number
invariant-loop-number l =
    (l.found ≡ length (case_numbers l.options.parts l.options.part l.number)) × (l.found ≤ l.number)
