-- With the cases that are left, the greatest so far is that of all.
use Rattle.std.proofs.Common.{◌≡◌, drop}
use Rattle.gptp_faults.specs.FaultsText.{worst_behind, worst_of_all}
use Rattle.gptp_faults.proofs.text.worst_of_all.Given as goal

abbrev pub invariant-loop-outcome : goal.invariant-loop-outcome
invariant-loop-outcome l = worst_behind l.worst (drop l.outcome-index l.outcomes) ≡ worst_of_all l.outcomes
