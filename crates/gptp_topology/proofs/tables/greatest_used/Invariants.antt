-- The greatest so far, and that of the links that are left, is that of all.
use Rattle.std.proofs.Common.{◌≡◌, drop, max}
use Rattle.gptp_topology.specs.Tables.{greatest_used}
use Rattle.gptp_topology.proofs.tables.greatest_used.Given as goal

abbrev pub invariant-loop-mark : goal.invariant-loop-mark
invariant-loop-mark l = max (greatest_used (drop l.mark-index l.marks)) l.greatest ≡ greatest_used l.marks
