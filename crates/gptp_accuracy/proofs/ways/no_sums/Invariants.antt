use Rattle.std.proofs.Common.{◌≡◌, length}
use Rattle.gptp_accuracy.proofs.ways.no_sums.Given as goal

abbrev pub invariant-loop-place : goal.invariant-loop-place
invariant-loop-place l = length l.sums.items ≡ l._place
