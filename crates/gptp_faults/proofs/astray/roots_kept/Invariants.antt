-- The roots so far and those of the clocks that are left are those of all, and they are no more than the clocks so far.
use Rattle.std.proofs.Common.{◌≡◌, ◌≤◌, ◌++◌, drop, length}
use Rattle.gptp_faults.specs.Astray.{roots_kept}
use Rattle.gptp_faults.proofs.astray.roots_kept.Given as goal

abbrev pub invariant-loop-clock : goal.invariant-loop-clock
invariant-loop-clock l = record {
  are : l.roots.items ++ roots_kept l.keepers (drop l.clock-index l.clocks) ≡ roots_kept l.keepers l.clocks;
  few : length l.roots.items ≤ l.clock-index;
}
