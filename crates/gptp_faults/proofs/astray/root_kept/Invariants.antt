-- What is found among those that are left is found among all.
use Rattle.std.proofs.Common.{◌≡◌, drop}
use Rattle.gptp_faults.specs.Astray.{root_kept}
use Rattle.gptp_faults.proofs.astray.root_kept.Given as goal

abbrev pub invariant-loop-keeper : goal.invariant-loop-keeper
invariant-loop-keeper l = root_kept (drop l.keeper-index l.keepers) l.clock ≡ root_kept l.keepers l.clock
