-- The first of those that are left is the first of all.
use Rattle.std.proofs.Common.{◌≡◌, drop}
use Rattle.gptp_accuracy.specs.AccuracyText.{first_above}
use Rattle.gptp_accuracy.proofs.text.first_above.Given as goal

abbrev pub invariant-loop-system : goal.invariant-loop-system
invariant-loop-system l =
    first_above l.options l.age l.most (drop l.system-index l.systems) ≡ first_above l.options l.age l.most l.systems
