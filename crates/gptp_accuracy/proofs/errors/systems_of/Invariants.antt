-- The systems so far are those of the first lines.
use Rattle.gptp_accuracy.specs.TimeErrors.{AreEntries}
use Rattle.gptp_accuracy.proofs.errors.systems_of.Given as goal

abbrev pub invariant-loop-place : goal.invariant-loop-place
invariant-loop-place l = AreEntries l.calm l.certificate.lines l.sums l.place l.systems.items
