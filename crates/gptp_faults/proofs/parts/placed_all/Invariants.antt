-- The systems so far are the first.
use Rattle.gptp_faults.specs.Parts.{ArePlacedBy}
use Rattle.gptp_faults.proofs.parts.placed_all.Given as goal

abbrev pub invariant-loop-place : goal.invariant-loop-place
invariant-loop-place l = ArePlacedBy l.before l.after l.place l.all.items
