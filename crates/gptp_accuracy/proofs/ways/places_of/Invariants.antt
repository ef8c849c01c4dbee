-- The places so far are those of the first lines.
use Rattle.gptp_accuracy.specs.Passing.{ArePlaces}
use Rattle.gptp_accuracy.proofs.ways.places_of.Given as goal

abbrev pub invariant-loop-place : goal.invariant-loop-place
invariant-loop-place l = ArePlaces l.certificate.lines l.place l.places.items
