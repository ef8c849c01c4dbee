-- There are as many sums as lines, and at the places so far they are right.
use Rattle.std.proofs.Common.{◌≡◌, ◌<◌, ℕ, Some, length, slice_get}
use Rattle.gptp_accuracy.specs.Passing.{IsDoneAt}
use Rattle.gptp_accuracy.proofs.ways.sums_of_all.Given as goal

abbrev pub invariant-loop-place : goal.invariant-loop-place
invariant-loop-place l = record {
  all : length l.sums.items ≡ length l.certificate.lines;
  done : (k steps place : ℕ) → k < l.place-index → slice_get l.place-items k ≡ Some (steps, place)
      → IsDoneAt l.network l.events l.snapshot l.certificate.lines l.sums.items place;
}
