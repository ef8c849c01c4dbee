-- Nothing is kept of the systems before this one, and the others are as they were.
use Rattle.std.proofs.Common.{◌≡◌, ◌++◌, drop, map, take}
use Rattle.gptp_timeline.specs.ExactReads.{without_reads}
use Rattle.gptp_timeline.proofs.exact_reads.clear_reads.Given as goal

abbrev pub invariant-loop-place : goal.invariant-loop-place
invariant-loop-place l = l.systems.items
    ≡ map without_reads (take l.place l.initial.systems.items) ++ drop l.place l.initial.systems.items
