-- The systems before this one have no error, and the others are as they were.
use Rattle.std.proofs.Common.{◌≡◌, ◌++◌, drop, map, take}
use Rattle.gptp_timeline.specs.Watch.{without_error}
use Rattle.gptp_timeline.proofs.watch.clear_errors.Given as goal

abbrev pub invariant-loop-place : goal.invariant-loop-place
invariant-loop-place l = l.systems.items
    ≡ map without_error (take l.place l.initial.systems.items) ++ drop l.place l.initial.systems.items
