-- The greatest so far, with those that are left, is the greatest of all.
use Rattle.std.proofs.Common.{◌≡◌, drop}
use Rattle.std.specs.List.{filter_map}
use Rattle.gptp_timeline.specs.Measures.{greatest_from}
use Rattle.gptp_timeline.specs.StretchText.{wait_of}
use Rattle.gptp_timeline.proofs.stretch.with_waits.Given as goal

abbrev pub invariant-loop-system : goal.invariant-loop-system
invariant-loop-system l = greatest_from l.best (filter_map (wait_of l.to) (drop l.system-index l.systems))
    ≡ greatest_from l.initial.best (filter_map (wait_of l.to) l.systems)
