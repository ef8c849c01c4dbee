-- Those left, after what was found so far, are as good as all after what was found before.
use Rattle.std.proofs.Common.{◌≡◌, drop}
use Rattle.std.specs.Int.{int_min}
use Rattle.std.specs.List.{cons_option, reduce}
use Rattle.gptp_scenario.proofs.logs.smallest_with.Given as goal

abbrev pub invariant-loop-interval : goal.invariant-loop-interval
invariant-loop-interval l =
    reduce int_min (cons_option l.smallest (drop l.interval-index l.intervals))
    ≡ reduce int_min (cons_option l.fn.found l.intervals)
