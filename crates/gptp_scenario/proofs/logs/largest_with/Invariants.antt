-- Those left, after what was found so far, are as good as all after what was found before.
use Rattle.std.proofs.Common.{◌≡◌, drop}
use Rattle.std.specs.Int.{int_max}
use Rattle.std.specs.List.{cons_option, reduce}
use Rattle.gptp_scenario.proofs.logs.largest_with.Given as goal

abbrev pub invariant-loop-interval : goal.invariant-loop-interval
invariant-loop-interval l =
    reduce int_max (cons_option l.largest (drop l.interval-index l.intervals))
    ≡ reduce int_max (cons_option l.fn.found l.intervals)
