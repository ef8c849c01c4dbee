-- None of the first intervals is shorter.
use Rattle.std.proofs.Common.{◌≡◌, drop}
use Rattle.gptp_network.specs.ReadSystems.{first_shorter}
use Rattle.gptp_network.proofs.systems.first_shorter.Given as goal

abbrev pub invariant-loop-interval : goal.invariant-loop-interval
invariant-loop-interval l =
    first_shorter l.least (drop l.interval-index l.intervals) l.other ≡ first_shorter l.least l.intervals l.other
