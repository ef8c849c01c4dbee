-- The first ports have the interval.
use Rattle.std.proofs.Common.{◌≡◌, replicate}
use Rattle.gptp_network.proofs.intervals.alike.Given as goal

abbrev pub invariant-loop-port : goal.invariant-loop-port
invariant-loop-port l = l.intervals.items ≡ replicate l._port l.interval
