use Rattle.std.proofs.Common.{◌≡◌, length, pos}
use Rattle.std.specs.List.{AllByRecursion}
use Rattle.gptp_setup.specs.Intervals.{IsLogUpTo}
use Rattle.gptp_system_tests.proofs.bench.alike.Given as goal

abbrev pub invariant-loop-port : goal.invariant-loop-port
invariant-loop-port l = record {
  many : length l.intervals.items ≡ l._port;
  each : AllByRecursion (IsLogUpTo (pos 0)) l.intervals.items;
}
