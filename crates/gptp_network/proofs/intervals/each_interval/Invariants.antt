-- The first members have been read, and each is an interval.
use Rattle.std.proofs.Common.{◌≡◌, true, drop, length}
use Rattle.std.specs.List.{list_all}
use Rattle.toml.specs.View.{items_view}
use Rattle.gptp_scenario.specs.Params.{is_log}
use Rattle.gptp_network.specs.Intervals.{whole_numbers}
use Rattle.gptp_network.proofs.IntervalLemmas.{behind}
use Rattle.gptp_network.proofs.intervals.each_interval.Given as goal

abbrev pub invariant-loop-value : goal.invariant-loop-value
invariant-loop-value l = record {
  read : whole_numbers (items_view l.values)
      ≡ behind l.intervals.items (whole_numbers (items_view (drop l.value-index l.values)));
  logs : list_all is_log l.intervals.items ≡ true;
  many : length l.intervals.items ≡ l.value-index;
}
