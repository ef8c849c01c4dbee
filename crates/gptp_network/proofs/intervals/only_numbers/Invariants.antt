-- The first members are whole numbers.
use Rattle.std.proofs.Common.{◌≡◌, ℤ, List, drop}
use Rattle.toml.specs.View.{items_view}
use Rattle.gptp_network.specs.Intervals.{whole_numbers}
use Rattle.gptp_network.proofs.IntervalLemmas.{behind}
use Rattle.gptp_network.proofs.intervals.only_numbers.Given as goal

abbrev pub invariant-loop-value : goal.invariant-loop-value
invariant-loop-value l =
    (zs : List ℤ)
    × (whole_numbers (items_view l.values)
    ≡ behind zs (whole_numbers (items_view (drop l.value-index l.values))))
