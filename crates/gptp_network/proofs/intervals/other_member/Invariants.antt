-- None of the first members is one.
use Rattle.std.proofs.Common.{◌≡◌, drop}
use Rattle.toml.specs.View.{items_view}
use Rattle.gptp_network.specs.ReadIntervals.{other_member}
use Rattle.gptp_network.proofs.intervals.other_member.Given as goal

abbrev pub invariant-loop-value : goal.invariant-loop-value
invariant-loop-value l =
    other_member (items_view (drop l.value-index l.values)) ≡ other_member (items_view l.values)
