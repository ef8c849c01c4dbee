-- No link is slower than one of the first intervals.
use Rattle.std.proofs.Common.{◌≡◌, false, take}
use Rattle.std.specs.List.{list_any}
use Rattle.gptp_scenario.specs.Network.{is_any_slower}
use Rattle.gptp_scenario.proofs.network.are_any_slower.Given as goal

abbrev pub invariant-loop-interval : goal.invariant-loop-interval
invariant-loop-interval l = list_any (is_any_slower l.links) (take l.interval-index l.intervals) ≡ false
