-- The clocks so far are those of the first systems that live.
use Rattle.std.proofs.Common.{◌≡◌, filter_map, map, take}
use Rattle.gptp_scenario.specs.Change.{live_after}
use Rattle.gptp_faults.specs.Cases.{live_clock}
use Rattle.gptp_faults.proofs.cases.live_systems.Given as goal

abbrev pub invariant-loop-place : goal.invariant-loop-place
invariant-loop-place l = l.clocks.items
    ≡ map live_clock (filter_map (live_after l.document.events) (take l.place l.document.network.systems))
