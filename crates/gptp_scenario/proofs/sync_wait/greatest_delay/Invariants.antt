-- The greatest so far, and that of the links that are left, is that of all.
use Rattle.std.proofs.Common.{◌≡◌, drop, max}
use Rattle.gptp_scenario.specs.InUse.{greatest_delay}
use Rattle.gptp_scenario.proofs.sync_wait.greatest_delay.Given as goal

abbrev pub invariant-loop-wire : goal.invariant-loop-wire
invariant-loop-wire l =
    max (greatest_delay l.systems l.events (drop l.wire-index l.links)) l.greatest
    ≡ greatest_delay l.systems l.events l.links
