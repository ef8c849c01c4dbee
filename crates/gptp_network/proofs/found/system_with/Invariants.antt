-- None of the first systems has the clock.
use Rattle.std.proofs.Common.{◌≡◌, drop}
use Rattle.gptp_network.specs.Found.{system_from}
use Rattle.gptp_network.proofs.found.system_with.Given as goal

abbrev pub invariant-loop-place : goal.invariant-loop-place
invariant-loop-place l =
    system_from l.place (drop l.place l.network.systems) l.clock ≡ system_from 0 l.network.systems l.clock
