-- None of the first systems has such a port.
use Rattle.std.proofs.Common.{◌≡◌, drop}
use Rattle.gptp_how_soon.specs.Silent.{log_from}
use Rattle.gptp_how_soon.proofs.silent.log_from.Given as goal

abbrev pub invariant-loop-place : goal.invariant-loop-place
invariant-loop-place l = log_from l.port (drop l.place l.network.systems) ≡ log_from l.port l.network.systems
