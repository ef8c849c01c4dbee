use Rattle.std.proofs.Common.{◌≡◌}
use Rattle.gptp_system.specs.Start.{all_disabled}
use Rattle.gptp_system.proofs.start.all_disabled.Given as goal

abbrev pub invariant-loop : goal.invariant-loop
invariant-loop l = l.held.items ≡ all_disabled l.counter
