use Rattle.std.proofs.Common.{◌≡◌, take}
use Rattle.gptp_system.specs.Start.{new_ports}
use Rattle.gptp_system.proofs.start.new_ports.Given as goal

abbrev pub invariant-loop-log_interval : goal.invariant-loop-log_interval
invariant-loop-log_interval l =
    l.ports.items ≡ new_ports l.clock l.params 1 (take l.log_interval-index l.intervals)
