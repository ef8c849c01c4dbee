use Rattle.std.proofs.Common.{◌≡◌, take}
use Rattle.gptp_system.proofs.StartLemmas.{renewed}
use Rattle.gptp_system.proofs.start.renew_ports.Given as goal

abbrev pub invariant-loop-log_interval : goal.invariant-loop-log_interval
invariant-loop-log_interval l = record {
  number : l.number ≡ l.log_interval-index;
  ports : l.ports ≡ renewed l.clock l.params 1 (take l.log_interval-index l.intervals) l.initial.ports;
}
