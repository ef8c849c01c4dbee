-- One of those that are left is a Master port where one of all is.
use Rattle.std.proofs.Common.{◌≡◌, drop}
use Rattle.std.specs.List.{list_any}
use Rattle.gptp_timeline.specs.Readings.{is_master}
use Rattle.gptp_timeline.proofs.readings.has_master.Given as goal

abbrev pub invariant-loop-port : goal.invariant-loop-port
invariant-loop-port l = list_any is_master (drop l.port-index l.ports) ≡ list_any is_master l.ports
