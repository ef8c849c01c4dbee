-- The ports so far and those of the numbers that are left are those of all.
use Rattle.std.proofs.Common.{◌≡◌, ◌++◌, ◌-◌, ◌≤◌, filter, map}
use Rattle.std.specs.List.{range_with_len}
use Rattle.gptp_setup.specs.declared.limits.TheConstants.{MOST_PORTS}
use Rattle.gptp_faults.specs.Cables.{is_up_at, port_after, up_ports}
use Rattle.gptp_faults.proofs.cables.up_ports.Given as goal

abbrev pub invariant-loop-number : goal.invariant-loop-number
invariant-loop-number l = record {
  are : l.ports.items ++ filter (is_up_at l.cables)
      (map (port_after l.clock) (range_with_len l.number (MOST_PORTS - l.number)))
      ≡ up_ports l.cables l.clock;
  most : l.number ≤ MOST_PORTS;
}
