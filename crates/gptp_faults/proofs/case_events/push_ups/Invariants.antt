-- The changes so far and those at the ports that are left are those at all.
use Rattle.std.proofs.Common.{◌≡◌, ◌++◌, drop, map}
use Rattle.gptp_faults.specs.declared.case_events.CaseChange.TheVariants.{LinkUp}
use Rattle.gptp_faults.proofs.case_events.push_ups.Given as goal

abbrev pub invariant-loop-port : goal.invariant-loop-port
invariant-loop-port l = l.changes.items ++ map LinkUp (drop l.port-index l.ports)
    ≡ l.initial.changes.items ++ map LinkUp l.ports
