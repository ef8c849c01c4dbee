-- What was found so far, and what is defined of the links that are left, is all.
use Rattle.std.proofs.Common.{◌≡◌, ◌++◌, drop, map}
use Rattle.gptp_topology.specs.Course.{cable_wire}
use Rattle.gptp_lint.specs.Trouble.{longs_of, lossies_of}
use Rattle.gptp_lint.proofs.findings.find.Given as goal

abbrev pub invariant-loop-cable : goal.invariant-loop-cable
invariant-loop-cable l = record {
  long : l.long.items ++ longs_of l.document (map cable_wire (drop l.cable-index l.cable-items))
      ≡ longs_of l.document (map cable_wire l.cable-items);
  lossy : l.lossy.items ++ lossies_of l.document (map cable_wire (drop l.cable-index l.cable-items))
      ≡ lossies_of l.document (map cable_wire l.cable-items);
}
