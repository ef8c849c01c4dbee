-- Those so far and those of the parts that are left are those of all, and each part has few.
use Rattle.std.proofs.Common.{◌≡◌, ◌≤◌, ◌+◌, ◌*◌, drop}
use Rattle.gptp_faults.specs.Astray.{astray_of}
use Rattle.gptp_faults.proofs.astray.astray_of.Given as goal

abbrev pub invariant-loop-part : goal.invariant-loop-part
invariant-loop-part l = record {
  are : l.astray + astray_of l.keepers (drop l.part-index l.parts) ≡ astray_of l.keepers l.parts;
  few : l.astray ≤ l.part-index * 512;
}
