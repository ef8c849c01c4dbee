-- The first refusal with one of the cases that are left is that of all, and the document is as it was.
use Rattle.std.proofs.Common.{◌≡◌, drop}
use Rattle.gptp_faults.specs.Refusals.{fault_before}
use Rattle.gptp_faults.proofs.refusals.fault_before.Given as goal

abbrev pub invariant-loop-failing : goal.invariant-loop-failing
invariant-loop-failing l = record {
  first : fault_before l.initial.document l.options l.times (drop l.failing-index l.cases)
      ≡ fault_before l.initial.document l.options l.times l.cases;
  same : l.document ≡ l.initial.document;
}
