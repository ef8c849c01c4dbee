-- Whether one of the cases that are left is late tells it of all, and the document is as it was.
use Rattle.std.proofs.Common.{◌≡◌, drop}
use Rattle.gptp_faults.specs.Refusals.{any_late}
use Rattle.gptp_faults.proofs.refusals.any_late.Given as goal

abbrev pub invariant-loop-failing : goal.invariant-loop-failing
invariant-loop-failing l = record {
  late : any_late l.initial.document l.options l.times (drop l.failing-index l.cases)
      ≡ any_late l.initial.document l.options l.times l.cases;
  same : l.document ≡ l.initial.document;
}
