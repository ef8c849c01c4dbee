-- The runs so far were made, and the document is as it was.
use Rattle.std.proofs.Common.{◌≡◌, ◌≤◌}
use Rattle.gptp_faults.specs.Outcomes.{back_in, down_in}
use Rattle.gptp_faults.specs.Runs.{runs_of}
use Rattle.gptp_faults.proofs.OutcomeLemmas.{AreTried}
use Rattle.gptp_faults.proofs.outcome.try_case.Given as goal

abbrev pub invariant-loop-run : goal.invariant-loop-run
invariant-loop-run l = record {
  tried : AreTried l.options l.fn.document l.times l.plan.events l.plan.aside.items
      (down_in l.plan.parts.cut.items l.plan.parts.main.items) (back_in l.whole.parts) l.run l.down l.back
      l.follow.items;
  most : l.run ≤ runs_of l.times;
  same : l.document ≡ l.fn.document;
}
