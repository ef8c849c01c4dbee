-- With the changes that are left the document is as with all.
use Rattle.std.proofs.Common.{◌≡◌, drop}
use Rattle.gptp_faults.specs.CaseEvents.{with_changes}
use Rattle.gptp_faults.proofs.case_events.add_all.Given as goal

abbrev pub invariant-loop-change : goal.invariant-loop-change
invariant-loop-change l = with_changes l.at (drop l.change-index l.changes) l.document
    ≡ with_changes l.initial.at l.initial.changes l.initial.document
