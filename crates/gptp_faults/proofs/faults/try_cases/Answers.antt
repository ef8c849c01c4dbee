use Rattle.std.specs.Prelude.{IfOk}
use Rattle.std.proofs.Common.{subst}
use Rattle.gptp_network.specs.Document.{DocumentState}
use Rattle.gptp_faults.specs.Outcomes.{AreOutcomes}
use Rattle.gptp_faults.proofs.faults.try_cases.Goals as goal

-- the document is as it was
pub returns-clause-outcomes : goal.returns-clause-outcomes
returns-clause-outcomes g c =
    subst (λ (d : DocumentState). IfOk c.try_each.result
    (λ v. AreOutcomes d c.args.times.now c.args.options.now c.args.cases.now v.items))
    c.in_ok-kept.ensures.same c.try_each.ensures.outcomes
