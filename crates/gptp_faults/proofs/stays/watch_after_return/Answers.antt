use Rattle.std.proofs.Common.{List, length, ap, ◌∙◌}
use Rattle.gptp_network.specs.Adding.{with_first}
use Rattle.gptp_scenario.specs.declared.change.Timed.{Timed}
use Rattle.gptp_faults.specs.CaseEvents.{with_changes}
use Rattle.gptp_faults.specs.Stays.{back_at}
use Rattle.gptp_faults.proofs.RunLemmas.{case_back}
use Rattle.gptp_faults.proofs.stays.watch_after_return.Goals as goal

pub returns-clause-same : goal.returns-clause-same
returns-clause-same c =
    let d = c.args.document.now in let e = c.args.events.now in let at = c.args.at in let hold = c.args.hold in
    c.truncate.ensures
    ∙ ap (λ (es : List Timed). with_first (length es) c.return_after.new.document) c.events-count.ensures
    ∙ ap (with_first (length d.events)) (c.in_ok-return_after.ensures.added
    ∙ ap (with_changes (back_at at e hold) e.back) c.in_ok-fail_at.ensures.added)
    ∙ case_back d at hold e
