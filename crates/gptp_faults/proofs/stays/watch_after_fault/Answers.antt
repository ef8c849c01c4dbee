use Rattle.std.proofs.Common.{List, length, ap, ◌∙◌}
use Rattle.gptp_network.specs.Adding.{with_first}
use Rattle.gptp_scenario.specs.declared.change.Timed.{Timed}
use Rattle.gptp_faults.proofs.RunLemmas.{failed_back}
use Rattle.gptp_faults.proofs.stays.watch_after_fault.Goals as goal

pub returns-clause-same : goal.returns-clause-same
returns-clause-same c =
    let d = c.args.document.now in
    c.truncate.ensures
    ∙ ap (λ (es : List Timed). with_first (length es) c.fail_at.new.document) c.events-count.ensures
    ∙ ap (with_first (length d.events)) c.in_ok-fail_at.ensures.added
    ∙ failed_back d c.args.at c.args.events.now
