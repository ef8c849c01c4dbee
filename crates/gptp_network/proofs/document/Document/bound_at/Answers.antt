use Rattle.gptp_network.proofs.SpanLemmas.{bound_exists}
use Rattle.gptp_network.proofs.document.Document.bound_at.Goals as goal

pub returns-in_err-span_at-in-true-clause-there : goal.returns-in_err-span_at-in-true-clause-there
returns-in_err-span_at-in-true-clause-there c =
    bound_exists c.args.self.now c.args.at c.calm_at.result (rw c.network.ensures at c.well_formed-2.ensures)
    c.calm_at.ensures

pub returns-in_ok-span_at-in-true-clause-there : goal.returns-in_ok-span_at-in-true-clause-there
returns-in_ok-span_at-in-true-clause-there c =
    bound_exists c.args.self.now c.args.at c.calm_at.result (rw c.network.ensures at c.well_formed-2.ensures)
    c.calm_at.ensures
