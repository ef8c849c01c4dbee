-- What was counted is what a path of the network has, and the greatest delay that of its links in use.
use Rattle.std.proofs.Common.{◌∙◌}
use Rattle.gptp_network.proofs.SpanLemmas.{span_is}
use Rattle.gptp_network.proofs.snapshot.Snapshot.settling_span.Goals as goal

pub returns-clause-span : goal.returns-clause-span
returns-clause-span c =
    (rw c.path_bound.ensures.bound at c.settling_span_over.ensures.span)
    ∙ span_is c.args.network.now c.args.events.now c.args.self.now c.well_formed-2.ensures c.requires.stands
