-- Those of the events of the document, each of which a world can be asked for.
use Rattle.std.proofs.Common.{ap, subst, sym, ◌∙◌}
use Rattle.gptp_scenario.specs.Allowed.{AreAllowed}
use Rattle.gptp_network.specs.Snapshot.{events_by}
use Rattle.gptp_network.proofs.SpanLemmas.{allowed_by}
use Rattle.gptp_network.proofs.document.Document.events_by.Goals as goal

pub returns-clause-events : goal.returns-clause-events
returns-clause-events c = c.events_by.ensures ∙ ap (events_by c.args.until) c.events.ensures

pub returns-clause-allowed : goal.returns-clause-allowed
returns-clause-allowed c =
    subst AreAllowed (sym (returns-clause-events c))
    (allowed_by c.args.until c.args.self.now.events c.well_formed-2.ensures.allowed)
