use Rattle.gptp_explain.proofs.PortLemmas.{has_failed}
use Rattle.gptp_explain.proofs.disabled.why_disabled.Goals as goal

pub returns-clause-failed : goal.returns-clause-failed
returns-clause-failed c =
    has_failed c.args.document.now c.args.at c.args.port.now c.args.snapshot.now c.known_of.result c.requires.stands
    c.requires.live c.requires.unlinked c.known_of.ensures
