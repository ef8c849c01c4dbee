use Rattle.gptp_invariants.proofs.DelayBeginLemmas.{changes_begin, first_begins}
use Rattle.gptp_invariants.proofs.delay_capable.watches_begin.Goals as goal

pub returns-clause-changes : goal.returns-clause-changes
returns-clause-changes g c = changes_begin

pub returns-clause-network : goal.returns-clause-network
returns-clause-network g c = first_begins g.F.Fate.answers
