use Rattle.gptp_invariants.proofs.ChoiceSettlesAsMachineLemmas.{begins, changes_begin, first_begins}
use Rattle.gptp_invariants.proofs.choice_settled.claim_begins.Goals as goal

pub returns-clause-early : goal.returns-clause-early
returns-clause-early g c = begins

pub returns-clause-changes : goal.returns-clause-changes
returns-clause-changes g c = changes_begin

pub returns-clause-network : goal.returns-clause-network
returns-clause-network g c = first_begins g.F.Fate.answers
