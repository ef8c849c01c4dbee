use Rattle.gptp_invariants.proofs.ChoiceKnownAtRestLemmas.{ports_at_rest, systems_follow}
use Rattle.gptp_invariants.proofs.world_known.systems_are_at_rest.Goals as goal

pub returns-clause-ports : goal.returns-clause-ports
returns-clause-ports c = ports_at_rest

pub returns-clause-follow : goal.returns-clause-follow
returns-clause-follow c = systems_follow
