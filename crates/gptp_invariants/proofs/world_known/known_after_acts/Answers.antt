use Rattle.gptp_invariants.proofs.WorldKnownLemmas.{acts_known, done_known}
use Rattle.gptp_invariants.proofs.world_known.known_after_acts.Goals as goal

pub returns-clause-acts : goal.returns-clause-acts
returns-clause-acts g c = acts_known

pub returns-clause-done : goal.returns-clause-done
returns-clause-done g c = done_known g.F.Fate.answers
