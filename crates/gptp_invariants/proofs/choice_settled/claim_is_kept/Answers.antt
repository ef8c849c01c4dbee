use Rattle.gptp_invariants.proofs.ChoiceSettlesAsMachineLemmas.{acts_hold, done_holds, later_holds}
use Rattle.gptp_invariants.proofs.choice_settled.claim_is_kept.Goals as goal

pub returns-clause-acts : goal.returns-clause-acts
returns-clause-acts g c = acts_hold

pub returns-clause-time : goal.returns-clause-time
returns-clause-time g c = later_holds

pub returns-clause-done : goal.returns-clause-done
returns-clause-done g c = done_holds g.F.Fate.answers
