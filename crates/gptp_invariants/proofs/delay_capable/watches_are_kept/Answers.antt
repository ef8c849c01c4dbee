use Rattle.gptp_invariants.proofs.DelayCapableKeptLemmas.{acts_watch, done_watches, later_watches}
use Rattle.gptp_invariants.proofs.delay_capable.watches_are_kept.Goals as goal

pub returns-clause-acts : goal.returns-clause-acts
returns-clause-acts g c = acts_watch

pub returns-clause-time : goal.returns-clause-time
returns-clause-time g c = later_watches

pub returns-clause-done : goal.returns-clause-done
returns-clause-done g c = done_watches g.F.Fate.answers
