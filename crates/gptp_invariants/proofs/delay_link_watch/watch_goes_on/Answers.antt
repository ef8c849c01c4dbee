use Rattle.gptp_invariants.proofs.DelayWatchLemmas.{watch_goes_on, watch_kept}
use Rattle.gptp_invariants.proofs.delay_link_watch.watch_goes_on.Goals as goal

pub returns-clause-acts : goal.returns-clause-acts
returns-clause-acts c = watch_kept

pub returns-clause-later : goal.returns-clause-later
returns-clause-later c = watch_goes_on
