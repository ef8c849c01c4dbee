use Rattle.gptp_invariants.proofs.DelayWatchLemmas.{watched_measure}
use Rattle.gptp_invariants.proofs.delay_link_watch.ports_measure.Goals as goal

pub returns : goal.returns
returns c = watched_measure
