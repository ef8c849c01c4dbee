use Rattle.gptp_invariants.proofs.DelayWatchLemmas.{watch_begins}
use Rattle.gptp_invariants.proofs.delay_link_watch.watch_begins.Goals as goal

pub returns : goal.returns
returns c = watch_begins
