use Rattle.gptp_invariants.proofs.DelayWatchLemmas.{watched_capable}
use Rattle.gptp_invariants.proofs.delay_link_watch.ports_become_capable.Goals as goal

pub returns : goal.returns
returns c = watched_capable
