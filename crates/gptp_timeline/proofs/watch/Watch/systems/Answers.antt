use Rattle.std.proofs.Common.{subst, sym}
use Rattle.gptp_timeline.specs.Watch.{WatchedRise}
use Rattle.gptp_timeline.proofs.watch.Watch.systems.Goals as goal

pub returns-clause-rises : goal.returns-clause-rises
returns-clause-rises c = subst WatchedRise (sym c.deref.ensures.value) c.self.invariant
