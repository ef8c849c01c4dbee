use Rattle.gptp_timeline.proofs.CountLemmas.{roots_more}
use Rattle.gptp_timeline.proofs.counts.roots_of.Goals as goal

pub loop-system-preserved : goal.loop-system-preserved
loop-system-preserved c =
    roots_more c.args.systems.now c.loop-system.system-index c.system-item.result c.loop-system.roots.items _
    c.loop-system-test.true c.system-item.is c.loop-system.invariant c.in_ok-push_root.ensures
