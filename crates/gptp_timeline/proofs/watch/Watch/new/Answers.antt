use Rattle.std.proofs.Common.{sym, subst}
use Rattle.gptp_timeline.specs.Watch.{WatchedRise}
use Rattle.gptp_timeline.proofs.NameLemmas.{unseen_rise}
use Rattle.gptp_timeline.proofs.watch.Watch.new.Goals as goal

pub invariant_of-result : goal.invariant_of-result
invariant_of-result g c =
    subst WatchedRise (sym c.in_ok-systems.ensures)
    (unseen_rise c.args.world.now.world_core c.well_formed-2.ensures.sound.wired.clocks)
