use Rattle.std.proofs.Common.{[], sym, subst}
use Rattle.gptp_timeline.specs.TimeWatch.{ReadsRise}
use Rattle.gptp_timeline.specs.ToldSources.{IsAccount}
use Rattle.gptp_timeline.proofs.NameLemmas.{first_account, first_reads_rise}
use Rattle.gptp_timeline.proofs.time_watch.TimeWatch.new.Goals as goal

pub invariant_of-result : goal.invariant_of-result
invariant_of-result g c =
    subst ReadsRise (sym c.in_ok-reads.ensures)
    (first_reads_rise c.args.world.now.world_core c.well_formed-2.ensures.sound.wired.clocks)

pub new-requires : goal.new-requires
new-requires g c =
    subst (λ rs. IsAccount rs []) (sym c.in_ok-systems.ensures)
    (first_account c.args.world.now.world_core c.well_formed-2.ensures.sound.wired.clocks)
