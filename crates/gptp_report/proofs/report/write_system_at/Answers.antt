use Rattle.std.proofs.Common.{sym}
use Rattle.gptp_model.proofs.RisingLemmas.{rising_clocks-at}
use Rattle.gptp_report.proofs.report.write_system_at.Goals as goal

pub write_system_of-requires : goal.write_system_of-requires
write_system_of-requires g c =
    rising_clocks-at c.args.world.now.world_core c.args.place c.in-Some.clock (sym c.in-Some.ensures)
