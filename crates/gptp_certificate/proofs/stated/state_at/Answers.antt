use Rattle.std.proofs.Common.{sym}
use Rattle.gptp_model.proofs.RisingLemmas.{rising_clocks-at}
use Rattle.gptp_certificate.proofs.stated.state_at.Goals as goal

pub state_clock-requires : goal.state_clock-requires
state_clock-requires g c = rising_clocks-at c.args.world.now.world_core c.args.place c.in-Some.own
    (sym c.in-Some.ensures)
