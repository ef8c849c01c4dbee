use Rattle.std.proofs.Common.{inr, refl}
use Rattle.gptp_system.proofs.state.State.relay_if_fits.Goals as goal

pub returns-in_default-clause-step : goal.returns-in_default-clause-step
returns-in_default-clause-step c =
    inr (record {
      unfit =
          rw (c.slave_delay.ensures, c.slave_rate.ensures, c.stamp_time-egress.ensures.time) at c.in_default.ensures;
      becomes = record { state = refl; silent = c.requires.empty };
    })
